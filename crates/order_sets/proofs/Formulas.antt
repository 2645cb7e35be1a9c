-- The formula of a read, where what is made on the way fits.
use Rattle.std.proofs.Common.{◌≡◌, ℕ, List, [], ◌∷◌, refl, ap, ap₂, subst, ◌∙◌, Option, Some, None}
use Rattle.az_lin.specs.Substitution.{HasEntryRows}
use Rattle.az_lin.specs.Affine.{Affine}
use Rattle.az_ast.specs.System.{System}
use Rattle.domain_check.specs.Context.{in_force}
use Rattle.expr_places.specs.Reads.{ReadPlace}
use Rattle.formula_refute.specs.Claims.{claim}
use Rattle.formula_refute.specs.declared.formula.Formula.{Formula}
use Rattle.order_sets.specs.Made.{IsMade, MadeIf}
use Rattle.order_sets.specs.NotBefore.{not_before}
use Rattle.order_sets.specs.Orders.{order_claim}
use Rattle.order_sets.specs.Stated.{FitsOrder}
use Rattle.order_sets.specs.Visits.{read_visit, own_visit, time_map, time_rows}
use Rattle.order_sets.proofs.Making.{claim_same}
use Rattle.target_map.specs.Kinds.{tile_sizes}
use Rattle.target_map.specs.Settings.{TargetMapping}
use Rattle.target_map.specs.Stamps.{Stamp}

-- there is none where something didn't fit, and one where all did
pub lacks : {A : Type 0} (fits : Type 0) (P : A → Type 0) (o : Option A) → MadeIf fits P o → ((x : A) → o ≡ Some x → ⊥) → fits → ⊥
lacks fits P None made none = made
lacks fits P (Some x) made none = λ _. none x refl

pub has : {A : Type 0} (fits : Type 0) (P : A → Type 0) (o : Option A) (x : A) → MadeIf fits P o → o ≡ Some x → P x × fits
has {A} fits P o x made is = let Q : Option A → Type 0 = λ u. MadeIf fits P u in subst Q is made

module _ (p : System) (m : TargetMapping) (x : ℕ) (read : ReadPlace) where
  abbrev IsOrder : Option Formula → Type 0
  IsOrder = MadeIf (FitsOrder p m x read) (λ formula. claim formula ≡ order_claim p m x read)

  all_fit : (o : Option Formula) → HasEntryRows (time_map m (read_visit p read)) → HasEntryRows (time_map m (own_visit p x read.scope.width)) → IsMade (order_claim p m x read) o → IsOrder o
  all_fit None point reader none = λ fits. none fits.rows
  all_fit (Some formula) point reader made = (made.0, record { point = point; reader = reader; rows = made.1 })

  pub order_made : (sizes : List ℕ) (u v : Stamp Affine) (o : Option Formula) → sizes ≡ tile_sizes m.kinds → u ≡ time_rows m (read_visit p read) → v ≡ time_rows m (own_visit p x read.scope.width)
      → HasEntryRows (time_map m (read_visit p read)) → HasEntryRows (time_map m (own_visit p x read.scope.width)) → IsMade (in_force read.scope (not_before sizes u v ∷ [])) o → IsOrder o
  order_made sizes u v o sizes_are first second point reader made =
      all_fit o point reader
      (claim_same (in_force read.scope (not_before sizes u v ∷ [])) (order_claim p m x read) o
      (ap (λ ns. in_force read.scope (not_before ns u v ∷ [])) sizes_are ∙ ap₂ (λ (a b : Stamp Affine). in_force read.scope (not_before (tile_sizes m.kinds) a b ∷ [])) first second) made)
