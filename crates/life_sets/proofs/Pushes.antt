-- Members that are put behind others.
use Rattle.std.proofs.Common.{◌≡◌, ℕ, ◌≤◌, List, [], ◌∷◌, ◌++◌, Option, All, refl, sym, ap, ap₂, ◌∙◌, arith, append_assoc}
use Rattle.std.proofs.lemmas.List.Elements.{All-nil, All-cons, All-head, All-tail}
use Rattle.az_lin.specs.Affine.{Affine, Union}
use Rattle.formula_refute.specs.Claims.{Claim}
use Rattle.formula_refute.specs.declared.formula.Formula.{Formula}
use Rattle.life_sets.specs.Cells.{cell_map}
use Rattle.life_sets.specs.Stored.{IsInstance}
use Rattle.life_sets.specs.declared.instance.Instance.{Instance}
use Rattle.order_sets.specs.Made.{IsMade, AreMade, with_member}
use Rattle.order_sets.specs.NotBefore.{not_before}
use Rattle.order_sets.specs.Visits.{time_rows}
use Rattle.order_sets.specs.declared.visit.Visit.{Visit}
use Rattle.order_sets.proofs.Making.{made_same, claim_same, pushed, pushed_two}
use Rattle.target_map.specs.Kinds.{tile_sizes}
use Rattle.target_map.specs.Settings.{TargetMapping}
use Rattle.target_map.specs.Stamps.{Stamp}

pub pushed_three : (cs : List Claim) (a b d : Claim) (s t u v : Option (List Formula)) (f g h : Option Formula) → IsMade a f → t ≡ with_member s f → IsMade b g → u ≡ with_member t g
    → IsMade d h → v ≡ with_member u h → AreMade cs s → AreMade (cs ++ a ∷ b ∷ d ∷ []) v
pushed_three cs a b d s t u v f g h made is made' is' made'' is'' so_far =
    made_same ((cs ++ a ∷ b ∷ []) ++ d ∷ []) (cs ++ a ∷ b ∷ d ∷ []) v (append_assoc cs (a ∷ b ∷ []) (d ∷ []))
    (pushed (cs ++ a ∷ b ∷ []) d u v h made'' is'' (pushed_two cs a b s t u f g made is made' is' so_far))

-- an instance is one of its own visit
pub own_instance : (m : TargetMapping) (visit : Visit) (instance : Instance) → IsInstance m visit instance → IsInstance m instance.visit instance
own_instance m visit instance is = record {
  at = refl;
  time = is.time ∙ ap (time_rows m) (sym is.at);
  cell = is.cell ∙ ap (cell_map m) (sym is.at);
}

-- the stamps of two visits
pub times_made : (m : TargetMapping) (sizes : List ℕ) (u v : Visit) (us vs : Stamp Affine) (o : Option Formula) → sizes ≡ tile_sizes m.kinds → us ≡ time_rows m u → vs ≡ time_rows m v
    → IsMade (not_before sizes us vs) o → IsMade (not_before (tile_sizes m.kinds) (time_rows m u) (time_rows m v)) o
times_made m sizes u v us vs o sizes_are first second made =
    claim_same (not_before sizes us vs) (not_before (tile_sizes m.kinds) (time_rows m u) (time_rows m v)) o
    (ap (λ ns. not_before ns us vs) sizes_are ∙ ap₂ (λ (a b : Stamp Affine). not_before (tile_sizes m.kinds) a b) first second) made

pub all_wider : (width wide : ℕ) (domains : List Union) → width ≤ wide → All (λ (d : Union). d.width ≤ width) domains → All (λ (d : Union). d.width ≤ wide) domains
all_wider width wide [] more all = All-nil (λ (d : Union). d.width ≤ wide)
all_wider width wide (d ∷ ds) more all =
    let here = All-head (λ (d : Union). d.width ≤ width) d ds all in
    All-cons (λ (d : Union). d.width ≤ wide) d ds (omega (arith, here, more)) (all_wider width wide ds more (All-tail (λ (d : Union). d.width ≤ width) d ds all))

-- what is in force, the writer's domain and what it stores
pub joined : (cs around : List Claim) (here : Claim) (rest : List Claim) → ((cs ++ around) ++ here ∷ []) ++ rest ≡ cs ++ (around ++ here ∷ rest)
joined cs around here rest = append_assoc (cs ++ around) (here ∷ []) rest ∙ append_assoc cs around (here ∷ rest)
