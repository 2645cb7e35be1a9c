-- The formulas of the dependences mean what they are to.
use Rattle.std.proofs.Common.{◌≡◌, ◌↔◌, ℕ, ℤ, List, [], ◌∷◌, length, take, sym, ap, subst, ◌∙◌, arith, All}
use Rattle.std.specs.Option.{option_map_or}
use Rattle.std.proofs.lemmas.List.{length-map}
use Rattle.std.proofs.lemmas.List.Elements.{All-nil, All-cons, All-head, All-tail}
use Rattle.std.proofs.Math.Seq.{take-length}
use Rattle.az_lin.specs.Affine.{AffineMap}
use Rattle.az_lin.specs.Substitution.{composed}
use Rattle.az_ast.specs.Certified.{IsInContext}
use Rattle.az_ast.specs.Shapes.{IsProgram}
use Rattle.az_ast.specs.System.{System}
use Rattle.az_ast.specs.declared.program.Equation.{Equation}
use Rattle.domain_check.specs.Context.{context}
use Rattle.expr_places.specs.Reads.{ReadPlace, reads_of}
use Rattle.formula_refute.specs.Claims.{Claim, IsTrueAt}
use Rattle.target_map.specs.Before.{Before}
use Rattle.target_map.specs.Dependence.{point_read, point_of, ReadsTooEarly}
use Rattle.target_map.specs.Kinds.{tile_sizes}
use Rattle.target_map.specs.Settings.{TargetMapping, IsMapping, IsComplete, is_written}
use Rattle.target_map.specs.Stamps.{Stamp}
use Rattle.target_map.specs.Times.{time_of, stamp_at, IsBefore}
use Rattle.order_sets.specs.Laws.{OrderIsMeant}
use Rattle.order_sets.specs.NotBefore.{not_before, stamp_values}
use Rattle.order_sets.specs.Orders.{order_claim}
use Rattle.order_sets.specs.Alike.{AreAlike}
use Rattle.order_sets.specs.Visits.{read_visit, own_visit, time_map, time_rows}
use Rattle.order_sets.specs.declared.visit.Visit.{Visit}
use Rattle.order_sets.proofs.Contexts.{context_to, context_from}
use Rattle.order_sets.proofs.Joined.{each_join, each_first, each_last}
use Rattle.order_sets.proofs.NotBefore.{not_before_true}
use Rattle.order_sets.specs.Reading.{IsReadOf}
use Rattle.order_sets.proofs.ReadFacts.{all_reads, equations_written}
use Rattle.order_sets.proofs.Stamps.{cut_alike, time_is}
use Rattle.order_sets.proofs.Visits.{read_point, read_wide, own_point, own_wide}

-- the rows of a mapped variable: one for each kind
pub time_long : (p : System) (m : TargetMapping) (x : ℕ) → IsMapping m → IsComplete p m → is_written p x → length (time_of m x).rows ≡ length m.kinds
time_long p m x kept complete written =
    let set = complete.times x written in
    let found : time_of m x ≡ set.0 = ap (λ o. option_map_or (λ (f : AffineMap). f) o (record { width = 0; rows = [] })) set.1 in
    ap (λ (f : AffineMap). length f.rows) found ∙ kept.times x set.0 set.1

module _ (p : System) (m : TargetMapping) (kept : IsMapping m) (complete : IsComplete p m) where
  rows_long : (visit : Visit) → is_written p visit.variable → length (time_map m visit).rows ≡ length m.kinds
  rows_long visit written = length-map (time_of m visit.variable).rows (λ row. composed row visit.at) ∙ time_long p m visit.variable kept complete written

  -- the stamps of two instances
  pub are_alike : (u v : Visit) → is_written p u.variable → is_written p v.variable → AreAlike (time_rows m u) (time_rows m v)
  are_alike u v first second = cut_alike m.kinds _ _ (time_map m u).rows (time_map m v).rows (rows_long u first ∙ sym (rows_long v second))

  -- an instance isn't before another
  pub not_before_is : (z : List ℤ) (u v : Visit) (a b : List ℤ) → is_written p u.variable → is_written p v.variable
      → stamp_values z (time_rows m u) ≡ stamp_at m u.variable a → stamp_values z (time_rows m v) ≡ stamp_at m v.variable b
      → IsTrueAt z (not_before (tile_sizes m.kinds) (time_rows m u) (time_rows m v)) ↔ (IsBefore m u.variable a v.variable b → ⊥)
  not_before_is z u v a b first second at_a at_b =
      let P : Stamp ℤ → Type 0 = λ s. IsTrueAt z (not_before (tile_sizes m.kinds) (time_rows m u) (time_rows m v)) ↔ (Before (tile_sizes m.kinds) s (stamp_values z (time_rows m v)) → ⊥) in
      let Q : Stamp ℤ → Type 0 = λ t. IsTrueAt z (not_before (tile_sizes m.kinds) (time_rows m u) (time_rows m v)) ↔ (Before (tile_sizes m.kinds) (stamp_at m u.variable a) t → ⊥) in
      subst Q at_b (subst P at_a (not_before_true z (tile_sizes m.kinds) (time_rows m u) (time_rows m v) (are_alike u v first second)))

  module _ (x : ℕ) (written : is_written p x) (read : ReadPlace) (of : IsReadOf p x read) (z : List ℤ) (long : length z ≡ read.scope.width) where
    at_read : stamp_values z (time_rows m (read_visit p read)) ≡ stamp_at m read.variable (point_read p read z)
    at_read =
        let columns = of.at.columns in
        let params = of.at.params in
        time_is z m (read_visit p read) (read_wide p z read of.at.widths)
        ∙ ap (λ (point : List ℤ). stamp_at m read.variable point) (read_point p z read (omega arith) (omega arith))

    at_reader : stamp_values z (time_rows m (own_visit p x read.scope.width)) ≡ stamp_at m x (point_of p x z)
    at_reader =
        let inside = of.reader in
        time_is z m (own_visit p x read.scope.width) (own_wide p z x read.scope.width)
        ∙ ap (λ (point : List ℤ). stamp_at m x point) (own_point p z x read.scope.width inside (omega arith))

    not_before_here : IsTrueAt z (not_before (tile_sizes m.kinds) (time_rows m (read_visit p read)) (time_rows m (own_visit p x read.scope.width)))
        ↔ (IsBefore m read.variable (point_read p read z) x (point_of p x z) → ⊥)
    not_before_here = not_before_is z (read_visit p read) (own_visit p x read.scope.width) (point_read p read z) (point_of p x z) of.written written at_read at_reader

    abbrev rest : List Claim
    rest = not_before (tile_sizes m.kinds) (time_rows m (read_visit p read)) (time_rows m (own_visit p x read.scope.width)) ∷ []

    whole : take read.scope.width z ≡ z
    whole = ap (λ n. take n z) (sym long) ∙ take-length z

    pub order_true : IsTrueAt z (order_claim p m x read) ↔ ReadsTooEarly p m x read z
    order_true = (
      λ h. record {
        in_force = subst (λ (y : List ℤ). IsInContext read.scope.domains y) whole
            (context_to z read.scope.width read.scope.width read.scope.domains long of.inside (each_first z (context read.scope) rest h));
        not_before = not_before_here.0 (each_last z (context read.scope) rest h).0;
      },
      λ h. each_join z (context read.scope) rest
          (context_from z read.scope.width read.scope.width read.scope.domains long of.inside (subst (λ (y : List ℤ). IsInContext read.scope.domains y) (sym whole) h.in_force))
          (not_before_here.1 h.not_before, tt),
    )

module _ (p : System) (m : TargetMapping) (program : IsProgram p) (kept : IsMapping m) (complete : IsComplete p m) where
  abbrev IsMeant : ℕ → ReadPlace → Type 0
  IsMeant x read = (z : List ℤ) → length z ≡ read.scope.width → IsTrueAt z (order_claim p m x read) ↔ ReadsTooEarly p m x read z

  reads_meant : (x : ℕ) → is_written p x → (reads : List ReadPlace) → All (IsReadOf p x) reads → All (IsMeant x) reads
  reads_meant x written [] of = All-nil (IsMeant x)
  reads_meant x written (read ∷ reads) of =
      All-cons (IsMeant x) read reads (λ z long. order_true p m kept complete x written read (All-head (IsReadOf p x) read reads of) z long)
      (reads_meant x written reads (All-tail (IsReadOf p x) read reads of))

  abbrev IsWritten : Equation → Type 0
  IsWritten equation = is_written p equation.variable

  abbrev HasReads : Equation → Type 0
  HasReads equation = All (IsReadOf p equation.variable) (reads_of p equation)

  equations_meant : (equations : List Equation) → All IsWritten equations → All HasReads equations → All (λ (e : Equation). All (IsMeant e.variable) (reads_of p e)) equations
  equations_meant [] written reads = All-nil (λ (e : Equation). All (IsMeant e.variable) (reads_of p e))
  equations_meant (equation ∷ equations) written reads =
      All-cons (λ (e : Equation). All (IsMeant e.variable) (reads_of p e)) equation equations
      (reads_meant equation.variable (All-head IsWritten equation equations written) (reads_of p equation) (All-head HasReads equation equations reads))
      (equations_meant equations (All-tail IsWritten equation equations written) (All-tail HasReads equation equations reads))

  meant : All (λ (e : Equation). All (IsMeant e.variable) (reads_of p e)) p.equations
  meant = equations_meant p.equations (equations_written p program) (all_reads p program)

pub order_is_meant : OrderIsMeant
order_is_meant p m program kept complete = meant p m program kept complete
