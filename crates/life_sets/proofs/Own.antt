-- Outputs and locals: their numbers, columns and rows.
use Rattle.std.proofs.Common.{◌≡◌, ℕ, ◌≤◌, length, List, [], ◌∷◌, All, Some, sym, ap, subst}
use Rattle.std.specs.Prelude.{slice_get}
use Rattle.std.specs.List.{range_with_len}
use Rattle.std.specs.Option.{option_map_or}
use Rattle.std.proofs.lemmas.List.Elements.{All-nil, All-cons, All-head, All-tail, recursion_from_All}
use Rattle.az_lin.specs.Affine.{Union}
use Rattle.az_ast.specs.Rows.{IsDomainAt, HasDomainRows}
use Rattle.az_ast.specs.Shapes.{IsProgram}
use Rattle.az_ast.specs.System.{System}
use Rattle.az_ast.specs.declared.program.Equation.{Equation}
use Rattle.az_ast.specs.declared.program.Variable.{Variable}
use Rattle.domain_check.specs.Inner.Ready.{IsReadyDomain}
use Rattle.domain_check.proofs.ProgramReady.{program_ready}
use Rattle.domain_check.proofs.Readiness.{item_at}
use Rattle.expr_places.specs.Reads.{ReadPlace, reads_of}
use Rattle.life_sets.specs.Ready.{IsOwn, IsReadyEquation}
use Rattle.order_sets.specs.Reading.{HasReads}
use Rattle.order_sets.proofs.ReadFacts.{ready_reads}
use Rattle.order_sets.proofs.Timed.{declared, within}
use Rattle.target_map.specs.Settings.{TargetMapping, IsComplete, is_written}
use Rattle.target_map.specs.Storage.{shares_space, writers_of}
use Rattle.target_map.specs.Times.{domain_of, outputs_of}
use Rattle.life_sets.proofs.Meaning.{filtered, writer_written, output_written}

module _ (p : System) (program : IsProgram p) where
  domain_is : (x : ℕ) (v : Variable) → slice_get p.variables x ≡ Some v → domain_of p x ≡ v.domain
  domain_is x v is = ap (λ o. option_map_or (λ (v : Variable). v.domain) o (record { width = 0; disjuncts = [] })) is

  pub is_own : (x : ℕ) → is_written p x → IsOwn p x
  is_own x written =
      let there = declared p x written in
      let v : Variable = there.0 in
      let ready : IsReadyDomain p v = item_at (IsReadyDomain p) p.variables x v there.1 (recursion_from_All (IsReadyDomain p) p.variables (program_ready p program).domains) in
      let P : Union → Type 0 = λ d. length p.params ≤ d.width in
      let Q : Union → Type 0 = λ d. d.width ≤ 64 in
      let same = sym (domain_is x v there.1) in
      record { written = written; declared = within p x written; params = subst P same ready.params; narrow = subst Q same ready.narrow }

  pub own_rows : (x : ℕ) → is_written p x → IsDomainAt (domain_of p x).width (domain_of p x)
  own_rows x written =
      let there = declared p x written in
      let P : Union → Type 0 = λ d. IsDomainAt d.width d in
      subst P (sym (domain_is x there.0 there.1)) (item_at HasDomainRows p.variables x there.0 there.1 (recursion_from_All HasDomainRows p.variables program.rows.domains))

  pub all_own : (xs : List ℕ) → All (is_written p) xs → All (IsOwn p) xs
  all_own [] written = All-nil (IsOwn p)
  all_own (x ∷ xs) written = All-cons (IsOwn p) x xs (is_own x (All-head (is_written p) x xs written)) (all_own xs (All-tail (is_written p) x xs written))

  pub outputs_own : All (IsOwn p) (outputs_of p)
  outputs_own = all_own (outputs_of p) (filtered (is_written p) _ (range_with_len 0 (length p.variables)) (λ x is. output_written p x is))

  module _ (m : TargetMapping) (complete : IsComplete p m) where
    pub writers_own : (x : ℕ) → All (IsOwn p) (writers_of p m x)
    writers_own x =
        all_own (writers_of p m x) (filtered (is_written p) (shares_space m x) (range_with_len 0 (length p.variables)) (λ y shares. writer_written p m complete x y shares))

    each_own : (reads : List ReadPlace) → All (λ (read : ReadPlace). All (IsOwn p) (writers_of p m read.variable)) reads
    each_own [] = All-nil (λ (read : ReadPlace). All (IsOwn p) (writers_of p m read.variable))
    each_own (read ∷ reads) = All-cons (λ (read : ReadPlace). All (IsOwn p) (writers_of p m read.variable)) read reads (writers_own read.variable) (each_own reads)

    abbrev Reads : Equation → Type 0
    Reads e = HasReads p e.variable (reads_of p e)

    equations_ready : (equations : List Equation) → All Reads equations → All (IsReadyEquation p m) equations
    equations_ready [] each = All-nil (IsReadyEquation p m)
    equations_ready (equation ∷ equations) each =
        let here = All-head Reads equation equations each in
        All-cons (IsReadyEquation p m) equation equations (record { own = is_own equation.variable here.written; reads = here; writers = each_own (reads_of p equation) })
        (equations_ready equations (All-tail Reads equation equations each))

    pub all_ready : All (IsReadyEquation p m) p.equations
    all_ready = equations_ready p.equations (ready_reads p program)
