-- The tables of the inputs, one after another.
use Rattle.std.proofs.Common.{◌≡◌, ℕ, ◌+◌, ◌-◌, ◌<◌, ◌≤◌, List, length, Option, Some, refl, sym, ap, subst, ◌∙◌, arith, inl, inr}
use Rattle.std.specs.Prelude.{ℤ, pos, map, Contains, MatchOption, slice_get, slice_index_or}
use Rattle.std.specs.FinMap.{get, insert}
use Rattle.std.proofs.Math.ListN.{get_or-map}
use Rattle.std.proofs.lemmas.Bool.{cases_lt}
use Rattle.std.proofs.lemmas.List.{length-map}
use Rattle.std.proofs.lemmas.Option.{slice_get_past}
use Rattle.az_ast.specs.Meaning.{RoleGives}
use Rattle.az_ast.specs.Points.{IsMember}
use Rattle.az_ast.specs.System.{System}
use Rattle.az_ast.specs.Tables.{Tables, Rows, IsTable, TableGives, InputGives}
use Rattle.az_ast.specs.declared.program.Role.{Role}
use Rattle.az_ast.specs.declared.program.Role.TheVariants.{Input, Output, Local}
use Rattle.az_ast.specs.declared.program.Variable.{Variable}
use Rattle.az_ast.proofs.TableLemmas.{TableGives-at, equal_points}
use Rattle.value_walk.specs.Boxes.{IsBox}
use Rattle.value_walk.proofs.Evaluations.{get-own, get-other}
use Rattle.equation_meaning_tests.specs.Inputs.{IsTableOver, HasInput}

abbrev first : List ℤ × ℤ → List ℤ
first row = row.0

-- rows of all members

pub table-over : (variable : Variable) (params : List ℤ) (points : List (List ℤ)) (rows : Rows) → IsBox variable.domain params points → map first rows ≡ points → IsTable rows → IsTableOver variable params rows
table-over variable params points rows box same table k m =
    let at : Contains (map first rows) k = subst (λ ps. Contains ps k) (sym same) (box.members.every k m) in
    let d : List ℤ × ℤ = (k, pos 0) in
    let found : (slice_index_or rows at.0 d).0 ≡ k = sym (get_or-map first rows at.0 d) ∙ at.2 in
    let within : at.0 < length rows = let l = at.1 in omega (arith, l, length-map rows first) in
    ((slice_index_or rows at.0 d).1, TableGives-at k rows table at.0 d within (equal_points (slice_index_or rows at.0 d).0 k found))

module _ (p : System) (params : List ℤ) (long : length params ≡ length p.params) where
  -- a table more, or none for a variable that is no input
  kept : (tables after : Tables) (x y : ℕ) → get after y ≡ get tables y → HasInput p tables params y → HasInput p after params y
  kept tables after x y same h k =
      subst (λ (o : Option Rows). MatchOption (slice_get p.variables y) (Unit {0}) (λ (v : Variable). RoleGives v.role (IsMember v.domain params (v.domain.width - length p.params) k → (w : ℤ) × MatchOption o ⊥ (λ rows. TableGives rows k w)) (Unit {0}))) (sym same) (h k)

  pub input-more :
      (tables after : Tables) (x : ℕ) (v : Variable) (rows : Rows) → slice_get p.variables x ≡ Some v → after ≡ insert tables x rows → IsTableOver v params rows →
      ((y : ℕ) → y < x → HasInput p tables params y) → (y : ℕ) → y < x + 1 → HasInput p after params y
  input-more tables after x v rows e is over before y l = elim (cases_lt y x) [
    | inl less ↦ kept tables after x y (ap (λ (m : Tables). get m y) is ∙ get-other tables x rows y (λ q. omega arith)) (before y less)
    | inr more ↦ (
        let at : y ≡ x = omega arith in
        let here : get after x ≡ Some rows = ap (λ (m : Tables). get m x) is ∙ get-own tables x rows in
        subst (λ q. HasInput p after params q) (sym at) (own here))
  ]
    where
      give : (role : Role) (k : List ℤ) → get after x ≡ Some rows → RoleGives role (IsMember v.domain params (v.domain.width - length p.params) k → (w : ℤ) × InputGives after x k w) (Unit {0})
      give Input k here = λ m.
          let found = over k (subst (λ n. IsMember v.domain params (v.domain.width - n) k) (sym long) m) in
          (found.0, subst (λ o. MatchOption o ⊥ (λ rs. TableGives rs k found.0)) (sym here) found.1)
      give Output k here = tt
      give Local k here = tt

      own : get after x ≡ Some rows → HasInput p after params x
      own here k =
          subst (λ o. MatchOption o (Unit {0}) (λ (w : Variable). RoleGives w.role (IsMember w.domain params (w.domain.width - length p.params) k → (q : ℤ) × InputGives after x k q) (Unit {0}))) (sym e) (give v.role k here)

  pub none-more :
      (tables : Tables) (x : ℕ) (v : Variable) → slice_get p.variables x ≡ Some v → (v.role ≡ Input → ⊥) → ((y : ℕ) → y < x → HasInput p tables params y) → (y : ℕ) → y < x + 1 → HasInput p tables params y
  none-more tables x v e other before y l = elim (cases_lt y x) [
    | inl less ↦ before y less
    | inr more ↦ (let at : y ≡ x = omega arith in subst (λ q. HasInput p tables params q) (sym at) own)
  ]
    where
      give : (role : Role) (k : List ℤ) → (role ≡ Input → ⊥) → RoleGives role (IsMember v.domain params (v.domain.width - length p.params) k → (w : ℤ) × InputGives tables x k w) (Unit {0})
      give Input k other = absurd (other refl)
      give Output k other = tt
      give Local k other = tt

      own : HasInput p tables params x
      own k =
          subst (λ o. MatchOption o (Unit {0}) (λ (w : Variable). RoleGives w.role (IsMember w.domain params (w.domain.width - length p.params) k → (q : ℤ) × InputGives tables x k q) (Unit {0}))) (sym e) (give v.role k other)

  pub input-all : (tables : Tables) (n : ℕ) → length p.variables ≤ n → ((y : ℕ) → y < n → HasInput p tables params y) → (x : ℕ) → HasInput p tables params x
  input-all tables n h all x = elim (cases_lt x n) [
    | inl less ↦ all x less
    | inr more ↦ (λ k. subst (λ o. MatchOption o (Unit {0}) (λ (w : Variable). RoleGives w.role (IsMember w.domain params (w.domain.width - length p.params) k → (q : ℤ) × InputGives tables x k q) (Unit {0}))) (sym (slice_get_past p.variables x (omega arith))) tt)
  ]
