-- The rows of an expression have its place's width, where those of its parts have.
use Rattle.std.proofs.Common.{◌≡◌, refl, ℕ, suc, ◌+◌, ◌<◌, List, [], ◌∷◌, length, Option, Some, None, sym, subst, ◌∙◌, arith, inl, inr}
use Rattle.std.specs.Prelude.{All, MatchOption, slice_get, get_or}
use Rattle.std.proofs.lemmas.Bool.{cases_lt}
use Rattle.std.proofs.lemmas.List.{get_or_default}
use Rattle.az_lin.specs.Affine.{Affine, AffineMap, Union, HasWidth, HasEntries, IsOver, HasRowsOver, HasEntryConj}
use Rattle.az_ast.specs.declared.expr.Branch.{Branch}
use Rattle.az_ast.specs.declared.program.Equation.{Equation}
use Rattle.az_ast.specs.declared.program.Variable.{Variable}
use Rattle.az_ast.specs.Placed.{IsAtWidth, AreAtWidth, IsEquationPlaced}
use Rattle.az_ast.specs.Rows.{IsRowAt, IsMapAt, IsDomainAt, HasRowsAt, HaveRowsAt, HasBodyRows}
use Rattle.az_ast.specs.Inner.KeptRows.{KeepsRows}
use Rattle.az_ast.specs.Term.{term}
use Rattle.az_ast.proofs.Walks.{below}

pub rows_at : (width : ℕ) (rows : List Affine) → All (HasWidth width) rows → All HasEntries rows → All (IsRowAt width) rows
rows_at width rows w e k d h = (w k d h, e k d h)

pub domain_rows_at :
    (domain : Union) → All (IsOver domain.width) domain.disjuncts → 0 < length domain.disjuncts → All (HasRowsOver domain.width) domain.disjuncts → All HasEntryConj domain.disjuncts →
    IsDomainAt domain.width domain
domain_rows_at domain w s r e = record {
  columns = refl;
  some = s;
  disjuncts = λ k d h. record { columns = w k d h; rows = rows_at domain.width (get_or domain.disjuncts k d).rows (r k d h) (e k d h) };
}

pub domain_at : (width : ℕ) (domain : Union) → domain.width ≡ width → IsDomainAt domain.width domain → IsDomainAt width domain
domain_at width domain e h = subst (λ w. IsDomainAt w domain) e h

pub map_at : (width : ℕ) (f : AffineMap) → f.width ≡ width → IsMapAt f.width f → IsMapAt width f
map_at width f e h = subst (λ w. IsMapAt w f) e h

-- what is known of a branch
pub record KeepsBranch (branch : Branch) : Type 0 where
  pub domain : IsDomainAt branch.domain.width branch.domain
  pub body : KeepsRows (term branch.body)

-- one branch more
pub keeps-more :
    (branches : List Branch) (i : ℕ) (b : Branch) → i < length branches → b ≡ get_or branches i b → ((k : ℕ) (d : Branch) → k < i → KeepsBranch (get_or branches k d)) → KeepsBranch b →
    (k : ℕ) (d : Branch) → k < i + 1 → KeepsBranch (get_or branches k d)
keeps-more branches i b within is before here k d h = elim (cases_lt k i) [
  | inl l ↦ before k d l
  | inr g ↦ (
      let same : k ≡ i = omega arith in
      subst (λ n. KeepsBranch (get_or branches n d)) (sym same) (subst KeepsBranch (is ∙ get_or_default branches i b d within) here))
]

pub branches_keep : (branches : List Branch) → All KeepsBranch branches → (count width : ℕ) → AreAtWidth count (below branches) width → HaveRowsAt (below branches) width
branches_keep [] h count width at = tt
branches_keep (b ∷ branches) h count width at =
    let first = h 0 b (omega arith) in
    (domain_at width b.domain at.0 first.domain, first.body count width at.1, branches_keep branches (λ k d l. h (suc k) d (omega arith)) count width at.2)

pub body_keeps : (variables : List Variable) (equation : Equation) → KeepsRows (term equation.body) → IsEquationPlaced variables equation → HasBodyRows variables equation
body_keeps variables equation keeps placed = by (slice_get variables equation.variable) placed
  where
    by : (o : Option Variable) → MatchOption o ⊥ (λ variable. IsAtWidth (length variables) (term equation.body) variable.domain.width) → MatchOption o ⊥ (λ variable. HasRowsAt (term equation.body) variable.domain.width)
    by None h = h
    by (Some v) h = keeps (length variables) v.domain.width h
