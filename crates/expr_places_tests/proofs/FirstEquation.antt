-- A map with a row for each column of a program's first equation can be put into its body.
use Rattle.std.proofs.Common.{◌≡◌, ◌<◌, ◌≤◌, length, get_or, Option, Some, None, refl, sym, ap, subst, ◌∙◌}
use Rattle.std.specs.Prelude.{slice_get, MatchOption}
use Rattle.std.proofs.lemmas.Option.{get_or_from_slice_get}
use Rattle.az_lin.specs.Affine.{AffineMap}
use Rattle.az_ast.specs.Placed.{IsAtWidth, IsEquationPlaced}
use Rattle.az_ast.specs.Shapes.{IsProgram}
use Rattle.az_ast.specs.System.{System}
use Rattle.az_ast.specs.Term.{term}
use Rattle.az_ast.specs.declared.program.Equation.{Equation}
use Rattle.az_ast.specs.declared.program.Variable.{Variable}
use Rattle.expr_maps.specs.Columns.{CanPut}
use Rattle.expr_maps.proofs.ColumnLaws.{can_put}

some-of : {A : Type 0} (o : Option A) (P : A → Type 0) → MatchOption o ⊥ P → (x : A) × (o ≡ Some x)
some-of None P h = absurd h
some-of (Some x) P h = (x, refl)

pub can_put_first : (p : System) → IsProgram p → (equation : Equation) (variable : Variable) → 0 < length p.equations → equation ≡ get_or p.equations 0 equation
    → variable ≡ get_or p.variables equation.variable variable → (f : AffineMap) → length f.rows ≡ variable.domain.width → f.width ≤ 40 → CanPut f (term equation.body)
can_put_first p program equation variable within here at f rows narrow =
    let placed : IsEquationPlaced p.variables equation = subst (IsEquationPlaced p.variables) (sym here) (program.placed.bodies 0 equation within) in
    let there = some-of (slice_get p.variables equation.variable) (λ v. IsAtWidth (length p.variables) (term equation.body) v.domain.width) placed in
    let same : variable ≡ there.0 = at ∙ get_or_from_slice_get p.variables equation.variable there.0 variable there.1 in
    let declared : slice_get p.variables (get_or p.equations 0 equation).variable ≡ Some variable
    = ap (λ (e : Equation). slice_get p.variables e.variable) (sym here) ∙ (there.1 ∙ ap Some (sym same)) in
    subst (λ (e : Equation). CanPut f (term e.body)) (sym here) (can_put p program 0 equation within variable declared f rows narrow)
