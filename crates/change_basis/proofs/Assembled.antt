-- The changed program, from what the calls made of the parts that are lent.
use Rattle.std.proofs.Common.{◌≡◌, ℕ, List, length, map, All, Option, Some, None, Result, Ok, refl, sym, ap, subst, ◌∙◌}
use Rattle.std.specs.Prelude.{slice_get, MatchOption, filter_map}
use Rattle.az_lin.specs.Affine.{AffineMap}
use Rattle.az_lin.specs.Answers.{IsExactly}
use Rattle.az_ast.specs.Placed.{IsPlaced}
use Rattle.az_ast.specs.Shapes.{IsProgram, shape_of}
use Rattle.az_ast.specs.System.{System}
use Rattle.az_ast.specs.Term.{term}
use Rattle.az_ast.specs.declared.program.Equation.{Equation}
use Rattle.az_ast.specs.declared.program.Variable.{Variable}
use Rattle.expr_maps.specs.Answers.{EachAccess}
use Rattle.rewriting.proofs.Answered.{assembled, assembled-placed, assembled-shaped, given, of_given}
use Rattle.rewriting.proofs.Locals.{all-some}
use Rattle.rewriting.specs.Answers.{Gives, GivesIf}
use Rattle.rewriting.specs.Definitions.{Definition, definition_of, definitions, with_equations}
use Rattle.rewriting.specs.Equations.{AreEquations}
use Rattle.rewriting.specs.Promise.{KeepsMeaning}
use Rattle.rewriting.specs.declared.fault.ChangeFault.{ChangeFault}
use Rattle.std.specs.Prelude.{IfOk}
use Rattle.change_basis.specs.Basis.{moved_body, moved_variable, led_back, with_changed, rebased, moves_by, DomainFits, BodyFits, BasisFits, basis_refusal}
use Rattle.change_basis.specs.Inner.{CanMove, CanLead, Undoes}
use Rattle.change_basis.proofs.BasisGiven.{can-rebase, given-fine, given-keeps}

module _ (p : System) (program : IsProgram p) (target : ℕ) (basis : AffineMap) (free : basis_refusal p target basis ≡ None) (inverse : AffineMap) (undoes : Undoes (length p.params) basis inverse)
    (names : List (List ℕ)) (vs : List Variable) (es : List Equation) (same-names : names ≡ p.params) (same-variables : vs ≡ p.variables) (same-equations : es ≡ p.equations) where
  abbrev n : ℕ
  n = length p.params

  abbrev Changes : ℕ → Equation → Type 0
  Changes params q = CanLead params target inverse q.variable (term q.body) × EachAccess (CanMove params target basis) (led_back params target inverse q.variable (term q.body))

  pub can-change : All (Changes (length names)) es
  can-change =
      subst (λ (l : List Equation). All (Changes (length names)) l) (sym same-equations)
      (subst (λ (l : List (List ℕ)). All (Changes (length l)) p.equations) (sym same-names) (can-rebase p program target basis free inverse undoes))

  abbrev variables-there : List Variable
  variables-there = with_changed (moved_variable n inverse) target p.variables

  abbrev definitions-there : List Definition
  definitions-there = map (λ (d : Definition). (d.0, moved_body n target basis inverse d.0 d.1)) (definitions p)

  module _ (variables : List Variable) (equations : List Equation)
      (made : IsExactly (λ (moved : List Variable). MatchOption (slice_get vs target) (Unit {0}) (DomainFits (length names) inverse)) (with_changed (moved_variable (length names) inverse) target vs) (Ok variables))
      (changed : AreEquations (filter_map (λ (d : Definition). Some (d.0, moved_body (length names) target basis inverse d.0 d.1)) (map definition_of es)) (All (λ (e : Equation). BodyFits (length names) target basis inverse (definition_of e)) es) (Ok equations)) where
    are-variables : variables ≡ variables-there
    are-variables =
        made.0 ∙ ap (λ (l : List (List ℕ)). with_changed (moved_variable (length l) inverse) target vs) same-names
        ∙ ap (with_changed (moved_variable n inverse) target) same-variables

    are-equations : map definition_of equations ≡ definitions-there
    are-equations =
        changed.0 ∙ ap (λ (l : List (List ℕ)). filter_map (λ (d : Definition). Some (d.0, moved_body (length l) target basis inverse d.0 d.1)) (map definition_of es)) same-names
        ∙ ap (λ (l : List Equation). filter_map (λ (d : Definition). Some (d.0, moved_body n target basis inverse d.0 d.1)) (map definition_of l)) same-equations
        ∙ all-some (λ (d : Definition). (d.0, moved_body n target basis inverse d.0 d.1)) (definitions p)

    fits : BasisFits p target basis inverse
    fits = (
      subst (λ (l : List Variable). MatchOption (slice_get l target) (Unit {0}) (DomainFits n inverse)) same-variables
          (subst (λ (l : List (List ℕ)). MatchOption (slice_get vs target) (Unit {0}) (DomainFits (length l) inverse)) same-names made.1),
      subst (λ (l : List Equation). All (λ (e : Equation). BodyFits n target basis inverse (definition_of e)) l) same-equations
          (subst (λ (l : List (List ℕ)). All (λ (e : Equation). BodyFits (length l) target basis inverse (definition_of e)) es) same-names changed.1),
    )

    pub is-placed : IsPlaced (with_equations p variables equations)
    is-placed = assembled-placed p program variables variables-there equations definitions-there are-variables are-equations (given-fine p program target basis free inverse undoes)

    pub is-shaped : shape_of (with_equations p variables equations) ≡ None
    is-shaped = assembled-shaped p program variables variables-there equations definitions-there are-variables are-equations (given-fine p program target basis free inverse undoes)

    module _ (r : Result System ChangeFault) (gives : Gives (with_equations p variables equations) r) where
      pub is-given : GivesIf (BasisFits p target basis inverse) (rebased p target basis inverse) r
      is-given =
          given (BasisFits p target basis inverse) (rebased p target basis inverse) (with_equations p variables equations) r
          (assembled p variables variables-there equations definitions-there are-variables are-equations) fits gives

      pub is-kept : IfOk r (λ q. KeepsMeaning p q (moves_by target basis))
      is-kept =
          of_given (BasisFits p target basis inverse) (rebased p target basis inverse) (λ (q : System). KeepsMeaning p q (moves_by target basis)) r
          (given-keeps p program target basis free inverse undoes) is-given
