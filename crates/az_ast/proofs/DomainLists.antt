-- Tests of all domains of a program's parts.
use Rattle.std.proofs.Common.{◌≡◌, List, [], ◌∷◌, ◌++◌, Bool, ◌||◌, refl, ap, ◌∙◌}
use Rattle.std.specs.Prelude.{map, flat_map}
use Rattle.std.specs.List.{list_any}
use Rattle.std.proofs.lemmas.List.Folds.{list_any-append}
use Rattle.az_lin.specs.Affine.{Union}
use Rattle.az_ast.specs.declared.program.Equation.{Equation}
use Rattle.az_ast.specs.declared.program.Variable.{Variable}
use Rattle.az_ast.specs.Term.{term}
use Rattle.az_ast.specs.Walks.{domains}
use Rattle.az_ast.proofs.Walks.{list_any-flat_map}

module _ (test : Union → Bool) where
  some_variable : (variables : List Variable) → list_any test (map (λ (v : Variable). v.domain) variables) ≡ list_any (λ (v : Variable). test v.domain) variables
  some_variable [] = refl
  some_variable (v ∷ variables) = ap (λ rest. test v.domain || rest) (some_variable variables)

  pub some_domain : (variables : List Variable) (equations : List Equation) →
      list_any test (map (λ (v : Variable). v.domain) variables ++ flat_map (λ (e : Equation). domains (term e.body)) equations)
      ≡ (list_any (λ (v : Variable). test v.domain) variables || list_any (λ (e : Equation). list_any test (domains (term e.body))) equations)
  some_domain variables equations =
      list_any-append test (map (λ (v : Variable). v.domain) variables) (flat_map (λ (e : Equation). domains (term e.body)) equations)
      ∙ (ap (λ b. b || list_any test (flat_map (λ (e : Equation). domains (term e.body)) equations)) (some_variable variables)
      ∙ ap (λ b. list_any (λ (v : Variable). test v.domain) variables || b) (list_any-flat_map test (λ (e : Equation). domains (term e.body)) equations))
