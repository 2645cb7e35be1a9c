-- The places of a case and of a reduction, from those of their parts.
use Rattle.std.proofs.Common.{◌≡◌, ℕ, List, [], ◌∷◌, ◌++◌, map, length, drop, get_or, Option, Some, None, append_assoc, refl, sym, ap, ◌∙◌}
use Rattle.std.proofs.lemmas.List.{append-nil}
use Rattle.std.proofs.Math.Seq.{drop-length}
use Rattle.std.proofs.lemmas.Option.{get_or_from_slice_get}
use Rattle.std.specs.Option.{option_map_or}
use Rattle.std.specs.Prelude.{slice_get, MatchOption}
use Rattle.az_lin.specs.Affine.{Union}
use Rattle.az_ast.proofs.Terms.{term-Reduce}
use Rattle.az_ast.proofs.Walks.{below, of_cases}
use Rattle.az_ast.specs.Placed.{IsAtWidth, IsEquationPlaced}
use Rattle.az_ast.specs.System.{System}
use Rattle.az_ast.specs.Term.{Choices, term}
use Rattle.az_ast.specs.Walks.{branch_domains}
use Rattle.az_ast.specs.declared.expr.Branch.{Branch}
use Rattle.az_ast.specs.declared.expr.Expr.{Expr}
use Rattle.az_ast.specs.declared.expr.Expr.TheVariants.{Cases, Reduce}
use Rattle.az_ast.specs.declared.op.Op.{Op}
use Rattle.az_ast.specs.declared.program.Equation.{Equation}
use Rattle.az_ast.specs.declared.program.Variable.{Variable}
use Rattle.expr_places.specs.Places.{Place, places_of, body_scope, case_over, reduction_over, places, places_below, under_reduction}
use Rattle.expr_places.specs.declared.scope.Scope.{Scope}

domains_of : (branches : List Branch) → branch_domains (below branches) ≡ map (λ branch. branch.domain) branches
domains_of [] = refl
domains_of (branch ∷ branches) = ap (λ rest. branch.domain ∷ rest) (domains_of branches)

abbrev case_at : Scope → List Union → Place
case_at scope domains = record { part = case_over domains; scope = scope }

module _ (scope : Scope) (e : Expr) (before after : List Place) where
  -- all branches were walked
  pub case_walked : (branches items : List Branch) (i : ℕ) → e ≡ Cases branches → items ≡ branches → i ≡ length items
      → after ++ places_below (below (drop i items)) scope ≡ before ++ case_at scope (map (λ branch. branch.domain) items) ∷ places_below (below items) scope
      → after ≡ before ++ places (term e) scope
  case_walked branches items i is equal at kept =
      let F : Choices → List Place = λ choices. case_at scope (branch_domains choices) ∷ places_below choices scope in
      let whole : places (term e) scope ≡ F (below items) = of_cases (λ t. places t scope) F (λ b. refl) e branches items is equal in
      let end : drop i items ≡ [] = ap (λ k. drop k items) at ∙ drop-length items in
      sym (append-nil after)
      ∙ ap (λ rest. after ++ places_below (below rest) scope) (sym end)
      ∙ kept
      ∙ ap (λ domains. before ++ case_at scope domains ∷ places_below (below items) scope) (sym (domains_of items))
      ∙ ap (λ found. before ++ found) (sym whole)

  -- the body of a reduction was walked
  pub reduction_walked : (op : Op) (extra : ℕ) (domain : Union) (body : Expr) (middle : List Place) → e ≡ Reduce op extra domain body
      → middle ≡ before ++ record { part = reduction_over extra domain; scope = scope } ∷ [] → after ≡ middle ++ places (term body) (under_reduction scope domain)
      → after ≡ before ++ places (term e) scope
  reduction_walked op extra domain body middle is first rest =
      let here : Place = record { part = reduction_over extra domain; scope = scope } in
      rest
      ∙ ap (λ found. found ++ places (term body) (under_reduction scope domain)) first
      ∙ append_assoc before (here ∷ []) (places (term body) (under_reduction scope domain))
      ∙ ap (λ t. before ++ places t scope) (sym (ap term is ∙ term-Reduce op extra domain body))

-- the places of an equation whose variable is known
some-of : {A : Type 0} (o : Option A) (P : A → Type 0) → MatchOption o ⊥ P → (x : A) × (o ≡ Some x)
some-of None P h = absurd h
some-of (Some x) P h = (x, refl)

pub listed : (p : System) (equation : Equation) (variable : Variable) (scope : Scope) (found : List Place) → IsEquationPlaced p.variables equation
    → variable ≡ get_or p.variables equation.variable variable → scope ≡ body_scope p variable → found ≡ places (term equation.body) scope → found ≡ places_of p equation
listed p equation variable scope found placed declared is all =
    let there = some-of (slice_get p.variables equation.variable) (λ variable. IsAtWidth (length p.variables) (term equation.body) variable.domain.width) placed in
    let same : variable ≡ there.0 = declared ∙ get_or_from_slice_get p.variables equation.variable there.0 variable there.1 in
    all
    ∙ ap (λ s. places (term equation.body) s) (is ∙ ap (λ v. body_scope p v) same)
    ∙ sym (ap (λ o. option_map_or (λ variable. places (term equation.body) (body_scope p variable)) o []) there.1)
