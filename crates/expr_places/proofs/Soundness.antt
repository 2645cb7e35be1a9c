-- An expression is sound in a context exactly if it is sound at each of its places.
use Rattle.std.proofs.Common.{◌↔◌, ℕ, List, [], ◌∷◌, ◌++◌, length, take, sym, subst, All, Some, None, Option}
use Rattle.std.specs.Prelude.{ℤ, slice_get, MatchOption}
use Rattle.std.specs.Option.{option_map_or}
use Rattle.std.proofs.lemmas.List.Elements.{All-nil, All-cons, All-head, All-tail, All-append}
use Rattle.az_lin.specs.Affine.{Union, HoldsSome}
use Rattle.az_ast.specs.Certified.{IsInContext, IsSound, AreSound}
use Rattle.az_ast.specs.Placed.{IsAtWidth, AreAtWidth}
use Rattle.az_ast.specs.System.{System}
use Rattle.az_ast.specs.Term.{Term, constant, index, access, negation, binary, cases, reduction, Choices, none, choice, term}
use Rattle.az_ast.specs.Walks.{branch_domains}
use Rattle.az_ast.specs.declared.program.Equation.{Equation}
use Rattle.az_ast.specs.declared.program.Variable.{Variable}
use Rattle.az_lin.proofs.Lists.{All-left, All-right}
use Rattle.expr_places.specs.Places.{Place, case_over, reduction_over, access_to, places, places_below, under_branch, under_reduction, body_scope}
use Rattle.expr_places.specs.Soundness.{IsSoundAt, IsSoundByPlaces}
use Rattle.expr_places.specs.declared.scope.Scope.{Scope}
use Rattle.expr_places.proofs.Branches.{one_branch}

-- a context in az_ast's order and ours
abbrev HoldsIn : List ℤ → Union → Type 0
HoldsIn z domain = HoldsSome domain (take domain.width z)

context-push : (outer : List Union) (domain : Union) (z : List ℤ) → IsInContext outer z → HoldsIn z domain → IsInContext (outer ++ domain ∷ []) z
context-push [] domain z outside held = (held, tt)
context-push (first ∷ outer) domain z outside held = (outside.0, context-push outer domain z outside.1 held)

push-context : (outer : List Union) (domain : Union) (z : List ℤ) → IsInContext (outer ++ domain ∷ []) z → HoldsIn z domain × IsInContext outer z
push-context [] domain z both = (both.0, tt)
push-context (first ∷ outer) domain z both = let rest = push-context outer domain z both.1 in (rest.0, (both.0, rest.1))

abbrev AreSame : List Union → List Union → Type 0
AreSame inner outer = (z : List ℤ) → IsInContext inner z ↔ IsInContext outer z

same_more : (inner outer : List Union) (domain : Union) → AreSame inner outer → AreSame (domain ∷ inner) (outer ++ domain ∷ [])
same_more inner outer domain same z = (
  λ h. context-push outer domain z ((same z).0 h.1) h.0,
  λ h. let rest = push-context outer domain z h in (rest.0, (same z).1 rest.1),
)

module _ (p : System) (count : ℕ) where
  abbrev AllSound : List Place → Type 0
  AllSound ps = All (IsSoundAt p) ps

  abbrev At : Term → ℕ → Type 0
  At e width = IsAtWidth count e width

  mutual
    to : (e : Term) (inner : List Union) (scope : Scope) → AreSame inner scope.domains → IsAtWidth count e scope.width → IsSound p e inner scope.width → All (IsSoundAt p) (places e scope)
    to (constant c) inner scope same at sound = All-nil (IsSoundAt p)
    to (index row) inner scope same at sound = All-nil (IsSoundAt p)
    to (access x f) inner scope same at sound =
        All-cons (IsSoundAt p) (record { part = access_to x f; scope = scope }) [] (λ z long held. sound z long ((same z).1 held)) (All-nil (IsSoundAt p))
    to (negation e) inner scope same at sound = to e inner scope same at sound
    to (binary op a b) inner scope same at sound =
        All-append (IsSoundAt p) (places a scope) (places b scope) (to a inner scope same at.0 sound.0) (to b inner scope same at.1 sound.1)
    to (cases branches) inner scope same at sound =
        All-cons (IsSoundAt p) (record { part = case_over (branch_domains branches); scope = scope }) (places_below branches scope)
        (λ z long held. (one_branch branches z).1 (sound.0 z long ((same z).1 held)))
        (to-below branches inner scope same at sound.1)
    to (reduction op extra domain e) inner scope same at sound =
        let body : IsAtWidth count e domain.width = subst (λ width. IsAtWidth count e width) (sym at.0) at.2 in
        let sound_body : IsSound p e (domain ∷ inner) domain.width = subst (λ width. IsSound p e (domain ∷ inner) width) (sym at.0) sound.1 in
        All-cons (IsSoundAt p) (record { part = reduction_over extra domain; scope = scope }) (places e (under_reduction scope domain)) sound.0
        (to e (domain ∷ inner) (under_reduction scope domain) (same_more inner scope.domains domain same) body sound_body)

    to-below : (branches : Choices) (inner : List Union) (scope : Scope) → AreSame inner scope.domains → AreAtWidth count branches scope.width → AreSound p branches inner scope.width → All (IsSoundAt p) (places_below branches scope)
    to-below none inner scope same at sound = All-nil (IsSoundAt p)
    to-below (choice domain e rest) inner scope same at sound =
        All-append (IsSoundAt p) (places e (under_branch scope domain)) (places_below rest scope)
        (to e (domain ∷ inner) (under_branch scope domain) (same_more inner scope.domains domain same) at.1 sound.0)
        (to-below rest inner scope same at.2 sound.1)

  mutual
    from : (e : Term) (inner : List Union) (scope : Scope) → AreSame inner scope.domains → IsAtWidth count e scope.width → All (IsSoundAt p) (places e scope) → IsSound p e inner scope.width
    from (constant c) inner scope same at all = tt
    from (index row) inner scope same at all = tt
    from (access x f) inner scope same at all =
        let here : IsSoundAt p (record { part = access_to x f; scope = scope }) = All-head (IsSoundAt p) (record { part = access_to x f; scope = scope }) [] all in
        λ z long held. here z long ((same z).0 held)
    from (negation e) inner scope same at all = from e inner scope same at all
    from (binary op a b) inner scope same at all = (
      from a inner scope same at.0 (All-left (IsSoundAt p) (places a scope) (places b scope) all),
      from b inner scope same at.1 (All-right (IsSoundAt p) (places a scope) (places b scope) all),
    )
    from (cases branches) inner scope same at all =
        let place : Place = record { part = case_over (branch_domains branches); scope = scope } in
        let here : IsSoundAt p place = All-head (IsSoundAt p) place (places_below branches scope) all in (
          λ z long held. (one_branch branches z).0 (here z long ((same z).0 held)),
          from-below branches inner scope same at (All-tail (IsSoundAt p) place (places_below branches scope) all),
        )
    from (reduction op extra domain e) inner scope same at all =
        let place : Place = record { part = reduction_over extra domain; scope = scope } in
        let body : IsAtWidth count e domain.width = subst (λ width. IsAtWidth count e width) (sym at.0) at.2 in
        let rest : IsSound p e (domain ∷ inner) domain.width
        = from e (domain ∷ inner) (under_reduction scope domain) (same_more inner scope.domains domain same) body (All-tail (IsSoundAt p) place (places e (under_reduction scope domain)) all) in (
          All-head (IsSoundAt p) place (places e (under_reduction scope domain)) all,
          subst (λ width. IsSound p e (domain ∷ inner) width) at.0 rest,
        )

    from-below : (branches : Choices) (inner : List Union) (scope : Scope) → AreSame inner scope.domains → AreAtWidth count branches scope.width → All (IsSoundAt p) (places_below branches scope) → AreSound p branches inner scope.width
    from-below none inner scope same at all = tt
    from-below (choice domain e rest) inner scope same at all = (
      from e (domain ∷ inner) (under_branch scope domain) (same_more inner scope.domains domain same) at.1 (All-left (IsSoundAt p) (places e (under_branch scope domain)) (places_below rest scope) all),
      from-below rest inner scope same at.2 (All-right (IsSoundAt p) (places e (under_branch scope domain)) (places_below rest scope) all),
    )

module _ (p : System) (equation : Equation) where
  abbrev Placed : Option Variable → Type 0
  Placed found = MatchOption found ⊥ (λ variable. IsAtWidth (length p.variables) (term equation.body) variable.domain.width)

  abbrev Sound : Option Variable → Type 0
  Sound found = MatchOption found ⊥ (λ variable. IsSound p (term equation.body) (variable.domain ∷ p.pdom ∷ []) variable.domain.width)

  abbrev places_in : Option Variable → List Place
  places_in found = option_map_or (λ variable. places (term equation.body) (body_scope p variable)) found []

  swapped : (variable : Variable) → AreSame (variable.domain ∷ p.pdom ∷ []) (p.pdom ∷ variable.domain ∷ [])
  swapped variable z = (λ h. (h.1.0, (h.0, tt)), λ h. (h.1.0, (h.0, tt)))

  by_variable : (found : Option Variable) → Placed found → Sound found ↔ All (IsSoundAt p) (places_in found)
  by_variable None placed = absurd placed
  by_variable (Some variable) placed =
      let e = term equation.body in (
        λ sound. to p (length p.variables) e (variable.domain ∷ p.pdom ∷ []) (body_scope p variable) (swapped variable) placed sound,
        λ all. from p (length p.variables) e (variable.domain ∷ p.pdom ∷ []) (body_scope p variable) (swapped variable) placed all,
      )

  pub sound_by_places : IsSoundByPlaces p equation
  sound_by_places placed = by_variable (slice_get p.variables equation.variable) placed
