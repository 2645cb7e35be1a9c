-- The cases of an equation are few enough to be numbered.
use Rattle.std.proofs.Common.{◌≡◌, ℕ, ◌+◌, ◌*◌, ◌<◌, ◌≤◌, ◌^◌, List, [], ◌∷◌, ◌++◌, length, map, All, Option, Some, None, arith, length-append}
use Rattle.std.specs.Prelude.{slice_get}
use Rattle.std.specs.Option.{option_map_or}
use Rattle.std.specs.List.{flat_map}
use Rattle.std.proofs.lemmas.List.Elements.{All-head, All-tail}
use Rattle.az_ast.specs.System.{System}
use Rattle.az_ast.specs.declared.program.Variable.{Variable}
use Rattle.expr_places.specs.Places.{Part, case_over, reduction_over, access_to, Place}
use Rattle.expr_places.specs.declared.scope.Scope.{Scope}
use Rattle.formula_refute.specs.Cases.{most_systems}
use Rattle.domain_check.specs.Cases.{cases_of, cases_at}
use Rattle.domain_check.specs.Checks.{Checks, checks_of, checks_at}
use Rattle.domain_check.specs.Stops.{IsFew, AreFewAt}

few_of_list : (list : List Checks) → All IsFew list → length (flat_map cases_of list) ≤ 131072 * length list
few_of_list [] h = omega arith
few_of_list (checks ∷ list) h =
    let here : length (cases_of checks) ≤ most_systems = All-head IsFew checks list h in
    let rest = few_of_list list (All-tail IsFew checks list h) in
    omega (arith, here, rest, length-append (cases_of checks) (flat_map cases_of list))

at_most_one : (f : Variable → Checks) (o : Option Variable) → length (option_map_or (λ variable. f variable ∷ []) o []) ≤ 2
at_most_one f None = omega arith
at_most_one f (Some variable) = omega arith

two_kinds : (p : System) (scope : Scope) (part : Part) → length (checks_of p scope part) ≤ 2
two_kinds p scope (case_over domains) = omega arith
two_kinds p scope (reduction_over extra domain) = omega arith
two_kinds p scope (access_to x f) = at_most_one _ (slice_get p.variables x)

few_of_places : (p : System) (places : List Place) → All (AreFewAt p) places → length (flat_map (cases_at p) places) ≤ 262144 * length places
few_of_places p [] h = omega arith
few_of_places p (place ∷ places) h =
    let here = few_of_list (checks_at p place) (All-head (AreFewAt p) place places h) in
    let rest = few_of_places p places (All-tail (AreFewAt p) place places h) in
    omega (arith, here, rest, two_kinds p place.scope place.part, length-append (cases_at p place) (flat_map (cases_at p) places))

pub few_cases : (p : System) (places : List Place) → All (AreFewAt p) places → length places ≤ 512 → length (flat_map (cases_at p) places) < 2 ^ 32
few_cases p places few short = omega (arith, few_of_places p places few)
