-- Where every case is refuted each place is sound and each domain finite, so the program is certified.
use Rattle.std.proofs.Common.{◌≡◌, ◌≤◌, take, ℕ, suc, ◌-◌, ℤ, List, [], ◌∷◌, ◌++◌, length, map, All, Option, Some, None, refl, sym, subst}
use Rattle.std.specs.Prelude.{slice_get, MatchOption}
use Rattle.std.specs.List.{flat_map}
use Rattle.std.specs.Option.{option_map_or}
use Rattle.std.proofs.lemmas.List.Elements.{All-nil, All-cons, All-head, All-tail}
use Rattle.az_lin.specs.Affine.{AffineMap, Union, HoldsSome, image_of}
use Rattle.az_ast.specs.Certified.{IsFinite, HasFinitePoints, IsSoundEquation, IsCertified, IsInContext}
use Rattle.az_ast.specs.Placed.{IsEquationPlaced}
use Rattle.az_ast.specs.System.{System}
use Rattle.az_ast.specs.declared.program.Equation.{Equation}
use Rattle.az_ast.specs.declared.program.Variable.{Variable}
use Rattle.az_lin.proofs.Lists.{All-left, All-right}
use Rattle.expr_places.specs.Branches.{HasOneBranch}
use Rattle.expr_places.specs.Places.{Part, case_over, reduction_over, access_to, Place, places_of}
use Rattle.expr_places.specs.Soundness.{IsSoundAt, IsSoundPart}
use Rattle.expr_places.specs.declared.scope.Scope.{Scope}
use Rattle.expr_places.proofs.Soundness.{sound_by_places}
use Rattle.formula_refute.specs.Claims.{Claim}
use Rattle.domain_check.specs.Cases.{Case, Series, cases_of, cases_of_claim, cases_at, domain_series, domain_series_from, equation_series, all_series}
use Rattle.domain_check.specs.Checks.{Checks, checks_of, checks_at, overlaps, gap, outside_of, reading_within, unbounded}
use Rattle.domain_check.specs.Context.{in_force}
use Rattle.domain_check.specs.Directions.{rows_of, directions_in}
use Rattle.domain_check.specs.Stops.{IsRefuted, IsRefutedSeries, all_places}
use Rattle.domain_check.specs.Inner.Ready.{IsReady, IsReadyPart, IsReadAt, IsReadyDomain, IsReadyProgram}
use Rattle.domain_check.specs.declared.fault.CheckKind.{CheckKind}
use Rattle.domain_check.specs.declared.fault.CheckKind.TheVariants.{Unbounded, Overlap, Gap, Outside, Endless}
use Rattle.domain_check.proofs.Balance.{refuted_finite}
use Rattle.domain_check.proofs.Falsity.{IsFalse, false_of, each_false, no_two, no_gap, reads_inside}

-- of the checks of a place, the first and the others
first_refuted : (checks : Checks) (rest : List Checks) → All IsRefuted (flat_map cases_of (checks ∷ rest)) → All IsRefuted (cases_of checks)
first_refuted checks rest refuted = All-left IsRefuted (cases_of checks) (flat_map cases_of rest) refuted

rest_refuted : (checks : Checks) (rest : List Checks) → All IsRefuted (flat_map cases_of (checks ∷ rest)) → All IsRefuted (flat_map cases_of rest)
rest_refuted checks rest refuted = All-right IsRefuted (cases_of checks) (flat_map cases_of rest) refuted

module _ (p : System) (scope : Scope) where
  access_sound : (x : ℕ) (f : AffineMap) (o : Option Variable) → slice_get p.variables x ≡ o → MatchOption o ⊥ (IsReadAt p scope f)
      → All IsRefuted (flat_map cases_of (option_map_or (λ variable. record { kind = Outside; width = scope.width; claims = in_force scope (outside_of (reading_within p f variable) ∷ []) ∷ [] } ∷ []) o []))
      → (z : List ℤ) → length z ≡ scope.width → IsInContext scope.domains z
      → MatchOption o ⊥ (λ variable. HoldsSome variable.domain (take (length p.params) z ++ image_of f z))
  access_sound x f None is ready refuted z long held = ready
  access_sound x f (Some variable) is ready refuted z long held =
      let check : Checks = record { kind = Outside; width = scope.width; claims = in_force scope (outside_of (reading_within p f variable) ∷ []) ∷ [] } in
      reads_inside scope z long held (length p.params) f variable.domain (subst (λ n. length p.params ≤ n) (sym ready.columns) ready.params) ready.params ready.widths
      (each_false Outside scope.width check.claims (first_refuted check [] refuted)).0

  part_sound : (part : Part) → IsReadyPart p scope part → All IsRefuted (flat_map cases_of (checks_of p scope part)) → IsSoundPart p scope part
  part_sound (case_over domains) ready refuted =
      let first : Checks = record { kind = Overlap; width = scope.width; claims = overlaps scope domains } in
      let second : Checks = record { kind = Gap; width = scope.width; claims = gap scope domains ∷ [] } in
      let apart = each_false Overlap scope.width (overlaps scope domains) (first_refuted first (second ∷ []) refuted) in
      let covered = (each_false Gap scope.width second.claims (first_refuted second [] (rest_refuted first (second ∷ []) refuted))).0 in
      λ z long held. record { no_overlap = no_two scope z long held domains apart; no_gap = no_gap scope z long held domains covered }
  part_sound (reduction_over extra domain) ready refuted =
      let check : Checks = record { kind = Endless; width = extra; claims = directions_in (p.pdom ∷ scope.reductions) domain scope.width extra } in
      refuted_finite Endless extra scope.width (p.pdom ∷ scope.reductions) domain ready.1 (first_refuted check [] refuted)
  part_sound (access_to x f) ready refuted = access_sound x f (slice_get p.variables x) refl ready refuted

module _ (p : System) where
  places_sound : (places : List Place) → All (IsReady p) places → All IsRefuted (flat_map (cases_at p) places) → All (IsSoundAt p) places
  places_sound [] ready refuted = All-nil (IsSoundAt p)
  places_sound (place ∷ places) ready refuted =
      let here : IsReady p place = All-head (IsReady p) place places ready in
      All-cons (IsSoundAt p) place places
      (part_sound p place.scope place.part here.part (All-left IsRefuted (cases_at p place) (flat_map (cases_at p) places) refuted))
      (places_sound places (All-tail (IsReady p) place places ready) (All-right IsRefuted (cases_at p place) (flat_map (cases_at p) places) refuted))

  equations_sound : (equations : List Equation) → All (IsEquationPlaced p.variables) equations → All (IsReady p) (flat_map (places_of p) equations)
      → All IsRefutedSeries (map (equation_series p) equations) → All (IsSoundEquation p) equations
  equations_sound [] placed ready refuted = All-nil (IsSoundEquation p)
  equations_sound (equation ∷ equations) placed ready refuted =
      let series = map (equation_series p) equations in
      let others = flat_map (places_of p) equations in
      let sound = places_sound (places_of p equation) (All-left (IsReady p) (places_of p equation) others ready)
      (All-head IsRefutedSeries (equation_series p equation) series refuted) in
      All-cons (IsSoundEquation p) equation equations
      ((sound_by_places p equation (All-head (IsEquationPlaced p.variables) equation equations placed)).1 sound)
      (equations_sound equations (All-tail (IsEquationPlaced p.variables) equation equations placed) (All-right (IsReady p) (places_of p equation) others ready)
      (All-tail IsRefutedSeries (equation_series p equation) series refuted))

  domains_finite : (x : ℕ) (variables : List Variable) → All IsRefutedSeries (domain_series_from p x variables) → All (HasFinitePoints p) variables
  domains_finite x [] refuted = All-nil (HasFinitePoints p)
  domains_finite x (variable ∷ variables) refuted =
      let rest = domain_series_from p (suc x) variables in
      let indices = variable.domain.width - length p.params in
      All-cons (HasFinitePoints p) variable variables
      (refuted_finite Unbounded indices (length p.params) [] variable.domain (All-nil (λ row. length row.coefs ≤ length p.params))
      (All-head IsRefutedSeries (domain_series p x variable) rest refuted))
      (domains_finite (suc x) variables (All-tail IsRefutedSeries (domain_series p x variable) rest refuted))

  pub refuted_certified : All (IsEquationPlaced p.variables) p.equations → All (IsReady p) (all_places p) → All IsRefutedSeries (all_series p) → IsCertified p
  refuted_certified placed ready refuted =
      let first = domain_series_from p 0 p.variables in
      let second = map (equation_series p) p.equations in
      record {
        finite = domains_finite 0 p.variables (All-left IsRefutedSeries first second refuted);
        sound = equations_sound p.equations placed ready (All-right IsRefutedSeries first second refuted);
      }
