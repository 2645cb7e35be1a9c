-- A program that is certified isn't refused its certificate.
use Rattle.std.proofs.Common.{◌≡◌, ℕ, List, [], ◌∷◌, ◌++◌, refl, sym, subst, ap, ◌∙◌, inl, inr}
use Rattle.std.specs.Prelude.{All, Some, None, Ok, Err}
use Rattle.std.specs.List.{AllByRecursion}
use Rattle.std.proofs.lemmas.List.Elements.{recursion_from_All}
use Rattle.az_ast.specs.System.{System}
use Rattle.domain_check.specs.Cases.{Case, Series, all_series}
use Rattle.domain_check.specs.Promise.{Accepts, Refuses}
use Rattle.domain_check.specs.Stops.{IsRefuted, IsRefutedSeries, StopsAt, IsFirst}
use Rattle.domain_check.specs.declared.fault.CertifyFault.{CertifyFault}
use Rattle.domain_check.specs.declared.fault.CertifyFault.TheVariants as check
use Rattle.domain_check.specs.declared.fault.CheckKind.{CheckKind}
use Rattle.farkas_find.proofs.OneAnswer.{decide_once}
use Rattle.farkas_find.specs.Verdict.{IsRefutedBy, Decides}
use Rattle.farkas_find.specs.declared.fault.FindFault.TheVariants as find
use Rattle.farkas_find.specs.declared.verdict.Decision.TheVariants as decision
use Rattle.az_lin.specs.declared.limit.Limit.TheVariants as limit
use Rattle.formula_refute.specs.Fronts.{Stops}
use Rattle.formula_refute.specs.declared.front.Stop.{Stop}
use Rattle.formula_refute.specs.declared.front.Stop.TheVariants as stop
use Rattle.session_state.specs.declared.refusal.Refusal.{Refusal}
use Rattle.program_commands.specs.Programs.{check_refusal}

middle : {X : Type 0} (P : X → Type 0) (before : List X) (x : X) (after : List X) → AllByRecursion P (before ++ x ∷ after) → P x
middle P [] x after h = h.0
middle P (b ∷ before) x after h = middle P before x after h.1

each : {X : Type 0} (P : X → Type 0) (all before : List X) (x : X) (after : List X) → All P all → all ≡ before ++ x ∷ after → P x
each P all before x after h e = middle P before x after (recursion_from_All P _ (subst (All P) e h))

-- a case that is refuted stops nothing
refuted_goes_on : (case : Case) → IsRefuted case → (answer : Stop) → Stops case.system answer → ⊥
refuted_goes_on case (steps, refuted) stop.End h = h
refuted_goes_on case (steps, refuted) (stop.Point point) h =
    let same : Ok (decision.Refuted (record { steps = steps })) ≡ Ok (decision.Point point) = decide_once case.system _ _ refuted h (λ e. cc) (λ e. cc) in
    cc
refuted_goes_on case (steps, refuted) stop.Overflow (stage, h) =
    let same : Ok (decision.Refuted (record { steps = steps })) ≡ Err (find.Overflow stage) = decide_once case.system _ _ refuted h (λ e. cc) (λ e. cc) in
    cc
refuted_goes_on case (steps, refuted) stop.Rows h =
    let same : Ok (decision.Refuted (record { steps = steps })) ≡ Err (find.Limit limit.Rows) = decide_once case.system _ _ refuted h (λ e. cc) (λ e. cc) in
    cc

nothing_stops : (p : System) → Accepts p → (kind : CheckKind) (variable number : ℕ) (answer : Stop) → StopsAt (all_series p) kind variable number answer → ⊥
nothing_stops p accepts kind variable number answer at =
    let series : IsRefutedSeries (record { variable = variable; cases = at.cases }) = each IsRefutedSeries (all_series p) at.before _ at.after accepts.refuted at.order in
    let refuted : IsRefuted (record { kind = kind; system = at.first.system }) = each IsRefuted at.cases at.first.before _ at.first.after series at.first.order in
    refuted_goes_on (record { kind = kind; system = at.first.system }) refuted answer at.first.stops

pub certified_or_not : (p : System) (why : CertifyFault) (refusal : Refusal) → Accepts p → Refuses p why → check_refusal p why ≡ Some refusal → ⊥
certified_or_not p check.Entry refusal accepts refuses is = refuses accepts.decidable.entries
certified_or_not p (check.Limit some) refusal accepts (inl many) is = many.2 accepts.decidable.few
certified_or_not p (check.Limit some) refusal accepts (inr (rows, decidable, (kind, variable, number, at))) is = nothing_stops p accepts kind variable number stop.Rows at
certified_or_not p (check.Overflow kind variable number) refusal accepts (decidable, at) is = nothing_stops p accepts kind variable number stop.Overflow at
certified_or_not p (check.No found) refusal accepts (decidable, at) is = nothing_stops p accepts found.kind found.variable found.case_no (stop.Point found.point) at
certified_or_not p check.Memory refusal accepts refuses is = cc
