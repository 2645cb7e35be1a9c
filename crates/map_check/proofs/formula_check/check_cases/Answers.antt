use Rattle.std.proofs.Common.{◌≡◌, ◌<◌, ◌≤◌, ℕ, List, length, Option, Some, refl, sym, ap, subst, ◌∙◌, arith}
use Rattle.std.specs.Prelude.{slice_get, MatchOption}
use Rattle.std.proofs.lemmas.Option.{slice_get_read}
use Rattle.az_lin.specs.Derivation.{IsDerivation, IsFirstBad}
use Rattle.az_lin.specs.declared.step.Derivation.{Derivation}
use Rattle.az_lin.specs.Affine.{Polyhedron}
use Rattle.formula_refute.proofs.CaseWidths.{length-systems}
use Rattle.map_verify.specs.Certificates.{rule_of, IsProvedCase}
use Rattle.map_verify.specs.Formulas.{cases_of, systems_of}
use Rattle.order_sets.specs.Stated.{stated_claim}
use Rattle.map_verify.proofs.Alongside.{zip_within}
use Rattle.map_check.proofs.Places.{none_past, zip_one}
use Rattle.map_check.proofs.Mistaken.{rows_here}
use Rattle.map_check.proofs.formula_check.check_cases.Goals as goal

pub returns-in_default : goal.returns-in_default
returns-in_default c =
    let stated = stated_claim c.args.stated.now in
    let ds = c.args.derivations.now in
    let n = c.cases.number in
    let all : List Polyhedron = c.into_vec-systems.result.items in
    let listed : all ≡ systems_of stated = c.into_vec-systems.ensures ∙ c.in-Ok.ensures.exact.0 in
    let count : length all ≡ length (cases_of stated) = ap length listed ∙ length-systems stated.width stated.claim in
    let end = c.len-number-end.ensures in
    let test = c.cases-test.true in
    let below : n < length (cases_of stated) = omega (arith, count, end, test) in
    let past : length ds ≤ n = none_past ds n c.in_default.ensures in
    let within : n ≤ length ds = zip_within (IsProvedCase c.args.version) (cases_of stated) ds n (omega (arith, below)) c.cases.invariant in
    (refl, omega (arith, past, within), below, c.cases.invariant)

pub cases-preserved : goal.cases-preserved
cases-preserved c =
    let stated = stated_claim c.args.stated.now in
    let ds = c.args.derivations.now in
    let n = c.cases.number in
    let rule = rule_of c.args.version in
    let all : List Polyhedron = c.into_vec-systems.result.items in
    let listed : all ≡ systems_of stated = c.into_vec-systems.ensures ∙ c.in-Ok.ensures.exact.0 in
    let end = c.len-number-end.ensures in
    let test = c.cases-test.true in
    let within : n < length all = omega (arith, end, test) in
    let system : Polyhedron = c.index.result.now in
    let placed : slice_get all n ≡ Some system = slice_get_read all (length all) n system refl within c.index.ensures in
    let here : slice_get (cases_of stated) n ≡ Some system.rows = rows_here stated.width (cases_of stated) n system (ap (λ (xs : List Polyhedron). slice_get xs n) (sym listed) ∙ placed) in
    let d : Derivation = c.in-Some.derivation.now in
    let there : slice_get ds n ≡ Some d = sym c.in-Some.ensures in
    let proved : IsProvedCase c.args.version system.rows d =
    subst (λ (bad : Option ℕ). MatchOption bad (IsDerivation rule system.rows d.steps) (IsFirstBad rule system.rows d.steps)) c.in_default-bad.is c.in_ok-bad.ensures in
    zip_one (IsProvedCase c.args.version) (cases_of stated) ds n system.rows d here there c.cases.invariant proved
