use Rattle.std.proofs.Common.{◌≡◌, ◌++◌, ◌∷◌, [], ◌+◌, List, All, length, map, sym, ap, subst, ◌∙◌, arith}
use Rattle.std.proofs.lemmas.List.{length-append}
use Rattle.std.proofs.lemmas.List.Elements.{All-push}
use Rattle.az_lin.specs.declared.step.Derivation.{Derivation}
use Rattle.cert_read.specs.Inner.Found.{IsCaseLine}
use Rattle.cert_read.specs.Inner.Groups.{IsTaken}
use Rattle.cert_text.specs.Lines.{case_line, case_lines, step_line, IsSpelledCase}
use Rattle.cert_read.proofs.Takings.{begun, group_taken, cases_more}
use Rattle.cert_read.proofs.groups.read_cases.Goals as goal

pub cases-preserved : goal.cases-preserved
cases-preserved c =
    let lines = c.args.lines.now in
    let end = c.cases.end in
    let ds : List Derivation = c.cases.derivations.items in
    let next : List Derivation = c.push.new.self.items in
    let found = c.in_ok-found.found in
    let are = c.in_ok-found.ensures in
    let one : Derivation = record { steps = found.steps } in
    let pushed : next ≡ ds ++ one ∷ [] = c.in_ok-push.ensures.items in
    let number = c.len.result in
    let count : number ≡ length ds = omega (arith, c.len.ensures, c.cases.derivations.ok.0) in
    let here = begun (IsCaseLine number) lines end (c.is_case_at.ensures.0 c.cases-test.true) in
    let case = here.1 in
    let narrow = case.narrow in
    let line : here.0 ≡ case_line (length ds) = case.spelled ∙ ap case_line count in
    let taken : IsTaken lines end (case_line (length ds)) = subst (IsTaken lines end) line here.2 in
    let more : length next ≡ length ds + 1 = ap length pushed ∙ length-append ds (one ∷ []) in
    record {
      taken = group_taken lines c.args.from (case_lines 0 ds) end c.cases.invariant.taken (case_line (length ds)) (map step_line found.steps) (case_lines 0 next) found.end taken are.taken (cases_more ds next found.steps pushed);
      few = omega (arith, more, narrow, count);
      spelled = subst (All IsSpelledCase) (sym pushed) (All-push IsSpelledCase ds one c.cases.invariant.spelled are.spelled);
      stops = λ some. are.stops;
    }
