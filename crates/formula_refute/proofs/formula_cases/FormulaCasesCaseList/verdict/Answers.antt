use Rattle.std.proofs.Common.{◌≡◌, ◌<◌, List, drop, length, arith}
use Rattle.az_lin.specs.Affine.{Polyhedron}
use Rattle.formula_refute.specs.Claims.{claim}
use Rattle.formula_refute.specs.Cases.{cases, systems}
use Rattle.formula_refute.specs.Inner.Verdicts.{IsVerdict, AnswersFirst}
use Rattle.formula_refute.proofs.CaseWidths.{system_at, length-systems}
use Rattle.formula_refute.proofs.FirstSystem.{answers_first}
use Rattle.formula_refute.proofs.Outcomes.{ok_then}
use Rattle.formula_refute.proofs.formula_cases.FormulaCasesCaseList.verdict.Goals as goal

pub returns-clause-ok : goal.returns-clause-ok
returns-clause-ok c =
    let width = c.args.self.now.width in
    let d = claim c.args.self.now.formula.now in
    let number = c.args.number in
    let all : List Polyhedron = systems width d in
    let system : Polyhedron = c.in_ok-system.system in
    let here : number < length all = c.requires.here in
    let count : length all ≡ length (cases d) = length-systems width d in
    let is = system_at width d number system (omega (arith, here, count)) c.in_ok-system.ensures.ok in
    ok_then (IsVerdict system) (AnswersFirst (drop number all)) (answers_first all number system here is) c.verdict_on.result c.verdict_on.ensures.ok
