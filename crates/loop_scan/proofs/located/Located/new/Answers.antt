use Rattle.std.proofs.Common.{◌≡◌, sym, subst, rules, List, Err}
use Rattle.std.specs.List.{All}
use Rattle.az_lin.specs.Affine.{Polyhedron, IsCoordinate}
use Rattle.loop_scan.specs.Boxes.{RefusesBoxes}
use Rattle.loop_scan.specs.Nest.Answered.{Faults}
use Rattle.loop_scan.specs.Nest.Located.{LocateAnswers}
use Rattle.loop_scan.proofs.Answering.{refused_domain}
use Rattle.loop_scan.proofs.located.Located.new.Goals as goal

pub returns-in_err-boxes : goal.returns-in_err-boxes
returns-in_err-boxes c =
    let fault = c.in_err-boxes.field-0.0 in
    let handed : c.from_residual-in_err-boxes.result ≡ Err fault = search rules in
    let put = c.in_ok-domain.ensures in
    let small : All IsCoordinate c.args.params.now = search rules in
    let answer = subst (λ (ds : List Polyhedron). Faults (RefusesBoxes ds) fault) c.disjuncts.ensures.value c.in_err-boxes.ensures.answer in
    subst (λ r. LocateAnswers c.args.d.now c.args.params.now r) (sym handed)
    (refused_domain c.args.d.now c.args.params.now c.in_ok-domain.domain fault put.0 put.1 small answer)
