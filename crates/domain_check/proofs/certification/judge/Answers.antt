use Rattle.std.proofs.Common.{Bool, All, subst}
use Rattle.domain_check.specs.Inner.Walked.{TellsMany}
use Rattle.domain_check.specs.Stops.{AreFewAt, all_places}
use Rattle.domain_check.proofs.Surveys.{judged}
use Rattle.domain_check.proofs.certification.judge.Goals as goal

pub returns-in-Ok-false : goal.returns-in-Ok-false
returns-in-Ok-false c =
    let p = c.args.program.now in
    let told = c.in-Ok-false.ensures {u = tt} in
    let P : Bool → Type 0 = λ many. TellsMany (All (AreFewAt p) (all_places p)) many in
    judged p c.ready.ensures.rules c.ready.ensures.ready (record { entries = told.1; few = subst P c.in-Ok-false.field-0-test told.0 }) c.decide.result c.decide.ensures
