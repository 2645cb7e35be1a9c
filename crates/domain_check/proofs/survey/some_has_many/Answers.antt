use Rattle.std.proofs.Common.{◌≡◌, List, length, map, All, arith, ap, subst}
use Rattle.domain_check.specs.Inner.Built.{checks_of}
use Rattle.domain_check.specs.Inner.Walked.{TellsMany}
use Rattle.domain_check.specs.Stops.{IsFew}
use Rattle.domain_check.specs.declared.checks.Checks.{Checks}
use Rattle.domain_check.proofs.Grown.{taken_all}
use Rattle.domain_check.proofs.Surveys.{tells_more}
use Rattle.domain_check.proofs.survey.some_has_many.Goals as goal

pub list-preserved : goal.list-preserved
list-preserved c =
    tells_more IsFew checks_of c.args.list.now c.list.checks-index c.checks-item.result c.list-test.true c.checks-item.is c.list.many c.has_many-many.result c.list.invariant c.has_many-many.ensures

pub returns : goal.returns
returns c =
    let end : c.list.checks-index ≡ length c.args.list.now = omega arith in
    let P : List Checks → Type 0 = λ list. TellsMany (All IsFew (map checks_of list)) c.list.many in
    subst P (taken_all c.args.list.now c.list.checks-index end) c.list.invariant
