use Rattle.farkas_find.proofs.Decided.{small_never_overflows, excludes_other}
use Rattle.farkas_find.proofs.OneAnswer.{decide_once}
use Rattle.farkas_find.proofs.Used.{decided_uses}
use Rattle.farkas_find.proofs.verdict.decide.Goals as goal

pub returns-clause-small : goal.returns-clause-small
returns-clause-small c = small_never_overflows c.args.system.now c.judge.result c.judge.ensures.widths c.judge.ensures.answer

pub returns-clause-one : goal.returns-clause-one
returns-clause-one c = excludes_other c.args.system.now c.judge.result c.judge.ensures.answer

pub returns-clause-only : goal.returns-clause-only
returns-clause-only c = λ other same. decide_once c.args.system.now c.judge.result other c.judge.ensures.answer same

pub returns-clause-frugal : goal.returns-clause-frugal
returns-clause-frugal c = decided_uses c.args.system.now c.judge.result c.judge.ensures.answer
