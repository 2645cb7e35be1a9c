use Rattle.map_verify.proofs.OneVerdict.{one_verdict}
use Rattle.map_verify.proofs.Promised.{no_is_open_case}
use Rattle.map_verify.proofs.verification.verify.Goals as goal

pub returns-clause-no : goal.returns-clause-no
returns-clause-no g c = no_is_open_case c.args.checked.now c.args.mapping.now c.verdict_on.result c.verdict_on.ensures.answer

pub returns-clause-only : goal.returns-clause-only
returns-clause-only g c = λ other there told known. one_verdict c.args.checked.now c.args.mapping.now c.verdict_on.result other c.verdict_on.ensures.answer there told known
