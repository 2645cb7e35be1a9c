use Rattle.map_verify.proofs.Accepted.{accepted_alone}
use Rattle.map_check.proofs.list_check.check_only.Goals as goal

pub returns-clause-accepts : goal.returns-clause-accepts
returns-clause-accepts c = λ is. accepted_alone c.args.checked.now c.args.mapping.now c.args.certificate.now c.checked_map.result c.checked_map.ensures.answer is
