use Rattle.std.proofs.Common.{Some}
use Rattle.formula_refute.specs.Domains.{domain_claim}
use Rattle.order_sets.proofs.Making.{pushed}
use Rattle.order_sets.proofs.context.push_domain.Goals as goal

pub returns : goal.returns
returns c = λ cs so_far.
    pushed cs (domain_claim c.args.domain.now) c.args.members.now c.push.new.self (Some c.in_ok-formula.formula) c.in_ok-formula.ensures c.in_ok-push.ensures so_far
