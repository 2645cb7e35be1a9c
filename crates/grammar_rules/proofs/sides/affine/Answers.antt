use Rattle.std.proofs.Common.{rules}
use Rattle.grammar_rules.specs.SideReaders.{read_signed_term}
use Rattle.grammar_rules.specs.TokenRules.{words}
use Rattle.grammar_rules.proofs.sides.affine.Goals as goal

-- the members are read as their reader says
pub returns : goal.returns
returns c = rw c.in_ok-first.ensures (c.members.ensures (read_signed_term (words c.args.reserved.now)) (λ cursor result post. search rules))
