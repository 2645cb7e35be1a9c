use Rattle.std.proofs.Common.{rules}
use Rattle.script_grammar.specs.Readers.{read_command}
use Rattle.script_grammar.proofs.script.some_commands.Goals as goal

-- the members are read as their reader says
pub returns : goal.returns
returns c = rw c.in_ok-first.ensures (c.members.ensures read_command (λ cursor result post. search rules))
