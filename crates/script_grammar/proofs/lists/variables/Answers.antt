use Rattle.std.proofs.Common.{rules}
use Rattle.script_grammar.specs.Readers.{read_name}
use Rattle.script_grammar.proofs.lists.variables.Goals as goal

-- the items are read as their reader says
pub returns : goal.returns
returns c = c.some_items.ensures read_name (λ cursor result post. search rules)
