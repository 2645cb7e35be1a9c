use Rattle.std.proofs.Common.{rules}
use Rattle.grammar_rules.proofs.ReadBy.{always_gives}
use Rattle.script_grammar.specs.Readers.{read_number}
use Rattle.script_grammar.proofs.lists.numbers.Goals as goal

-- the items are read as their reader says
pub returns : goal.returns
returns c = c.items.ensures read_number (λ cursor result post. always_gives result (read_number cursor.budget cursor.rest.now) (search rules))
