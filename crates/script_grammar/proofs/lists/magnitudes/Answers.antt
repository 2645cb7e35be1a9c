use Rattle.std.proofs.Common.{rules}
use Rattle.grammar_rules.proofs.ReadBy.{always_gives}
use Rattle.script_grammar.specs.Readers.{read_magnitude}
use Rattle.script_grammar.proofs.lists.magnitudes.Goals as goal

-- the items are read as their reader says
pub returns : goal.returns
returns c = c.items.ensures read_magnitude (λ cursor result post. always_gives result (read_magnitude cursor.budget cursor.rest.now) (search rules))
