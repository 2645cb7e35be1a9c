use Rattle.std.proofs.Common.{rules}
use Rattle.script_grammar.specs.Readers.{read_row}
use Rattle.script_grammar.proofs.maps.rows.Goals as goal

-- the items are read as their reader says
pub returns : goal.returns
returns c = c.items.ensures read_row (λ cursor result post. search rules)
