use Rattle.std.proofs.Common.{◌≡◌, ◌-◌, ◌≤◌, length, drop}
use Rattle.az_text.specs.Fronts.{lexed_from}
use Rattle.az_text.proofs.Walk.{and_all}
use Rattle.az_text.proofs.lexer.tokens_of.Given as goal

-- the tokens so far and the answer of what is left are the answer of the text
abbrev pub invariant-loop-from : goal.invariant-loop-from
invariant-loop-from l = (l.from ≤ length l.text) × (and_all l.tokens.items (lexed_from l.from 0 (drop l.from l.text)) ≡ lexed_from 0 0 l.text)

abbrev pub decreases-loop-from : goal.decreases-loop-from
decreases-loop-from l = length l.text - l.from
