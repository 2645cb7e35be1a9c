use Rattle.std.proofs.Common.{◌≡◌, drop}
use Rattle.grammar_rules.specs.TextReadings.{place_of}
use Rattle.script_files.specs.Places.{behind}
use Rattle.script_files.proofs.places.place_of.Given as goal

abbrev pub invariant-loop-token : goal.invariant-loop-token
invariant-loop-token l = place_of l.text (behind (drop l.token-index l.tokens) l.left) ≡ place_of l.text (behind l.tokens l.number)
