use Rattle.std.proofs.Common.{rules}
use Rattle.program_grammar.specs.Readings.{IsReadingOf}
use Rattle.program_grammar.proofs.WrittenRules.{reading_is_written}
use Rattle.program_grammar.proofs.text.read_text.Goals as goal

pub returns-clause-written : goal.returns-clause-written
returns-clause-written c =
    let reading : IsReadingOf c.args.text.now c.placed.result = search rules in
    reading_is_written c.args.text.now c.placed.result reading
