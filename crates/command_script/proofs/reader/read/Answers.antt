use Rattle.std.proofs.Common.{◌≡◌, Err, ap, subst, ◌∙◌}
use Rattle.grammar_rules.specs.declared.fault.TextFault.{TextFault}
use Rattle.grammar_rules.specs.declared.fault.TextFault.TheVariants.{Size}
use Rattle.script_grammar.specs.Readings.{IsReadingOf}
use Rattle.command_script.proofs.Once.{not_heavy}
use Rattle.command_script.proofs.reader.read.Goals as goal

pub unreachable-requires : goal.unreachable-requires
unreachable-requires c =
    let heavy : c.read_text.result ≡ Err Size = c.in-Err-Size.is ∙ ap (λ (f : TextFault). Err f) c.in-Err-Size.field-0-is in
    not_heavy c.args.text.now (subst (IsReadingOf c.args.text.now) heavy c.read_text.ensures.reading)
