use Rattle.std.proofs.Common.{◌≡◌, ◌++◌, map, take}
use Rattle.std.specs.Prelude.{string_bytes}
use Rattle.cert_text.specs.Lines.{step_line}
use Rattle.grammar_rules.specs.Lines.{joined}
use Rattle.cert_text.proofs.writing.push_steps.Given as goal

abbrev pub invariant-steps : goal.invariant-steps
invariant-steps l = string_bytes l.text ≡ string_bytes l.fn.text ++ joined (map step_line (take l.step-index l.steps))
