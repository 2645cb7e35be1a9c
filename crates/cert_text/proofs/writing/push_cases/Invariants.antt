use Rattle.std.proofs.Common.{◌≡◌, ◌++◌, take}
use Rattle.std.specs.Prelude.{string_bytes}
use Rattle.cert_text.specs.Lines.{case_lines}
use Rattle.grammar_rules.specs.Lines.{joined}
use Rattle.cert_text.proofs.writing.push_cases.Given as goal

abbrev pub invariant-cases : goal.invariant-cases
invariant-cases l = string_bytes l.text ≡ string_bytes l.fn.text ++ joined (case_lines 0 (take l.number l.derivations))
