use Rattle.std.proofs.Common.{◌≡◌, ◌++◌, ◌∷◌, take}
use Rattle.std.specs.Prelude.{string_bytes}
use Rattle.std.specs.List.{flat_map}
use Rattle.cert_text.specs.Lines.{proved_lines, version_line}
use Rattle.grammar_rules.specs.Lines.{joined}
use Rattle.cert_text.proofs.writing.written.Given as goal

abbrev pub invariant-proofs : goal.invariant-proofs
invariant-proofs l = string_bytes l.text ≡ joined (version_line l.certificate.version ∷ flat_map (proved_lines l.program) (take l.number l.certificate.proved))
