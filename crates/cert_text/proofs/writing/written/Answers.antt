use Rattle.std.proofs.Common.{◌≡◌, ◌+◌, ◌++◌, ◌∷◌, [], List, take, ap, sym, ◌∙◌, arith}
use Rattle.std.specs.Prelude.{string_bytes}
use Rattle.std.specs.List.{flat_map}
use Rattle.cert_text.specs.Lines.{proved_lines, version_line}
use Rattle.cert_text.specs.declared.certificate.Proved.{Proved}
use Rattle.grammar_rules.specs.Lines.{joined}
use Rattle.cert_text.proofs.Texts.{grown, proofs_next}
use Rattle.cert_text.proofs.writing.written.Goals as goal

pub proofs-preserved : goal.proofs-preserved
proofs-preserved c =
    let p = c.args.program.now in
    let version = c.args.certificate.now.version in
    let proved : List Proved = c.as_slice-proved.result.now in
    let same : proved ≡ c.args.certificate.now.proved = c.as_slice-proved.ensures in
    let i = c.proofs.number in
    let one = c.index-proved-number.result in
    let before = c.proofs.invariant ∙ ap (λ (ones : List Proved). joined (version_line version ∷ flat_map (proved_lines p) (take i ones))) (sym same) in
    grown [] (string_bytes c.proofs.text) (string_bytes c.push_proved.new.text) (version_line version ∷ flat_map (proved_lines p) (take i proved)) (proved_lines p one)
    (version_line version ∷ flat_map (proved_lines p) (take (i + 1) proved))
    before c.in_ok-push_proved.ensures (proofs_next p version proved i one c.proofs-test.true c.index-proved-number.is)
    ∙ ap (λ (ones : List Proved). joined (version_line version ∷ flat_map (proved_lines p) (take (i + 1) ones))) same
