use Rattle.std.proofs.Common.{◌≡◌, ◌+◌, ◌++◌, ◌∷◌, [], map, take, ap, refl, sym, append_assoc, ◌∙◌, arith}
use Rattle.std.specs.Prelude.{string_bytes}
use Rattle.az_lin.specs.declared.step.Derivation.{Derivation}
use Rattle.cert_text.specs.Lines.{case_line, case_lines, step_line}
use Rattle.grammar_rules.specs.Lines.{joined}
use Rattle.cert_text.proofs.Texts.{grown, cases_next}
use Rattle.cert_text.proofs.writing.push_cases.Goals as goal

pub cases-preserved : goal.cases-preserved
cases-preserved c =
    let ds = c.args.derivations.now in
    let i = c.cases.number in
    let d = c.index-derivations-number.result in
    let start = string_bytes c.args.text.now in
    let named = grown start (string_bytes c.cases.text) (string_bytes c.push_case.new.text) (case_lines 0 (take i ds)) (case_line i ∷ []) (case_lines 0 (take i ds) ++ case_line i ∷ [])
    c.cases.invariant c.in_ok-push_case.ensures refl in
    let listed : string_bytes c.push_steps.new.text ≡ string_bytes c.push_case.new.text ++ joined (map step_line d.steps) =
    c.in_ok-push_steps.ensures ∙ ap (λ steps. string_bytes c.push_case.new.text ++ joined (map step_line steps)) c.as_slice.ensures
    ∙ ap (λ (at : Derivation). string_bytes c.push_case.new.text ++ joined (map step_line at.steps)) (sym c.index-derivations-number.is) in
    grown start (string_bytes c.push_case.new.text) (string_bytes c.push_steps.new.text) (case_lines 0 (take i ds) ++ case_line i ∷ []) (map step_line d.steps) (case_lines 0 (take (i + 1) ds))
    named listed
    (cases_next ds i d c.cases-test.true c.index-derivations-number.is ∙ sym (append_assoc (case_lines 0 (take i ds)) (case_line i ∷ []) (map step_line d.steps)))
