use Rattle.std.proofs.Common.{◌+◌, List, ℕ, Ok, Err, refl, sym, subst, true≢false, ◌∙◌}
use Rattle.cert_text.specs.declared.fault.CertFault.TheVariants.{BadLine}
use Rattle.cert_read.proofs.WholeReading.{made, no_version, no_version_only, bad_line, bad_only, read_whole, whole_only}
use Rattle.grammar_rules.specs.Lines.{IsCut}
use Rattle.cert_read.proofs.reading.read_certificate.Goals as goal

pub returns-in_default-clause-answer : goal.returns-in_default-clause-answer
returns-in_default-clause-answer c =
    let text = c.args.text.now in
    let lines : List (List ℕ) = c.as_slice-lines.result.now in
    let rest : List ℕ = c.in_ok-cut.cut.rest in
    let cut : IsCut text lines rest = subst (λ (xs : List (List ℕ)). IsCut text xs rest) (sym c.as_slice-lines.ensures) c.in_ok-cut.ensures in
    no_version c.args.program.now c.variables.ensures.rules c.requires c.fields_are_one.ensures text lines rest cut c.in_default.ensures

pub returns-in_default-clause-only : goal.returns-in_default-clause-only
returns-in_default-clause-only c =
    let text = c.args.text.now in
    let lines : List (List ℕ) = c.as_slice-lines.result.now in
    let rest : List ℕ = c.in_ok-cut.cut.rest in
    let cut : IsCut text lines rest = subst (λ (xs : List (List ℕ)). IsCut text xs rest) (sym c.as_slice-lines.ensures) c.in_ok-cut.ensures in
    no_version_only c.args.program.now c.variables.ensures.rules c.requires c.fields_are_one.ensures text lines rest cut c.in_default.ensures (Err (BadLine 1))

pub returns-then-not-is_at_end-clause-answer : goal.returns-then-not-is_at_end-clause-answer
returns-then-not-is_at_end-clause-answer c =
    let text = c.args.text.now in
    let lines : List (List ℕ) = c.as_slice-lines.result.now in
    let rest : List ℕ = c.in_ok-cut.cut.rest in
    let cut : IsCut text lines rest = subst (λ (xs : List (List ℕ)). IsCut text xs rest) (sym c.as_slice-lines.ensures) c.in_ok-cut.ensures in
    bad_line c.args.program.now c.variables.ensures.rules c.requires c.fields_are_one.ensures text lines rest cut c.in-Some.version c.in-Some.ensures.0 c.in-Some.ensures.1 c.in_ok-found.found c.in_ok-found.ensures
    (λ both. true≢false (sym (c.is_at_end.ensures.1 both) ∙ c.if-not-is_at_end.true))

pub returns-then-not-is_at_end-clause-only : goal.returns-then-not-is_at_end-clause-only
returns-then-not-is_at_end-clause-only c =
    let text = c.args.text.now in
    let lines : List (List ℕ) = c.as_slice-lines.result.now in
    let rest : List ℕ = c.in_ok-cut.cut.rest in
    let cut : IsCut text lines rest = subst (λ (xs : List (List ℕ)). IsCut text xs rest) (sym c.as_slice-lines.ensures) c.in_ok-cut.ensures in
    let found = c.in_ok-found.found in
    bad_only c.args.program.now c.variables.ensures.rules c.requires c.fields_are_one.ensures text lines rest cut c.in-Some.version c.in-Some.ensures.0 c.in-Some.ensures.1 found c.in_ok-found.ensures
    (λ both. true≢false (sym (c.is_at_end.ensures.1 both) ∙ c.if-not-is_at_end.true)) (Err (BadLine (found.end + 1)))

pub returns-clause-answer : goal.returns-clause-answer
returns-clause-answer c =
    let text = c.args.text.now in
    let lines : List (List ℕ) = c.as_slice-lines.result.now in
    let rest : List ℕ = c.in_ok-cut.cut.rest in
    let cut : IsCut text lines rest = subst (λ (xs : List (List ℕ)). IsCut text xs rest) (sym c.as_slice-lines.ensures) c.in_ok-cut.ensures in
    read_whole c.args.program.now c.variables.ensures.rules c.requires c.fields_are_one.ensures text lines rest cut c.in-Some.version c.in-Some.ensures.0 c.in-Some.ensures.1 c.in_ok-found.found c.in_ok-found.ensures
    (c.is_at_end.ensures.0 c.if-not-is_at_end.false)

pub returns-clause-only : goal.returns-clause-only
returns-clause-only c =
    let text = c.args.text.now in
    let lines : List (List ℕ) = c.as_slice-lines.result.now in
    let rest : List ℕ = c.in_ok-cut.cut.rest in
    let cut : IsCut text lines rest = subst (λ (xs : List (List ℕ)). IsCut text xs rest) (sym c.as_slice-lines.ensures) c.in_ok-cut.ensures in
    let found = c.in_ok-found.found in
    whole_only c.args.program.now c.variables.ensures.rules c.requires c.fields_are_one.ensures text lines rest cut c.in-Some.version c.in-Some.ensures.0 c.in-Some.ensures.1 found c.in_ok-found.ensures
    (Ok (made c.in-Some.version found.proved)) refl
