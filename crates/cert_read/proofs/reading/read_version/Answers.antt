use Rattle.std.proofs.Common.{◌≡◌, ◌<◌, sym, subst, true≢false, ◌∙◌, arith}
use Rattle.std.specs.Fmt.{decimal}
use Rattle.cert_text.specs.Versions.{IsVersion}
use Rattle.cert_read.proofs.LineFields.{same_version_digits}
use Rattle.cert_read.proofs.reading.read_version.Goals as goal

pub returns-in_default : goal.returns-in_default
returns-in_default c = λ version is. c.in_default.ensures (decimal version) is.spelled

pub returns-then-not-is_version : goal.returns-then-not-is_version
returns-then-not-is_version c = λ version is_line.
    let given = c.in-Some-last_natural.version in
    let is = c.in-Some-last_natural.ensures in
    let small : given < 4294967296 = omega arith in
    let same : given ≡ version = same_version_digits c.args.line.now c.in-Some.digits.now given version c.in-Some.ensures small is is_line.known is_line.spelled in
    true≢false (sym (c.is_version.ensures.1 (subst IsVersion (sym same) is_line.known)) ∙ c.if-not-is_version.true)
