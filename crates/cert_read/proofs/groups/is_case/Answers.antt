use Rattle.std.proofs.Common.{◌≡◌, ◌<◌, ◌++◌, sym, ap, ◌∙◌, arith}
use Rattle.std.specs.Prelude.{codes}
use Rattle.std.specs.Fmt.{decimal}
use Rattle.std.proofs.lemmas.Bool.Decides.{nat_tests}
use Rattle.std.proofs.lemmas.Fmt.{decimal_injective}
use Rattle.std.proofs.lemmas.List.{append_cancel_left}
use Rattle.cert_read.proofs.groups.is_case.Goals as goal

pub returns : goal.returns
returns c =
    let digits = c.in-Some.digits.now in
    let begins = c.in-Some.ensures in
    let given = c.in-Some-last_natural.given in
    let is = c.in-Some-last_natural.ensures in
    let number = c.args.number in (
      λ told. (
          let same : given ≡ number = grind (arith, nat_tests, told) in
          let small : given < 4294967296 = omega arith in
          record { narrow = omega (arith, small, same); spelled = begins ∙ ap (λ ds. codes "case " ++ ds) (is ∙ ap decimal same) }
          ),
      λ case. (
          let narrow = case.narrow in
          let small : given < 4294967296 = omega arith in
          let inner = append_cancel_left (codes "case ") digits (decimal number) (sym begins ∙ case.spelled) in
          let same : given ≡ number = decimal_injective given number (omega (arith, small)) (omega (arith, narrow)) (sym is ∙ inner) in
          grind (arith, nat_tests, same)
          ),
    )
