use Rattle.std.proofs.Common.{ℕ, take, sym, subst}
use Rattle.std.specs.Char.{is_ascii_digit}
use Rattle.az_text.specs.Tokens.{AllAre}
use Rattle.az_text.proofs.Runs.{run_passes}
use Rattle.az_text.proofs.front.number_front.Goals as goal

pub value_of-requires : goal.value_of-requires
value_of-requires c =
    let text = c.args.text.now in
    let AreDigits : ℕ → Type 0 = λ n. AllAre is_ascii_digit (take n text) in
    subst AreDigits (sym c.digits_len-len.ensures.passing) (run_passes is_ascii_digit text)
