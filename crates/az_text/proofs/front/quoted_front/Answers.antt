use Rattle.std.proofs.Common.{ℕ, take, sym, subst}
use Rattle.std.specs.Str.{IsAscii}
use Rattle.az_text.proofs.Classes.{IsAscii-inner}
use Rattle.az_text.proofs.front.quoted_front.Goals as goal

pub lent-requires : goal.lent-requires
lent-requires c =
    let text = c.args.text.now in
    let IsAsciiFront : ℕ → Type 0 = λ n. IsAscii (take n text) in
    subst IsAsciiFront (sym c.inner_len-len.ensures.passing) (IsAscii-inner text)
