use Rattle.std.proofs.Common.{ℕ, take, sym, subst}
use Rattle.std.specs.Str.{IsAscii}
use Rattle.az_text.proofs.Classes.{IsAscii-word}
use Rattle.az_text.proofs.front.word_front.Goals as goal

pub lent-requires : goal.lent-requires
lent-requires c =
    let text = c.args.text.now in
    let IsAsciiFront : ℕ → Type 0 = λ n. IsAscii (take n text) in
    subst IsAsciiFront (sym c.word_len-len.ensures.passing) (IsAscii-word text)
