use Rattle.std.proofs.Common.{◌≡◌, ◌+◌, ◌-◌, ◌<◌, ℕ, take, drop, length, length-drop, sym, ap, ◌∙◌, arith}
use Rattle.std.proofs.Math.Seq.{take-length}
use Rattle.line_fields.specs.Fields.{spaced}
use Rattle.line_fields.proofs.Splits.{front_is_word, split_at_space, unsplit}
use Rattle.line_fields.proofs.words.spaced_word.Goals as goal

pub returns-then-len-line : goal.returns-then-len-line
returns-then-len-line c = unsplit c.args.line.now c.word_len-len.result c.word_len-len.ensures.passing (c.if-len-line.true)

pub returns : goal.returns
returns c =
    let line = c.args.line.now in
    let n = c.word_len-len.result in
    let within = c.word_len-len.ensures.within in
    let short : n < length line = omega arith in
    let count : length (drop (n + 1) line) ≡ length line - (n + 1) = length-drop (n + 1) line in
    let rest : take (length line - (n + 1)) (drop (n + 1) line) ≡ drop (n + 1) line = ap (λ (k : ℕ). take k (drop (n + 1) line)) (sym count) ∙ take-length (drop (n + 1) line) in
    (front_is_word line n c.word_len-len.ensures.passing, split_at_space line n c.word_len-len.ensures.passing short ∙ ap (spaced (take n line)) (sym rest))
