-- The tokens of a text stand in it in order.
use Rattle.std.proofs.Common.{◌≡◌, ℕ, suc, ◌+◌, ◌-◌, ◌<◌, ◌≤◌, List, [], ◌∷◌, ◌++◌, take, drop, length, Result, Ok, Err, refl, sym, ap, ◌∙◌, subst, arith, append_assoc, length-append}
use Rattle.std.specs.Prelude.{slice_range}
use Rattle.std.proofs.lemmas.List.{take_at, drop_at}
use Rattle.az_text.specs.declared.fault.LexFault.{LexFault}
use Rattle.az_text.specs.declared.token.Token.{Token}
use Rattle.az_text.specs.declared.token.TokenKind.{TokenKind}
use Rattle.az_text.specs.Reading.{IsNarrow, and_then, token_at, Reads, AreIn}
use Rattle.az_text.specs.Reading.Reads.{ended, blank, comment, token, wide, bad}
use Rattle.az_text.specs.Tokens.{Spells, BeginsWith}
use Rattle.az_text.proofs.Sorts.{starts}

-- the tokens of an answer, if it has them
abbrev pub AreInAnswer : List ℕ → ℕ → Result (List Token) LexFault → Type 0
AreInAnswer text at (Ok tokens) = AreIn text at tokens
AreInAnswer text at (Err fault) = Unit {0}

from_earlier : (text : List ℕ) (at later : ℕ) (answer : Result (List Token) LexFault) → at ≤ later → AreInAnswer text later answer → AreInAnswer text at answer
from_earlier text at later (Ok []) before h = omega (arith, h)
from_earlier text at later (Ok (t ∷ tokens)) before h = (omega (arith, h.0), h.1, h.2, h.3, h.4)
from_earlier text at later (Err fault) before h = tt

length-token : (kind : TokenKind) (bytes rest : List ℕ) → BeginsWith kind bytes rest → 0 < length bytes
length-token kind bytes rest begins =
    let s = starts kind bytes begins.spelled in
    omega (arith, ap length s.whole)

-- the bytes of a token, as a part of the whole text
part : (before bytes rest : List ℕ) (at : ℕ) → length before ≡ at → slice_range (before ++ (bytes ++ rest)) at (at + length bytes) ≡ bytes
part before bytes rest at len =
    let minus : at + length bytes - at ≡ length bytes = omega arith in
    ap (λ n. take n (drop at (before ++ (bytes ++ rest)))) minus
    ∙ ap (take (length bytes)) (drop_at before (bytes ++ rest) at len)
    ∙ take_at bytes rest (length bytes) refl

with_token : (before bytes rest : List ℕ) (at : ℕ) (kind : TokenKind) (answer : Result (List Token) LexFault) → length before ≡ at → BeginsWith kind bytes rest → IsNarrow kind → AreInAnswer (before ++ (bytes ++ rest)) (at + length bytes) answer → AreInAnswer (before ++ (bytes ++ rest)) at (and_then (token_at at kind (length bytes)) answer)
with_token before bytes rest at kind (Err fault) len begins narrow h = tt
with_token before bytes rest at kind (Ok tokens) len begins narrow h =
    let Spelled : List ℕ → Type 0 = λ l. Spells kind l in
    let some = length-token kind bytes rest begins in
    (omega arith, omega arith, subst Spelled (sym (part before bytes rest at len)) begins.spelled, narrow, h)

module _ (text : List ℕ) where
  pub are_in : {at : ℕ} {rest : List ℕ} {answer : Result (List Token) LexFault} → Reads at rest answer → (before : List ℕ) → before ++ rest ≡ text → length before ≡ at → AreInAnswer text at answer
  are_in (ended {at}) before whole len = omega (arith, ap length (sym whole), length-append before [])
  are_in (blank {at} {b} {rest} {answer} is reads) before whole len =
      let whole' = append_assoc before (b ∷ []) rest ∙ whole in
      let len' : length (before ++ b ∷ []) ≡ suc at = omega (arith, length-append before (b ∷ [])) in
      from_earlier text at (suc at) answer (omega arith) (are_in reads (before ++ b ∷ []) whole' len')
  are_in (comment {at} {answer} body rest passes ends reads) before whole len =
      let text_of = 47 ∷ 47 ∷ body in
      let whole' : (before ++ text_of) ++ rest ≡ text = append_assoc before text_of rest ∙ whole in
      let len' : length (before ++ text_of) ≡ at + length text_of = omega (arith, length-append before text_of) in
      from_earlier text at (at + length text_of) answer (omega arith) (are_in reads (before ++ text_of) whole' len')
  are_in (token {at} {answer} kind bytes rest begins narrow reads) before whole len =
      let whole' : (before ++ bytes) ++ rest ≡ text = append_assoc before bytes rest ∙ whole in
      let len' : length (before ++ bytes) ≡ at + length bytes = omega (arith, length-append before bytes) in
      let further : AreInAnswer text (at + length bytes) answer = are_in reads (before ++ bytes) whole' len' in
      let Further : List ℕ → Type 0 = λ t. AreInAnswer t (at + length bytes) answer in
      let Here : List ℕ → Type 0 = λ t. AreInAnswer t at (and_then (token_at at kind (length bytes)) answer) in
      subst Here whole (with_token before bytes rest at kind answer len begins narrow (subst Further (sym whole) further))
  are_in (wide n bytes rest begins over) before whole len = tt
  are_in (bad rest none) before whole len = tt

pub tokens_in : (text : List ℕ) (tokens : List Token) → Reads 0 text (Ok tokens) → AreIn text 0 tokens
tokens_in text tokens reads = are_in text reads [] refl refl
