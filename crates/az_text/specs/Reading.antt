-- The tokens of a text with their spans, or its first fault.
use Rattle.std.specs.Prelude.{◌≡◌, ℕ, suc, ◌+◌, ◌^◌, ◌<◌, ◌≤◌, List, [], ◌∷◌, ◌++◌, length, Result, Ok, Err, IsTrue, slice_range}
use Rattle.az_text.specs.declared.fault.LexFault.{LexFault}
use Rattle.az_text.specs.declared.fault.LexFault.TheVariants.{BadByte, WideNumber, Memory}
use Rattle.az_text.specs.declared.token.Token.{Token}
use Rattle.az_text.specs.declared.token.TokenKind.{TokenKind}
use Rattle.az_text.specs.declared.token.TokenKind.TheVariants.{Word, Number, Quoted, Mark}
use Rattle.az_text.specs.Tokens.{is_blank, is_before_line_feed, AllAre, EndsComment, Spells, BeginsWith, NothingBegins}

abbrev pub IsNarrow : TokenKind → Type 0
IsNarrow (Word name) = Unit {0}
IsNarrow (Number n) = n < 2 ^ 127
IsNarrow (Quoted inner) = Unit {0}
IsNarrow (Mark kind) = Unit {0}

abbrev pub token_at : ℕ → TokenKind → ℕ → Token
token_at at kind len = record { kind = kind; from = at; to = at + len }

-- the token before those of the rest; a fault of the rest stays
abbrev pub and_then : Token → Result (List Token) LexFault → Result (List Token) LexFault
and_then first (Ok others) = Ok (first ∷ others)
and_then first (Err fault) = Err fault

-- `Reads at text answer`: what is left of a text from the place `at` on is `text`, and has this answer.
pub data Reads : ℕ → List ℕ → Result (List Token) LexFault → Type 0 where
  ended : {at : ℕ} → Reads at [] (Ok [])
  blank : {at b : ℕ} {rest : List ℕ} {answer : Result (List Token) LexFault} → IsTrue (is_blank b) → Reads (suc at) rest answer → Reads at (b ∷ rest) answer
  comment : {at : ℕ} {answer : Result (List Token) LexFault} (body rest : List ℕ) → AllAre is_before_line_feed body → EndsComment rest → Reads (at + length (47 ∷ 47 ∷ body)) rest answer → Reads at (47 ∷ 47 ∷ (body ++ rest)) answer
  token : {at : ℕ} {answer : Result (List Token) LexFault} (kind : TokenKind) (bytes rest : List ℕ) → BeginsWith kind bytes rest → IsNarrow kind → Reads (at + length bytes) rest answer → Reads at (bytes ++ rest) (and_then (token_at at kind (length bytes)) answer)
  wide : {at : ℕ} (n : ℕ) (bytes rest : List ℕ) → BeginsWith (Number n) bytes rest → 2 ^ 127 ≤ n → Reads at (bytes ++ rest) (Err (WideNumber at))
  bad : {at : ℕ} (text : List ℕ) → NothingBegins text → Reads at text (Err (BadByte at))

-- the answer of a call is this one, unless memory ran out
abbrev pub Answers : Result (List Token) LexFault → Result (List Token) LexFault → Type 0
Answers (Ok tokens) answer = Ok tokens ≡ answer
Answers (Err (BadByte place)) answer = Err (BadByte place) ≡ answer
Answers (Err (WideNumber place)) answer = Err (WideNumber place) ≡ answer
Answers (Err Memory) answer = Unit {0}

-- the answer of a call is one that the text has, unless memory ran out
abbrev pub IsReadOf : List ℕ → Result (List Token) LexFault → Type 0
IsReadOf text (Ok tokens) = Reads 0 text (Ok tokens)
IsReadOf text (Err (BadByte place)) = Reads 0 text (Err (BadByte place))
IsReadOf text (Err (WideNumber place)) = Reads 0 text (Err (WideNumber place))
IsReadOf text (Err Memory) = Unit {0}

-- the tokens stand in the text in order, from the place `at` on, each where its bytes spell it
abbrev pub AreIn : List ℕ → ℕ → List Token → Type 0
AreIn text at [] = at ≤ length text
AreIn text at (first ∷ others) =
    (at ≤ first.from) × (first.from < first.to) × Spells first.kind (slice_range text first.from first.to) × IsNarrow first.kind × AreIn text first.to others
