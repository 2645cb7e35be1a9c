-- Spelled tokens with blanks between, for the crates that print text and have it read back.
use Rattle.std.specs.Prelude.{◌≡◌, ℕ, ◌+◌, ◌<◌, ◌^◌, Bool, false, ◌==◌, List, [], ◌∷◌, ◌++◌, length, Ok}
use Rattle.std.specs.Char.{is_ascii_digit}
use Rattle.std.specs.Fmt.{decimal}
use Rattle.az_text.specs.declared.mark.MarkKind.{MarkKind}
use Rattle.az_text.specs.declared.mark.MarkKind.TheVariants.{Bar, Equal, Less, Greater, Minus}
use Rattle.az_text.specs.declared.token.Token.{Token}
use Rattle.az_text.specs.declared.token.TokenKind.{TokenKind}
use Rattle.az_text.specs.declared.token.TokenKind.TheVariants.{Word, Number, Quoted, Mark}
use Rattle.az_text.specs.Tokens.{is_blank, is_word_byte, is_inner, AllAre, IsWord, quoted, mark_spelling, Spells, BeginsWith}
use Rattle.az_text.specs.Reading.{token_at, Reads}

abbrev pub mark_goes_on : MarkKind → ℕ → Bool
mark_goes_on Bar b = b == 124
mark_goes_on Equal b = b == 61
mark_goes_on Less b = b == 61
mark_goes_on Greater b = b == 61
mark_goes_on Minus b = b == 62
mark_goes_on _ b = false

-- whether a longer token may stand where this byte follows the token
abbrev pub goes_on : TokenKind → ℕ → Bool
goes_on (Word name) b = is_word_byte b
goes_on (Number n) b = is_ascii_digit b
goes_on (Quoted inner) b = false
goes_on (Mark kind) b = mark_goes_on kind b

-- the token ends where this text follows
abbrev pub EndsAt : TokenKind → List ℕ → Type 0
EndsAt kind [] = Unit {0}
EndsAt kind (b ∷ rest) = goes_on kind b ≡ false

-- what has a spelling
abbrev pub IsSpellable : TokenKind → Type 0
IsSpellable (Word name) = IsWord name
IsSpellable (Number n) = n < 2 ^ 127
IsSpellable (Quoted inner) = AllAre is_inner inner
IsSpellable (Mark kind) = Unit {0}

-- the spelling of a token, with no needless digit
abbrev pub spelling : TokenKind → List ℕ
spelling (Word name) = name
spelling (Number n) = decimal n
spelling (Quoted inner) = quoted inner
spelling (Mark kind) = mark_spelling kind

-- a token, and the blanks before it
pub record Piece : Type 0 where
  pub blanks : List ℕ
  pub kind : TokenKind

-- pieces, and the blanks after the last
abbrev pub text_of : List Piece → List ℕ → List ℕ
text_of [] end = end
text_of (piece ∷ pieces) end = piece.blanks ++ (spelling piece.kind ++ text_of pieces end)

-- each token has a spelling and ends where the next piece begins
abbrev pub StandApart : List Piece → List ℕ → Type 0
StandApart [] end = AllAre is_blank end
StandApart (piece ∷ pieces) end = AllAre is_blank piece.blanks × IsSpellable piece.kind × EndsAt piece.kind (text_of pieces end) × StandApart pieces end

-- the tokens of the pieces, of which the first begins at a place
abbrev pub tokens_from : ℕ → List Piece → List Token
tokens_from at [] = []
tokens_from at (piece ∷ pieces) =
    let from = at + length piece.blanks in
    let len = length (spelling piece.kind) in
    token_at from piece.kind len ∷ tokens_from (from + len) pieces

-- Spelling a token, and then something at which it ends, begins with that token.
abbrev pub SpelledTokenIsCut : Type 0
SpelledTokenIsCut = (kind : TokenKind) (bytes rest : List ℕ) → Spells kind bytes → EndsAt kind rest → BeginsWith kind bytes rest

-- A text of spelled tokens that stand apart has those tokens.
abbrev pub PiecesAreRead : Type 0
PiecesAreRead = (pieces : List Piece) (end : List ℕ) → StandApart pieces end → Reads 0 (text_of pieces end) (Ok (tokens_from 0 pieces))
