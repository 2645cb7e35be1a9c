-- Texts that are written and read back: lumps, which are tokens and blanks one after another.
use Rattle.std.specs.Prelude.{◌≡◌, ℕ, suc, ◌+◌, Bool, false, not, ◌||◌, ◌==◌, List, [], ◌∷◌, ◌++◌, length, IsTrue, Ok}
use Rattle.az_text.specs.declared.token.Token.{Token}
use Rattle.az_text.specs.declared.token.TokenKind.{TokenKind}
use Rattle.az_text.specs.Pieces.{EndsAt, IsSpellable, spelling}
use Rattle.az_text.specs.Reading.{token_at, Reads}
use Rattle.az_text.specs.Tokens.{is_blank, is_word_byte}

pub data Lump : Type 0 where
  ink : TokenKind → Lump
  blank : ℕ → Lump

-- the bytes
abbrev pub bytes_of : List Lump → List ℕ
bytes_of [] = []
bytes_of (ink kind ∷ lumps) = spelling kind ++ bytes_of lumps
bytes_of (blank b ∷ lumps) = b ∷ bytes_of lumps

-- the tokens, where the first byte stands at a place
abbrev pub tokens_at : ℕ → List Lump → List Token
tokens_at at [] = []
tokens_at at (ink kind ∷ lumps) = token_at at kind (length (spelling kind)) ∷ tokens_at (at + length (spelling kind)) lumps
tokens_at at (blank b ∷ lumps) = tokens_at (suc at) lumps

-- the place behind them
abbrev pub end_of : ℕ → List Lump → ℕ
end_of at lumps = at + length (bytes_of lumps)

-- Each token has a spelling and ends where the next lumps begin, or the bytes behind the last.
abbrev pub AreApart : List Lump → List ℕ → Type 0
AreApart [] after = Unit {0}
AreApart (ink kind ∷ lumps) after = IsSpellable kind × EndsAt kind (bytes_of lumps ++ after) × AreApart lumps after
AreApart (blank b ∷ lumps) after = IsTrue (is_blank b) × AreApart lumps after

-- a byte at which each token ends: it goes on in no word, number or mark
abbrev pub is_closing : ℕ → Bool
is_closing b = not (is_word_byte b || b == 124 || b == 61 || b == 62)

abbrev pub IsClosed : List ℕ → Type 0
IsClosed [] = Unit {0}
IsClosed (b ∷ rest) = IsTrue (is_closing b)

-- they stand apart whatever follows that each token ends at
abbrev pub AreTight : List Lump → Type 0
AreTight lumps = (after : List ℕ) → IsClosed after → AreApart lumps after

-- lumps that each token ends at, whatever follows
abbrev pub AreClosing : List Lump → Type 0
AreClosing lumps = (after : List ℕ) → IsClosed after → IsClosed (bytes_of lumps ++ after)

-- The bytes of lumps that stand apart have the lumps' tokens, and lumps one after another are tight where
-- the first are tight and the others are tight and closing.
pub record LumpsAreRead : Type 0 where
  pub read : (lumps : List Lump) → AreApart lumps [] → Reads 0 (bytes_of lumps) (Ok (tokens_at 0 lumps))
  pub joined : (first second : List Lump) → AreTight first → AreTight second → AreClosing second → AreTight (first ++ second)
  pub tokens : (at : ℕ) (first second : List Lump) → tokens_at at (first ++ second) ≡ tokens_at at first ++ tokens_at (end_of at first) second
