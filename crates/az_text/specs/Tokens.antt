-- The tokens of programs and scripts: which bytes spell which token, and which token a text begins with.
use Rattle.std.specs.Prelude.{◌≡◌, ℕ, ◌≤◌, Bool, false, not, ◌&&◌, ◌||◌, ◌==◌, nat_le, List, [], ◌∷◌, ◌++◌, length, codes, IsTrue}
use Rattle.std.specs.Char.{is_ascii_alphabetic, is_ascii_alphanumeric, is_ascii_digit}
use Rattle.std.specs.List.{AllByRecursion}
use Rattle.std.specs.Str.Parse.{digits_value}
use Rattle.az_text.specs.declared.mark.MarkKind.{MarkKind}
use Rattle.az_text.specs.declared.mark.MarkKind.TheVariants.{OpenBrace, CloseBrace, OpenBracket, CloseBracket, OpenParen, CloseParen, Bar, BarBar, Comma, Colon, Semicolon, Dot, Equal, EqualEqual, LessEqual, Less, GreaterEqual, Greater, AndAnd, Plus, Minus, Star, Arrow}
use Rattle.az_text.specs.declared.token.TokenKind.{TokenKind}
use Rattle.az_text.specs.declared.token.TokenKind.TheVariants.{Word, Number, Quoted, Mark}

-- space, tab, line feed and carriage return
abbrev pub is_blank : ℕ → Bool
is_blank b = b == 32 || b == 9 || b == 10 || b == 13

-- a letter, a digit or an underscore
abbrev pub is_word_byte : ℕ → Bool
is_word_byte b = is_ascii_alphanumeric b || b == 95

-- what may stand between quotes: 0x20 to 0x7e, but no quote
abbrev pub is_inner : ℕ → Bool
is_inner b = nat_le 32 b && nat_le b 126 && not (b == 34)

abbrev pub is_before_line_feed : ℕ → Bool
is_before_line_feed b = not (b == 10)

abbrev pub AllAre : (ℕ → Bool) → List ℕ → Type 0
AllAre test bytes = AllByRecursion (λ b. IsTrue (test b)) bytes

-- a letter, then letters, digits and underscores
abbrev pub IsWord : List ℕ → Type 0
IsWord [] = ⊥
IsWord (b ∷ bytes) = IsTrue (is_ascii_alphabetic b) × AllAre is_word_byte bytes

-- one or more digits
abbrev pub IsNumber : List ℕ → Type 0
IsNumber [] = ⊥
IsNumber (b ∷ bytes) = AllAre is_ascii_digit (b ∷ bytes)

abbrev pub quoted : List ℕ → List ℕ
quoted inner = 34 ∷ (inner ++ 34 ∷ [])

abbrev pub mark_spelling : MarkKind → List ℕ
mark_spelling OpenBrace = codes "{"
mark_spelling CloseBrace = codes "}"
mark_spelling OpenBracket = codes "["
mark_spelling CloseBracket = codes "]"
mark_spelling OpenParen = codes "("
mark_spelling CloseParen = codes ")"
mark_spelling Bar = codes "|"
mark_spelling BarBar = codes "||"
mark_spelling Comma = codes ","
mark_spelling Colon = codes ":"
mark_spelling Semicolon = codes ";"
mark_spelling Dot = codes "."
mark_spelling Equal = codes "="
mark_spelling EqualEqual = codes "=="
mark_spelling LessEqual = codes "<="
mark_spelling Less = codes "<"
mark_spelling GreaterEqual = codes ">="
mark_spelling Greater = codes ">"
mark_spelling AndAnd = codes "&&"
mark_spelling Plus = codes "+"
mark_spelling Minus = codes "-"
mark_spelling Star = codes "*"
mark_spelling Arrow = codes "->"

-- the bytes spell this token; a number may be of any size here
abbrev pub Spells : TokenKind → List ℕ → Type 0
Spells (Word name) bytes = IsWord bytes × (name ≡ bytes)
Spells (Number n) bytes = IsNumber bytes × (n ≡ digits_value 10 bytes)
Spells (Quoted inner) bytes = AllAre is_inner inner × (bytes ≡ quoted inner)
Spells (Mark kind) bytes = bytes ≡ mark_spelling kind

-- the text `bytes ++ rest` begins with this token, of these bytes: no longer token begins there
pub record BeginsWith (kind : TokenKind) (bytes rest : List ℕ) : Type 0 where
  pub spelled : Spells kind bytes
  pub longest : (other : TokenKind) (more after : List ℕ) → Spells other more → more ++ after ≡ bytes ++ rest → length more ≤ length bytes

-- a comment goes up to the line feed, or to the end
abbrev pub EndsComment : List ℕ → Type 0
EndsComment [] = Unit {0}
EndsComment (b ∷ rest) = b ≡ 10

-- neither a blank nor a comment nor a token
pub record NothingBegins (text : List ℕ) : Type 0 where
  pub some_byte : text ≡ [] → ⊥
  pub no_blank : (b : ℕ) (rest : List ℕ) → text ≡ b ∷ rest → is_blank b ≡ false
  pub no_comment : (rest : List ℕ) → text ≡ 47 ∷ 47 ∷ rest → ⊥
  pub no_token : (kind : TokenKind) (bytes rest : List ℕ) → Spells kind bytes → text ≡ bytes ++ rest → ⊥
