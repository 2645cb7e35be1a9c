-- The classes of tokens, and the values of tokens in a grammar with reserved words. The words are
-- numbered in their order, behind the marks, numbers, quoted texts and names.
use Rattle.std.specs.Prelude.{ℕ, suc, ◌==◌, if◌then◌else◌, List, [], ◌∷◌, Option, Some, None, bytes_eq}
use Rattle.az_text.specs.declared.mark.MarkKind.{MarkKind}
use Rattle.az_text.specs.declared.mark.MarkKind.TheVariants.{OpenBrace, CloseBrace, OpenBracket, CloseBracket, OpenParen, CloseParen, Bar, BarBar, Comma, Colon, Semicolon, Dot, Equal, EqualEqual, LessEqual, Less, GreaterEqual, Greater, AndAnd, Plus, Minus, Star, Arrow}
use Rattle.az_text.specs.declared.token.Token.{Token}
use Rattle.az_text.specs.declared.token.TokenKind.{TokenKind}
use Rattle.az_text.specs.declared.token.TokenKind.TheVariants.{Word, Number, Quoted, Mark}

abbrev pub mark_class : MarkKind → ℕ
mark_class OpenBrace = 0
mark_class CloseBrace = 1
mark_class OpenBracket = 2
mark_class CloseBracket = 3
mark_class OpenParen = 4
mark_class CloseParen = 5
mark_class Bar = 6
mark_class BarBar = 7
mark_class Comma = 8
mark_class Colon = 9
mark_class Semicolon = 10
mark_class Dot = 11
mark_class Equal = 12
mark_class EqualEqual = 13
mark_class LessEqual = 14
mark_class Less = 15
mark_class GreaterEqual = 16
mark_class Greater = 17
mark_class AndAnd = 18
mark_class Plus = 19
mark_class Minus = 20
mark_class Star = 21
mark_class Arrow = 22

abbrev pub number_class : ℕ
number_class = 23

abbrev pub quoted_class : ℕ
quoted_class = 24

abbrev pub name_class : ℕ
name_class = 25

abbrev pub word_class : List (List ℕ) → ℕ → List ℕ → ℕ
word_class [] n word = name_class
word_class (w ∷ ws) n word = if bytes_eq word w then n else word_class ws (suc n) word

abbrev pub kind_class : List (List ℕ) → TokenKind → ℕ
kind_class words (Word word) = word_class words 26 word
kind_class words (Number n) = number_class
kind_class words (Quoted text) = quoted_class
kind_class words (Mark kind) = mark_class kind

abbrev pub class_of : List (List ℕ) → Token → ℕ
class_of words t = kind_class words t.kind

-- the class of a reserved word
abbrev pub keyword_class : List (List ℕ) → List ℕ → ℕ
keyword_class words word = word_class words 26 word

-- a mark
abbrev pub kind_mark : MarkKind → TokenKind → Option (Unit {0})
kind_mark mark (Mark kind) = if mark_class kind == mark_class mark then Some tt else None
kind_mark mark (Word word) = None
kind_mark mark (Number n) = None
kind_mark mark (Quoted text) = None

abbrev pub mark_of : MarkKind → Token → Option (Unit {0})
mark_of mark t = kind_mark mark t.kind

-- a number
abbrev pub kind_number : TokenKind → Option ℕ
kind_number (Number n) = Some n
kind_number (Word word) = None
kind_number (Quoted text) = None
kind_number (Mark kind) = None

abbrev pub number_of : Token → Option ℕ
number_of t = kind_number t.kind

-- a quoted text
abbrev pub kind_quoted : TokenKind → Option (List ℕ)
kind_quoted (Quoted text) = Some text
kind_quoted (Word word) = None
kind_quoted (Number n) = None
kind_quoted (Mark kind) = None

abbrev pub quoted_of : Token → Option (List ℕ)
quoted_of t = kind_quoted t.kind

-- a word that is not reserved
abbrev pub kind_name : List (List ℕ) → TokenKind → Option (List ℕ)
kind_name words (Word word) = if word_class words 26 word == name_class then Some word else None
kind_name words (Number n) = None
kind_name words (Quoted text) = None
kind_name words (Mark kind) = None

abbrev pub name_of : List (List ℕ) → Token → Option (List ℕ)
name_of words t = kind_name words t.kind

-- a reserved word
abbrev pub kind_keyword : List ℕ → TokenKind → Option (Unit {0})
kind_keyword keyword (Word word) = if bytes_eq word keyword then Some tt else None
kind_keyword keyword (Number n) = None
kind_keyword keyword (Quoted text) = None
kind_keyword keyword (Mark kind) = None

abbrev pub keyword_of : List ℕ → Token → Option (Unit {0})
keyword_of keyword t = kind_keyword keyword t.kind

-- a token of a table, by its class
abbrev pub chosen : {A : Type 0} → List (ℕ × A) → ℕ → Option A
chosen [] c = None
chosen (row ∷ rows) c = if c == row.0 then Some row.1 else chosen rows c

abbrev pub chosen_of : {A : Type 0} → List (List ℕ) → List (ℕ × A) → Token → Option A
chosen_of words table t = chosen table (class_of words t)

abbrev pub classes : {A : Type 0} → List (ℕ × A) → List ℕ
classes [] = []
classes (row ∷ rows) = row.0 ∷ classes rows
