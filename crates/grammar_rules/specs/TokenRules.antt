-- The rules of single tokens, with their weights, and their readers. The words that are no names are given.
use Rattle.std.specs.Prelude.{ℕ, Bool, true, false, if◌then◌else◌, List, [], ◌∷◌, Option, Some, None, map, bytes_eq}
use denote.Ref.{Bor}
use Rattle.az_text.specs.declared.mark.MarkKind.{MarkKind}
use Rattle.az_text.specs.declared.mark.MarkKind.TheVariants.{Plus, Minus}
use Rattle.az_text.specs.declared.token.Token.{Token}
use Rattle.az_text.specs.declared.token.TokenKind.{TokenKind}
use Rattle.az_text.specs.declared.token.TokenKind.TheVariants.{Word, Number, Quoted, Mark}
use Rattle.grammar_rules.specs.Readers.{Reader, read_token}
use Rattle.grammar_rules.specs.Rules.{Rule, token}
use Rattle.grammar_rules.specs.Tokens.{mark_class, keyword_class, mark_of, number_of, quoted_of, name_of, keyword_of, chosen_of}

-- words that are lent
abbrev pub words : List (Bor (List ℕ)) → List (List ℕ)
words lent = map (λ one. one.now) lent

abbrev pub mark : MarkKind → ℕ → Rule Token (Unit {0})
mark kind weight = token (mark_of kind) weight

abbrev pub keyword : List ℕ → ℕ → Rule Token (Unit {0})
keyword word weight = token (keyword_of word) weight

abbrev pub number : ℕ → Rule Token ℕ
number weight = token number_of weight

abbrev pub name : List (List ℕ) → ℕ → Rule Token (List ℕ)
name reserved weight = token (name_of reserved) weight

-- a token of a table, by its class
abbrev pub one_of : {A : Type 0} → List (List ℕ) → List (ℕ × A) → ℕ → Rule Token A
one_of reserved table weight = token (chosen_of reserved table) weight

-- a sign: whether it is a minus
abbrev pub signs : List (ℕ × Bool)
signs = (mark_class Plus, false) ∷ (mark_class Minus, true) ∷ []

-- a word of a table, reserved or not, with the value beside it
abbrev pub worded : {A : Type 0} → List (List ℕ × A) → List ℕ → Option A
worded [] word = None
worded (row ∷ rows) word = if bytes_eq word row.0 then Some row.1 else worded rows word

abbrev pub kind_worded : {A : Type 0} → List (List ℕ × A) → TokenKind → Option A
kind_worded table (Word word) = worded table word
kind_worded table (Number n) = None
kind_worded table (Quoted text) = None
kind_worded table (Mark kind) = None

abbrev pub worded_of : {A : Type 0} → List (List ℕ × A) → Token → Option A
worded_of table t = kind_worded table t.kind

abbrev pub word_of : {A : Type 0} → List (List ℕ × A) → ℕ → Rule Token A
word_of table weight = token (worded_of table) weight

abbrev pub classes_of_words : {A : Type 0} → List (List ℕ) → List (List ℕ × A) → List ℕ
classes_of_words reserved [] = []
classes_of_words reserved (row ∷ rows) = keyword_class reserved row.0 ∷ classes_of_words reserved rows

-- a table whose words are lent
abbrev pub word_table : {A : Type 0} → List (Bor (List ℕ) × A) → List (List ℕ × A)
word_table table = map (λ row. (row.0.now, row.1)) table

-- the readers
abbrev pub read_mark : MarkKind → ℕ → Reader Token (Unit {0})
read_mark kind weight = read_token (mark_of kind) weight

abbrev pub read_keyword : List ℕ → ℕ → Reader Token (Unit {0})
read_keyword word weight = read_token (keyword_of word) weight

abbrev pub read_number : ℕ → Reader Token ℕ
read_number weight = read_token number_of weight

abbrev pub read_name : List (List ℕ) → ℕ → Reader Token (List ℕ)
read_name reserved weight = read_token (name_of reserved) weight

abbrev pub read_one_of : {A : Type 0} → List (List ℕ) → List (ℕ × A) → ℕ → Reader Token A
read_one_of reserved table weight = read_token (chosen_of reserved table) weight

abbrev pub read_word_of : {A : Type 0} → List (List ℕ × A) → ℕ → Reader Token A
read_word_of table weight = read_token (worded_of table) weight
