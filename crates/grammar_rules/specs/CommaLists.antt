-- The readers of lists with commas between, of any item, and of what stands in brackets.
use Rattle.std.specs.Prelude.{ℕ, List, [], ◌∷◌}
use Rattle.az_text.specs.declared.mark.MarkKind.TheVariants.{OpenBracket, CloseBracket, Comma}
use Rattle.az_text.specs.declared.token.Token.{Token}
use Rattle.grammar_rules.specs.Readers.{Reader, read_nothing, read_sequence, read_choice, read_list_of}
use Rattle.grammar_rules.specs.Sides.{behind, before}
use Rattle.grammar_rules.specs.TokenRules.{read_mark}
use Rattle.grammar_rules.specs.Tokens.{mark_class, class_of}

abbrev pub read_next_item : {A : Type 0} → Reader Token A → Reader Token A
read_next_item item = read_sequence behind (read_mark Comma 0) item

-- one item or more
abbrev pub read_some_items : {A : Type 0} → List (List ℕ) → Reader Token A → Reader Token (List A)
read_some_items reserved item = read_list_of (class_of reserved) (mark_class Comma ∷ []) item (read_next_item item)

-- items, which begin in the set, or none
abbrev pub read_items : {A : Type 0} → List (List ℕ) → List ℕ → Reader Token A → Reader Token (List A)
read_items reserved set item = read_choice (class_of reserved) set (read_some_items reserved item) (read_nothing [])

abbrev pub read_in_brackets : {A : Type 0} → Reader Token A → Reader Token A
read_in_brackets p = read_sequence behind (read_mark OpenBracket 0) (read_sequence before p (read_mark CloseBracket 0))
