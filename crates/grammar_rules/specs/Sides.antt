-- What programs and scripts share: lists of names, and affine sides. The words that are no names are given.
use Rattle.std.specs.Prelude.{ℕ, Bool, false, List, [], ◌∷◌, Option, Some}
use Rattle.az_text.specs.declared.mark.MarkKind.TheVariants.{OpenBracket, CloseBracket, Comma, Star}
use Rattle.az_text.specs.declared.token.Token.{Token}
use Rattle.grammar_rules.specs.Rules.{Rule, give, mapped_to, sequence, choice, optional, list_of}
use Rattle.grammar_rules.specs.TokenRules.{mark, name, number, one_of, signs}
use Rattle.grammar_rules.specs.declared.term.Term.{Term}

-- of a sequence, what stands behind a mark or before it
abbrev pub behind : {A B : Type 0} → A → B → B
behind a b = b

abbrev pub before : {A B : Type 0} → A → B → A
before a b = a

abbrev pub pair : {A B : Type 0} → A → B → A × B
pair a b = (a, b)

-- a factor and the name behind it
abbrev pub Scaled : Type 0
Scaled = ℕ × Option (List ℕ)

abbrev pub once : List ℕ → Scaled
once name = (1, Some name)

abbrev pub signed : Bool → Scaled → Term
signed negative part = record { negative = negative; factor = part.0; name = part.1 }

-- nothing, or parts with commas between
abbrev pub comma_list : {A : Type 0} → Rule Token A → Rule Token (List A)
comma_list p = choice (list_of p (sequence behind (mark Comma 0) p)) (give [])

abbrev pub in_brackets : {A : Type 0} → Rule Token A → Rule Token A
in_brackets p = sequence behind (mark OpenBracket 0) (sequence before p (mark CloseBracket 0))

module _ (reserved : List (List ℕ)) where
  abbrev pub names : Rule Token (List (List ℕ))
  names = comma_list (name reserved 0)

  abbrev pub indices : Rule Token (List (List ℕ))
  indices = in_brackets names

  abbrev pub scaled : Rule Token Scaled
  scaled = choice (sequence pair (number 0) (optional (choice (sequence behind (mark Star 0) (name reserved 0)) (name reserved 0)))) (mapped_to once (name reserved 0))

  abbrev pub signed_term : Rule Token Term
  signed_term = sequence signed (one_of reserved signs 0) scaled

  abbrev pub first_term : Rule Token Term
  first_term = choice signed_term (mapped_to (signed false) scaled)

  abbrev pub affine : Rule Token (List Term)
  affine = list_of first_term signed_term

  abbrev pub rows_in_brackets : Rule Token (List (List Term))
  rows_in_brackets = in_brackets (comma_list affine)
