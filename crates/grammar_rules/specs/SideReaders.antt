-- The readers of lists of names and of affine sides, with their look-ahead sets.
use Rattle.std.specs.Prelude.{ℕ, false, List, [], ◌∷◌}
use Rattle.az_text.specs.declared.mark.MarkKind.TheVariants.{OpenBracket, CloseBracket, Comma, Plus, Minus, Star}
use Rattle.az_text.specs.declared.token.Token.{Token}
use Rattle.grammar_rules.specs.Readers.{Reader, read_nothing, read_mapped, read_sequence, read_choice, read_optional, read_list_of}
use Rattle.grammar_rules.specs.Sides.{behind, before, pair, Scaled, once, signed}
use Rattle.grammar_rules.specs.TokenRules.{read_mark, read_name, read_number, read_one_of, signs}
use Rattle.grammar_rules.specs.Tokens.{mark_class, number_class, name_class, class_of}
use Rattle.grammar_rules.specs.declared.term.Term.{Term}

-- the tokens with which a side begins
abbrev pub side_classes : List ℕ
side_classes = mark_class Plus ∷ mark_class Minus ∷ number_class ∷ name_class ∷ []

abbrev pub sign_classes : List ℕ
sign_classes = mark_class Plus ∷ mark_class Minus ∷ []

module _ (reserved : List (List ℕ)) where
  abbrev pub read_next_name : Reader Token (List ℕ)
  read_next_name = read_sequence behind (read_mark Comma 0) (read_name reserved 0)

  abbrev pub read_some_names : Reader Token (List (List ℕ))
  read_some_names = read_list_of (class_of reserved) (mark_class Comma ∷ []) (read_name reserved 0) read_next_name

  abbrev pub read_names : Reader Token (List (List ℕ))
  read_names = read_choice (class_of reserved) (name_class ∷ []) read_some_names (read_nothing [])

  abbrev pub read_indices : Reader Token (List (List ℕ))
  read_indices = read_sequence behind (read_mark OpenBracket 0) (read_sequence before read_names (read_mark CloseBracket 0))

  -- the name behind a factor, with a star before it or without
  abbrev pub read_multiplied : Reader Token (List ℕ)
  read_multiplied = read_choice (class_of reserved) (mark_class Star ∷ []) (read_sequence behind (read_mark Star 0) (read_name reserved 0)) (read_name reserved 0)

  abbrev pub read_scaled : Reader Token Scaled
  read_scaled =
      read_choice (class_of reserved) (number_class ∷ [])
      (read_sequence pair (read_number 0) (read_optional (class_of reserved) (mark_class Star ∷ name_class ∷ []) read_multiplied))
      (read_mapped once (read_name reserved 0))

  abbrev pub read_signed_term : Reader Token Term
  read_signed_term = read_sequence signed (read_one_of reserved signs 0) read_scaled

  abbrev pub read_first_term : Reader Token Term
  read_first_term = read_choice (class_of reserved) sign_classes read_signed_term (read_mapped (signed false) read_scaled)

  abbrev pub read_affine : Reader Token (List Term)
  read_affine = read_list_of (class_of reserved) sign_classes read_first_term read_signed_term

  abbrev pub read_next_affine : Reader Token (List Term)
  read_next_affine = read_sequence behind (read_mark Comma 0) read_affine

  abbrev pub read_some_affines : Reader Token (List (List Term))
  read_some_affines = read_list_of (class_of reserved) (mark_class Comma ∷ []) read_affine read_next_affine

  abbrev pub read_affines : Reader Token (List (List Term))
  read_affines = read_choice (class_of reserved) side_classes read_some_affines (read_nothing [])

  abbrev pub read_rows_in_brackets : Reader Token (List (List Term))
  read_rows_in_brackets = read_sequence behind (read_mark OpenBracket 0) (read_sequence before read_affines (read_mark CloseBracket 0))
