-- The readers of tokens, of lists of names and of affine sides follow their rules.
use Rattle.std.proofs.Common.{◌≡◌, ℕ, true, false, if◌then◌else◌, ◌||◌, List, [], ◌∷◌, Option, Some, None, bytes_eq, refl, sym, subst}
use Rattle.std.proofs.lemmas.Bool.{eq-eqb}
use Rattle.std.proofs.lemmas.Slice.Eq.{bytes_eq-Decides}
use Rattle.std.specs.Prelude.{◌==◌}
use Rattle.az_text.specs.declared.mark.MarkKind.{MarkKind}
use Rattle.az_text.specs.declared.mark.MarkKind.TheVariants.{OpenBracket, CloseBracket, Comma, Star}
use Rattle.az_text.specs.declared.token.Token.{Token}
use Rattle.az_text.specs.declared.token.TokenKind.{TokenKind}
use Rattle.az_text.specs.declared.token.TokenKind.TheVariants.{Word, Number, Quoted, Mark}
use Rattle.grammar_rules.specs.Rules.{Rule, sequence}
use Rattle.grammar_rules.specs.Readers.{Reader, has}
use Rattle.grammar_rules.specs.Exactness.{Shape, Exact, IsWithin, token_shape, nothing_shape, sequence_shape, choice_shape, many_shape}
use Rattle.grammar_rules.specs.Tokens.{mark_class, mark_of, number_of, name_of, keyword_of, keyword_class, chosen_of, classes, class_of, kind_class, word_class}
use Rattle.grammar_rules.specs.TokenRules.{mark, keyword, number, name, one_of, word_of, signs, worded, kind_worded, worded_of, classes_of_words, read_mark, read_keyword, read_number, read_name, read_one_of, read_word_of}
use Rattle.grammar_rules.specs.Sides.{behind, before, pair, once, signed, comma_list, names, indices, scaled, signed_term, first_term, affine, rows_in_brackets}
use Rattle.grammar_rules.specs.SideReaders.{read_next_name, read_names, read_indices, read_scaled, read_signed_term, read_first_term, read_affine, read_next_affine, read_affines, read_rows_in_brackets}
use Rattle.grammar_rules.proofs.Choice.{choice_exact, optional_exact}
use Rattle.grammar_rules.proofs.Many.{list_of_exact}
use Rattle.grammar_rules.proofs.Mapped.{mapped_exact}
use Rattle.grammar_rules.proofs.Sequence.{sequence_exact}
use Rattle.grammar_rules.proofs.Token.{token_exact, nothing_exact}
use Rattle.grammar_rules.proofs.Tokens.{mark_within, number_within, name_within, keyword_within, chosen_within}

-- a word of a table stands in its class
worded_has : {A : Type 0} (reserved : List (List ℕ)) (table : List (List ℕ × A)) (word : List ℕ) (a : A) → worded table word ≡ Some a → has (classes_of_words reserved table) (word_class reserved 26 word) ≡ true
worded_has reserved [] word a = λ is. absurd (cc)
worded_has reserved (row ∷ rows) word a =
    elim (bytes_eq word row.0) as (λ b. bytes_eq word row.0 ≡ b → (if b then Some row.1 else worded rows word) ≡ Some a
    → (word_class reserved 26 word == word_class reserved 26 row.0 || has (classes_of_words reserved rows) (word_class reserved 26 word)) ≡ true) [
      | true ↦ λ e is. in_front (word_class reserved 26 word == word_class reserved 26 row.0) (has (classes_of_words reserved rows) (word_class reserved 26 word)) (same_class word row.0 ((bytes_eq-Decides word row.0).0 e))
      | false ↦ λ e is. behind_it (word_class reserved 26 word == word_class reserved 26 row.0) (has (classes_of_words reserved rows) (word_class reserved 26 word)) (worded_has reserved rows word a is)
    ] refl where
      same_class : (u v : List ℕ) → u ≡ v → word_class reserved 26 u == word_class reserved 26 v ≡ true
      same_class u v is = subst (λ (w : List ℕ). word_class reserved 26 u == word_class reserved 26 w ≡ true) is (eq-eqb (word_class reserved 26 u) (word_class reserved 26 u) refl)

      in_front : (a b : _) → a ≡ true → (a || b) ≡ true
      in_front a b is = rw is refl

      behind_it : (a b : _) → b ≡ true → (a || b) ≡ true
      behind_it true b is = refl
      behind_it false b is = is

kind_worded_within : {A : Type 0} (reserved : List (List ℕ)) (table : List (List ℕ × A)) (kind : TokenKind) (a : A) → kind_worded table kind ≡ Some a → has (classes_of_words reserved table) (kind_class reserved kind) ≡ true
kind_worded_within reserved table (Word word) a is = worded_has reserved table word a is
kind_worded_within reserved table (Number n) a is = absurd (cc)
kind_worded_within reserved table (Quoted text) a is = absurd (cc)
kind_worded_within reserved table (Mark kind) a is = absurd (cc)

worded_within : {A : Type 0} (reserved : List (List ℕ)) (table : List (List ℕ × A)) → IsWithin (class_of reserved) (classes_of_words reserved table) (worded_of table)
worded_within reserved table t a is = kind_worded_within reserved table t.kind a is

-- the shapes
abbrev pub names_shape : Shape
names_shape = record { first = 25 ∷ []; empty = true; more = 25 ∷ 8 ∷ [] }

abbrev pub scaled_shape : Shape
scaled_shape = record { first = 23 ∷ 25 ∷ []; empty = false; more = 21 ∷ 25 ∷ [] }

abbrev pub signed_term_shape : Shape
signed_term_shape = record { first = 19 ∷ 20 ∷ []; empty = false; more = 21 ∷ 25 ∷ [] }

abbrev pub first_term_shape : Shape
first_term_shape = record { first = 19 ∷ 20 ∷ 23 ∷ 25 ∷ []; empty = false; more = 21 ∷ 25 ∷ 21 ∷ 25 ∷ [] }

abbrev pub affine_shape : Shape
affine_shape = record { first = 19 ∷ 20 ∷ 23 ∷ 25 ∷ []; empty = false; more = 21 ∷ 25 ∷ 21 ∷ 25 ∷ 19 ∷ 20 ∷ 21 ∷ 25 ∷ [] }

abbrev pub next_affine_shape : Shape
next_affine_shape = record { first = 8 ∷ []; empty = false; more = 21 ∷ 25 ∷ 21 ∷ 25 ∷ 19 ∷ 20 ∷ 21 ∷ 25 ∷ [] }

abbrev pub affines_shape : Shape
affines_shape = choice_shape (19 ∷ 20 ∷ 23 ∷ 25 ∷ []) (sequence_shape affine_shape (many_shape (8 ∷ []) next_affine_shape)) nothing_shape

module _ (reserved : List (List ℕ)) where
  abbrev pub Follows : {A : Type 0} → Shape → ℕ → Rule Token A → Reader Token A → Type 0
  Follows shape depth rule reader = Exact (class_of reserved) shape depth rule rule reader

  -- tokens
  pub mark_exact : (kind : MarkKind) (weight depth : ℕ) → Follows (token_shape (mark_class kind ∷ [])) depth (mark kind weight) (read_mark kind weight)
  mark_exact kind weight depth = token_exact (class_of reserved) (mark_class kind ∷ []) (mark_of kind) weight (mark_within reserved kind) depth

  pub name_exact : (weight depth : ℕ) → Follows (token_shape (25 ∷ [])) depth (name reserved weight) (read_name reserved weight)
  name_exact weight depth = token_exact (class_of reserved) (25 ∷ []) (name_of reserved) weight (name_within reserved) depth

  pub number_exact : (weight depth : ℕ) → Follows (token_shape (23 ∷ [])) depth (number weight) (read_number weight)
  number_exact weight depth = token_exact (class_of reserved) (23 ∷ []) number_of weight (number_within reserved) depth

  pub keyword_exact : (word : List ℕ) (weight depth : ℕ) → Follows (token_shape (keyword_class reserved word ∷ [])) depth (keyword word weight) (read_keyword word weight)
  keyword_exact word weight depth = token_exact (class_of reserved) (keyword_class reserved word ∷ []) (keyword_of word) weight (keyword_within reserved word) depth

  pub one_of_exact : {A : Type 0} (table : List (ℕ × A)) (weight depth : ℕ) → Follows (token_shape (classes table)) depth (one_of reserved table weight) (read_one_of reserved table weight)
  one_of_exact table weight depth = token_exact (class_of reserved) (classes table) (chosen_of reserved table) weight (chosen_within reserved table) depth

  pub word_of_exact : {A : Type 0} (table : List (List ℕ × A)) (weight depth : ℕ) → Follows (token_shape (classes_of_words reserved table)) depth (word_of table weight) (read_word_of table weight)
  word_of_exact table weight depth = token_exact (class_of reserved) (classes_of_words reserved table) (worded_of table) weight (worded_within reserved table) depth

  -- names
  pub next_name_exact : (depth : ℕ) → Follows (token_shape (8 ∷ [])) depth (sequence behind (mark Comma 0) (name reserved 0)) (read_next_name reserved)
  next_name_exact depth = sequence_exact behind (mark_exact Comma 0 depth) (name_exact 0 depth) refl

  pub names_exact : (depth : ℕ) → Follows names_shape depth (names reserved) (read_names reserved)
  names_exact depth = choice_exact (25 ∷ []) (list_of_exact (8 ∷ []) (name_exact 0 depth) (next_name_exact depth) refl refl refl refl) (nothing_exact (class_of reserved) [] depth) refl refl refl

  pub indices_exact : (depth : ℕ) → Follows (token_shape (2 ∷ [])) depth (indices reserved) (read_indices reserved)
  indices_exact depth = sequence_exact behind (mark_exact OpenBracket 0 depth) (sequence_exact before (names_exact depth) (mark_exact CloseBracket 0 depth) refl) refl

  -- affine sides
  scaled_exact : (depth : ℕ) → Follows scaled_shape depth (scaled reserved) (read_scaled reserved)
  scaled_exact depth =
      choice_exact (23 ∷ [])
      (sequence_exact pair (number_exact 0 depth)
      (optional_exact (21 ∷ 25 ∷ []) (choice_exact (21 ∷ []) (sequence_exact behind (mark_exact Star 0 depth) (name_exact 0 depth) refl) (name_exact 0 depth) refl refl refl) refl refl) refl)
      (mapped_exact once (name_exact 0 depth)) refl refl refl

  pub signed_term_exact : (depth : ℕ) → Follows signed_term_shape depth (signed_term reserved) (read_signed_term reserved)
  signed_term_exact depth = sequence_exact signed (one_of_exact signs 0 depth) (scaled_exact depth) refl

  first_term_exact : (depth : ℕ) → Follows first_term_shape depth (first_term reserved) (read_first_term reserved)
  first_term_exact depth = choice_exact (19 ∷ 20 ∷ []) (signed_term_exact depth) (mapped_exact (signed false) (scaled_exact depth)) refl refl refl

  pub affine_exact : (depth : ℕ) → Follows affine_shape depth (affine reserved) (read_affine reserved)
  affine_exact depth = list_of_exact (19 ∷ 20 ∷ []) (first_term_exact depth) (signed_term_exact depth) refl refl refl refl

  next_affine_exact : (depth : ℕ) → Follows next_affine_shape depth (sequence behind (mark Comma 0) (affine reserved)) (read_next_affine reserved)
  next_affine_exact depth = sequence_exact behind (mark_exact Comma 0 depth) (affine_exact depth) refl

  pub affines_exact : (depth : ℕ) → Follows affines_shape depth (comma_list (affine reserved)) (read_affines reserved)
  affines_exact depth =
      choice_exact (19 ∷ 20 ∷ 23 ∷ 25 ∷ []) (list_of_exact (8 ∷ []) (affine_exact depth) (next_affine_exact depth) refl refl refl refl) (nothing_exact (class_of reserved) [] depth) refl refl refl

  pub rows_in_brackets_exact : (depth : ℕ) → Follows (token_shape (2 ∷ [])) depth (rows_in_brackets reserved) (read_rows_in_brackets reserved)
  rows_in_brackets_exact depth = sequence_exact behind (mark_exact OpenBracket 0 depth) (sequence_exact before (affines_exact depth) (mark_exact CloseBracket 0 depth) refl) refl
