-- The readers of tokens, of lists of names and of affine sides follow their rules, with the words that are no
-- names in programs.
use Rattle.std.proofs.Common.{ℕ, List, []}
use Rattle.std.specs.Prelude.{◌∷◌}
use Rattle.az_text.specs.declared.mark.MarkKind.{MarkKind}
use Rattle.az_text.specs.declared.token.Token.{Token}
use Rattle.grammar_rules.specs.Rules.{Rule}
use Rattle.grammar_rules.specs.Readers.{Reader}
use Rattle.grammar_rules.specs.Exactness.{Shape, Exact, token_shape}
use Rattle.grammar_rules.specs.Tokens.{mark_class, keyword_class, classes}
use Rattle.grammar_rules.proofs.SideRules as sides
pub use Rattle.grammar_rules.proofs.SideRules.{affine_shape, names_shape}
use Rattle.program_grammar.specs.Words.{reserved, class, mark, keyword, name, number, one_of, read_mark, read_keyword, read_name, read_number, read_one_of}
use Rattle.program_grammar.specs.Grammar.{names, indices, affine, rows_in_brackets}
use Rattle.program_grammar.specs.Readers.{read_names, read_indices, read_affine, read_rows_in_brackets}

abbrev pub Follows : {A : Type 0} → Shape → ℕ → Rule Token A → Reader Token A → Type 0
Follows shape depth rule reader = Exact class shape depth rule rule reader

-- tokens
pub mark_exact : (kind : MarkKind) (weight depth : ℕ) → Follows (token_shape (mark_class kind ∷ [])) depth (mark kind weight) (read_mark kind weight)
mark_exact = sides.mark_exact reserved

pub name_exact : (weight depth : ℕ) → Follows (token_shape (25 ∷ [])) depth (name weight) (read_name weight)
name_exact = sides.name_exact reserved

pub number_exact : (weight depth : ℕ) → Follows (token_shape (23 ∷ [])) depth (number weight) (read_number weight)
number_exact = sides.number_exact reserved

pub keyword_exact : (word : List ℕ) (weight depth : ℕ) → Follows (token_shape (keyword_class reserved word ∷ [])) depth (keyword word weight) (read_keyword word weight)
keyword_exact = sides.keyword_exact reserved

pub one_of_exact : {A : Type 0} (table : List (ℕ × A)) (weight depth : ℕ) → Follows (token_shape (classes table)) depth (one_of table weight) (read_one_of table weight)
one_of_exact table weight depth = sides.one_of_exact reserved table weight depth

-- names and affine sides
pub names_exact : (depth : ℕ) → Follows names_shape depth names read_names
names_exact = sides.names_exact reserved

pub indices_exact : (depth : ℕ) → Follows (token_shape (2 ∷ [])) depth indices read_indices
indices_exact = sides.indices_exact reserved

pub affine_exact : (depth : ℕ) → Follows affine_shape depth affine read_affine
affine_exact = sides.affine_exact reserved

pub rows_in_brackets_exact : (depth : ℕ) → Follows (token_shape (2 ∷ [])) depth rows_in_brackets read_rows_in_brackets
rows_in_brackets_exact = sides.rows_in_brackets_exact reserved
