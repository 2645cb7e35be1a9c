-- The readers of domains and declarations follow their rules.
use Rattle.std.proofs.Common.{ℕ, true, false, [], ◌∷◌, refl}
use Rattle.std.specs.Prelude.{codes}
use Rattle.az_text.specs.declared.mark.MarkKind.TheVariants.{OpenBrace, CloseBrace, Bar, BarBar, Semicolon, AndAnd}
use Rattle.az_text.specs.declared.token.Token.{Token}
use Rattle.grammar_rules.specs.Rules.{Rule, sequence, list_of}
use Rattle.grammar_rules.specs.Readers.{Reader}
use Rattle.grammar_rules.specs.Exactness.{Shape, token_shape, nothing_shape, sequence_shape, choice_shape, many_shape}
use Rattle.grammar_rules.proofs.Choice.{choice_exact}
use Rattle.grammar_rules.proofs.Many.{list_of_exact}
use Rattle.grammar_rules.proofs.Sequence.{sequence_exact}
use Rattle.grammar_rules.proofs.Token.{nothing_exact}
use Rattle.program_grammar.specs.Words.{class, relations, mark}
use Rattle.program_grammar.specs.Values as value
use Rattle.program_grammar.specs.Values.{behind, before, pair}
use Rattle.program_grammar.specs.Grammar.{link, chain, rows, disjuncts, behind_bar, domain, restriction, width_word, declaration, section}
use Rattle.program_grammar.specs.Readers.{read_link, read_chain, read_next_chain, read_rows, read_next_rows, read_disjuncts, read_behind_bar, read_domain, read_restriction, read_width_word, read_declaration, read_declarations, read_section}
use Rattle.program_grammar.proofs.SideRules.{Follows, mark_exact, name_exact, keyword_exact, one_of_exact, names_exact, affine_exact, affine_shape}

abbrev link_shape : Shape
link_shape = record { first = 14 ∷ 15 ∷ 16 ∷ 17 ∷ 12 ∷ 13 ∷ []; empty = false; more = affine_shape.more }

pub link_exact : (depth : ℕ) → Follows link_shape depth link read_link
link_exact depth = sequence_exact value.linked (one_of_exact relations 0 depth) (affine_exact depth) refl

abbrev chain_shape : Shape
chain_shape = sequence_shape affine_shape (sequence_shape link_shape (many_shape (12 ∷ 13 ∷ 14 ∷ 15 ∷ 16 ∷ 17 ∷ []) link_shape))

chain_exact : (depth : ℕ) → Follows chain_shape depth chain read_chain
chain_exact depth =
    sequence_exact value.chained (affine_exact depth) (list_of_exact (12 ∷ 13 ∷ 14 ∷ 15 ∷ 16 ∷ 17 ∷ []) (link_exact depth) (link_exact depth) refl refl refl refl) refl

abbrev next_chain_shape : Shape
next_chain_shape = sequence_shape (token_shape (18 ∷ [])) chain_shape

pub next_chain_exact : (depth : ℕ) → Follows next_chain_shape depth (sequence behind (mark AndAnd 0) chain) read_next_chain
next_chain_exact depth = sequence_exact behind (mark_exact AndAnd 0 depth) (chain_exact depth) refl

abbrev rows_shape : Shape
rows_shape = choice_shape (19 ∷ 20 ∷ 23 ∷ 25 ∷ []) (sequence_shape chain_shape (many_shape (18 ∷ []) next_chain_shape)) nothing_shape

pub rows_exact : (depth : ℕ) → Follows rows_shape depth rows read_rows
rows_exact depth =
    choice_exact (19 ∷ 20 ∷ 23 ∷ 25 ∷ []) (list_of_exact (18 ∷ []) (chain_exact depth) (next_chain_exact depth) refl refl refl refl) (nothing_exact class [] depth) refl refl refl

abbrev next_rows_shape : Shape
next_rows_shape = sequence_shape (token_shape (7 ∷ [])) rows_shape

pub next_rows_exact : (depth : ℕ) → Follows next_rows_shape depth (sequence behind (mark BarBar 0) rows) read_next_rows
next_rows_exact depth = sequence_exact behind (mark_exact BarBar 0 depth) (rows_exact depth) refl

abbrev disjuncts_shape : Shape
disjuncts_shape = sequence_shape rows_shape (many_shape (7 ∷ []) next_rows_shape)

pub disjuncts_exact : (depth : ℕ) → Follows disjuncts_shape depth disjuncts read_disjuncts
disjuncts_exact depth = list_of_exact (7 ∷ []) (rows_exact depth) (next_rows_exact depth) refl refl refl refl

-- the three that stand in braces
rows_behind_bar : (depth : ℕ) → Follows (token_shape (6 ∷ [])) depth (behind_bar rows) (read_behind_bar read_rows)
rows_behind_bar depth = sequence_exact behind (mark_exact Bar 0 depth) (sequence_exact before (rows_exact depth) (mark_exact CloseBrace 0 depth) refl) refl

disjuncts_behind_bar : (depth : ℕ) → Follows (token_shape (6 ∷ [])) depth (behind_bar disjuncts) (read_behind_bar read_disjuncts)
disjuncts_behind_bar depth = sequence_exact behind (mark_exact Bar 0 depth) (sequence_exact before (disjuncts_exact depth) (mark_exact CloseBrace 0 depth) refl) refl

pub restricted_rows_exact : (weight depth : ℕ) → Follows (token_shape (0 ∷ [])) depth (restriction weight rows) (read_restriction weight read_rows)
restricted_rows_exact weight depth = sequence_exact behind (mark_exact OpenBrace weight depth) (rows_behind_bar depth) refl

pub restricted_disjuncts_exact : (weight depth : ℕ) → Follows (token_shape (0 ∷ [])) depth (restriction weight disjuncts) (read_restriction weight read_disjuncts)
restricted_disjuncts_exact weight depth = sequence_exact behind (mark_exact OpenBrace weight depth) (disjuncts_behind_bar depth) refl

pub domain_exact : {A : Type 0} (depth : ℕ) (p : Rule Token A) (reader : Reader Token A) → Follows (token_shape (6 ∷ [])) depth (behind_bar p) (read_behind_bar reader)
    → Follows (token_shape (0 ∷ [])) depth (domain p) (read_domain reader)
domain_exact depth p reader exact = sequence_exact behind (mark_exact OpenBrace 0 depth) (sequence_exact pair (names_exact depth) exact refl) refl

pub domain_rows_exact : (depth : ℕ) → Follows (token_shape (0 ∷ [])) depth (domain rows) (read_domain read_rows)
domain_rows_exact depth = domain_exact depth rows read_rows (rows_behind_bar depth)

-- declarations
abbrev width_word_shape : Shape
width_word_shape = record { first = 31 ∷ 32 ∷ []; empty = true; more = 31 ∷ 32 ∷ [] }

width_word_exact : (depth : ℕ) → Follows width_word_shape depth width_word read_width_word
width_word_exact depth =
    choice_exact (31 ∷ 32 ∷ []) (choice_exact (31 ∷ []) (keyword_exact (codes "int") 0 depth) (keyword_exact (codes "long") 0 depth) refl refl refl) (nothing_exact class tt depth) refl refl refl

abbrev declaration_shape : Shape
declaration_shape = token_shape (31 ∷ 32 ∷ 25 ∷ [])

pub declaration_exact : (depth : ℕ) → Follows declaration_shape depth declaration read_declaration
declaration_exact depth =
    sequence_exact behind (width_word_exact depth)
    (sequence_exact value.declared (name_exact 0 depth)
    (sequence_exact before (domain_exact depth disjuncts read_disjuncts (disjuncts_behind_bar depth)) (mark_exact Semicolon 0 depth) refl) refl) refl

abbrev declarations_shape : Shape
declarations_shape = record { first = 31 ∷ 32 ∷ 25 ∷ []; empty = false; more = 25 ∷ 31 ∷ 32 ∷ [] }

declarations_exact : (depth : ℕ) → Follows declarations_shape depth (list_of declaration declaration) read_declarations
declarations_exact depth = list_of_exact (25 ∷ 31 ∷ 32 ∷ []) (declaration_exact depth) (declaration_exact depth) refl refl refl refl

abbrev pub section_shape : ℕ → Shape
section_shape c = record { first = c ∷ []; empty = true; more = c ∷ 25 ∷ 31 ∷ 32 ∷ [] }

pub input_exact : (depth : ℕ) → Follows (section_shape 27) depth (section (codes "input")) (read_section 27 (codes "input"))
input_exact depth = choice_exact (27 ∷ []) (sequence_exact behind (keyword_exact (codes "input") 0 depth) (declarations_exact depth) refl) (nothing_exact class [] depth) refl refl refl

pub output_exact : (depth : ℕ) → Follows (section_shape 28) depth (section (codes "output")) (read_section 28 (codes "output"))
output_exact depth = choice_exact (28 ∷ []) (sequence_exact behind (keyword_exact (codes "output") 0 depth) (declarations_exact depth) refl) (nothing_exact class [] depth) refl refl refl

pub local_exact : (depth : ℕ) → Follows (section_shape 29) depth (section (codes "local")) (read_section 29 (codes "local"))
local_exact depth = choice_exact (29 ∷ []) (sequence_exact behind (keyword_exact (codes "local") 0 depth) (declarations_exact depth) refl) (nothing_exact class [] depth) refl refl refl
