-- Domains as they are shown, by the grammar.
use Rattle.std.proofs.Common.{◌≡◌, ℕ, ◌<◌, ◌+◌, Bool, true, false, List, [], ◌∷◌, ◌++◌, length, refl, sym, ap, subst, ◌∙◌, append-nil, append_assoc, arith}
use Rattle.std.specs.Prelude.{if◌then◌else◌, map, not}
use Rattle.std.specs.List.{list_any, AllByRecursion}
use Rattle.az_lin.specs.Affine.{Affine, Polyhedron, Union}
use Rattle.az_text.specs.Lumps.{Lump}
use Rattle.az_text.specs.declared.mark.MarkKind.{MarkKind}
use Rattle.az_text.specs.declared.mark.MarkKind.TheVariants.{OpenBrace, CloseBrace, Bar, BarBar, AndAnd, GreaterEqual}
use Rattle.az_text.specs.declared.token.Token.{Token}
use Rattle.az_text.specs.declared.token.TokenKind.TheVariants.{Mark}
use Rattle.alphabets_show.specs.Pieces.{mark, number, spaced, is_empty, names}
use Rattle.alphabets_show.specs.Sides.{Names, affine, comparison, conjunction, disjunction, space_if, has_rows, behind_bar, domain, restriction}
use Rattle.grammar_rules.specs.Rules.{Rule, sequence}
use Rattle.grammar_rules.specs.Tokens.{chosen_of}
use Rattle.grammar_rules.proofs.Within.{Within, one_token, none_of, in_sequence, first_choice, second_choice, none_of_many, in_list}
use Rattle.grammar_rules.proofs.Within as within
use Rattle.program_grammar.specs.Grammar as grammar
use Rattle.program_grammar.specs.Values as value
use Rattle.program_grammar.specs.Values.{behind, before, pair}
use Rattle.program_grammar.specs.Words as words
use Rattle.program_grammar.specs.Words.{reserved, relations}
use Rattle.program_grammar.specs.Written.{IsName}
use Rattle.program_grammar.specs.declared.tree.Relation.TheVariants.{AtLeast}
use Rattle.show_grammar.specs.WrittenOf.{zero_side, row_of, chain_of, chains_of, disjuncts_of, only_chains}
use Rattle.show_grammar.proofs.NameWithin.{mark_within, same_lumps, joined_within}
use Rattle.show_grammar.proofs.SideWithin.{AreNames, affine_within, zero_within, names_within}

abbrev Any : {A : Type 0} → A → Type 0
Any a = Unit {0}

any_of : {A : Type 0} (xs : List A) → AllByRecursion Any xs
any_of [] = tt
any_of (x ∷ xs) = (tt, any_of xs)

at_least : Within (words.one_of relations 0) (mark GreaterEqual ∷ []) 0 AtLeast
at_least = one_token (chosen_of reserved relations) 0 (Mark GreaterEqual) AtLeast (λ at. refl)

pub space_if_within : {A : Type 0} {rule : Rule Token A} {xs : List Lump} {bound : ℕ} {a : A} (b : Bool) → Within rule xs bound a → Within rule (space_if b xs) bound a
space_if_within true w = within.spaced 32 w
space_if_within false w = w

-- behind a mark with a space on each side
pub spaced_within : {A : Type 0} {rule : Rule Token A} {xs : List Lump} {a : A} (kind : MarkKind) → Within rule xs 0 a → Within (sequence behind (words.mark kind 0) rule) (spaced kind xs) 0 a
spaced_within kind w = within.spaced 32 (in_sequence behind (mark_within kind 0) (within.spaced 32 w))

module _ (params : Names) (ok : AreNames params) where
  chain_within : (row : Affine) → Within grammar.chain (comparison params row) 0 (chain_of params row)
  chain_within row = in_sequence value.chained (affine_within params ok row) (in_list (in_sequence value.linked at_least zero_within) none_of_many)

  rows_within : (conj : Polyhedron) → Within grammar.rows (conjunction params conj) 0 (chains_of params conj)
  rows_within conj = by conj.rows
    where
      by : (rows : List Affine) → Within grammar.rows (conjunction params (record { width = 0; rows = rows })) 0 (map (chain_of params) rows)
      by [] = second_choice (none_of [])
      by (row ∷ rows) = first_choice (joined_within Any (comparison params) (chain_of params) (spaced AndAnd) (λ r _. chain_within r) (λ r _. spaced_within AndAnd (chain_within r)) row rows (any_of (row ∷ rows)))

  disjuncts_within : (disjuncts : List Polyhedron) → 0 < length disjuncts → Within grammar.disjuncts (disjunction params disjuncts) 0 (map (chains_of params) disjuncts)
  disjuncts_within [] some = absurd (omega arith)
  disjuncts_within (conj ∷ rest) some =
      joined_within Any (conjunction params) (chains_of params) (spaced BarBar) (λ c _. rows_within c) (λ c _. spaced_within BarBar (rows_within c)) conj rest (any_of (conj ∷ rest))

  -- the rows of a domain of one disjunct
  single_within : (disjuncts : List Polyhedron) → length disjuncts ≡ 1 → Within grammar.rows (disjunction params disjuncts) 0 (only_chains params disjuncts)
  single_within [] one = absurd (omega arith)
  single_within (conj ∷ []) one = same_lumps (sym (append-nil (conjunction params conj))) (rows_within conj)
  single_within (conj ∷ other ∷ rest) one = absurd (omega arith)

  behind_bar_within : {A : Type 0} (rule : Rule Token A) (d : Union) (a : A) → Within rule (disjunction params d.disjuncts) 0 a → Within (grammar.behind_bar rule) (behind_bar params d) 0 a
  behind_bar_within rule d a w = in_sequence behind (mark_within Bar 0) (space_if_within (list_any has_rows d.disjuncts) (in_sequence before w (mark_within CloseBrace 0)))

  pub domain_within : {A : Type 0} (rule : Rule Token A) (all : Names) (d : Union) (a : A) → AllByRecursion IsName all → Within rule (disjunction params d.disjuncts) 0 a
      → Within (grammar.domain rule) (domain all params d) 0 (all, a)
  domain_within rule all d a named w =
      in_sequence behind (mark_within OpenBrace 0) (in_sequence pair (names_within all named) (space_if_within (not (is_empty all)) (behind_bar_within rule d a w)))

  pub restriction_within : {A : Type 0} (weight : ℕ) (rule : Rule Token A) (d : Union) (a : A) → Within rule (disjunction params d.disjuncts) 0 a
      → Within (grammar.restriction weight rule) (restriction params d) (weight + 0) a
  restriction_within weight rule d a w = in_sequence behind (mark_within OpenBrace weight) (behind_bar_within rule d a w)

  pub several_within : (d : Union) → 0 < length d.disjuncts → Within grammar.disjuncts (disjunction params d.disjuncts) 0 (disjuncts_of params d)
  several_within d some = disjuncts_within d.disjuncts some

  pub one_within : (d : Union) → length d.disjuncts ≡ 1 → Within grammar.rows (disjunction params d.disjuncts) 0 (only_chains params d.disjuncts)
  one_within d one = single_within d.disjuncts one
