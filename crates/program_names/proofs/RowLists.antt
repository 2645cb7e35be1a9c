-- Rows of chains, part by part.
use Rattle.std.proofs.Common.{◌≡◌, ℕ, suc, ◌<◌, List, [], ◌∷◌, ◌++◌, length, drop, get_or, Bool, false, ◌||◌, Some, refl, sym, ap, ◌∙◌, drop-cons}
use Rattle.std.specs.Prelude.{map, slice_index_or, All}
use Rattle.std.specs.List.{list_any}
use Rattle.std.proofs.lemmas.List.{append_assoc, map-append, length-map}
use Rattle.std.proofs.lemmas.List.Elements.{All-map, All-from_recursion, recursion_from_All}
use Rattle.std.proofs.lemmas.List.Folds.{list_any-append}
use Rattle.az_lin.specs.Affine.{HasWidth, IsOver}
use Rattle.az_lin.proofs.AllLists.{all_first}
use Rattle.program_grammar.specs.declared.tree.Chain.{Chain}
use Rattle.program_grammar.specs.declared.tree.Link.{Link}
use Rattle.grammar_rules.specs.declared.term.Term.{Term}
use Rattle.program_names.specs.Sides.{Scope, conjunction_of, Difference, row_of, entry_of, differences, of_links, of_chain, of_chains}
use Rattle.az_ast.proofs.Walks.{list_any-flat_map}
use Rattle.program_names.specs.Pieces.{row, rows, domain_pieces}
use Rattle.program_names.specs.Refusals.{has_entry_out, is_wide_row}
use Rattle.program_names.proofs.Sums.{or-left, or-right, list_any-map}

-- a list of two parts, none of whose results passes a test
module _ {A B : Type 0} (f : A → B) (xs ys : List A) where
  pub split : (test : B → Bool) → (list_any test (map f xs) || list_any test (map f ys)) ≡ list_any test (map f (xs ++ ys))
  split test = sym (ap (list_any test) (map-append f xs ys) ∙ list_any-append test (map f xs) (map f ys))

  pub fits-first : (test : B → Bool) → list_any test (map f (xs ++ ys)) ≡ false → list_any test (map f xs) ≡ false
  fits-first test h = or-left (list_any test (map f xs)) (list_any test (map f ys)) (split test ∙ h)

  pub fits-second : (test : B → Bool) → list_any test (map f (xs ++ ys)) ≡ false → list_any test (map f ys) ≡ false
  fits-second test h = or-right (list_any test (map f xs)) (list_any test (map f ys)) (split test ∙ h)

  -- the results of the first part join those so far
  pub joined : (before after whole : List B) → before ++ map f (xs ++ ys) ≡ whole → after ≡ before ++ map f xs → after ++ map f ys ≡ whole
  joined before after whole h e =
      ap (λ r. r ++ map f ys) e ∙ (append_assoc before (map f xs) (map f ys) ∙ (ap (λ r. before ++ r) (sym (map-append f xs ys)) ∙ h))

pub links-opened : (left : List Term) (links : List Link) (k : ℕ) (link : Link) → k < length links → link ≡ slice_index_or links k link →
    of_links left (drop k links) ≡ differences link.relation left link.side ++ of_links link.side (drop (suc k) links)
links-opened left links k link within here = ap (of_links left) (drop-cons links k link within ∙ ap (λ x. x ∷ drop (suc k) links) (sym here))

pub chains-opened : (chains : List Chain) (k : ℕ) (chain : Chain) → k < length chains → chain ≡ slice_index_or chains k chain →
    of_chains (drop k chains) ≡ of_chain chain ++ of_chains (drop (suc k) chains)
chains-opened chains k chain within here = ap of_chains (drop-cons chains k chain within ∙ ap (λ x. x ∷ drop (suc k) chains) (sym here))

pub rows-wide : (scope : Scope) (ds : List Difference) → All (HasWidth (length scope)) (map (row_of scope) ds)
rows-wide scope ds = All-map (HasWidth (length scope)) (row_of scope) ds (λ k d h. length-map scope (λ name. entry_of (get_or ds k d) (Some name)))

pub conjunctions-over : (scope : Scope) (disjuncts : List (List Chain)) → All (IsOver (length scope)) (map (conjunction_of scope) disjuncts)
conjunctions-over scope disjuncts = All-map (IsOver (length scope)) (conjunction_of scope) disjuncts (λ k d h. refl)

-- a row is wide by its entries
wide-map : (scope : Scope) (ds : List Difference) → list_any is_wide_row (map (row scope) ds) ≡ list_any has_entry_out (map (row_of scope) ds)
wide-map scope ds = list_any-map is_wide_row (row scope) ds ∙ sym (list_any-map has_entry_out (row_of scope) ds)

pub wide-rows : (scope : Scope) (chains : List Chain) → list_any is_wide_row (rows scope chains) ≡ list_any has_entry_out (map (row_of scope) (of_chains chains))
wide-rows scope [] = refl
wide-rows scope (c ∷ chains) =
    list_any-append is_wide_row (map (row scope) (of_chain c)) (rows scope chains)
    ∙ (ap (λ b. b || list_any is_wide_row (rows scope chains)) (wide-map scope (of_chain c))
    ∙ (ap (λ b. list_any has_entry_out (map (row_of scope) (of_chain c)) || b) (wide-rows scope chains)
    ∙ split (row_of scope) (of_chain c) (of_chains chains) has_entry_out))

pub any-same : {A : Type 0} (p q : A → Bool) → ((x : A) → p x ≡ q x) → (xs : List A) → list_any p xs ≡ list_any q xs
any-same p q h [] = refl
any-same p q h (x ∷ xs) = ap (λ b. b || list_any p xs) (h x) ∙ ap (λ b. q x || b) (any-same p q h xs)

pub wide-disjuncts : (scope : Scope) (disjuncts : List (List Chain)) →
    list_any is_wide_row (domain_pieces scope disjuncts) ≡ list_any (λ (chains : List Chain). list_any has_entry_out (map (row_of scope) (of_chains chains))) disjuncts
wide-disjuncts scope disjuncts =
    list_any-flat_map is_wide_row (rows scope) disjuncts
    ∙ any-same (λ (chains : List Chain). list_any is_wide_row (rows scope chains)) (λ (chains : List Chain). list_any has_entry_out (map (row_of scope) (of_chains chains))) (wide-rows scope) disjuncts

-- all of what a list begins with
pub all-first : {A : Type 0} (P : A → Type 0) (xs ys : List A) → All P (xs ++ ys) → All P xs
all-first P xs ys h = All-from_recursion P xs (all_first P xs ys (recursion_from_All P (xs ++ ys) h))
