-- Walks over the branches of a case.
use Rattle.std.proofs.Common.{◌≡◌, ℕ, suc, ◌<◌, ◌≤◌, List, [], ◌∷◌, length, drop, Bool, ◌||◌, refl, sym, ap, subst, ◌∙◌, arith, drop-cons}
use Rattle.std.specs.Prelude.{map, slice_index_or, flat_map}
use Rattle.std.specs.List.{list_any}
use Rattle.std.proofs.Math.Nat.{le-max_left}
use Rattle.std.proofs.lemmas.List.Folds.{list_any-append}
use Rattle.az_lin.specs.Affine.{AffineMap, Union}
use Rattle.az_ast.specs.declared.expr.Branch.{Branch}
use Rattle.az_ast.specs.declared.expr.Expr.{Expr}
use Rattle.az_ast.specs.declared.expr.Expr.TheVariants.{Cases}
use Rattle.az_ast.specs.Nodes.{nodes, nodes_below}
use Rattle.az_ast.specs.Term.{Term, Choices, choices, term}
use Rattle.az_ast.specs.Walks.{parts_below, own_accesses, branch_domains, extra_under, extra_below}
use Rattle.az_ast.proofs.Terms.{term-Cases}

-- a test of what the items give
pub list_any-flat_map : {A B : Type 0} (test : B → Bool) (f : A → List B) (xs : List A) → list_any test (flat_map f xs) ≡ list_any (λ x. list_any test (f x)) xs
list_any-flat_map test f [] = refl
list_any-flat_map test f (x ∷ xs) = list_any-append test (f x) (flat_map f xs) ∙ ap (λ rest. list_any test (f x) || rest) (list_any-flat_map test f xs)

abbrev pub below : List Branch → Choices
below branches = choices (map (λ (b : Branch). (b.domain, term b.body)) branches)

module _ (test : Term → Bool) where
  abbrev pub some_below : List Branch → Bool
  some_below branches = list_any test (parts_below (below branches))

-- a function of a case's data is one of its branches
pub of_cases : {X : Type 0} (F : Term → X) (G : Choices → X) → ((b : Choices) → F (Term.cases b) ≡ G b) → (e : Expr) (branches items : List Branch) → e ≡ Cases branches → items ≡ branches → F (term e) ≡ G (below items)
of_cases F G same e branches items is equal = ap (λ x. F (term x)) is ∙ (ap F (term-Cases branches) ∙ (same (below branches) ∙ ap (λ x. G (below x)) (sym equal)))

-- a test of the domains of the branches
pub domains-below : (test : Union → Bool) (branches : List Branch) → list_any test (branch_domains (below branches)) ≡ list_any (λ (b : Branch). test b.domain) branches
domains-below test [] = refl
domains-below test (b ∷ branches) = ap (λ rest. test b.domain || rest) (domains-below test branches)

module _ (branches : List Branch) (k : ℕ) (b : Branch) (within : k < length branches) (here : b ≡ slice_index_or branches k b) where
  pub opened : drop k branches ≡ b ∷ drop (suc k) branches
  opened = drop-cons branches k b within ∙ ap (λ x. x ∷ drop (suc k) branches) (sym here)

  -- the branch that comes next is one of those that are left
  pub under-next : extra_under (term b.body) ≤ extra_below (below (drop k branches))
  under-next = subst (λ rest. extra_under (term b.body) ≤ extra_below (below rest)) (sym opened) (le-max_left _ _)

  pub nodes-next : nodes (term b.body) ≤ nodes_below (below (drop k branches))
  nodes-next = subst (λ rest. nodes (term b.body) ≤ nodes_below (below rest)) (sym opened) (omega arith)

-- the accesses of the branches
abbrev pub accesses_below : List Branch → List (ℕ × AffineMap)
accesses_below branches = flat_map own_accesses (parts_below (below branches))
