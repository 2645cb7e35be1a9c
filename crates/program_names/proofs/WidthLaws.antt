-- The resolved expression stands at the columns of its scope, where every name of a variable is declared.
use Rattle.std.proofs.Common.{◌≡◌, ℕ, suc, ◌+◌, ◌<◌, List, [], ◌∷◌, ◌++◌, length, Bool, true, false, cond, ◌||◌, Some, refl, sym, ap, subst, ◌∙◌, arith}
use Rattle.std.specs.Prelude.{map, not}
use Rattle.std.specs.List.{list_any, AllByRecursion}
use Rattle.std.specs.Str.{bytes_eq}
use Rattle.std.specs.Option.{is_none}
use Rattle.std.proofs.lemmas.List.{length-append, length-map}
use Rattle.az_ast.specs.declared.expr.Branch as program
use Rattle.az_ast.specs.Placed.{IsAtWidth, AreAtWidth}
use Rattle.az_ast.specs.Term.{Term, choices, term}
use Rattle.az_ast.proofs.Terms.{term-Const, term-Index, term-Access, term-Neg, term-Bin, term-Cases, term-Reduce}
use Rattle.program_grammar.specs.declared.tree.Branch.{Branch}
use Rattle.program_grammar.specs.declared.tree.Expr as tree
use Rattle.program_grammar.specs.declared.tree.ProgramText.{ProgramText}
use Rattle.program_names.specs.Branches.{resolved_branch}
use Rattle.program_names.specs.Pieces.{row, pieces, pieces_of_branches}
use Rattle.program_names.specs.Refusals.{declaration_of, is_unknown}
use Rattle.program_names.specs.Resolved.{op_of, number_of, expression, declared_names}
use Rattle.program_names.specs.Sides.{Scope, alone, signed, row_of, entry_of, map_of, union_of}
use Rattle.program_names.proofs.ExpressionLemmas.{expression-Constant, expression-Index, expression-Access, expression-Negation, expression-Binary, expression-Cases, expression-Reduction, none_in_left, none_in_right, none_in_negation, none_in_cases, none_in_body, none_in_first_body, none_in_others}
use Rattle.program_names.proofs.PieceLemmas.{pieces-Access}
use Rattle.program_names.proofs.ItemLaws.{found-declared}
use Rattle.program_names.proofs.Sums.{or-left}
use Rattle.program_names.proofs.TreeInduction.{induct}

-- a name that is there has a number below the count
pub number-within : (names : List (List ℕ)) (x : List ℕ) → list_any (bytes_eq x) names ≡ true → number_of names x < length names
number-within [] x h = cc
number-within (name ∷ names) x h = by (bytes_eq x name) refl h (λ g. number-within names x g)
  where
    by : (b : Bool) → bytes_eq x name ≡ b → (b || list_any (bytes_eq x) names) ≡ true → (list_any (bytes_eq x) names ≡ true → number_of names x < length names) → number_of (name ∷ names) x < suc (length names)
    by true same g rest = let n : number_of (name ∷ names) x ≡ 0 = ap (λ b. cond (not b) (1 + number_of names x) 0) same in omega (arith, n)
    by false same g rest =
        let n : number_of (name ∷ names) x ≡ 1 + number_of names x = ap (λ b. cond (not b) (1 + number_of names x) 0) same in
        let below = rest g in
        omega (arith, n, below)

module _ (text : ProgramText) where
  abbrev variables : List (List ℕ)
  variables = declared_names text

  abbrev AtWidth : Term → ℕ → Type 0
  AtWidth = IsAtWidth (length variables)

  abbrev IsAtScope : tree.Expr → Type 0
  IsAtScope e = (scope : Scope) → list_any (is_unknown text) (pieces e scope) ≡ false → AtWidth (term (expression variables e scope)) (length scope)

  branches-at : (scope : Scope) (branches : List Branch) → AllByRecursion (λ (b : Branch). IsAtScope b.body) branches → list_any (is_unknown text) (pieces_of_branches branches scope) ≡ false →
      AreAtWidth (length variables) (choices (map (λ (b : program.Branch). (b.domain, term b.body)) (map (resolved_branch variables scope) branches))) (length scope)
  branches-at scope [] h k = tt
  branches-at scope (b ∷ branches) h k =
      (refl, h.0 scope (none_in_first_body (is_unknown text) scope b branches k), branches-at scope branches h.1 (none_in_others (is_unknown text) scope b branches k))

  pub at-scope : (e : tree.Expr) → IsAtScope e
  at-scope =
      induct IsAtScope
      (λ negative n scope k. subst (λ t. AtWidth t (length scope)) (sym (ap term (expression-Constant variables negative n scope) ∙ term-Const (signed negative n))) tt)
      (λ side scope k.
      subst (λ t. AtWidth t (length scope)) (sym (ap term (expression-Index variables side scope) ∙ term-Index (row_of scope (alone side))))
      (length-map scope (λ name. entry_of (alone side) (Some name))))
      (λ x sides scope k.
      let declared = or-left (is_none (declaration_of text x)) (list_any (is_unknown text) (map (λ side. row scope (alone side)) sides)) (ap (list_any (is_unknown text)) (sym (pieces-Access x sides scope)) ∙ k) in
      subst (λ t. AtWidth t (length scope)) (sym (ap term (expression-Access variables x sides scope) ∙ term-Access (number_of variables x) (map_of scope sides)))
      (number-within variables x (found-declared text x declared), refl))
      (λ e h scope k.
      subst (λ t. AtWidth t (length scope)) (sym (ap term (expression-Negation variables e scope) ∙ term-Neg (expression variables e scope)))
      (h scope (none_in_negation (is_unknown text) scope e k)))
      (λ op a b h g scope k.
      subst (λ t. AtWidth t (length scope)) (sym (ap term (expression-Binary variables op a b scope) ∙ term-Bin (op_of op) (expression variables a scope) (expression variables b scope)))
      (h scope (none_in_left (is_unknown text) scope op a b k), g scope (none_in_right (is_unknown text) scope op a b k)))
      (λ branches h scope k.
      subst (λ t. AtWidth t (length scope)) (sym (ap term (expression-Cases variables branches scope) ∙ term-Cases (map (resolved_branch variables scope) branches)))
      (branches-at scope branches h (none_in_cases (is_unknown text) scope branches k)))
      (λ op extra chains e h scope k.
      let wide = length-append scope extra in
      subst (λ t. AtWidth t (length scope)) (sym (ap term (expression-Reduction variables op extra chains e scope)
      ∙ term-Reduce (op_of op) (length extra) (union_of (scope ++ extra) (chains ∷ [])) (expression variables e (scope ++ extra))))
      (wide, refl, subst (AtWidth (term (expression variables e (scope ++ extra)))) wide (h (scope ++ extra) (none_in_body (is_unknown text) scope op extra chains e k))))
