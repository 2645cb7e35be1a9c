-- The resolved expression has the arities of the variables that it reads, and reduces by no difference.
use Rattle.std.proofs.Common.{◌≡◌, ℕ, ◌+◌, List, [], ◌∷◌, length, Bool, false, ◌||◌, Option, Some, None, refl, ap, arith}
use Rattle.std.specs.Prelude.{not, ◌-◌, ◌==◌, slice_get, MatchOption}
use Rattle.std.specs.List.{list_any}
use Rattle.std.specs.Option.{is_none, option_map_or}
use Rattle.std.proofs.lemmas.Bool.{or_from}
use Rattle.std.proofs.lemmas.Bool.Decides.{Decides-eqb}
use Rattle.std.proofs.lemmas.List.{length-map}
use Rattle.az_ast.specs.declared.program.Variable.{Variable}
use Rattle.az_ast.specs.Shapes.{has_other_arity, reduces_by_sub}
use Rattle.az_ast.specs.Term.{term}
use Rattle.az_ast.specs.Walks.{parts}
use Rattle.program_grammar.specs.declared.tree.Expr as tree
use Rattle.program_grammar.specs.declared.tree.ProgramText.{ProgramText}
use Rattle.grammar_rules.specs.declared.term.Term.{Term}
use Rattle.program_names.specs.Pieces.{Piece, place, pieces}
use Rattle.program_names.specs.Refusals.{declaration_of, is_unknown, is_other_arity, is_bad_operator}
use Rattle.program_names.specs.Resolved.{number_of, expression, declared_names, variables_of}
use Rattle.program_names.specs.Sides.{Scope, alone, row_of, map_of}
use Rattle.program_names.proofs.EquationPlaces.{equation-width}
use Rattle.program_names.proofs.PartLaws.{no-part}
use Rattle.program_names.proofs.Sums.{or-left, or-right}

-- a test that is one of two
neither-test : {A : Type 0} (p q : A → Bool) (xs : List A) → list_any p xs ≡ false → list_any q xs ≡ false → list_any (λ x. p x || q x) xs ≡ false
neither-test p q [] h k = refl
neither-test p q (x ∷ xs) h k =
    or_from (p x || q x) (list_any (λ x. p x || q x) xs) (or_from (p x) (q x) (or-left (p x) (list_any p xs) h) (or-left (q x) (list_any q xs) k))
    (neither-test p q xs (or-right (p x) (list_any p xs) h) (or-right (q x) (list_any q xs) k))

-- so many rows, where the variable has so many indices
same-arity : (params count rows : ℕ) (o : Option Variable) → rows ≡ count → MatchOption o ⊥ (λ v. v.domain.width ≡ params + count) →
    option_map_or (λ (v : Variable). not (rows == v.domain.width - params)) o false ≡ false
same-arity params count rows None n h = absurd h
same-arity params count rows (Some v) n h = ap not ((Decides-eqb rows (v.domain.width - params)).1 (omega (arith, n, h)))

module _ (text : ProgramText) where
  abbrev is_misplaced : Piece → Bool
  is_misplaced p = is_unknown text p || is_other_arity text p

  place-kept : (x : List ℕ) (sides : List (List Term)) (scope : Scope) → is_misplaced (place x (length sides)) ≡ false →
      option_map_or (λ (v : Variable). not (length (map_of scope sides).rows == v.domain.width - length text.params)) (slice_get (variables_of text) (number_of (declared_names text) x)) false ≡ false
  place-kept x sides scope h =
      let known = is_none (declaration_of text x) in
      let other = is_other_arity text (place x (length sides)) in
      same-arity (length text.params) (length sides) (length (map_of scope sides).rows) (slice_get (variables_of text) (number_of (declared_names text) x))
      (length-map sides (λ (side : List Term). row_of scope (alone side)))
      (equation-width text x (length sides) (or-left known other h) (or-right known other h))

  pub arities-kept : (e : tree.Expr) (scope : Scope) → list_any (is_unknown text) (pieces e scope) ≡ false → list_any (is_other_arity text) (pieces e scope) ≡ false →
      list_any (has_other_arity (length text.params) (variables_of text)) (parts (term (expression (declared_names text) e scope))) ≡ false
  arities-kept e scope h k =
      no-part (declared_names text) is_misplaced (has_other_arity (length text.params) (variables_of text)) (λ v. refl) (λ r. refl) place-kept (λ e. refl) (λ op a b. refl) (λ branches. refl)
      (λ op extra domain e free. refl) e scope (neither-test (is_unknown text) (is_other_arity text) (pieces e scope) h k)

  pub operators-kept : (e : tree.Expr) (scope : Scope) → list_any is_bad_operator (pieces e scope) ≡ false → list_any reduces_by_sub (parts (term (expression (declared_names text) e scope))) ≡ false
  operators-kept =
      no-part (declared_names text) is_bad_operator reduces_by_sub (λ v. refl) (λ r. refl) (λ x sides scope free. refl) (λ e. refl) (λ op a b. refl) (λ branches. refl) (λ op extra domain e free. free)
