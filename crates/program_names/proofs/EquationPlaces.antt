-- The variable of an equation has the columns of the equation.
use Rattle.std.proofs.Common.{◌≡◌, ℕ, zero, suc, ◌+◌, List, [], ◌∷◌, ◌++◌, length, Bool, true, false, cond, Option, Some, None, refl, sym, ap, ◌∙◌, arith}
use Rattle.std.specs.Prelude.{map, not, ◌==◌, slice_get, MatchOption, option_map}
use Rattle.std.specs.List.{find}
use Rattle.std.specs.Str.{bytes_eq}
use Rattle.std.specs.Option.{is_none, option_map_or}
use Rattle.std.proofs.lemmas.Bool.{eqb-true}
use Rattle.std.proofs.lemmas.List.{length-append}
use Rattle.az_ast.specs.declared.program.Variable.{Variable}
use Rattle.program_grammar.specs.declared.tree.Declaration.{Declaration}
use Rattle.program_grammar.specs.declared.tree.ProgramText.{ProgramText}
use Rattle.program_names.specs.Refusals.{declaration_of, is_named}
use Rattle.program_names.specs.Resolved.{number_of, declarations, declared_names, variables_of}
use Rattle.program_names.proofs.ItemLaws.{declaration-find}
use Rattle.program_names.proofs.VariableMaps.{variables-map}

-- the first declaration of a name stands at its number
pub find-at : (g : Declaration → ℕ) (x : List ℕ) (d : Declaration) (ds : List Declaration) → find (is_named x) ds ≡ Some d →
    slice_get (map g ds) (number_of (map (λ (d : Declaration). d.name) ds) x) ≡ Some (g d)
find-at g x d [] h = cc
find-at g x d (y ∷ ds) h = by (bytes_eq x y.name) refl h (λ k. find-at g x d ds k)
  where
    by : (b : Bool) → bytes_eq x y.name ≡ b → cond b (Some y) (find (is_named x) ds) ≡ Some d →
        (find (is_named x) ds ≡ Some d → slice_get (map g ds) (number_of (map (λ (d : Declaration). d.name) ds) x) ≡ Some (g d)) →
        slice_get (g y ∷ map g ds) (number_of (y.name ∷ map (λ (d : Declaration). d.name) ds) x) ≡ Some (g d)
    by true same k rest = ap (λ b. slice_get (g y ∷ map g ds) (cond (not b) (1 + number_of (map (λ (d : Declaration). d.name) ds) x) 0)) same ∙ ap (option_map g) k
    by false same k rest =
        let n = number_of (map (λ (d : Declaration). d.name) ds) x in
        let one : 1 + n ≡ suc n = omega arith in
        ap (λ b. slice_get (g y ∷ map g ds) (cond (not b) (1 + n) 0)) same ∙ (ap (slice_get (g y ∷ map g ds)) one ∙ rest k)

pub at-number : (vs : List Variable) (n w : ℕ) → slice_get (map (λ (v : Variable). v.domain.width) vs) n ≡ Some w → MatchOption (slice_get vs n) ⊥ (λ v. v.domain.width ≡ w)
at-number [] n w h = cc
at-number (v ∷ vs) zero w h = cc
at-number (v ∷ vs) (suc n) w h = at-number vs n w h

not-false : (b : Bool) → not b ≡ false → b ≡ true
not-false true h = refl
not-false false h = cc

module _ (text : ProgramText) where
  pub variable-widths : map (λ (v : Variable). v.domain.width) (variables_of text) ≡ map (λ (d : Declaration). length (text.params ++ d.indices)) (declarations text)
  variable-widths = variables-map text (λ (v : Variable). v.domain.width) (λ (d : Declaration). length (text.params ++ d.indices)) (λ role d. refl)

  pub equation-width : (x : List ℕ) (count : ℕ) → is_none (declaration_of text x) ≡ false →
      option_map_or (λ (d : Declaration). not (count == length d.indices)) (declaration_of text x) false ≡ false →
      MatchOption (slice_get (variables_of text) (number_of (declared_names text) x)) ⊥ (λ v. v.domain.width ≡ length text.params + count)
  equation-width x count known arity = by (declaration_of text x) refl known arity
    where
      by : (o : Option Declaration) → declaration_of text x ≡ o → is_none o ≡ false → option_map_or (λ (d : Declaration). not (count == length d.indices)) o false ≡ false →
          MatchOption (slice_get (variables_of text) (number_of (declared_names text) x)) ⊥ (λ v. v.domain.width ≡ length text.params + count)
      by None same k a = cc
      by (Some d) same k a =
          let n = number_of (declared_names text) x in
          let count_is = eqb-true count (length d.indices) (not-false (count == length d.indices) a) in
          let wide = length-append text.params d.indices in
          let sum : length (text.params ++ d.indices) ≡ length text.params + count = omega (arith, count_is, wide) in
          at-number (variables_of text) n (length text.params + count)
          (ap (λ ws. slice_get ws n) variable-widths
          ∙ (find-at (λ (d : Declaration). length (text.params ++ d.indices)) x d (declarations text) (sym (declaration-find text x) ∙ same) ∙ ap Some sum))
