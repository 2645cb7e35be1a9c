-- No fault is found in the header and the declarations of the program of a text without a refusal.
use Rattle.std.proofs.Common.{◌≡◌, ℕ, List, [], ◌∷◌, ◌++◌, ◌||◌, Option, None, refl, sym, ap, subst, ◌∙◌}
use Rattle.std.specs.Prelude.{map}
use Rattle.std.specs.List.{list_any, AllByRecursion}
use Rattle.std.specs.Str.{bytes_eq}
use Rattle.std.proofs.lemmas.List.{map-append}
use Rattle.az_ast.specs.declared.fault.ShapeKind.{ShapeKind}
use Rattle.az_ast.specs.declared.fault.ShapeKind.TheVariants.{Reserved, TwiceName}
use Rattle.az_ast.specs.declared.program.Variable.{Variable}
use Rattle.az_ast.specs.Shapes as ast
use Rattle.az_ast.specs.Shapes.{first_of, kinds_after, is_index_name, has_twice}
use Rattle.az_ast.proofs.ShapeParts.{none_holds}
use Rattle.program_grammar.specs.declared.tree.Declaration.{Declaration}
use Rattle.program_grammar.specs.declared.tree.ProgramText.{ProgramText}
use Rattle.program_names.specs.Pieces.{rows}
use Rattle.program_names.specs.Refusals.{repeats, is_twice, declaration_kind, refusal_of}
use Rattle.program_names.specs.Resolved.{declarations, declared_names, variables_of}
use Rattle.program_names.proofs.Accepted.{IsNone, kinds-kept, header_tests, declaration_tests, items, declared}
use Rattle.program_names.proofs.FirstRows.{none_answered}
use Rattle.program_names.proofs.Sums.{or-left, list_any-map}
use Rattle.program_names.proofs.VariableMaps.{variables-map}

-- names that come into an empty scope
repeats-alone : (names : List (List ℕ)) → repeats [] names ≡ has_twice names
repeats-alone [] = refl
repeats-alone (name ∷ names) = ap (λ b. list_any (bytes_eq name) names || b) (repeats-alone names)

-- the kind of a declaration is that of its name, after the names of others
abbrev kind_of_name : List (List ℕ) → List ℕ → Option ShapeKind
kind_of_name earlier name = first_of ((is_index_name name, Reserved) ∷ (list_any (λ other. bytes_eq other name) earlier, TwiceName) ∷ [])

module _ {A : Type 0} (kind : List A → A → Option ShapeKind) (name : A → List ℕ) where
  -- items have no kind where their names have none
  items-from-names : ((earlier : List A) (x : A) → kind_of_name (map name earlier) (name x) ≡ None → kind earlier x ≡ None) →
      (earlier xs : List A) → AllByRecursion IsNone (kinds_after kind_of_name (map name earlier) (map name xs)) → AllByRecursion IsNone (kinds_after kind earlier xs)
  items-from-names f earlier [] h = tt
  items-from-names f earlier (x ∷ xs) h = (
    f earlier x h.0,
    items-from-names f (earlier ++ x ∷ []) xs (subst (λ names. AllByRecursion IsNone (kinds_after kind_of_name names (map name xs))) (sym (map-append name earlier (x ∷ []))) h.1),
  )

variable-name-none : (earlier : List Variable) (v : Variable) → kind_of_name (map (λ (other : Variable). other.name) earlier) v.name ≡ None → ast.declaration_kind earlier v ≡ None
variable-name-none earlier v h =
    sym (ap (λ b. first_of ((is_index_name v.name, Reserved) ∷ (b, TwiceName) ∷ [])) (list_any-map (λ other. bytes_eq other v.name) (λ (other : Variable). other.name) earlier)) ∙ h

module _ (text : ProgramText) where
  declaration-name-none : (earlier : List Declaration) (d : Declaration) → declaration_kind text earlier d ≡ None → kind_of_name (map (λ (other : Declaration). other.name) earlier) d.name ≡ None
  declaration-name-none earlier d h =
      let tests = none_holds (declaration_tests text earlier d) h in
      let names = map (λ (other : Declaration). other.name) earlier in
      none_answered ((is_index_name d.name, Reserved) ∷ (list_any (λ other. bytes_eq other d.name) names, TwiceName) ∷ [])
      (tests.0, (list_any-map (λ other. bytes_eq other d.name) (λ (other : Declaration). other.name) earlier ∙ tests.1.0, tt))

  pub header_kept : refusal_of text ≡ None → ast.header_kind text.params ≡ None
  header_kept accepted =
      let tests = none_holds (header_tests text) (items text accepted).0 in
      let once = or-left (repeats [] text.params) (list_any is_twice (rows text.params text.domain)) tests.1.0 in
      none_answered ((list_any is_index_name text.params, Reserved) ∷ (has_twice text.params, TwiceName) ∷ []) (tests.0, (sym (repeats-alone text.params) ∙ once, tt))

  pub declarations_kept : refusal_of text ≡ None → AllByRecursion IsNone (kinds_after ast.declaration_kind [] (variables_of text))
  declarations_kept accepted =
      let name = λ (d : Declaration). d.name in
      let same : map (λ (v : Variable). v.name) (variables_of text) ≡ declared_names text = variables-map text (λ (v : Variable). v.name) name (λ role d. refl) in
      items-from-names ast.declaration_kind (λ (v : Variable). v.name) variable-name-none [] (variables_of text)
      (subst (λ names. AllByRecursion IsNone (kinds_after kind_of_name [] names)) (sym same)
      (kinds-kept (declaration_kind text) kind_of_name name declaration-name-none [] (declarations text) (declared text accepted)))
