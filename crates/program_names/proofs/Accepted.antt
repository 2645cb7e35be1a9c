-- What is known of a text without a refusal.
use Rattle.std.proofs.Common.{◌≡◌, ℕ, suc, ◌+◌, ◌≤◌, List, [], ◌∷◌, ◌++◌, length, Bool, false, ◌||◌, Option, Some, None, refl, sym, ap, subst, ◌∙◌, arith}
use Rattle.std.specs.List.{list_any, AllByRecursion}
use Rattle.std.specs.Str.{bytes_eq}
use Rattle.std.specs.Prelude.{map}
use Rattle.std.proofs.lemmas.List.{length-map, map-append}
use Rattle.std.proofs.lemmas.List.Folds.{list_any-append}
use Rattle.az_lin.proofs.AllLists.{all_first, all_last}
use Rattle.az_ast.specs.declared.fault.ShapeKind.{ShapeKind}
use Rattle.az_ast.specs.declared.fault.ShapeKind.TheVariants.{Reserved, TwiceName, UnknownName, Entry}
use Rattle.az_ast.specs.Shapes.{first_kind, kinds_after, is_index_name}
use Rattle.az_ast.proofs.ShapeParts.{none_holds}
use Rattle.program_grammar.specs.declared.tree.Declaration.{Declaration}
use Rattle.program_grammar.specs.declared.tree.Equation.{Equation}
use Rattle.program_grammar.specs.declared.tree.ProgramText.{ProgramText}
use Rattle.program_names.specs.Pieces.{Piece, rows, header_pieces, declaration_pieces, equation_pieces}
use Rattle.program_names.specs.Refusals.{is_twice, is_unknown, is_wide_literal, is_wide_row, declaration_kind, written_kind, meant_kind, equation_kind, missing_kinds, item_kinds, limit_of, shape_of, refusal_of, has_many_indices, any_declaration, stands_under_many, some_declared}
use Rattle.program_names.specs.Sides.{Scope}
use Rattle.program_names.specs.Resolved.{declarations, declared_names}
use Rattle.program_names.proofs.ItemLaws.{both-none, written-none}
use Rattle.program_names.proofs.ItemParts.{count_parts, limits, few_declared}
use Rattle.program_names.proofs.Sums.{or-right}

abbrev pub IsNone : Option ShapeKind → Type 0
IsNone kind = kind ≡ None

all-none : (n : ℕ) (kinds : List (Option ShapeKind)) → first_kind n kinds ≡ None → AllByRecursion IsNone kinds
all-none n [] h = tt
all-none n (None ∷ kinds) h = (refl, all-none (suc n) kinds h)
all-none n (Some k ∷ kinds) h = cc

-- what the items are, whose kinds are none
pub kinds-all : {A : Type 0} (kind : List A → A → Option ShapeKind) (Q : A → Type 0) → ((earlier : List A) (x : A) → kind earlier x ≡ None → Q x) →
    (earlier xs : List A) → AllByRecursion IsNone (kinds_after kind earlier xs) → AllByRecursion Q xs
kinds-all kind Q f earlier [] h = tt
kinds-all kind Q f earlier (x ∷ xs) h = (f earlier x h.0, kinds-all kind Q f (earlier ++ x ∷ []) xs h.1)

-- items that are made of items without a kind have none
pub kinds-kept : {A B : Type 0} (kind : List A → A → Option ShapeKind) (made : List B → B → Option ShapeKind) (f : A → B) →
    ((earlier : List A) (x : A) → kind earlier x ≡ None → made (map f earlier) (f x) ≡ None) →
    (earlier xs : List A) → AllByRecursion IsNone (kinds_after kind earlier xs) → AllByRecursion IsNone (kinds_after made (map f earlier) (map f xs))
kinds-kept kind made f kept earlier [] h = tt
kinds-kept kind made f kept earlier (x ∷ xs) h = (
  kept earlier x h.0,
  subst (λ before. AllByRecursion IsNone (kinds_after made before (map f xs))) (map-append f earlier (x ∷ [])) (kinds-kept kind made f kept (earlier ++ x ∷ []) xs h.1),
)

any-none : {A : Type 0} (p : A → Bool) (xs : List A) → AllByRecursion (λ x. p x ≡ false) xs → list_any p xs ≡ false
any-none p [] h = refl
any-none p (x ∷ xs) h = ap (λ b. b || list_any p xs) h.0 ∙ any-none p xs h.1

-- the same of equal parameters and equations
pub none-in-equations : (test : Piece → Bool) (params scope : Scope) (equations items : List Equation) → scope ≡ params → items ≡ equations →
    list_any (λ (e : Equation). list_any test (equation_pieces params e)) equations ≡ false → list_any (λ (e : Equation). list_any test (equation_pieces scope e)) items ≡ false
none-in-equations test params scope equations items same equal h =
    ap (λ es. list_any (λ (e : Equation). list_any test (equation_pieces scope e)) es) equal
    ∙ (ap (λ p. list_any (λ (e : Equation). list_any test (equation_pieces p e)) equations) same ∙ h)

module _ (text : ProgramText) where
  abbrev pub header_tests : List (Bool × ShapeKind)
  header_tests =
      (list_any is_index_name text.params, Reserved) ∷ (list_any is_twice (header_pieces text), TwiceName)
      ∷ (list_any (is_unknown text) (header_pieces text), UnknownName) ∷ (list_any is_wide_row (header_pieces text), Entry) ∷ []

  abbrev pub declaration_tests : List Declaration → Declaration → List (Bool × ShapeKind)
  declaration_tests earlier d =
      let ps = declaration_pieces text.params d in
      (is_index_name d.name, Reserved) ∷ (list_any (λ (other : Declaration). bytes_eq other.name d.name) earlier, TwiceName) ∷ (list_any is_twice ps, TwiceName)
      ∷ (list_any (is_unknown text) ps, UnknownName) ∷ (list_any is_wide_row ps, Entry) ∷ []

  declaration-fits : (earlier : List Declaration) (d : Declaration) → declaration_kind text earlier d ≡ None → list_any is_wide_row (declaration_pieces text.params d) ≡ false
  declaration-fits earlier d h = (none_holds (declaration_tests earlier d) h).1.1.1.1.0

  literals-fit : (earlier : List Equation) (e : Equation) → equation_kind text earlier e ≡ None → list_any is_wide_literal (equation_pieces text.params e) ≡ false
  literals-fit earlier e h = (written-none text e (both-none (written_kind text e) (meant_kind text earlier e) h).0).1.1.0

  equation-fits : (earlier : List Equation) (e : Equation) → equation_kind text earlier e ≡ None → list_any is_wide_row (equation_pieces text.params e) ≡ false
  equation-fits earlier e h = (written-none text e (both-none (written_kind text e) (meant_kind text earlier e) h).0).1.1.1.0

  module _ (accepted : refusal_of text ≡ None) where
    pub no_limit : limit_of text ≡ None
    no_limit = (both-none (limit_of text) (shape_of text) accepted).0

    pub items : AllByRecursion IsNone (item_kinds text)
    items =
        all-none 0 (item_kinds text)
        (both-none (first_kind 0 (item_kinds text)) (first_kind (1 + length text.inputs) (missing_kinds text)) (both-none (limit_of text) (shape_of text) accepted).1).0

    pub declared : AllByRecursion IsNone (kinds_after (declaration_kind text) [] (declarations text))
    declared = all_first IsNone (kinds_after (declaration_kind text) [] (declarations text)) (kinds_after (equation_kind text) [] text.equations) items.1

    pub equated : AllByRecursion IsNone (kinds_after (equation_kind text) [] text.equations)
    equated = all_last IsNone (kinds_after (declaration_kind text) [] (declarations text)) (kinds_after (equation_kind text) [] text.equations) items.1

    pub missing : AllByRecursion IsNone (missing_kinds text)
    missing =
        all-none (1 + length text.inputs) (missing_kinds text)
        (both-none (first_kind 0 (item_kinds text)) (first_kind (1 + length text.inputs) (missing_kinds text)) (both-none (limit_of text) (shape_of text) accepted).1).1

    pub few_names : length (declared_names text) ≤ 256
    few_names =
        let count = count_parts text in
        let few = few_declared text no_limit in
        let names = length-map (declarations text) (λ (d : Declaration). d.name) in
        omega (arith, count, few, names)

    pub narrow_equations : list_any stands_under_many text.equations ≡ false
    narrow_equations = or-right (any_declaration has_many_indices text) (list_any stands_under_many text.equations) (none_holds (limits text) no_limit).1.0

    pub header_fits : list_any is_wide_row (rows text.params text.domain) ≡ false
    header_fits = (none_holds header_tests items.0).1.1.1.0

    pub declarations_fit : some_declared is_wide_row text ≡ false
    declarations_fit =
        let wide = λ (d : Declaration). list_any is_wide_row (declaration_pieces text.params d) in
        sym (list_any-append wide text.inputs (text.outputs ++ text.locals) ∙ ap (λ b. list_any wide text.inputs || b) (list_any-append wide text.outputs text.locals))
        ∙ any-none wide (declarations text) (kinds-all (declaration_kind text) (λ (d : Declaration). wide d ≡ false) declaration-fits [] (declarations text) declared)

    pub literals_fit : list_any (λ (e : Equation). list_any is_wide_literal (equation_pieces text.params e)) text.equations ≡ false
    literals_fit =
        any-none (λ (e : Equation). list_any is_wide_literal (equation_pieces text.params e)) text.equations
        (kinds-all (equation_kind text) (λ (e : Equation). list_any is_wide_literal (equation_pieces text.params e) ≡ false) literals-fit [] text.equations equated)

    pub equations_fit : list_any (λ (e : Equation). list_any is_wide_row (equation_pieces text.params e)) text.equations ≡ false
    equations_fit =
        any-none (λ (e : Equation). list_any is_wide_row (equation_pieces text.params e)) text.equations
        (kinds-all (equation_kind text) (λ (e : Equation). list_any is_wide_row (equation_pieces text.params e) ≡ false) equation-fits [] text.equations equated)
