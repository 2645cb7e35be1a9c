-- Each output and local of the program of a text without a refusal has an equation by its number.
use Rattle.std.proofs.Common.{◌≡◌, ℕ, suc, List, [], ◌∷◌, ◌++◌, length, Bool, true, false, None, refl, sym, ap, subst, ◌∙◌, arith, inl, inr}
use Rattle.std.specs.Prelude.{map, not, ◌&&◌, ◌==◌}
use Rattle.std.specs.List.{list_any, AllByRecursion}
use Rattle.std.specs.Str.{bytes_eq}
use Rattle.std.proofs.lemmas.Bool.{or_left, or_right}
use Rattle.std.proofs.lemmas.Bool.Decides.{Decides-eqb}
use Rattle.std.proofs.lemmas.List.{append-nil, append_assoc, length-append, map-append}
use Rattle.std.proofs.lemmas.Slice.Eq.{bytes_eq-Decides}
use Rattle.az_lin.proofs.AllLists.{all_first, all_last}
use Rattle.az_ast.specs.declared.fault.ShapeKind.TheVariants.{NoEquation}
use Rattle.az_ast.specs.declared.program.Equation as program
use Rattle.az_ast.specs.declared.program.Role.{Role}
use Rattle.az_ast.specs.declared.program.Role.TheVariants.{Input, Output, Local}
use Rattle.az_ast.specs.declared.program.Variable.{Variable}
use Rattle.az_ast.specs.Shapes as ast
use Rattle.az_ast.proofs.DistinctNumbers.{either}
use Rattle.az_ast.proofs.ShapeParts.{none_holds}
use Rattle.program_grammar.specs.declared.tree.Declaration.{Declaration}
use Rattle.program_grammar.specs.declared.tree.Equation.{Equation}
use Rattle.program_grammar.specs.declared.tree.ProgramText.{ProgramText}
use Rattle.program_names.specs.Refusals.{declaration_kind, missing_kind, refusal_of}
use Rattle.program_names.specs.Resolved.{number_of, declarations, declared_names, variable_of, variables_of, equation_of, system_of}
use Rattle.program_names.proofs.Accepted.{IsNone, declaration_tests, declared, missing}
use Rattle.program_names.proofs.FirstRows.{none_answered}
use Rattle.program_names.proofs.NameNumbers.{first-number}
use Rattle.program_names.proofs.Sums.{list_any-map}

-- what passes one test passes another
implied : {A : Type 0} (p q : A → Bool) → ((x : A) → p x ≡ true → q x ≡ true) → (xs : List A) → list_any p xs ≡ true → list_any q xs ≡ true
implied p q f [] h = h
implied p q f (x ∷ xs) h = elim (either (p x) (list_any p xs) h) [
  | inl here ↦ or_left (q x) (list_any q xs) (f x here)
  | inr later ↦ or_right (q x) (list_any q xs) (implied p q f xs later)
]

-- neither a nor b, and so neither a nor what follows from b
weaker : (a b c : Bool) → (b ≡ true → c ≡ true) → (not a && not b) ≡ false → (not a && not c) ≡ false
weaker true b c k h = refl
weaker false true c k h = ap not (k refl)
weaker false false c k h = cc

module _ (names : List (List ℕ)) where
  -- the numbers of the names of declarations go up from a number
  abbrev AreNumbered : ℕ → List Declaration → Type 0
  AreNumbered n [] = Unit {0}
  AreNumbered n (d ∷ ds) = (number_of names d.name ≡ n) × AreNumbered (suc n) ds

module _ (text : ProgramText) where
  numbered : (earlier ds : List Declaration) → declared_names text ≡ map (λ (d : Declaration). d.name) (earlier ++ ds) → AllByRecursion IsNone (ast.kinds_after (declaration_kind text) earlier ds) →
      AreNumbered (declared_names text) (length earlier) ds
  numbered earlier [] same h = tt
  numbered earlier (d ∷ ds) same h =
      let wide = length-append earlier (d ∷ []) in
      let one : length (earlier ++ d ∷ []) ≡ suc (length earlier) = omega (arith, wide) in (
        ap (λ ns. number_of ns d.name) same ∙ first-number earlier ds d (none_holds (declaration_tests text earlier d) h.0).1.0,
        subst (λ n. AreNumbered (declared_names text) n ds) one
            (numbered (earlier ++ d ∷ []) ds (same ∙ ap (map (λ (d : Declaration). d.name)) (sym (append_assoc earlier (d ∷ []) ds))) h.1),
      )

  abbrev equations : List program.Equation
  equations = map (equation_of (declared_names text) text.params) text.equations

  abbrev has_equation : Declaration → Bool
  has_equation d = list_any (λ (e : Equation). bytes_eq e.variable d.name) text.equations

  -- an equation of the name is one of the number
  by-number : (d : Declaration) (n : ℕ) → number_of (declared_names text) d.name ≡ n → has_equation d ≡ true → list_any (λ (e : program.Equation). e.variable == n) equations ≡ true
  by-number d n here h =
      list_any-map (λ (e : program.Equation). e.variable == n) (equation_of (declared_names text) text.params) text.equations
      ∙ implied (λ (e : Equation). bytes_eq e.variable d.name) (λ (e : Equation). number_of (declared_names text) e.variable == n)
      (λ e same. (Decides-eqb (number_of (declared_names text) e.variable) n).1 (ap (number_of (declared_names text)) ((bytes_eq-Decides e.variable d.name).0 same) ∙ here)) text.equations h

  -- variables that stand for declarations with numbers from any on, none of which lacks an equation
  abbrev AreDefined : List Declaration → List Variable → Type 0
  AreDefined ds variables = (n : ℕ) → AreNumbered (declared_names text) n ds → AllByRecursion IsNone (ast.missing_kinds equations n variables)

  abbrev IsDefinedAs : Role → Declaration → Type 0
  IsDefinedAs role d = (not (ast.is_input role) && not (has_equation d)) ≡ false

  defined : (role : Role) (ds later : List Declaration) (rest : List Variable) → AllByRecursion (IsDefinedAs role) ds → AreDefined later rest →
      AreDefined (ds ++ later) (map (variable_of text.params role) ds ++ rest)
  defined role [] later rest h k n numbers = k n numbers
  defined role (d ∷ ds) later rest h k n numbers = (
    none_answered ((not (ast.is_input role) && not (list_any (λ (e : program.Equation). e.variable == n) equations), NoEquation) ∷ [])
        (weaker (ast.is_input role) (has_equation d) (list_any (λ (e : program.Equation). e.variable == n) equations) (by-number d n numbers.0) h.0, tt),
    defined role ds later rest h.1 k (suc n) numbers.1,
  )

  inputs-defined : (ds : List Declaration) → AllByRecursion (IsDefinedAs Input) ds
  inputs-defined [] = tt
  inputs-defined (d ∷ ds) = (refl, inputs-defined ds)

  others-defined : (role : Role) → ast.is_input role ≡ false → (ds : List Declaration) → AllByRecursion IsNone (map (missing_kind text.equations) ds) → AllByRecursion (IsDefinedAs role) ds
  others-defined role other [] h = tt
  others-defined role other (d ∷ ds) h = (
    ap (λ input. not input && not (has_equation d)) other ∙ (none_holds ((not (has_equation d), NoEquation) ∷ []) h.0).0,
    others-defined role other ds h.1,
  )

  module _ (accepted : refusal_of text ≡ None) where
    missing-parts : AllByRecursion IsNone (map (missing_kind text.equations) text.outputs ++ map (missing_kind text.equations) text.locals)
    missing-parts = subst (AllByRecursion IsNone) (map-append (missing_kind text.equations) text.outputs text.locals) (missing text accepted)

    pub missing_kept : AllByRecursion IsNone (ast.missing_kinds (system_of text).equations 0 (variables_of text))
    missing_kept =
        let outputs = map (variable_of text.params Output) text.outputs in
        let locals = map (variable_of text.params Local) text.locals in
        let of_outputs = map (missing_kind text.equations) text.outputs in
        let of_locals = map (missing_kind text.equations) text.locals in
        let last : AreDefined text.locals locals =
        subst (λ ds. AreDefined ds locals) (append-nil text.locals)
        (subst (AreDefined (text.locals ++ [])) (append-nil locals)
        (defined Local text.locals [] [] (others-defined Local refl text.locals (all_last IsNone of_outputs of_locals missing-parts)) (λ n numbers. tt))) in
        defined Input text.inputs (text.outputs ++ text.locals) (outputs ++ locals) (inputs-defined text.inputs)
        (defined Output text.outputs text.locals locals (others-defined Output refl text.outputs (all_first IsNone of_outputs of_locals missing-parts)) last)
        0 (numbered [] (declarations text) refl (declared text accepted))
