-- Declarations of several lists, and equations of different variables.
use Rattle.std.proofs.Common.{true≢false, ◌≡◌, ℕ, ◌+◌, ◌<◌, ◌≤◌, List, [], ◌∷◌, ◌++◌, length, take, get_or, Bool, true, false, cond, Option, Some, None, refl, sym, ap, subst, ◌∙◌, arith, add-one, inl, inr}
use Rattle.std.specs.Prelude.{map, ◌||◌}
use Rattle.std.specs.List.{list_any, find, AllByRecursion, IsDistinct}
use Rattle.std.specs.Option.{option_or, is_none}
use Rattle.std.specs.Str.{bytes_eq}
use Rattle.std.proofs.lemmas.Cmp.{nat_list_eq_equiv}
use Rattle.std.proofs.lemmas.List.{append-nil, append_assoc, length-map, map_more}
use Rattle.std.proofs.Math.Seq.{take-suc}
use Rattle.std.proofs.lemmas.Slice.Eq.{bytes_eq-Decides}
use Rattle.std.specs.Bool.{Decides}
use Rattle.std.proofs.lemmas.List.Folds.{list_any-append, find-append}
use Rattle.std.proofs.lemmas.Map.Made.{length-le_from_is_member}
use Rattle.az_lin.proofs.AllLists.{all_snoc}
use Rattle.az_ast.specs.declared.fault.ShapeKind.{ShapeKind}
use Rattle.az_ast.specs.declared.fault.ShapeKind.TheVariants.{TwiceName, UnknownName, Literal, Entry, Arity, InputEquation, TwoEquations, BadReduce}
use Rattle.az_ast.specs.Shapes.{kinds_after}
use Rattle.az_ast.proofs.DistinctNumbers.{either, distinct_snoc}
use Rattle.az_ast.proofs.ShapeParts.{none_holds}
use Rattle.program_grammar.specs.declared.tree.Declaration.{Declaration}
use Rattle.program_grammar.specs.declared.tree.Equation.{Equation}
use Rattle.program_grammar.specs.declared.tree.ProgramText.{ProgramText}
use Rattle.program_names.specs.Pieces.{names, pieces, equation_pieces}
use Rattle.program_names.specs.Refusals.{declaration_of, is_named, is_twice, is_unknown, is_wide_literal, is_wide_row, is_other_arity, is_bad_operator, written_kind, meant_kind, equation_kind}
use Rattle.program_names.specs.Resolved.{declarations, declared_names}
use Rattle.program_names.proofs.Sums.{or-left, or-right, list_any-map}

-- items after others
pub kinds_after-behind : {A : Type 0} (kind : List A → A → Option ShapeKind) (before earlier xs : List A) → kinds_after (λ (e : List A). kind (before ++ e)) earlier xs ≡ kinds_after kind (before ++ earlier) xs
kinds_after-behind kind before earlier [] = refl
kinds_after-behind kind before earlier (x ∷ xs) =
    ap (λ rest. kind (before ++ earlier) x ∷ rest)
    (kinds_after-behind kind before (earlier ++ x ∷ []) xs ∙ ap (λ e. kinds_after kind e xs) (sym (append_assoc before earlier (x ∷ []))))

pub kinds_after-append : {A : Type 0} (kind : List A → A → Option ShapeKind) (earlier xs ys : List A) → kinds_after kind earlier (xs ++ ys) ≡ kinds_after kind earlier xs ++ kinds_after kind (earlier ++ xs) ys
kinds_after-append kind earlier [] ys = ap (λ e. kinds_after kind e ys) (sym (append-nil earlier))
kinds_after-append kind earlier (x ∷ xs) ys =
    ap (λ rest. kind earlier x ∷ rest)
    (kinds_after-append kind (earlier ++ x ∷ []) xs ys ∙ ap (λ e. kinds_after kind (earlier ++ x ∷ []) xs ++ kinds_after kind e ys) (append_assoc earlier (x ∷ []) xs))

pub any_of_three : {A : Type 0} (test : A → Bool) (xs ys zs : List A) → list_any test ((xs ++ ys) ++ zs) ≡ ((list_any test xs || list_any test ys) || list_any test zs)
any_of_three test xs ys zs = list_any-append test (xs ++ ys) zs ∙ ap (λ b. b || list_any test zs) (list_any-append test xs ys)

-- the variables of equations
abbrev pub equated : List Equation → List (List ℕ)
equated equations = map (λ (e : Equation). e.variable) equations

abbrev pub AreDeclared : ProgramText → List Equation → Type 0
AreDeclared text equations = AllByRecursion (λ (e : Equation). is_none (declaration_of text e.variable) ≡ false) equations

-- what is known of an equation without a fault
abbrev written_tests : ProgramText → Equation → List (Bool × ShapeKind)
written_tests text e =
    let ps = equation_pieces text.params e in
    (list_any is_twice ps, TwiceName) ∷ (list_any (is_unknown text) ps, UnknownName) ∷ (list_any is_wide_literal ps, Literal)
    ∷ (list_any is_wide_row ps, Entry) ∷ []

abbrev meant_tests : ProgramText → List Equation → Equation → List (Bool × ShapeKind)
meant_tests text earlier e =
    let ps = equation_pieces text.params e in
    (list_any (is_other_arity text) ps, Arity) ∷ (list_any (λ (input : Declaration). bytes_eq input.name e.variable) text.inputs, InputEquation)
    ∷ (list_any (λ (other : Equation). bytes_eq other.variable e.variable) earlier, TwoEquations) ∷ (list_any is_bad_operator ps, BadReduce) ∷ []

pub both-none : {A : Type 0} (a b : Option A) → option_or a b ≡ None → (a ≡ None) × (b ≡ None)
both-none None b h = (refl, h)
both-none (Some x) b h = cc

module _ (text : ProgramText) where
  pub written-none : (e : Equation) → written_kind text e ≡ None → AllByRecursion (λ (row : Bool × ShapeKind). row.0 ≡ false) (written_tests text e)
  written-none e h = none_holds (written_tests text e) h

  pub meant-none : (earlier : List Equation) (e : Equation) → meant_kind text earlier e ≡ None → AllByRecursion (λ (row : Bool × ShapeKind). row.0 ≡ false) (meant_tests text earlier e)
  meant-none earlier e h = none_holds (meant_tests text earlier e) h

  pub variable-declared : (earlier : List Equation) (e : Equation) → equation_kind text earlier e ≡ None → is_none (declaration_of text e.variable) ≡ false
  variable-declared earlier e h =
      let written = written-none e (both-none (written_kind text e) (meant_kind text earlier e) h).0 in
      or-left (is_none (declaration_of text e.variable)) (list_any (is_unknown text) (names text.params e.indices ∷ pieces e.body (text.params ++ e.indices))) written.1.0

  pub variable-new : (earlier : List Equation) (e : Equation) → equation_kind text earlier e ≡ None → list_any (λ (other : Equation). bytes_eq other.variable e.variable) earlier ≡ false
  variable-new earlier e h = (meant-none earlier e (both-none (written_kind text e) (meant_kind text earlier e) h).1).1.1.0

  differ : (equations : List Equation) (y : List ℕ) → list_any (λ (e : Equation). bytes_eq e.variable y) equations ≡ false → AllByRecursion (λ x. bytes_eq x y ≡ false) (equated equations)
  differ [] y h = tt
  differ (e ∷ equations) y h = (
    or-left (bytes_eq e.variable y) (list_any (λ (e : Equation). bytes_eq e.variable y) equations) h,
    differ equations y (or-right (bytes_eq e.variable y) (list_any (λ (e : Equation). bytes_eq e.variable y) equations) h),
  )

  module _ (equations : List Equation) (i : ℕ) (e : Equation) (within : i < length equations) (here : e ≡ get_or equations i e) (none : equation_kind text (take i equations) e ≡ None) where
    grown : take (i + 1) equations ≡ take i equations ++ e ∷ []
    grown = rw add-one (take-suc equations i e within ∙ ap (λ y. take i equations ++ y ∷ []) (sym here))

    pub distinct_more : IsDistinct bytes_eq (equated (take i equations)) → IsDistinct bytes_eq (equated (take (i + 1) equations))
    distinct_more d =
        subst (IsDistinct bytes_eq) (sym (map_more (λ (q : Equation). q.variable) equations i e within ∙ ap (λ (q : Equation). equated (take i equations) ++ q.variable ∷ []) (sym here)))
        (distinct_snoc bytes_eq (equated (take i equations)) e.variable d (differ (take i equations) e.variable (variable-new (take i equations) e none)))

    pub declared_more : AreDeclared text (take i equations) → AreDeclared text (take (i + 1) equations)
    declared_more d =
        subst (AreDeclared text) (sym grown)
        (all_snoc (λ (e : Equation). is_none (declaration_of text e.variable) ≡ false) (take i equations) e d (variable-declared (take i equations) e none))

  -- a declared name is one of the names
  found-any : (x : List ℕ) (ds : List Declaration) → is_none (find (is_named x) ds) ≡ false → list_any (is_named x) ds ≡ true
  found-any x [] h = absurd (true≢false h)
  found-any x (d ∷ ds) h = by (is_named x d) refl h (λ g. found-any x ds g)
    where
      by : (b : Bool) → is_named x d ≡ b → is_none (cond b (Some d) (find (is_named x) ds)) ≡ false → (is_none (find (is_named x) ds) ≡ false → list_any (is_named x) ds ≡ true) → (is_named x d || list_any (is_named x) ds) ≡ true
      by true same g rest = ap (λ b. b || list_any (is_named x) ds) same
      by false same g rest = ap (λ b. b || list_any (is_named x) ds) same ∙ rest g

  pub declaration-find : (x : List ℕ) → declaration_of text x ≡ find (is_named x) (declarations text)
  declaration-find x =
      sym (find-append (is_named x) text.inputs (text.outputs ++ text.locals) ∙ ap (option_or (find (is_named x) text.inputs)) (find-append (is_named x) text.outputs text.locals))

  pub found-declared : (x : List ℕ) → is_none (declaration_of text x) ≡ false → list_any (bytes_eq x) (declared_names text) ≡ true
  found-declared x h =
      list_any-map (bytes_eq x) (λ (d : Declaration). d.name) (declarations text)
      ∙ found-any x (declarations text) (ap is_none (sym (declaration-find x)) ∙ h)

  pub same-bytes : (x y : List ℕ) → bytes_eq x y ≡ true → x ≡ y
  same-bytes x y h = (subst (λ b. Decides b (x ≡ y)) h (bytes_eq-Decides x y)).0 refl

  below : (es : List Equation) → AreDeclared text es → (q : List ℕ) → list_any (bytes_eq q) (equated es) ≡ true → list_any (bytes_eq q) (declared_names text) ≡ true
  below [] h q e = cc
  below (x ∷ es) h q e = elim (either (bytes_eq q x.variable) (list_any (bytes_eq q) (equated es)) e) [
    | inl a ↦ subst (λ n. list_any (bytes_eq n) (declared_names text) ≡ true) (sym (same-bytes q x.variable a)) (found-declared x.variable h.0)
    | inr b ↦ below es h.1 q b
  ]

  -- equations of different declared variables are no more than the declarations
  pub few_so_far : (es : List Equation) → AreDeclared text es → IsDistinct bytes_eq (equated es) → length es ≤ length (declarations text)
  few_so_far es declared distinct =
      let bound = length-le_from_is_member nat_list_eq_equiv (equated es) (declared_names text) distinct (λ q. below es declared q) in
      let left = length-map es (λ (e : Equation). e.variable) in
      let right = length-map (declarations text) (λ (d : Declaration). d.name) in
      omega (arith, bound, left, right)
