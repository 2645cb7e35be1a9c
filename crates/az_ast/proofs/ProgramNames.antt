-- The names of a program: two parameters, and two variables, of one name are the same, and none is reserved.
use Rattle.std.proofs.Common.{◌≡◌, ℕ, zero, suc, ◌<◌, List, [], ◌∷◌, ◌++◌, take, Bool, false, Some, None, refl, sym, ap, subst, arith, inl, inr, append-nil, append_assoc}
use Rattle.std.specs.Prelude.{All, slice_get, unwrap_or}
use Rattle.std.specs.List.{list_any, AllByRecursion}
use Rattle.std.specs.Str.{bytes_eq}
use Rattle.std.proofs.lemmas.Bool.{cases_lt}
use Rattle.std.proofs.lemmas.Slice.Eq.{bytes_eq-Decides}
use Rattle.std.proofs.lemmas.List.Elements.{All-from_recursion}
use Rattle.az_ast.specs.declared.fault.ShapeKind.TheVariants.{Reserved, TwiceName}
use Rattle.az_ast.specs.declared.program.Variable.{Variable}
use Rattle.az_ast.specs.Shapes.{is_index_name, has_twice, header_kind, declaration_kind, kinds_after, IsProgram}
use Rattle.az_ast.specs.System.{System}
use Rattle.az_ast.proofs.ProgramLaws.{no_faults, none_of, all_none, mapped_none, each_item}
use Rattle.az_ast.proofs.ShapeParts.{none_holds, neither}

-- a test that holds of nothing in a list fails at each place
at_place : {A : Type 0} (test : A → Bool) (xs : List A) (i : ℕ) (x : A) → list_any test xs ≡ false → slice_get xs i ≡ Some x → test x ≡ false
at_place test [] i x e h = cc
at_place test (y ∷ xs) zero x e h =
    let same : y ≡ x = ap (λ o. unwrap_or o y) h in
    subst (λ z. test z ≡ false) same (neither (test y) (list_any test xs) e).0
at_place test (y ∷ xs) (suc i) x e h = at_place test xs i x (neither (test y) (list_any test xs) e).1 h

-- equal texts are found equal
differ : (a b : List ℕ) → bytes_eq a b ≡ false → a ≡ b → ⊥
differ a b e same = let found = (bytes_eq-Decides a b).1 same in cc

params_differ : (names : List (List ℕ)) → has_twice names ≡ false → (i j : ℕ) (name : List ℕ) → slice_get names i ≡ Some name → slice_get names j ≡ Some name → i ≡ j
params_differ [] e i j name g h = cc
params_differ (n ∷ names) e zero zero name g h = refl
params_differ (n ∷ names) e zero (suc j) name g h =
    let same : n ≡ name = ap (λ o. unwrap_or o n) g in
    absurd (differ n name (at_place (bytes_eq n) names j name (neither (list_any (bytes_eq n) names) (has_twice names) e).0 h) same)
params_differ (n ∷ names) e (suc i) zero name g h =
    let same : n ≡ name = ap (λ o. unwrap_or o n) h in
    absurd (differ n name (at_place (bytes_eq n) names i name (neither (list_any (bytes_eq n) names) (has_twice names) e).0 g) same)
params_differ (n ∷ names) e (suc i) (suc j) name g h = ap suc (params_differ names (neither (list_any (bytes_eq n) names) (has_twice names) e).1 i j name g h)

-- what a declaration without a fault meets
declaration_tests : (earlier : List Variable) (v : Variable) → declaration_kind earlier v ≡ None → (is_index_name v.name ≡ false) × (list_any (λ (o : Variable). bytes_eq o.name v.name) earlier ≡ false)
declaration_tests earlier v e =
    let n = none_holds ((is_index_name v.name, Reserved) ∷ (list_any (λ (o : Variable). bytes_eq o.name v.name) earlier, TwiceName) ∷ []) e in
    (n.0, n.1.0)

-- no variable before a place has the name of the one there
none_earlier :
    (earlier xs : List Variable) → AllByRecursion (λ k. k ≡ None) (kinds_after declaration_kind earlier xs) → (j : ℕ) (w : Variable) → slice_get xs j ≡ Some w →
    list_any (λ (o : Variable). bytes_eq o.name w.name) (earlier ++ take j xs) ≡ false
none_earlier earlier [] n j w h = cc
none_earlier earlier (x ∷ xs) n zero w h =
    let same : x ≡ w = ap (λ o. unwrap_or o x) h in
    subst (λ (v : Variable). list_any (λ (o : Variable). bytes_eq o.name v.name) (earlier ++ []) ≡ false) same
    (subst (λ es. list_any (λ (o : Variable). bytes_eq o.name x.name) es ≡ false) (sym (append-nil earlier)) (declaration_tests earlier x n.0).1)
none_earlier earlier (x ∷ xs) n (suc j) w h =
    subst (λ es. list_any (λ (o : Variable). bytes_eq o.name w.name) es ≡ false) (append_assoc earlier (x ∷ []) (take j xs)) (none_earlier (earlier ++ x ∷ []) xs n.1 j w h)

in_take : {A : Type 0} (xs : List A) (i j : ℕ) (x : A) → i < j → slice_get xs i ≡ Some x → slice_get (take j xs) i ≡ Some x
in_take [] i j x l h = cc
in_take (y ∷ xs) i zero x l h = absurd (omega arith)
in_take (y ∷ xs) zero (suc j) x l h = h
in_take (y ∷ xs) (suc i) (suc j) x l h = in_take xs i j x (omega arith) h

module _ (p : System) (program : IsProgram p) where
  header_tests : (list_any is_index_name p.params ≡ false) × (has_twice p.params ≡ false)
  header_tests =
      let n = none_holds ((list_any is_index_name p.params, Reserved) ∷ (has_twice p.params, TwiceName) ∷ []) (mapped_none _ (header_kind p.params) (no_faults p program).1) in
      (n.0, n.1.0)

  declarations : AllByRecursion (λ k. k ≡ None) (kinds_after declaration_kind [] p.variables)
  declarations = all_none 1 (kinds_after declaration_kind [] p.variables) (no_faults p program).2

  -- parameters of one name are one
  pub parameters-differ : (i j : ℕ) (name : List ℕ) → slice_get p.params i ≡ Some name → slice_get p.params j ≡ Some name → i ≡ j
  parameters-differ = params_differ p.params header_tests.1

  earlier_differs : (i j : ℕ) (v w : Variable) → i < j → slice_get p.variables i ≡ Some v → slice_get p.variables j ≡ Some w → v.name ≡ w.name → ⊥
  earlier_differs i j v w l g h =
      differ v.name w.name (at_place (λ (o : Variable). bytes_eq o.name w.name) (take j p.variables) i v (none_earlier [] p.variables declarations j w h) (in_take p.variables i j v l g))

  -- and so are variables
  pub variables-differ : (i j : ℕ) (v w : Variable) → slice_get p.variables i ≡ Some v → slice_get p.variables j ≡ Some w → v.name ≡ w.name → i ≡ j
  variables-differ i j v w g h same = elim (cases_lt i j) [
    | inl l ↦ absurd (earlier_differs i j v w l g h same)
    | inr k ↦ elim (cases_lt j i) [
      | inl l ↦ absurd (earlier_differs j i w v l h g (sym same))
      | inr m ↦ omega arith
    ]
  ]

  -- no name is one that shown indices have
  pub parameters-free : All (λ name. is_index_name name ≡ false) p.params
  parameters-free = All-from_recursion (λ name. is_index_name name ≡ false) p.params (none_of is_index_name p.params header_tests.0)

  pub variables-free : All (λ (v : Variable). is_index_name v.name ≡ false) p.variables
  variables-free =
      All-from_recursion (λ (v : Variable). is_index_name v.name ≡ false) p.variables
      (each_item declaration_kind (λ (v : Variable). is_index_name v.name ≡ false) (λ earlier v e. (declaration_tests earlier v e).0) [] p.variables declarations)
