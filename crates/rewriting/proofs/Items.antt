-- Items none of which is at fault beside those before it: each keeps its own rules, and no two are of one kind.
use Rattle.std.proofs.Common.{◌≡◌, ℕ, zero, suc, ◌+◌, List, [], ◌∷◌, ◌++◌, Bool, true, false, cond, ◌||◌, Option, Some, None, refl, sym, ap, subst, ◌∙◌, arith}
use Rattle.std.specs.Prelude.{slice_get}
use Rattle.std.specs.List.{list_any, AllByRecursion}
use Rattle.std.proofs.lemmas.List.Folds.{list_any-append}
use Rattle.az_ast.proofs.ShapeParts.{neither}
use Rattle.az_ast.specs.Shapes.{first_of, first_kind, kinds_after, missing_kinds, lacks_equation}
use Rattle.az_ast.specs.declared.fault.ShapeFault.{ShapeFault}
use Rattle.az_ast.specs.declared.fault.ShapeKind.{ShapeKind}
use Rattle.az_ast.specs.declared.fault.ShapeKind.TheVariants.{NoEquation}
use Rattle.az_ast.specs.declared.program.Equation.{Equation}
use Rattle.az_ast.specs.declared.program.Variable.{Variable}

-- facts on each of a list
pub each-both : {A : Type 0} (P Q R : A → Type 0) → ((x : A) → P x → Q x → R x) → (xs : List A) → AllByRecursion P xs → AllByRecursion Q xs → AllByRecursion R xs
each-both P Q R f [] p q = tt
each-both P Q R f (x ∷ xs) p q = (f x p.0 q.0, each-both P Q R f xs p.1 q.1)

pub each-map : {A : Type 0} (P Q : A → Type 0) → ((x : A) → P x → Q x) → (xs : List A) → AllByRecursion P xs → AllByRecursion Q xs
each-map P Q f [] p = tt
each-map P Q f (x ∷ xs) p = (f x p.0, each-map P Q f xs p.1)

pub none_first : {A : Type 0} (rows : List (Bool × A)) → AllByRecursion (λ row. row.0 ≡ false) rows → first_of rows ≡ None
none_first [] h = refl
none_first (row ∷ rows) h = subst (λ b. cond b (Some row.1) (first_of rows) ≡ None) (sym h.0) (none_first rows h.1)

abbrev pub NoneOf : {A : Type 0} → (List A → A → Option ShapeKind) → List A → List A → Type 0
NoneOf kind earlier xs = AllByRecursion (λ (k : Option ShapeKind). k ≡ None) (kinds_after kind earlier xs)

pub none_kind : (n : ℕ) (kinds : List (Option ShapeKind)) → AllByRecursion (λ (k : Option ShapeKind). k ≡ None) kinds → first_kind n kinds ≡ None
none_kind n [] h = refl
none_kind n (kind ∷ kinds) h = by kind h.0 (none_kind (suc n) kinds h.1)
  where
    by : (k : Option ShapeKind) → k ≡ None → first_kind (suc n) kinds ≡ None → first_kind n (k ∷ kinds) ≡ None
    by None e rest = rest
    by (Some k) e rest = cc

-- no item meets one before it
module _ {A : Type 0} (hits : A → A → Bool) where
  abbrev pub MeetsNone : List A → A → Type 0
  MeetsNone earlier x = list_any (λ o. hits o x) earlier ≡ false

  abbrev pub Apart : List A → Type 0
  Apart [] = Unit {0}
  Apart (x ∷ xs) = AllByRecursion (λ y. hits x y ≡ false) xs × Apart xs

  split : (earlier : List A) (x y : A) → MeetsNone (earlier ++ x ∷ []) y → MeetsNone earlier y × (hits x y ≡ false)
  split earlier x y h =
      let two = neither (list_any (λ o. hits o y) earlier) (list_any (λ o. hits o y) (x ∷ [])) (sym (list_any-append (λ o. hits o y) earlier (x ∷ [])) ∙ h) in
      (two.0, (neither (hits x y) false two.1).0)

  joined : (earlier : List A) (x y : A) → MeetsNone earlier y → hits x y ≡ false → MeetsNone (earlier ++ x ∷ []) y
  joined earlier x y h g =
      list_any-append (λ o. hits o y) earlier (x ∷ [])
      ∙ (ap (λ b. b || list_any (λ o. hits o y) (x ∷ [])) h ∙ ap (λ b. b || false) g)

  module _ (kind : List A → A → Option ShapeKind) where
    pub apart-from_none :
        ((earlier : List A) (x : A) → kind earlier x ≡ None → MeetsNone earlier x) → (earlier xs : List A) → NoneOf kind earlier xs →
        AllByRecursion (MeetsNone earlier) xs × Apart xs
    apart-from_none told earlier [] n = (tt, tt)
    apart-from_none told earlier (x ∷ xs) n =
        let rest = apart-from_none told (earlier ++ x ∷ []) xs n.1 in (
          (told earlier x n.0, each-map (MeetsNone (earlier ++ x ∷ [])) (MeetsNone earlier) (λ y h. (split earlier x y h).0) xs rest.0),
          (each-map (MeetsNone (earlier ++ x ∷ [])) (λ y. hits x y ≡ false) (λ y h. (split earlier x y h).1) xs rest.0, rest.1),
        )

    pub none-from_apart :
        (Own : A → Type 0) → ((earlier : List A) (x : A) → Own x → MeetsNone earlier x → kind earlier x ≡ None) → (earlier xs : List A) →
        AllByRecursion Own xs → AllByRecursion (MeetsNone earlier) xs → Apart xs → NoneOf kind earlier xs
    none-from_apart Own told earlier [] own none apart = tt
    none-from_apart Own told earlier (x ∷ xs) own none apart = (
      told earlier x own.0 none.0,
      none-from_apart Own told (earlier ++ x ∷ []) xs own.1 (each-both (MeetsNone earlier) (λ y. hits x y ≡ false) (MeetsNone (earlier ++ x ∷ [])) (λ y h g. joined earlier x y h g) xs none.1 apart.0) apart.1,
    )

  pub meets_none-at_first : (xs : List A) → AllByRecursion (MeetsNone []) xs
  meets_none-at_first [] = tt
  meets_none-at_first (x ∷ xs) = (refl, meets_none-at_first xs)

-- each output and local has an equation
pub none_missing : (equations : List Equation) (x : ℕ) (variables : List Variable)
    → ((i : ℕ) (v : Variable) → slice_get variables i ≡ Some v → lacks_equation equations (x + i) v ≡ false)
    → AllByRecursion (λ (k : Option ShapeKind). k ≡ None) (missing_kinds equations x variables)
none_missing equations x [] each = tt
none_missing equations x (v ∷ variables) each = (
  none_first ((lacks_equation equations x v, NoEquation) ∷ []) (subst (λ n. lacks_equation equations n v ≡ false) (add-zero x) (each 0 v refl), tt),
  none_missing equations (suc x) variables (λ i w e. subst (λ n. lacks_equation equations n w ≡ false) (moved i) (each (suc i) w e)),
)
  where
    add-zero : (x : ℕ) → x + 0 ≡ x
    add-zero x = omega arith

    moved : (i : ℕ) → x + suc i ≡ suc x + i
    moved i = omega arith
