-- Equations of different declared variables are no more than the variables.
use Rattle.std.proofs.Common.{◌≡◌, ℕ, zero, suc, ◌+◌, ◌<◌, ◌≤◌, List, [], ◌∷◌, ◌++◌, length, take, Bool, true, false, ◌||◌, None, refl, sym, ap, subst, ◌∙◌, arith, inl, inr, length-take-le}
use Rattle.std.specs.Prelude.{All, map, ◌==◌, ◌⊎◌, get_or}
use Rattle.std.specs.List.{list_any, AllByRecursion, IsDistinct}
use Rattle.std.proofs.lemmas.Bool.{eqb-true}
use Rattle.std.proofs.lemmas.List.{length-map, map_more}
use Rattle.std.proofs.lemmas.List.Elements.{recursion_from_All}
use Rattle.std.proofs.lemmas.Map.Steps.{length-le_from_distinct_below}
use Rattle.az_lin.proofs.AllLists.{all_snoc}
use Rattle.az_ast.specs.declared.program.Equation.{Equation}
use Rattle.az_ast.specs.declared.program.Variable.{Variable}
use Rattle.az_ast.specs.Shapes.{equation_kind}
use Rattle.az_ast.proofs.ShapeParts.{none_holds, neither, equation_tests}

abbrev pub numbers : List Equation → List ℕ
numbers equations = map (λ (e : Equation). e.variable) equations

pub either : (a b : Bool) → (a || b) ≡ true → (a ≡ true) ⊎ (b ≡ true)
either true b e = inl refl
either false b e = inr e

-- an item behind others that differ from it
pub distinct_snoc : {A : Type 0} (eq : A → A → Bool) (xs : List A) (y : A) → IsDistinct eq xs → AllByRecursion (λ x. eq x y ≡ false) xs → IsDistinct eq (xs ++ y ∷ [])
unfolding IsDistinct
distinct_snoc eq [] y d h = (tt, tt)
distinct_snoc eq (x ∷ xs) y d h = (all_snoc (λ z. eq x z ≡ false) xs y d.0 h.0, distinct_snoc eq xs y d.1 h.1)

pub distinct_none : {A : Type 0} (eq : A → A → Bool) → IsDistinct eq []
unfolding IsDistinct
distinct_none eq = tt

differ : (equations : List Equation) (y : ℕ) → list_any (λ (e : Equation). e.variable == y) equations ≡ false → AllByRecursion (λ x. (x == y) ≡ false) (numbers equations)
differ [] y h = tt
differ (e ∷ equations) y h = let n = neither (e.variable == y) (list_any (λ (e : Equation). e.variable == y) equations) h in (n.0, differ equations y n.1)

module _ (params : ℕ) (variables : List Variable) (equations : List Equation) where
  -- one more equation without a fault
  pub distinct_more :
      (i : ℕ) (e : Equation) → i < length equations → e ≡ get_or equations i e → equation_kind params variables (take i equations) e ≡ None →
      IsDistinct ◌==◌ (numbers (take i equations)) → IsDistinct ◌==◌ (numbers (take (i + 1) equations))
  distinct_more i e within here kind d =
      subst (IsDistinct ◌==◌) (sym (map_more (λ (q : Equation). q.variable) equations i e within ∙ ap (λ (q : Equation). numbers (take i equations) ++ q.variable ∷ []) (sym here)))
      (distinct_snoc ◌==◌ (numbers (take i equations)) e.variable d (differ (take i equations) e.variable (none_holds (equation_tests params variables (take i equations) e) kind).1.1.0))

  below : (es : List Equation) → AllByRecursion (λ (e : Equation). e.variable < length variables) es → (i q : ℕ) → list_any (◌==◌ q) (numbers (take i es)) ≡ true → q < length variables
  below [] h zero q e = cc
  below [] h (suc i) q e = cc
  below (x ∷ es) h zero q e = cc
  below (x ∷ es) h (suc i) q e = elim (either (q == x.variable) (list_any (◌==◌ q) (numbers (take i es))) e) [
    | inl a ↦ subst (λ n. n < length variables) (sym (eqb-true q x.variable a)) h.0
    | inr b ↦ below es h.1 i q b
  ]

  pub few_so_far :
      (i : ℕ) → i ≤ length equations → All (λ (e : Equation). e.variable < length variables) equations → IsDistinct ◌==◌ (numbers (take i equations)) → i ≤ length variables
  few_so_far i within declared d =
      let bound = length-le_from_distinct_below (numbers (take i equations)) (length variables) d (below equations (recursion_from_All (λ (e : Equation). e.variable < length variables) equations declared) i) in
      let count = length-map (take i equations) (λ (e : Equation). e.variable) ∙ length-take-le i equations within in
      omega (arith, bound, count)
