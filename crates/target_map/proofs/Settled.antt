-- What holds of all that is set, when something more is set.
use Rattle.std.proofs.Common.{◌≡◌, ℕ, Bool, true, false, Some, None, refl, sym, subst, ◌∙◌, cond, Option}
use Rattle.std.specs.Ordering.{nat_cmp, eq_by_cmp, is_eq}
use Rattle.std.specs.declared.cmp.Ordering.{Ordering}
use Rattle.std.specs.declared.cmp.Ordering.TheVariants.{Less, Equal, Greater}
use Rattle.std.specs.Cmp.{nat_cmp_total, eq_by_cmp_equiv}
use Rattle.std.specs.FinMap.{FinMap, get, insert, empty, get-insert, get-empty, nat_cmp-IsAntisymmetric}
use Rattle.target_map.specs.Settings.{EachSet}

tied : (r : Ordering) → is_eq r ≡ true → r ≡ Equal
tied Less is = cc
tied Equal is = refl
tied Greater is = cc

pub same_key : (x k : ℕ) → eq_by_cmp nat_cmp x k ≡ true → x ≡ k
same_key x k is = nat_cmp-IsAntisymmetric x k (tied (nat_cmp x k) is)

differs : (x k : ℕ) → x ≡ k → eq_by_cmp nat_cmp x k ≡ false → ⊥
differs x k same other =
    let F : ℕ → Type 0 = λ n. eq_by_cmp nat_cmp n k ≡ false in
    let itself : eq_by_cmp nat_cmp k k ≡ false = subst F same other in
    let yes : eq_by_cmp nat_cmp k k ≡ true = (eq_by_cmp_equiv nat_cmp_total).refl k in
    cc

module _ {X : Type 0} (P : ℕ → X → Type 0) where
  pub none_set : EachSet P (empty {X = X} {R = nat_cmp})
  none_set x value is = absurd (let none : get (empty {X = X} {R = nat_cmp}) x ≡ None = get-empty nat_cmp x in let two : None ≡ Some value = sym none ∙ is in cc)

  -- the others stay as they were
  pub one_set : (m : FinMap nat_cmp X) (k : ℕ) (v : X) → ((x : ℕ) (value : X) → (x ≡ k → ⊥) → get m x ≡ Some value → P x value) → P k v → EachSet P (insert m k v)
  one_set m k v others here x value is = by (eq_by_cmp nat_cmp x k) refl (sym (get-insert nat_cmp_total m k v x) ∙ is)
    where
      by : (b : Bool) → eq_by_cmp nat_cmp x k ≡ b → cond b (Some v) (get m x) ≡ Some value → P x value
      by true same found =
          let Q : X → Type 0 = λ w. P x w in
          let R : ℕ → Type 0 = λ n. P n v in
          let some : Some v ≡ Some value = found in
          let value_is : v ≡ value = cc in
          subst Q value_is (subst R (sym (same_key x k same)) here)
      by false other found = others x value (λ same. differs x k same other) found
