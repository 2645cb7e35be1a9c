-- A list of variables of which one is changed.
use Rattle.std.proofs.Common.{◌≡◌, ℕ, zero, suc, List, [], ◌∷◌, ◌++◌, take, drop, Bool, true, false, cond, Option, Some, None, refl, sym, ap, ◌∙◌, arith}
use Rattle.std.specs.Prelude.{slice_get, option_map, unwrap_or, ◌==◌}
use Rattle.std.proofs.lemmas.Bool.{eqb-true, eqb-false, eq-eqb, ne_eqb, cond-false}
use Rattle.az_ast.specs.declared.program.Variable.{Variable}
use Rattle.change_basis.specs.Basis.{with_changed}

module _ (change : Variable → Variable) where
  other : (o : Option Variable) (b : Bool) → b ≡ false → o ≡ option_map (λ v. cond b (change v) v) o
  other None b h = refl
  other (Some v) b h = ap Some (sym (cond-false b (change v) v h))

  further : (x t : ℕ) → (x == t) ≡ (suc x == suc t)
  further x t = by (x == t) refl
    where
      by : (b : Bool) → (x == t) ≡ b → (x == t) ≡ (suc x == suc t)
      by true h = h ∙ sym (eq-eqb (suc x) (suc t) (ap suc (eqb-true x t h)))
      by false h = h ∙ sym (ne_eqb (suc x) (suc t) (λ s. eqb-false x t h (less s)))
        where
          less : suc x ≡ suc t → x ≡ t
          less s = omega (arith, s)

  pub changed-at : (vs : List Variable) (t x : ℕ) → slice_get (with_changed change t vs) x ≡ option_map (λ v. cond (x == t) (change v) v) (slice_get vs x)
  changed-at [] zero x = refl
  changed-at [] (suc t) x = refl
  changed-at (v ∷ vs) zero zero = refl
  changed-at (v ∷ vs) zero (suc x) = other (slice_get vs x) (suc x == zero) (ne_eqb (suc x) zero (λ s. omega (arith, s)))
  changed-at (v ∷ vs) (suc t) zero = other (Some v) (zero == suc t) (ne_eqb zero (suc t) (λ s. omega (arith, s)))
  changed-at (v ∷ vs) (suc t) (suc x) = changed-at vs t x ∙ ap (λ b. option_map (λ v. cond b (change v) v) (slice_get vs x)) (further x t)

  -- the list put together again
  pub changed-spliced : (vs : List Variable) (t : ℕ) (v : Variable) → slice_get vs t ≡ Some v → take t vs ++ change v ∷ drop (suc t) vs ≡ with_changed change t vs
  changed-spliced [] t v h = cc
  changed-spliced (u ∷ vs) zero v h = ap (λ (w : Variable). change w ∷ vs) (sym (ap (λ o. unwrap_or o u) h))
  changed-spliced (u ∷ vs) (suc t) v h = ap (λ (ws : List Variable). u ∷ ws) (changed-spliced vs t v h)

pub one-between : (us : List Variable) (v : Variable) (vs : List Variable) → (us ++ (v ∷ [])) ++ vs ≡ us ++ (v ∷ vs)
one-between [] v vs = refl
one-between (u ∷ us) v vs = ap (λ (l : List Variable). u ∷ l) (one-between us v vs)
