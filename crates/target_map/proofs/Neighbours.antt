-- The storage of another variable in a space, as it was found.
use Rattle.std.proofs.Common.{◌≡◌, ℕ, zero, suc, ◌<◌, List, Bool, true, false, Option, Some, None, refl, sym, ap, subst, ◌∙◌, arith, inl, inr, ◌⊎◌, cond}
use Rattle.std.specs.Prelude.{◌==◌, if◌then◌else◌}
use Rattle.std.specs.FinMap.{get}
use Rattle.std.specs.Option.{option_or}
use Rattle.std.specs.Str.{bytes_eq}
use Rattle.std.proofs.lemmas.Bool.{eqb-true, eq-eqb, ne_eqb}
use Rattle.std.proofs.lemmas.Slice.Eq.{bytes_eq-Decides}
use Rattle.target_map.specs.Refusals.{in_space, other_in, others_in}
use Rattle.target_map.specs.Settings.{Storages}
use Rattle.target_map.specs.declared.storage.Storage.{Storage}

-- one of the storages, in the space
pub record IsFound (storages : Storages) (space : List ℕ) (found : Option Storage) : Type 0 where
  pub number : ℕ
  pub storage : Storage
  pub is : found ≡ Some storage
  pub set : get storages number ≡ Some storage
  pub there : storage.space ≡ space

in_space_is : (space : List ℕ) (o : Option Storage) (s : Storage) → in_space space o ≡ Some s → (o ≡ Some s) × (s.space ≡ space)
in_space_is space None s is = cc
in_space_is space (Some t) s is = by (bytes_eq t.space space) refl is
  where
    by : (b : Bool) → bytes_eq t.space space ≡ b → (if b then Some t else None) ≡ Some s → (Some t ≡ Some s) × (s.space ≡ space)
    by true there found =
        let some : Some t ≡ Some s = found in
        let same : t ≡ s = cc in
        let P : Storage → Type 0 = λ u. u.space ≡ space in
        (some, subst P same ((bytes_eq-Decides t.space space).0 there))
    by false other found = let none : None ≡ Some s = found in cc

module _ (storages : Storages) (space : List ℕ) (x : ℕ) where
  other_found : (y : ℕ) (s : Storage) → other_in storages space x y ≡ Some s → IsFound storages space (other_in storages space x y)
  other_found y s is = by (y == x) refl is
    where
      by : (b : Bool) → (y == x) ≡ b → (if b then None else in_space space (get storages y)) ≡ Some s → IsFound storages space (other_in storages space x y)
      by true here found = let none : None ≡ Some s = found in cc
      by false other found =
          let both = in_space_is space (get storages y) s found in
          record { number = y; storage = s; is = is; set = both.0; there = both.1 }

  other_is : (y : ℕ) (s : Storage) → (y ≡ x → ⊥) → get storages y ≡ Some s → s.space ≡ space → other_in storages space x y ≡ Some s
  other_is y s differs set there =
      let apart : (y == x) ≡ false = ne_eqb y x differs in
      let same : bytes_eq s.space space ≡ true = (bytes_eq-Decides s.space space).1 there in
      ap (λ (b : Bool). if b then None else in_space space (get storages y)) apart
      ∙ ap (λ (o : Option Storage). in_space space o) set
      ∙ ap (λ (b : Bool). if b then Some s else None) same

  earlier : (n y : ℕ) (s : Storage) → y < suc n → (y ≡ x → ⊥) → get storages y ≡ Some s → s.space ≡ space → other_in storages space x n ≡ None → y < n
  earlier n y s below differs set there none = at (y == n) refl
    where
      at : (b : Bool) → (y == n) ≡ b → y < n
      at true same =
          let here : y ≡ n = eqb-true y n same in
          let P : ℕ → Type 0 = λ k. other_in storages space x k ≡ Some s in
          let found : other_in storages space x n ≡ Some s = subst P here (other_is y s differs set there) in
          absurd (let two : None ≡ Some s = sym none ∙ found in cc)
      at false other =
          let apart : y ≡ n → ⊥ = λ same. absurd (let yes : (y == n) ≡ true = eq-eqb y n same in cc) in
          omega (arith, apart)

  -- where another variable's storage is in the space, one is found
  pub others_found : (count y : ℕ) (s : Storage) → y < count → (y ≡ x → ⊥) → get storages y ≡ Some s → s.space ≡ space → IsFound storages space (others_in storages space x count)
  others_found zero y s below differs set there = absurd (omega arith)
  others_found (suc n) y s below differs set there = by (other_in storages space x n) refl (λ further. others_found n y s further differs set there)
    where
      by : (o : Option Storage) → other_in storages space x n ≡ o → (y < n → IsFound storages space (others_in storages space x n)) → IsFound storages space (option_or o (others_in storages space x n))
      by None none rest = rest (earlier n y s below differs set there none)
      by (Some t) is rest =
          let found = other_found n t is in
          let same : Some found.storage ≡ Some t = sym found.is ∙ is in
          let P : Storage → Type 0 = λ u. (get storages found.number ≡ Some u) × (u.space ≡ space) in
          let stored : found.storage ≡ t = cc in
          let both = subst P stored (found.set, found.there) in
          record { number = found.number; storage = t; is = refl; set = both.0; there = both.1 }
