-- Sets of classes, and the next token after a list that begins in a set.
use Rattle.std.proofs.Common.{◌≡◌, ℕ, Bool, true, false, not, ◌||◌, ◌&&◌, if◌then◌else◌, ◌==◌, List, [], ◌∷◌, ◌++◌, refl, sym, subst}
use Rattle.std.proofs.lemmas.Bool.{eqb-true}
use Rattle.grammar_rules.specs.Readers.{has, sees}
use Rattle.grammar_rules.specs.Exactness.{BeginsIn, is_subset, is_disjoint}

pub or_left : (a b : Bool) → (a || b) ≡ false → a ≡ false
or_left true b h = h
or_left false b h = refl

pub or_right : (a b : Bool) → (a || b) ≡ false → b ≡ false
or_right true b h = absurd (cc)
or_right false b h = h

has-append_left : (xs ys : List ℕ) (c : ℕ) → has (xs ++ ys) c ≡ false → has xs c ≡ false
has-append_left [] ys c h = refl
has-append_left (x ∷ xs) ys c h =
    elim (c == x) as (λ b. (b || has (xs ++ ys) c) ≡ false → (b || has xs c) ≡ false) [ true ↦ λ k. k | false ↦ λ k. has-append_left xs ys c k ] h

has-append_right : (xs ys : List ℕ) (c : ℕ) → has (xs ++ ys) c ≡ false → has ys c ≡ false
has-append_right [] ys c h = h
has-append_right (x ∷ xs) ys c h = has-append_right xs ys c (or_right (c == x) (has (xs ++ ys) c) h)

pub append-has_left : (xs ys : List ℕ) (c : ℕ) → has xs c ≡ true → has (xs ++ ys) c ≡ true
append-has_left [] ys c h = absurd (cc)
append-has_left (x ∷ xs) ys c h = elim (c == x) as (λ b. (b || has xs c) ≡ true → (b || has (xs ++ ys) c) ≡ true) [ true ↦ λ k. refl | false ↦ λ k. append-has_left xs ys c k ] h

pub append-has_right : (xs ys : List ℕ) (c : ℕ) → has ys c ≡ true → has (xs ++ ys) c ≡ true
append-has_right [] ys c h = h
append-has_right (x ∷ xs) ys c h = elim (c == x) as (λ b. (b || has (xs ++ ys) c) ≡ true) [ true ↦ refl | false ↦ append-has_right xs ys c h ]

pub sees_left : {T : Type 0} (class : T → ℕ) (xs ys : List ℕ) (ts : List T) → sees class (xs ++ ys) ts ≡ false → sees class xs ts ≡ false
sees_left class xs ys [] h = refl
sees_left class xs ys (t ∷ ts) h = has-append_left xs ys (class t) h

pub sees_right : {T : Type 0} (class : T → ℕ) (xs ys : List ℕ) (ts : List T) → sees class (xs ++ ys) ts ≡ false → sees class ys ts ≡ false
sees_right class xs ys [] h = refl
sees_right class xs ys (t ∷ ts) h = has-append_right xs ys (class t) h

and_left : (a b : Bool) → (a && b) ≡ true → a ≡ true
and_left true b h = refl
and_left false b h = h

and_right : (a b : Bool) → (a && b) ≡ true → b ≡ true
and_right true b h = h
and_right false b h = absurd (cc)

not_true : (a : Bool) → not a ≡ true → a ≡ false
not_true true h = absurd (cc)
not_true false h = refl

pub has_subset : (xs ys : List ℕ) (c : ℕ) → is_subset xs ys ≡ true → has xs c ≡ true → has ys c ≡ true
has_subset [] ys c s h = absurd (cc)
has_subset (x ∷ xs) ys c s h =
    elim (c == x) as (λ b. c == x ≡ b → (b || has xs c) ≡ true → has ys c ≡ true) [
      | true ↦ λ e k. subst (λ (y : ℕ). has ys y ≡ true) (sym (eqb-true c x e)) (and_left (has ys x) (is_subset xs ys) s)
      | false ↦ λ e k. has_subset xs ys c (and_right (has ys x) (is_subset xs ys) s) k
    ] refl h

pub has_disjoint : (xs ys : List ℕ) (c : ℕ) → is_disjoint xs ys ≡ true → has xs c ≡ true → has ys c ≡ false
has_disjoint [] ys c s h = absurd (cc)
has_disjoint (x ∷ xs) ys c s h =
    elim (c == x) as (λ b. c == x ≡ b → (b || has xs c) ≡ true → has ys c ≡ false) [
      | true ↦ λ e k. subst (λ (y : ℕ). has ys y ≡ false) (sym (eqb-true c x e)) (not_true (has ys x) (and_left (not (has ys x)) (is_disjoint xs ys) s))
      | false ↦ λ e k. has_disjoint xs ys c (and_right (not (has ys x)) (is_disjoint xs ys) s) k
    ] refl h

-- What follows can't go on behind a part, where the rest begins with no such class, or is empty.
pub not_seen : {T : Type 0} (class : T → ℕ) (first more after : List ℕ) (empty : Bool) (vs rest : List T)
    → BeginsIn class first empty vs → is_disjoint first more ≡ true
    → sees class (if empty then more ++ after else after) rest ≡ false → sees class more (vs ++ rest) ≡ false
not_seen class first more after empty [] rest begins apart unseen =
    sees_left class more after rest (subst (λ (b : Bool). sees class (if b then more ++ after else after) rest ≡ false) begins unseen)
not_seen class first more after empty (v ∷ vs) rest begins apart unseen = has_disjoint first more (class v) apart begins

pub not_seen_after : {T : Type 0} (class : T → ℕ) (more after : List ℕ) (empty : Bool) (rest : List T)
    → sees class (if empty then more ++ after else after) rest ≡ false → sees class after rest ≡ false
not_seen_after class more after true rest unseen = sees_right class more after rest unseen
not_seen_after class more after false rest unseen = unseen

-- A list that begins in a set is seen.
pub seen : {T : Type 0} (class : T → ℕ) (first set : List ℕ) (vs rest : List T) → BeginsIn class first false vs → is_subset first set ≡ true → sees class set (vs ++ rest) ≡ true
seen class first set [] rest begins inside = absurd (cc)
seen class first set (v ∷ vs) rest begins inside = has_subset first set (class v) inside begins

pub disjoint_none : (xs : List ℕ) → is_disjoint xs [] ≡ true
disjoint_none [] = refl
disjoint_none (x ∷ xs) = disjoint_none xs
