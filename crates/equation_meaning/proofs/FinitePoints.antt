-- A finite set of members is the list of its points in order.
use Rattle.std.proofs.Common.{◌≡◌, ℕ, zero, suc, ◌+◌, ◌<◌, ◌≤◌, List, [], ◌∷◌, ◌++◌, refl, sym, subst, ap, arith, ⊎_elim, append_assoc}
use Rattle.std.specs.Prelude.{ℤ, pos, neg_ℤ, ◌+ℤ◌, ◌≤ℤ◌, ◌<ℤ◌, unsigned_abs, Contains, ◌⊎◌}
use Rattle.std.specs.List.{AllByRecursion}
use Rattle.std.proofs.lemmas.Int.{ints, by_lt_z}
use Rattle.std.proofs.lemmas.List.{nil_from_length}
use Rattle.std.proofs.lemmas.List.Elements.{Contains-append_left, Contains-append_right, Contains-append_cases}
use Rattle.std.specs.declared.cmp.Ordering.TheVariants.{Less}
use Rattle.std.specs.Ordering.{int_cmp, ordering_then}
use Rattle.std.specs.Cmp.{int_cmp_is}
use Rattle.std.specs.Cmp.Lexicographic.{slice_cmp}
use Rattle.az_lin.specs.Affine.{Union, HoldsSome}
use Rattle.az_ast.specs.Points.{Precedes, IsIncreasing, IsMember, AreMembers}
use Rattle.az_ast.proofs.Members.{All-Contains, Contains-cases, Contains-first, Contains-rest}
use Rattle.az_ast.proofs.TableLemmas.{Precedes-append}
use Rattle.expr_places.proofs.Branches.{held_or_not}
use Rattle.loop_scan.proofs.Lists.{all_of_members, none_contained, IsIncreasing-append}

abbrev Rows : Type 0
Rows = List (List ℤ)

-- points behind one coordinate
abbrev behind : ℤ → Rows → Rows
behind c [] = []
behind c (k ∷ ks) = (c ∷ k) ∷ behind c ks

behind-has : (c : ℤ) (ks : Rows) (k : List ℤ) → Contains ks k → Contains (behind c ks) (c ∷ k)
behind-has c [] k h = absurd (none_contained k h)
behind-has c (q ∷ ks) k h =
    ⊎_elim (λ e. (0, omega arith, ap (λ l. c ∷ l) (sym e))) (λ r. Contains-rest (c ∷ q) (behind c ks) (c ∷ k) (behind-has c ks k r)) (Contains-cases q ks k h)

behind-cases : (c : ℤ) (ks : Rows) (y : List ℤ) → Contains (behind c ks) y → (k : List ℤ) × Contains ks k × (y ≡ c ∷ k)
behind-cases c [] y h = absurd (none_contained y h)
behind-cases c (q ∷ ks) y h =
    ⊎_elim (λ e. (q, Contains-first q ks, e)) (λ r. let found = behind-cases c ks y r in (found.0, Contains-rest q ks found.0 found.1, found.2)) (Contains-cases (c ∷ q) (behind c ks) y h)

behind-all : (c : ℤ) (p : List ℤ) (ks : Rows) → AllByRecursion (Precedes p) ks → AllByRecursion (Precedes (c ∷ p)) (behind c ks)
behind-all c p [] a = tt
behind-all c p (k ∷ ks) a = (Precedes-append (c ∷ []) p k a.0, behind-all c p ks a.1)

behind-increasing : (c : ℤ) (ks : Rows) → IsIncreasing ks → IsIncreasing (behind c ks)
behind-increasing c [] i = tt
behind-increasing c (k ∷ ks) i = (behind-all c k ks i.0, behind-increasing c ks i.1)

lesser-first : (a b : ℤ) (k l : List ℤ) → a <ℤ b → Precedes (a ∷ k) (b ∷ l)
lesser-first a b k l h =
    let less : int_cmp a b ≡ Less = sym (int_cmp_is a b Less h) in
    subst (λ r. ordering_then r (slice_cmp int_cmp k l) ≡ Less) (sym less) refl

module _ (domain : Union) where
  -- the members whose first coordinate is one of so many from the lowest on
  record AreFrom (z : List ℤ) (extra : ℕ) (low : ℤ) (count : ℕ) : Type 0 where
    points : Rows
    increasing : IsIncreasing points
    only : (y : List ℤ) → Contains points y → (c : ℤ) × (k : List ℤ) × (y ≡ c ∷ k) × (low ≤ℤ c) × IsMember domain (z ++ c ∷ []) extra k
    every : (c : ℤ) (k : List ℤ) → low ≤ℤ c → c <ℤ (low +ℤ pos count) → IsMember domain (z ++ c ∷ []) extra k → Contains points (c ∷ k)

  module _ (z : List ℤ) (extra : ℕ) (inner : (c : ℤ) → (points : Rows) × AreMembers domain (z ++ c ∷ []) extra points) where
    from : (low : ℤ) (count : ℕ) → AreFrom z extra low count
    from low zero = record { points = []; increasing = tt; only = λ y c. absurd (none_contained y c); every = λ c k a b m. absurd (omega (arith, ints, a, b)) }
    from low (suc count) =
        let here = inner low in
        let rest = from (low +ℤ pos 1) count in
        record {
          points = behind low here.0 ++ rest.points;
          increasing = IsIncreasing-append (behind low here.0) rest.points (behind-increasing low here.0 here.1.increasing) rest.increasing
              (λ x y a b.
              let first = behind-cases low here.0 x a in
              let later = rest.only y b in
              subst (λ q. Precedes q y) (sym first.2) (subst (λ q. Precedes (low ∷ first.0) q) (sym later.2) (lesser-first low later.0 first.0 later.1 (let l = later.3 in omega (arith, ints, l)))));
          only = λ y c. ⊎_elim
              (λ a. let first = behind-cases low here.0 y a in (low, first.0, first.2, omega (arith, ints), All-Contains (IsMember domain (z ++ low ∷ []) extra) here.0 first.0 here.1.only first.1))
              (λ b. let later = rest.only y b in (later.0, later.1, later.2, (let l = later.3 in omega (arith, ints, l)), later.4))
              (Contains-append_cases (behind low here.0) rest.points y c);
          every = λ c k a b m. by_lt_z low c
              (λ above. Contains-append_right (behind low here.0) rest.points (c ∷ k) (rest.every c k (omega (arith, ints, above)) (omega (arith, ints, b)) m))
              (λ below. let same : low ≡ c = omega (arith, ints, a, below) in
              Contains-append_left (behind low here.0) rest.points (c ∷ k)
              (subst (λ q. Contains (behind low here.0) (q ∷ k)) same (behind-has low here.0 k (here.1.every k (subst (λ q. IsMember domain (z ++ q ∷ []) extra k) (sym same) m)))));
        }

  inside : (z : List ℤ) (extra : ℕ) (c : ℤ) (k : List ℤ) → IsMember domain (z ++ c ∷ []) extra k → IsMember domain z (suc extra) (c ∷ k)
  inside z extra c k m = (omega (arith, m.0), subst (λ q. HoldsSome domain q) (append_assoc z (c ∷ []) k) m.1)

  outside : (z : List ℤ) (extra : ℕ) (c : ℤ) (k : List ℤ) → IsMember domain z (suc extra) (c ∷ k) → IsMember domain (z ++ c ∷ []) extra k
  outside z extra c k m = (omega (arith, m.0), subst (λ q. HoldsSome domain q) (sym (append_assoc z (c ∷ []) k)) m.1)

  pub listed : (extra : ℕ) (z : List ℤ) (bound : ℕ) → ((k : List ℤ) → IsMember domain z extra k → AllByRecursion (λ c. unsigned_abs c ≤ bound) k) → (points : Rows) × AreMembers domain z extra points
  listed zero z bound h =
      ⊎_elim
      (λ held. ([] ∷ [], record { increasing = (tt, tt); only = ((refl, held), tt); every = λ k m. (0, omega arith, sym (nil_from_length k m.0)) }))
      (λ out. ([], record { increasing = tt; only = tt; every = λ k m. absurd (out (subst (λ q. HoldsSome domain (z ++ q)) (nil_from_length k m.0) m.1)) }))
      (held_or_not domain (z ++ []))
  listed (suc extra) z bound h =
      let all = from z extra (λ c. listed extra (z ++ c ∷ []) bound (λ k m. (h (c ∷ k) (inside z extra c k m)).1)) (neg_ℤ (pos bound)) (bound + bound + 1) in (
        all.points,
        record {
          increasing = all.increasing;
          only = all_of_members (IsMember domain z (suc extra)) all.points
              (λ y c. let found = all.only y c in subst (λ q. IsMember domain z (suc extra) q) (sym found.2) (inside z extra found.0 found.1 found.4));
          every = every all;
        },
      )
    where
      every : (all : AreFrom z extra (neg_ℤ (pos bound)) (bound + bound + 1)) (k : List ℤ) → IsMember domain z (suc extra) k → Contains all.points k
      every all [] m = absurd (omega (arith, m.0))
      every all (c ∷ k) m =
          let small : unsigned_abs c ≤ bound = (h (c ∷ k) m).0 in
          all.every c k (omega (arith, ints, small)) (omega (arith, ints, small)) (outside z extra c k m)
