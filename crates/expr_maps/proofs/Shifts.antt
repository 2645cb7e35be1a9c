-- A fold over points that are moved, each by the same vector.
use Rattle.std.proofs.Common.{◌≡◌, zero, suc, List, [], ◌∷◌, length, map, refl, sym, ap, ap₂, subst, ◌∙◌, arith}
use Rattle.std.specs.Prelude.{ℤ, ◌-ℤ◌, neg_ℤ, Contains, ◌<ℤ◌}
use Rattle.std.specs.List.{AllByRecursion, AllZip}
use Rattle.std.specs.Ordering.{int_cmp, ordering_then, MatchOrdering}
use Rattle.std.specs.Cmp.{int_cmp_is, int_ranks}
use Rattle.std.specs.Cmp.Lexicographic.{slice_cmp}
use Rattle.std.specs.declared.cmp.Ordering.{Ordering}
use Rattle.std.specs.declared.cmp.Ordering.TheVariants.{Less, Equal, Greater}
use Rattle.std.proofs.lemmas.Int.{ints}
use Rattle.std.proofs.lemmas.List.{length-map}
use Rattle.az_lin.specs.Substitution.{less}
use Rattle.az_ast.specs.Meaning.{Values}
use Rattle.az_ast.specs.Points.{Precedes, IsIncreasing}
use Rattle.expr_maps.specs.Folds.{FoldOver}

-- points that are mapped in their order
module _ (P : List ℤ → Type 0) (g : List ℤ → List ℤ) (order : (a b : List ℤ) → P a → P b → Precedes a b → Precedes (g a) (g b)) where
  after-mapped : (a : List ℤ) (ps : List (List ℤ)) → P a → AllByRecursion P ps → AllByRecursion (Precedes a) ps → AllByRecursion (Precedes (g a)) (map g ps)
  after-mapped a [] is all after = tt
  after-mapped a (p ∷ ps) is all after = (order a p is all.0 after.0, after-mapped a ps is all.1 after.1)

  increasing-mapped : (ps : List (List ℤ)) → AllByRecursion P ps → IsIncreasing ps → IsIncreasing (map g ps)
  increasing-mapped [] all increasing = tt
  increasing-mapped (p ∷ ps) all increasing = (after-mapped p ps all.0 all.1 increasing.0, increasing-mapped ps all.1 increasing.1)

Contains-mapped : (g : List ℤ → List ℤ) (ps : List (List ℤ)) (a : List ℤ) → Contains ps a → Contains (map g ps) (g a)
Contains-mapped g [] a (i, within, e) = absurd (omega arith)
Contains-mapped g (p ∷ ps) a (zero, within, e) = (0, omega arith, ap g e)
Contains-mapped g (p ∷ ps) a (suc i, within, e) = let rest = Contains-mapped g ps a (i, omega arith, e) in (suc rest.0, omega (arith, rest.1), rest.2)

AllZip-mapped : (P : List ℤ → Type 0) (g : List ℤ → List ℤ) (body other : Values) → ((a : List ℤ) (w : ℤ) → P a → body a w → other (g a) w) → (ps : List (List ℤ)) (vs : List ℤ) → AllByRecursion P ps → AllZip body ps vs → AllZip other (map g ps) vs
AllZip-mapped P g body other same [] [] all bodies = tt
AllZip-mapped P g body other same [] (v ∷ vs) all bodies = bodies
AllZip-mapped P g body other same (p ∷ ps) [] all bodies = bodies
AllZip-mapped P g body other same (p ∷ ps) (v ∷ vs) all bodies = (same p v all.0 bodies.0, AllZip-mapped P g body other same ps vs all.1 bodies.1)

All-mapped : (P Q : List ℤ → Type 0) (g : List ℤ → List ℤ) → ((a : List ℤ) → P a → Q (g a)) → (ps : List (List ℤ)) → AllByRecursion P ps → AllByRecursion Q (map g ps)
All-mapped P Q g to [] all = tt
All-mapped P Q g to (p ∷ ps) all = (to p all.0, All-mapped P Q g to ps all.1)

-- a fold over points that keep their order and their values
pub FoldOver-mapped : (f : ℤ → ℤ → ℤ) (unit : ℤ) (P Q : List ℤ → Type 0) (body other : Values) (v : ℤ) (g h : List ℤ → List ℤ)
    → ((a b : List ℤ) → P a → P b → Precedes a b → Precedes (g a) (g b)) → ((a : List ℤ) → P a → Q (g a)) → ((b : List ℤ) → Q b → P (h b) × (g (h b) ≡ b))
    → ((a : List ℤ) (w : ℤ) → P a → body a w → other (g a) w) → FoldOver f unit P body v → FoldOver f unit Q other v
FoldOver-mapped f unit P Q body other v g h order to from same over = record {
  points = map g over.points;
  values = over.values;
  increasing = increasing-mapped P g order over.points over.only over.increasing;
  only = All-mapped P Q g to over.points over.only;
  every = λ b is. let back = from b is in subst (λ k. Contains (map g over.points) k) back.1 (Contains-mapped g over.points (h b) (over.every (h b) back.0));
  bodies = AllZip-mapped P g body other same over.points over.values over.only over.bodies;
  result = over.result;
}

-- points less a vector keep their order
ranked-less : (x y d : ℤ) (r : Ordering) → MatchOrdering r (x <ℤ y) (x ≡ y) (y <ℤ x) → MatchOrdering r ((x -ℤ d) <ℤ (y -ℤ d)) (x -ℤ d ≡ y -ℤ d) ((y -ℤ d) <ℤ (x -ℤ d))
ranked-less x y d Less h = omega (arith, ints)
ranked-less x y d Equal h = ap (λ c. c -ℤ d) h
ranked-less x y d Greater h = omega (arith, ints)

compared-less : (xs ys d : List ℤ) → length xs ≡ length d → length ys ≡ length d → slice_cmp int_cmp xs ys ≡ slice_cmp int_cmp (less xs d) (less ys d)
compared-less [] [] d long long' = refl
compared-less [] (b ∷ ys) [] long long' = absurd (omega (arith, long'))
compared-less [] (b ∷ ys) (x ∷ d) long long' = absurd (omega (arith, long))
compared-less (a ∷ xs) [] [] long long' = absurd (omega (arith, long))
compared-less (a ∷ xs) [] (x ∷ d) long long' = absurd (omega (arith, long'))
compared-less (a ∷ xs) (b ∷ ys) [] long long' = absurd (omega (arith, long))
compared-less (a ∷ xs) (b ∷ ys) (x ∷ d) long long' =
    ap₂ ordering_then (int_cmp_is (a -ℤ x) (b -ℤ x) (int_cmp a b) (ranked-less a b x (int_cmp a b) (int_ranks a b))) (compared-less xs ys d (omega (arith, long)) (omega (arith, long')))

-- a vector turned about leads back
turned : List ℤ → List ℤ
turned d = map neg_ℤ d

length-turned : (d : List ℤ) → length (turned d) ≡ length d
unfolding turned
length-turned d = length-map d neg_ℤ

one-back : (x d : ℤ) → (x -ℤ neg_ℤ d) -ℤ d ≡ x
one-back x d = omega (arith, ints)

one-forth : (x d : ℤ) → (x -ℤ d) -ℤ neg_ℤ d ≡ x
one-forth x d = omega (arith, ints)

less-turned : (a d : List ℤ) → length a ≡ length d → less (less a (turned d)) d ≡ a
unfolding turned
less-turned [] d long = refl
less-turned (x ∷ a) [] long = absurd (omega (arith, long))
less-turned (x ∷ a) (y ∷ d) long = ap₂ (λ (z : ℤ) (rest : List ℤ). z ∷ rest) (one-back x y) (less-turned a d (omega (arith, long)))

turned-less : (a d : List ℤ) → length a ≡ length d → less (less a d) (turned d) ≡ a
unfolding turned
turned-less [] d long = refl
turned-less (x ∷ a) [] long = absurd (omega (arith, long))
turned-less (x ∷ a) (y ∷ d) long = ap₂ (λ (z : ℤ) (rest : List ℤ). z ∷ rest) (one-forth x y) (turned-less a d (omega (arith, long)))

length-less : (a d : List ℤ) → length a ≡ length d → length (less a d) ≡ length d
length-less [] d long = long
length-less (x ∷ a) [] long = absurd (omega (arith, long))
length-less (x ∷ a) (y ∷ d) long = ap suc (length-less a d (omega (arith, long)))

-- the fold over points that are moved by a vector, of the values that they had before
pub FoldOver-shifted : (f : ℤ → ℤ → ℤ) (unit : ℤ) (P : List ℤ → Type 0) (body : Values) (v : ℤ) (d : List ℤ) → ((k : List ℤ) → P k → length k ≡ length d)
    → FoldOver f unit P body v → FoldOver f unit (λ k. (length k ≡ length d) × P (less k d)) (λ k w. body (less k d) w) v
FoldOver-shifted f unit P body v d long over =
    let size : (a : List ℤ) → P a → length a ≡ length (turned d) = λ a is. long a is ∙ sym (length-turned d) in
    FoldOver-mapped f unit P (λ k. (length k ≡ length d) × P (less k d)) body (λ k w. body (less k d) w) v (λ a. less a (turned d)) (λ b. less b d)
    (λ a b is is' before. sym (compared-less a b (turned d) (size a is) (size b is')) ∙ before)
    (λ a is. (length-less a (turned d) (size a is) ∙ length-turned d, subst P (sym (less-turned a d (long a is))) is))
    (λ b is. (is.1, turned-less b d is.0))
    (λ a w is given. subst (λ k. body k w) (sym (less-turned a d (long a is))) given)
    over
