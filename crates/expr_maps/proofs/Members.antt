-- The members of a domain after a map, and facts on members alone.
use Rattle.std.proofs.Common.{◌↔◌, ℕ, List, [], ◌∷◌}
use Rattle.std.specs.Prelude.{ℤ}
use Rattle.std.specs.List.{AllByRecursion, AllZip}
use Rattle.az_lin.specs.Affine.{Union}
use Rattle.az_ast.specs.Points.{IsMember, AreMembers}

-- what the members give
pub AllZip-members : {A B : Type 0} (P : A → Type 0) (Q R : A → B → Type 0) → ((a : A) (b : B) → P a → Q a b → R a b) → (xs : List A) (ys : List B) → AllByRecursion P xs → AllZip Q xs ys → AllZip R xs ys
AllZip-members P Q R f [] [] all h = h
AllZip-members P Q R f [] (y ∷ ys) all h = h
AllZip-members P Q R f (x ∷ xs) [] all h = h
AllZip-members P Q R f (x ∷ xs) (y ∷ ys) all h = (f x y all.0 h.0, AllZip-members P Q R f xs ys all.1 h.1)

pub All-map_by : {A : Type 0} (P Q : A → Type 0) → ((a : A) → P a → Q a) → (xs : List A) → AllByRecursion P xs → AllByRecursion Q xs
All-map_by P Q f [] all = tt
All-map_by P Q f (x ∷ xs) all = (f x all.0, All-map_by P Q f xs all.1)

-- two domains with the same members over two points
pub AreMembers-same : (d e : Union) (z y : List ℤ) (extra : ℕ) → ((k : List ℤ) → IsMember d z extra k ↔ IsMember e y extra k) → (points : List (List ℤ)) → AreMembers d z extra points → AreMembers e y extra points
AreMembers-same d e z y extra same points members = record {
  increasing = members.increasing;
  only = All-map_by (IsMember d z extra) (IsMember e y extra) (λ k. (same k).0) points members.only;
  every = λ k member. members.every k ((same k).1 member);
}
