-- The places of points in order.
use Rattle.std.proofs.Common.{◌≡◌, ℕ, zero, suc, ◌<◌, List, [], ◌∷◌, Some, refl, subst, arith, ⊎_elim}
use Rattle.std.specs.Prelude.{ℤ, slice_get}
use Rattle.std.proofs.lemmas.Bool.{cases_lt}
use Rattle.az_ast.specs.Points.{Precedes, IsIncreasing}
use Rattle.az_ast.proofs.Members.{All-Contains}
use Rattle.az_ast.proofs.TableLemmas.{Precedes-differs, Precedes-chain}
use Rattle.table_data.proofs.Lists.{get-contains}

earlier-precedes : (points : List (List ℤ)) (i j : ℕ) (a b : List ℤ) → IsIncreasing points → i < j → slice_get points i ≡ Some a → slice_get points j ≡ Some b → Precedes a b
earlier-precedes [] i j a b rise before at_i at_j = cc at_i
earlier-precedes (p ∷ points) i zero a b rise before at_i at_j = absurd (omega (arith, before))
earlier-precedes (p ∷ points) zero (suc j) a b rise before at_i at_j =
    let same : p ≡ a = cc in
    subst (λ (q : List ℤ). Precedes q b) same (All-Contains (Precedes p) points b rise.0 (get-contains points j b at_j))
earlier-precedes (p ∷ points) (suc i) (suc j) a b rise before at_i at_j =
    earlier-precedes points i j a b rise.1 (omega (arith, before)) at_i at_j

-- a point stands at one place
pub places-same : (points : List (List ℤ)) → IsIncreasing points → (i j : ℕ) (k : List ℤ) → slice_get points i ≡ Some k → slice_get points j ≡ Some k → i ≡ j
places-same points rise i j k at_i at_j =
    ⊎_elim (λ before. absurd (Precedes-differs k k (earlier-precedes points i j k k rise before at_i at_j) refl))
    (λ after. ⊎_elim (λ before. absurd (Precedes-differs k k (earlier-precedes points j i k k rise before at_j at_i) refl))
    (λ last. let same : i ≡ j = omega (arith, after, last) in same) (cases_lt j i)) (cases_lt i j)

-- a point that precedes another stands before it
pub places-ordered : (points : List (List ℤ)) → IsIncreasing points → (i j : ℕ) (a b : List ℤ) → slice_get points i ≡ Some a → slice_get points j ≡ Some b → Precedes a b → i < j
places-ordered points rise i j a b at_i at_j less =
    ⊎_elim (λ before. before)
    (λ after. ⊎_elim
    (λ before. absurd (Precedes-differs a a (Precedes-chain a b a less (earlier-precedes points j i b a rise before at_j at_i)) refl))
    (λ last.
    let one : i ≡ j = omega (arith, after, last) in
    let same : a ≡ b = (let at : slice_get points j ≡ Some a = subst (λ n. slice_get points n ≡ Some a) one at_i in cc) in
    absurd (Precedes-differs a b less same)) (cases_lt j i)) (cases_lt i j)
