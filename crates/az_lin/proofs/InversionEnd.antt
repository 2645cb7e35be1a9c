-- The end of an elimination: its size and shape, and what it answers.
use Rattle.std.proofs.Common.{◌≡◌, ℕ, suc, ◌+◌, ◌*◌, ◌<◌, ◌≤◌, arith, refl, sym, subst, ap, ◌∙◌, List, [], ◌∷◌, length, drop, set, replicate, All, pos, ◌↔◌}
use Rattle.std.proofs.lemmas.List.{length-drop, length-append, length-set, length-replicate}
use Rattle.std.proofs.lemmas.List.Elements.{All-head, All-tail, All-nil, All-cons, All-weaker}
use Rattle.az_lin.specs.Affine.{Affine, HasWidth, IsWide}
use Rattle.az_lin.specs.Inversion.{Tableau, HasSize, HavePivots, beside, beside_identity, start, final, kernel_vector, inverse_denominator, inverse_numerators}
use Rattle.az_lin.specs.InversionAnswer.{EndsWide}
use Rattle.az_lin.proofs.TableauSteps.{HasSize-step}
use Rattle.az_lin.proofs.Fractions.{length-numerators}
use Rattle.az_lin.proofs.Pivots.{Shape, Shape-step, Shape-start, shapes_have_pivots, reduced_keeps}

pub length-beside_identity : (params n k : ℕ) (rows : List Affine) → length (beside_identity params n k rows) ≡ length rows
length-beside_identity params n k [] = refl
length-beside_identity params n k (row ∷ rows) = ap suc (length-beside_identity params n (suc k) rows)

beside_widths : (params n k : ℕ) (rows : List Affine) → All (HasWidth (params + n)) rows → All (λ row. length row.coefs ≡ n + n) (beside_identity params n k rows)
beside_widths params n k [] h = All-nil (λ row. length row.coefs ≡ n + n)
beside_widths params n k (row ∷ rows) h =
    let left : length (drop params row.coefs) ≡ n = omega (arith, length-drop params row.coefs, All-head (HasWidth (params + n)) row rows h) in
    let unit : length (set (replicate n (pos 0)) k (pos 1)) ≡ n = length-set (replicate n (pos 0)) k (pos 1) ∙ length-replicate n (pos 0) in
    let wide : length (beside params n k row).coefs ≡ n + n = length-append (drop params row.coefs) (set (replicate n (pos 0)) k (pos 1)) ∙ omega (arith, left, unit) in
    All-cons (λ r. length r.coefs ≡ n + n) (beside params n k row) (beside_identity params n (suc k) rows) wide
    (beside_widths params n (suc k) rows (All-tail (HasWidth (params + n)) row rows h))

pub HasSize-start : (params : ℕ) (rows : List Affine) → All (HasWidth (params + length rows)) rows → HasSize (length rows) (start params rows)
HasSize-start params rows h = record {
  pivot_widths = All-nil (λ row. length row.coefs ≡ length rows + length rows);
  rest_widths = beside_widths params (length rows) 0 rows h;
  count = omega (arith, length-beside_identity params (length rows) 0 rows);
}

pub HasSize-started : (params : ℕ) (rows : List Affine) → All (HasWidth (params + length rows)) rows → HasSize (length (start params rows).rest) (start params rows)
HasSize-started params rows h = subst (λ n. HasSize n (start params rows)) (sym (length-beside_identity params (length rows) 0 rows)) (HasSize-start params rows h)

pub record IsSound (n : ℕ) (t : Tableau) : Type 0 where
  pub size : HasSize n t
  pub shape : Shape t

pub final_sound : (params : ℕ) (rows : List Affine) → All (HasWidth (params + length rows)) rows → IsSound (length rows) (final params rows)
final_sound params rows h =
    reduced_keeps (IsSound (length rows)) (λ t s. record { size = HasSize-step (length rows) t s.size; shape = Shape-step (length rows) t s.size s.shape })
    (length rows) (start params rows) (record { size = HasSize-start params rows h; shape = Shape-start (beside_identity params (length rows) 0 rows) })

pub final_pivots : (params : ℕ) (rows : List Affine) → All (HasWidth (params + length rows)) rows → HavePivots 0 (final params rows).pivots
final_pivots params rows h = shapes_have_pivots (length (final params rows).pivots) 0 (final params rows).pivots (final_sound params rows h).shape.pivots

some_left : (k n : ℕ) (rest : List Affine) → k + length rest ≡ n → (rest ≡ [] → ⊥) → k < n
some_left k n [] count some = absurd (some refl)
some_left k n (row ∷ rest) count some = omega (arith, count)

pub rest_some : (n : ℕ) (t : Tableau) → HasSize n t → (t.rest ≡ [] → ⊥) → length t.pivots < n
rest_some n t size some = some_left (length t.pivots) n t.rest size.count some

pub rest_none : (n : ℕ) (t : Tableau) → HasSize n t → t.rest ≡ [] → length t.pivots ≡ n
rest_none n t size none =
    let count : length t.pivots + length t.rest ≡ n = size.count in
    let left : length t.rest ≡ 0 = ap length none in
    omega (arith, count, left)

-- which numbers have to be in range at the end
pub ends_with_kernel : (n : ℕ) (t : Tableau) (rest : List Affine) → (rest ≡ [] → ⊥) → All IsWide (kernel_vector n t) ↔ EndsWide n t rest
ends_with_kernel n t [] some = absurd (some refl)
ends_with_kernel n t (row ∷ rest) some = (λ h. h, λ h. h)

pub length-inverse_numerators : (n : ℕ) (t : Tableau) → HasSize n t → length t.pivots ≡ n → length (inverse_numerators n t) ≡ n * n
length-inverse_numerators n t size full =
    let parts : All (λ row. n + n ≤ length row.coefs) t.pivots = All-weaker (λ row. length row.coefs ≡ n + n) (λ row. n + n ≤ length row.coefs) (λ row w. omega (arith, w)) t.pivots size.pivot_widths in
    length-numerators n n (pos (inverse_denominator n t)) 0 t.pivots parts ∙ ap (λ m. m * n) full
