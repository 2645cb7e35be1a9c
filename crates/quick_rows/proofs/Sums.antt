-- The sum of a row's parts, column by column.
use Rattle.std.proofs.Common.{◌≡◌, ℕ, zero, suc, ◌+◌, ◌*◌, ◌^◌, ◌<◌, ◌≤◌, arith, unsigned_abs, ℤ, pos, ◌+ℤ◌, ◌*ℤ◌, List, [], ◌∷◌, ◌++◌, All, length, get_or, take, drop, refl, ap, sym, ◌∙◌, FitsSigned, to_z, of_z, add-one, subst, length-append}
use Rattle.std.specs.Prelude.{slice_index_or, Bool, true}
use Rattle.std.proofs.lemmas.List.{take_all}
use Rattle.std.specs.Int.{w64}
use Rattle.std.proofs.Math.Seq.{drop-cons}
use Rattle.std.proofs.lemmas.Int.{ints, unsigned_abs-mul, to_z-of_z, fits_signed_from_abs}
use Rattle.std.proofs.lemmas.Nat.{mul-le}
use Rattle.std.proofs.lemmas.List.Elements.{All-append, All-cons}
use Rattle.az_lin.specs.Affine.{Affine, IsCoordinate, dot, value_at}
use Rattle.az_lin.proofs.Columns.{dot-nil}
use Rattle.az_lin.proofs.Magnitude.{unsigned_abs-add}
use Rattle.quick_rows.specs.Parts.{IsFactor, IsPart, AddsPart, AreParts, IsQuick, parts_at}
use Rattle.quick_rows.specs.declared.parts.Part.{Part}

pub dot-more : (cs z : List ℤ) (i : ℕ) → i < length cs → length z ≡ length cs → dot (take (i + 1) cs) z ≡ dot (take i cs) z +ℤ (get_or cs i (pos 0) *ℤ get_or z i (pos 0))
dot-more [] z i h l = absurd (omega arith)
dot-more (c ∷ cs) [] i h l = absurd (omega arith)
dot-more (c ∷ cs) (x ∷ z) zero h l = omega (arith, ints)
dot-more (c ∷ cs) (x ∷ z) (suc i) h l =
    let next : suc i + 1 ≡ suc (i + 1) = omega arith in
    rw next (omega (arith, ints, dot-more cs z i (omega arith) (omega arith)))

pub parts-more : (parts : List Part) (part : Part) (z : List ℤ) → parts_at (parts ++ part ∷ []) z ≡ parts_at parts z +ℤ (part.factor *ℤ get_or z part.column (pos 0))
parts-more [] part z = omega (arith, ints)
parts-more (first ∷ parts) part z = omega (arith, ints, parts-more parts part z)

pub adds_none : (column : ℕ) (coef : ℤ) (parts : List Part) → coef ≡ pos 0 → AddsPart column coef parts parts
adds_none column coef parts e = record {
  each = λ width h a. a;
  few = omega arith;
  sum = λ z. omega (arith, ints, e, ap (λ c. c *ℤ get_or z column (pos 0)) e);
}

pub adds_one : (column : ℕ) (coef : ℤ) (parts after : List Part) → IsFactor coef → after ≡ parts ++ record { column = column; factor = coef } ∷ [] → AddsPart column coef parts after
adds_one column coef parts after factor e =
    subst (λ ps. AddsPart column coef parts ps) (sym e)
    (record {
      each = λ width h a. All-append (IsPart width) parts (record { column = column; factor = coef } ∷ []) a
          (All-cons (IsPart width) (record { column = column; factor = coef }) [] (record { column = h; factor = factor }) (λ k d l. absurd (omega arith)));
      few = omega (arith, length-append parts (record { column = column; factor = coef } ∷ []));
      sum = λ z. parts-more parts (record { column = column; factor = coef }) z;
    })

-- the parts of the columns so far, and one column more
pub record AreFirst (coefs : List ℤ) (count : ℕ) (parts : List Part) : Type 0 where
  pub each : All (IsPart (length coefs)) parts
  pub few : length parts ≤ count
  pub same : (z : List ℤ) → length z ≡ length coefs → parts_at parts z ≡ dot (take count coefs) z

pub first-none : (coefs : List ℤ) (parts : List Part) → parts ≡ [] → AreFirst coefs 0 parts
first-none coefs parts e =
    subst (λ ps. AreFirst coefs 0 ps) (sym e) (record { each = λ k d l. absurd (omega arith); few = omega arith; same = λ z l. refl })

pub first-more : (coefs : List ℤ) (count : ℕ) (coef : ℤ) (parts after : List Part) → count < length coefs → coef ≡ get_or coefs count (pos 0) → AddsPart count coef parts after → AreFirst coefs count parts → AreFirst coefs (count + 1) after
first-more coefs count coef parts after h e adds first =
    record {
      each = adds.each (length coefs) h first.each;
      few = omega (arith, adds.few, first.few);
      same = λ z l. adds.sum z ∙ (ap (λ (s : ℤ). s +ℤ (coef *ℤ get_or z count (pos 0))) (first.same z l)
          ∙ (ap (λ (c : ℤ). dot (take count coefs) z +ℤ (c *ℤ get_or z count (pos 0))) e ∙ sym (dot-more coefs z count h l)));
    }

pub first-all : (coefs : List ℤ) (count : ℕ) (parts : List Part) → length coefs ≤ count → count ≤ length coefs → AreFirst coefs count parts → AreParts coefs parts
first-all coefs count parts g h first =
    record {
      each = first.each;
      few = omega (arith, first.few, h);
      same = λ z l. first.same z l ∙ ap (λ cs. dot cs z) (take_all count coefs g);
    }

-- ---- in range

factor_fits : (a : ℤ) → IsFactor a → FitsSigned w64 a
factor_fits a p = fits_signed_from_abs w64 a (omega arith)

coordinate_fits : (b : ℤ) → IsCoordinate b → FitsSigned w64 b
coordinate_fits b q = fits_signed_from_abs w64 b (omega arith)

pub product_small : (a b : ℤ) → IsFactor a → IsCoordinate b → unsigned_abs (a *ℤ b) ≤ 2 ^ 56
product_small a b p q = rw unsigned_abs-mul (mul-le (unsigned_abs a) (unsigned_abs b) (2 ^ 16) (2 ^ 40) (omega arith) (omega arith))

pub product_fits : (a b : ℤ) → IsFactor a → IsCoordinate b → FitsSigned w64 (a *ℤ b)
product_fits a b p q = let small = product_small a b p q in fits_signed_from_abs w64 (a *ℤ b) (omega arith)

pub sum_fits : (k : ℕ) (sum p : ℤ) → k < 64 → unsigned_abs sum ≤ 2 ^ 60 + k * 2 ^ 56 → unsigned_abs p ≤ 2 ^ 56 → FitsSigned w64 (sum +ℤ p)
sum_fits k sum p h small q =
    let both : unsigned_abs (sum +ℤ p) ≤ unsigned_abs sum + unsigned_abs p = unsigned_abs-add sum p in
    fits_signed_from_abs w64 (sum +ℤ p) (omega arith)

pub sum-small : (k : ℕ) (sum p : ℤ) → unsigned_abs sum ≤ 2 ^ 60 + k * 2 ^ 56 → unsigned_abs p ≤ 2 ^ 56 → unsigned_abs (sum +ℤ p) ≤ 2 ^ 60 + (k + 1) * 2 ^ 56
sum-small k sum p small q =
    let both : unsigned_abs (sum +ℤ p) ≤ unsigned_abs sum + unsigned_abs p = unsigned_abs-add sum p in
    omega arith

-- what is left to add
parts-drop : (parts : List Part) (z : List ℤ) (i : ℕ) (d : Part) → i < length parts
    → parts_at (drop i parts) z ≡ ((slice_index_or parts i d).factor *ℤ get_or z (slice_index_or parts i d).column (pos 0)) +ℤ parts_at (drop (i + 1) parts) z
parts-drop parts z i d h = rw (add-one, drop-cons parts i d h) refl

word_fits : (p : ℤ) → unsigned_abs p ≤ 2 ^ 56 → FitsSigned w64 p
word_fits p q = fits_signed_from_abs w64 p (omega arith)

pub record IsSumTo (parts : List Part) (z : List ℤ) (i : ℕ) (total sum : ℤ) : Type 0 where
  pub whole : parts_at (drop i parts) z +ℤ sum ≡ total
  pub small : unsigned_abs sum ≤ 2 ^ 60 + i * 2 ^ 56

pub sum-step :
    (parts : List Part) (z : List ℤ) (i : ℕ) (d : Part) (sum p total : ℤ) → i < length parts → i < 64 →
    p ≡ (slice_index_or parts i d).factor *ℤ get_or z (slice_index_or parts i d).column (pos 0) → unsigned_abs p ≤ 2 ^ 56 →
    parts_at (drop i parts) z +ℤ sum ≡ total → unsigned_abs sum ≤ 2 ^ 60 + i * 2 ^ 56 →
    IsSumTo parts z (i + 1) total (to_z w64 (of_z w64 (sum +ℤ to_z w64 (of_z w64 p))))
sum-step parts z i d sum p total h few value q whole small =
    let word : to_z w64 (of_z w64 p) ≡ p = to_z-of_z w64 p (word_fits p q) in
    let fits : to_z w64 (of_z w64 (sum +ℤ p)) ≡ sum +ℤ p = to_z-of_z w64 (sum +ℤ p) (sum_fits i sum p few small q) in
    let all : to_z w64 (of_z w64 (sum +ℤ to_z w64 (of_z w64 p))) ≡ sum +ℤ p = ap (λ (n : ℤ). to_z w64 (of_z w64 (sum +ℤ n))) word ∙ fits in
    subst (λ (n : ℤ). IsSumTo parts z (i + 1) total n) (sym all)
    (record { whole = omega (arith, ints, whole, value, parts-drop parts z i d h); small = sum-small i sum p small q })

-- ---- the value of a row

pub quick_value : (row : Affine) (narrow : Bool) (parts : List Part) (konst : ℤ) (z : List ℤ) → IsQuick row narrow parts konst → narrow ≡ true → length z ≡ length row.coefs → parts_at parts z +ℤ konst ≡ value_at row z
quick_value row narrow parts konst z quick n l = let same = (quick.sums n).same z l in omega (arith, ints, same, quick.constant)

pub quick_parts : (row : Affine) (narrow : Bool) (parts : List Part) (konst : ℤ) (z : List ℤ) → IsQuick row narrow parts konst → narrow ≡ true → length z ≡ length row.coefs → All (IsPart (length z)) parts
quick_parts row narrow parts konst z quick n l = subst (λ w. All (IsPart w) parts) (sym l) (quick.sums n).each
