-- Every stage has rows of one width.
use Rattle.std.proofs.Common.{◌≡◌, ℕ, suc, ap, refl, sym, ◌∙◌, arith, List, [], ◌∷◌, length, get_or, ℤ, pos}
use Rattle.std.specs.List.{All}
use Rattle.std.specs.Int.{int_div_euclid}
use Rattle.std.proofs.lemmas.List.{length-map}
use Rattle.az_lin.specs.Affine.{Affine}
use Rattle.az_lin.specs.Combination.{scaled_sums}
use Rattle.az_lin.specs.CommonDivisor.{gcd_of_all}
use Rattle.farkas_find.specs.declared.numbered.Numbered.{Numbered}
use Rattle.farkas_find.specs.declared.choice.Pair.{Pair}
use Rattle.farkas_find.specs.declared.choice.Choice.{Choice}
use Rattle.farkas_find.specs.Tidying.{row_at, tidied}
use Rattle.farkas_find.specs.Combining.{HaveWidth, IsPair, plus_weight, minus_weight, sum_without, combined}
use Rattle.farkas_find.specs.Stages.{pairs_for, next_rows}
use Rattle.farkas_find.proofs.Keeping.{KeptByRounding, kept_by_rounded, Every-tidied, Every-next_rows, Every-without}

abbrev pub HasLength : ℕ → Affine → Type 0
HasLength width row = length row.coefs ≡ width

length-kept : (width : ℕ) → KeptByRounding (HasLength width)
length-kept width row above is = length-map row.coefs (λ (coef : ℤ). int_div_euclid coef (pos (gcd_of_all row.coefs))) ∙ is

pub HaveWidth-tidied : (width next : ℕ) (rows : List Numbered) → HaveWidth width rows → HaveWidth width (tidied next rows)
HaveWidth-tidied width next rows all = Every-tidied (HasLength width) (length-kept width) next rows all

length-scaled_sums : (a : ℤ) (xs : List ℤ) (b : ℤ) (ys : List ℤ) → length xs ≡ length ys → length (scaled_sums a xs b ys) ≡ length xs
length-scaled_sums a [] b ys same = refl
length-scaled_sums a (x ∷ xs) b [] same = absurd (omega arith)
length-scaled_sums a (x ∷ xs) b (y ∷ ys) same = ap suc (length-scaled_sums a xs b ys (omega arith))

length-combined : (width column : ℕ) (plus minus : Numbered) → length plus.row.coefs ≡ width → length minus.row.coefs ≡ width → HasLength width (combined column plus minus)
unfolding combined sum_without
length-combined width column plus minus p m =
    kept_by_rounded (HasLength width) (length-kept width) (sum_without column plus minus)
    (length-scaled_sums (plus_weight column plus minus) plus.row.coefs (minus_weight column plus minus) minus.row.coefs (p ∙ sym m) ∙ p)

pub HaveWidth-next_rows : (width : ℕ) (choice : Choice) (next : ℕ) (rows : List Numbered) → HaveWidth width rows → All (IsPair choice.column rows) (pairs_for choice rows)
    → HaveWidth width (next_rows choice next rows)
HaveWidth-next_rows width choice next rows all pairs =
    let nothing : Numbered = record { row = record { coefs = []; konst = pos 0 }; number = 0 } in
    Every-next_rows (HasLength width) choice next rows (Every-without (HasLength width) choice.column rows all)
    (λ k d inside.
    let pair : Pair = get_or (pairs_for choice rows) k d in
    let is : IsPair choice.column rows pair = pairs k d inside in
    length-combined width choice.column (row_at rows pair.plus) (row_at rows pair.minus) (all pair.plus nothing is.plus_inside) (all pair.minus nothing is.minus_inside))
