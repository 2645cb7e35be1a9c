-- What an inversion gives: a map of the same size.
use Rattle.std.proofs.Common.{◌≡◌, ℕ, zero, suc, List, [], ◌∷◌, length, drop, refl, ap, ◌∙◌}
use Rattle.std.specs.Prelude.{ℤ}
use Rattle.az_lin.specs.Affine.{Affine, AffineMap}
use Rattle.az_lin.specs.Inversion.{inverse_rows, inverse_map, inverse_numerators, final}

length-inverse_rows : (params : ℕ) (rows : List Affine) (count : ℕ) (numbers : List ℤ) → length (inverse_rows params rows count numbers) ≡ count
length-inverse_rows params rows zero numbers = refl
length-inverse_rows params rows (suc count) numbers = ap suc (length-inverse_rows params rows count (drop (length rows) numbers))

pub inverse-width : (params : ℕ) (f inverse : AffineMap) → inverse ≡ inverse_map params f → inverse.width ≡ f.width
inverse-width params f inverse is = ap (λ (g : AffineMap). g.width) is

pub inverse-rows : (params : ℕ) (f inverse : AffineMap) → inverse ≡ inverse_map params f → length inverse.rows ≡ length f.rows
inverse-rows params f inverse is =
    ap (λ (g : AffineMap). length g.rows) is ∙ length-inverse_rows params f.rows (length f.rows) (inverse_numerators (length f.rows) (final params f.rows))
