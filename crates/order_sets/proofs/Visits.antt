-- The points of the instances that the formulas speak of.
use Rattle.std.proofs.Common.{◌≡◌, ℕ, ◌≤◌, ◌+◌, ℤ, List, ◌++◌, length, take, ap, ◌∙◌, arith, All, append-nil}
use Rattle.std.proofs.lemmas.List.Elements.{All-nil, All-append}
use Rattle.az_lin.specs.Affine.{AffineMap, HasWidth, image_of}
use Rattle.az_lin.specs.Columns.{reading, extended, unit_rows}
use Rattle.az_lin.proofs.Columns.{image_of-reading, image_of-extended}
use Rattle.az_ast.specs.System.{System}
use Rattle.expr_places.specs.Reads.{ReadPlace}
use Rattle.row_columns.proofs.Made.{widths_unit_rows}
use Rattle.target_map.specs.Dependence.{point_read, point_of}
use Rattle.target_map.specs.Lifetime.{writer_point}
use Rattle.target_map.specs.Times.{domain_of, indices_of}
use Rattle.order_sets.specs.Visits.{no_rows, read_visit, own_visit, writer_visit}

reading_wide : (params : ℕ) (f : AffineMap) → All (HasWidth f.width) f.rows → All (HasWidth (reading params f).width) (reading params f).rows
reading_wide params f wide = All-append (HasWidth f.width) (unit_rows f.width 0 params) f.rows (widths_unit_rows f.width 0 params) wide

module _ (p : System) (z : List ℤ) where
  pub read_point : (read : ReadPlace) → length p.params ≤ read.map.width → length p.params ≤ length z → image_of (read_visit p read).at z ≡ point_read p read z
  read_point read inside there = image_of-reading (length p.params) read.map z inside there

  pub read_wide : (read : ReadPlace) → All (HasWidth read.map.width) read.map.rows → All (HasWidth (read_visit p read).at.width) (read_visit p read).at.rows
  read_wide read wide = reading_wide (length p.params) read.map wide

  pub own_point : (x width : ℕ) → (domain_of p x).width ≤ width → (domain_of p x).width ≤ length z → image_of (own_visit p x width).at z ≡ point_of p x z
  own_point x width inside there = image_of-reading (domain_of p x).width (no_rows width) z inside there ∙ append-nil (point_of p x z)

  pub own_wide : (x width : ℕ) → All (HasWidth (own_visit p x width).at.width) (own_visit p x width).at.rows
  own_wide x width = reading_wide (domain_of p x).width (no_rows width) (All-nil (HasWidth width))

  pub writer_at : (y width : ℕ) → length p.params ≤ width → length z ≡ width + indices_of p y → image_of (writer_visit p y width).at z ≡ writer_point p width z
  writer_at y width inside long =
      let behind : AffineMap = extended (indices_of p y) (no_rows width) in
      image_of-reading (length p.params) behind z (omega arith) (omega arith)
      ∙ ap (λ (xs : List ℤ). take (length p.params) z ++ xs) (image_of-extended (indices_of p y) (no_rows width) z long)

  pub writer_wide : (y width : ℕ) → All (HasWidth (writer_visit p y width).at.width) (writer_visit p y width).at.rows
  writer_wide y width =
      let total = width + indices_of p y in
      reading_wide (length p.params) (extended (indices_of p y) (no_rows width)) (widths_unit_rows total width (indices_of p y))
