-- Rows over more columns or fewer: columns that are put in and count for nothing, parameters that are put in for the
-- first columns, and rows that give one coordinate of the point.
use Rattle.std.specs.Prelude.{ℕ, ◌+◌, ◌-◌, List, ◌++◌, length, take, drop, map, set, replicate, ℤ, pos, ◌+ℤ◌}
use Rattle.std.specs.List.{range_with_len}
use Rattle.az_lin.specs.Affine.{Affine, AffineMap, Polyhedron, Union, dot}

-- the list with so many zeros put in at a place
abbrev pub with_zeros : ℕ → ℕ → List ℤ → List ℤ
with_zeros place count cs = take place cs ++ (replicate count (pos 0) ++ drop place cs)

-- what is left of a point without so many coordinates from a place on
abbrev pub without : ℕ → ℕ → List ℤ → List ℤ
without place count z = take place z ++ drop (place + count) z

-- columns put in at a place: the value at a point is the old one at the point without them
abbrev pub widened : ℕ → ℕ → Affine → Affine
widened place count row = record { coefs = with_zeros place count row.coefs; konst = row.konst }

abbrev pub widened_map : ℕ → ℕ → AffineMap → AffineMap
widened_map place count f = record { width = f.width + count; rows = map (λ row. widened place count row) f.rows }

abbrev pub widened_conj : ℕ → ℕ → Polyhedron → Polyhedron
widened_conj place count conj = record { width = conj.width + count; rows = map (λ row. widened place count row) conj.rows }

abbrev pub widened_domain : ℕ → ℕ → Union → Union
widened_domain place count d = record { width = d.width + count; disjuncts = map (λ conj. widened_conj place count conj) d.disjuncts }

-- numbers put in for the first columns: the value at a point is the old one at the numbers and then the point
abbrev pub at_params : List ℤ → Affine → Affine
at_params params row = record { coefs = drop (length params) row.coefs; konst = dot row.coefs params +ℤ row.konst }

abbrev pub map_at_params : List ℤ → AffineMap → AffineMap
map_at_params params f = record { width = f.width - length params; rows = map (λ row. at_params params row) f.rows }

abbrev pub conj_at_params : List ℤ → Polyhedron → Polyhedron
conj_at_params params conj = record { width = conj.width - length params; rows = map (λ row. at_params params row) conj.rows }

abbrev pub domain_at_params : List ℤ → Union → Union
domain_at_params params d = record { width = d.width - length params; disjuncts = map (λ conj. conj_at_params params conj) d.disjuncts }

-- the row whose value is one coordinate, and those of so many coordinates from a place on
abbrev pub unit_row : ℕ → ℕ → Affine
unit_row width column = record { coefs = set (replicate width (pos 0)) column (pos 1); konst = pos 0 }

abbrev pub unit_rows : ℕ → ℕ → ℕ → List Affine
unit_rows width place count = map (λ column. unit_row width column) (range_with_len place count)

-- the map that changes nothing; the map that also keeps the coordinates behind its own; the map that also keeps the first
abbrev pub identity : ℕ → AffineMap
identity width = record { width = width; rows = unit_rows width 0 width }

abbrev pub extended : ℕ → AffineMap → AffineMap
extended count f = record {
  width = f.width + count;
  rows = map (λ row. widened f.width count row) f.rows ++ unit_rows (f.width + count) f.width count;
}

abbrev pub reading : ℕ → AffineMap → AffineMap
reading params f = record { width = f.width; rows = unit_rows f.width 0 params ++ f.rows }
