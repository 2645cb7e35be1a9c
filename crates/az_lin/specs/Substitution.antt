-- A row at a moved point, and rows and maps after a map.
use Rattle.std.specs.Prelude.{ℕ, ◌<◌, List, [], ◌∷◌, All, map, get_or}
use Rattle.std.specs.Prelude.{ℤ, pos, ◌+ℤ◌, ◌-ℤ◌}
use Rattle.std.specs.List.{range_with_len}
use Rattle.az_lin.specs.Affine.{Affine, AffineMap, HasEntries, dot}
use Rattle.az_lin.specs.declared.place.Place.{Place}
use Rattle.az_lin.specs.declared.place.Place.TheVariants.{Column, Constant}

abbrev pub Point : Type 0
Point = List ℤ

-- a point less a vector, coordinate by coordinate
abbrev pub less : List ℤ → List ℤ → List ℤ
less [] vs = []
less (z ∷ zs) [] = []
less (z ∷ zs) (v ∷ vs) = (z -ℤ v) ∷ less zs vs

-- the row whose value at a point is the old one at the point less v
abbrev pub shifted : Affine → List ℤ → Affine
shifted row v = record { coefs = row.coefs; konst = row.konst -ℤ dot row.coefs v }

-- what the rows have at a column, and their constants
abbrev pub column : ℕ → List Affine → List ℤ
column j rows = map (λ row. get_or row.coefs j (pos 0)) rows

abbrev pub constants : List Affine → List ℤ
constants rows = map (λ row. row.konst) rows

-- the same, by place
abbrev pub entry_at : Place → Affine → ℤ
entry_at (Column j) row = get_or row.coefs j (pos 0)
entry_at Constant row = row.konst

abbrev pub entries : Place → List Affine → List ℤ
entries place rows = map (λ row. entry_at place row) rows

abbrev pub IsPlace : ℕ → Place → Type 0
IsPlace width (Column j) = j < width
IsPlace width Constant = Unit {0}

-- the row whose value at a point is the old one at the point's image
abbrev pub composed : Affine → AffineMap → Affine
composed row f = record {
  coefs = map (λ j. dot row.coefs (column j f.rows)) (range_with_len 0 f.width);
  konst = dot row.coefs (constants f.rows) +ℤ row.konst;
}

-- first f, then g
abbrev pub composed_map : AffineMap → AffineMap → AffineMap
composed_map g f = record { width = f.width; rows = map (λ row. composed row f) g.rows }

abbrev pub HasEntryRows : AffineMap → Type 0
HasEntryRows f = All HasEntries f.rows
