-- Numbers over a common denominator as they are written: each a whole number or `p/q` in lowest terms.
use Rattle.std.specs.Prelude.{ℕ, ◌+◌, ◌/◌, ◌%◌, ◌==◌, max, List, [], ◌∷◌, ◌++◌, codes, length, if◌then◌else◌, ℤ, pos, negsuc, unsigned_abs}
use Rattle.std.specs.Fmt.{decimal}
use Rattle.az_lin.specs.CommonDivisor.{gcd_of}
use Rattle.az_lin.specs.declared.step.RatPoint.{RatPoint}

abbrev pub ratio : ℕ → ℕ → List ℕ
ratio p q = if q == 1 then decimal p else decimal p ++ 47 ∷ decimal q

abbrev pub divisor : ℕ → ℕ → ℕ
divisor n den = max (gcd_of n den) 1

abbrev pub in_lowest_terms : ℕ → ℕ → List ℕ
in_lowest_terms n den = ratio (n / divisor n den) (den / divisor n den)

abbrev pub sign : ℤ → List ℕ
sign (pos n) = []
sign (negsuc n) = 45 ∷ []

abbrev pub coordinate : ℕ → ℤ → List ℕ
coordinate den n = sign n ++ in_lowest_terms (unsigned_abs n) den

-- what stands before the number at a place: `;` before a row of so many, and `,` within one
abbrev pub separator : ℕ → ℕ → List ℕ
separator row place = if place == 0 then [] else if place % max row 1 == 0 then codes ";" else codes ","

abbrev pub coordinates_from : ℕ → ℕ → ℕ → List ℤ → List ℕ
coordinates_from row den place [] = []
coordinates_from row den place (n ∷ ns) = separator row place ++ (coordinate den n ++ coordinates_from row den (place + 1) ns)

-- rows of so many numbers
abbrev pub rows_text : ℕ → ℕ → List ℤ → List ℕ
rows_text row den ns = coordinates_from row den 0 ns

-- the numbers joined by commas
abbrev pub joined : ℕ → List ℤ → List ℕ
joined den ns = rows_text (length ns) den ns

-- a point, which is `-` where it has no coordinate
abbrev pub point_text : ℕ → List ℤ → List ℕ
point_text den [] = codes "-"
point_text den (n ∷ ns) = joined den (n ∷ ns)

abbrev pub rational_point : RatPoint → List ℕ
rational_point point = point_text (unsigned_abs point.den) point.nums
