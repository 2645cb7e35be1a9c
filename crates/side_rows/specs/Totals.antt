-- Numbers in two parts.
use Rattle.std.specs.Prelude.{ℕ, ◌*◌, ◌^◌, ◌≤◌, ℤ, pos, ◌+ℤ◌, ◌*ℤ◌, ◌≤ℤ◌, ◌<ℤ◌, unsigned_abs}
use Rattle.side_rows.specs.declared.total.Total.{Total}

abbrev pub number_of : ℤ → ℤ → ℤ
number_of high low = (high *ℤ pos (2 ^ 96)) +ℤ low

abbrev pub total_of : Total → ℤ
total_of t = number_of t.high t.low

-- a sum of at most so many factors
pub record IsTotal (count : ℕ) (t : Total) : Type 0 where
  pub high : unsigned_abs t.high ≤ count * 2 ^ 32
  pub from : pos 0 ≤ℤ t.low
  pub to : t.low <ℤ pos (2 ^ 96)
