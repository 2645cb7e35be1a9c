-- Whether a row has an entry outside ±(2^60 - 1).
use Rattle.std.specs.Prelude.{ℕ, ◌^◌, ◌-◌, nat_lt, Bool, ◌||◌, ℤ, unsigned_abs}
use Rattle.std.specs.List.{list_any}
use Rattle.az_lin.specs.Affine.{Affine}

abbrev pub is_out : ℤ → Bool
is_out z = nat_lt (2 ^ 60 - 1) (unsigned_abs z)

abbrev pub has_entry_out : Affine → Bool
has_entry_out r = list_any is_out r.coefs || is_out r.konst
