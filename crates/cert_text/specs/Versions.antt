-- The versions of certificates: in version 1 no step rounds.
use Rattle.std.specs.Prelude.{◌≡◌, ℕ, ◌⊎◌}

abbrev pub IsVersion : ℕ → Type 0
IsVersion version = (version ≡ 1) ⊎ (version ≡ 2)
