-- Stamps that are cut by the same kinds.
use Rattle.std.specs.Prelude.{◌≡◌, length}
use Rattle.az_lin.specs.Affine.{Affine}
use Rattle.target_map.specs.Stamps.{Stamp}

pub record AreAlike (u v : Stamp Affine) : Type 0 where
  pub outer : length u.outer ≡ length v.outer
  pub band : length u.band ≡ length v.band
  pub processor : length u.processor ≡ length v.processor
  pub tile : length u.tile ≡ length v.tile
