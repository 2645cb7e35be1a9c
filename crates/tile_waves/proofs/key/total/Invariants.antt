use Rattle.std.proofs.Common.{◌≡◌, ◌≤◌, ◌*◌, ◌^◌, drop}
use Rattle.std.specs.Prelude.{◌+ℤ◌, unsigned_abs}
use Rattle.tile_waves.specs.Keys.{total}
use Rattle.tile_waves.proofs.key.total.Given as goal

abbrev pub invariant-numbers : goal.invariant-numbers
invariant-numbers l = record {
  value : l.sum +ℤ total (drop l.place l.numbers) ≡ total l.numbers;
  small : unsigned_abs l.sum ≤ l.place * 2 ^ 40;
}
