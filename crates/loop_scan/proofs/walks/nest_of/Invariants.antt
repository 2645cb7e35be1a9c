use Rattle.std.proofs.Common.{◌≡◌, length, take, ◌↔◌}
use Rattle.std.specs.List.{All, AllZip}
use Rattle.az_lin.specs.Affine.{IsAtLeastZero}
use Rattle.az_lin.specs.Substitution.{Point}
use Rattle.loop_scan.specs.Nest.Levels.{IsIn}
use Rattle.loop_scan.specs.Nest.Nests.{IsNest, Accepts}
use Rattle.loop_scan.proofs.walks.nest_of.Given as goal

abbrev pub invariant-rows : goal.invariant-rows
invariant-rows l = record {
  state : IsNest l.width l.nest;
  points : (y : Point) → length y ≡ l.width → Accepts l.nest y ↔ (AllZip IsIn l.ranges y × All (IsAtLeastZero y) (take l.row-index l.row-items));
}
