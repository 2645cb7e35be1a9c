use Rattle.std.proofs.Common.{◌≡◌, map, length}
use Rattle.std.specs.List.{All}
use Rattle.az_lin.specs.Affine.{IsAtLeastZero}
use Rattle.az_lin.specs.Substitution.{Point}
use Rattle.farkas_find.specs.Rows.{affine_of}
use Rattle.loop_scan.specs.Nest.Nests.{IsNest, Narrows}
use Rattle.loop_scan.proofs.nest.Nest.add_derived.Given as goal

abbrev pub invariant-rows : goal.invariant-rows
invariant-rows l = record {
  state : IsNest l.width l.self;
  points : (y : Point) → length y ≡ l.width → Narrows (All (IsAtLeastZero y) (map affine_of l.rows)) l.initial.self l.self y;
}
