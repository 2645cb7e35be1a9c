use Rattle.std.proofs.Common.{◌↔◌, vec_len}
use Rattle.std.specs.Prelude.{◌⊎◌}
use Rattle.std.specs.List.{All}
use Rattle.az_lin.specs.Substitution.{Point}
use Rattle.loop_scan.specs.Nest.Merges.{IsHead}
use Rattle.loop_scan.specs.Nest.Parts.{IsWalkOver, SomeWalkGives}
use Rattle.loop_scan.specs.Nest.Scans.{SomeHeadGives}
use Rattle.loop_scan.proofs.scanner.heads_of.Given as goal

abbrev pub invariant-walks : goal.invariant-walks
invariant-walks l = record {
  heads : All (IsHead l.width) l.heads.items;
  rest : All (IsWalkOver l.width) l.left.items;
  points : (y : Point) → (SomeHeadGives l.heads.items y ⊎ SomeWalkGives l.left.items y) ↔ SomeWalkGives l.initial.left.items y;
}

abbrev pub decreases-walks : goal.decreases-walks
decreases-walks l = vec_len l.left
