-- What a scanner's walks have to come.
use Rattle.std.specs.Prelude.{◌≡◌, ℕ, List, length, map, Any, Contains, ℤ}
use Rattle.std.specs.List.{All}
use Rattle.loop_scan.specs.declared.scanner.Walks.{Walks}
use Rattle.loop_scan.specs.declared.scanner.Walks.TheVariants.{One, Several}
use Rattle.loop_scan.specs.declared.head.Head.{Head}
use Rattle.loop_scan.specs.Nest.Walks.{to_come, IsWalk}
use Rattle.loop_scan.specs.Nest.Merges.{ahead, merged, IsHead}

abbrev pub points_of : Walks → List (List ℤ)
points_of (One walk) = to_come walk
points_of (Several heads) = merged (map ahead heads.items)

abbrev pub AreWalks : ℕ → Walks → Type 0
AreWalks width (One walk) = IsWalk walk × (length walk.levels.items ≡ width)
AreWalks width (Several heads) = All (IsHead width) heads.items

abbrev pub SomeHeadGives : List Head → List ℤ → Type 0
SomeHeadGives heads y = Any (λ head. Contains (ahead head) y) heads
