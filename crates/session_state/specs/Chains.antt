-- Points of a program's variables as they are written, `X[3,4]`, each behind a space.
use Rattle.std.specs.Prelude.{ℕ, List, [], ◌++◌, codes, slice_get, unwrap_or}
use Rattle.std.specs.List.{flat_map}
use Rattle.session_state.specs.Coordinates.{joined}
use Rattle.value_walk.specs.declared.refusal.PointName.{PointName}

-- for variables of these names, by their numbers
abbrev pub named_point : List (List ℕ) → PointName → List ℕ
named_point names at = codes " " ++ (unwrap_or (slice_get names at.variable) [] ++ (codes "[" ++ (joined 1 at.point ++ codes "]")))

abbrev pub chain_text : List (List ℕ) → List PointName → List ℕ
chain_text names chain = flat_map (named_point names) chain
