use Rattle.std.proofs.Common.{◌≡◌, ◌++◌, drop}
use Rattle.std.specs.Prelude.{string_bytes}
use Rattle.session_state.specs.Coordinates.{coordinates_from}
use Rattle.session_state.proofs.coordinates.rows_text.Given as goal

-- what is written so far and what is left are all
abbrev pub invariant-loop-place : goal.invariant-loop-place
invariant-loop-place l = string_bytes l.text ++ coordinates_from l.row l.den l.place (drop l.place l.numbers) ≡ coordinates_from l.row l.den 0 l.numbers
