use Rattle.std.proofs.Common.{◌≡◌, ◌++◌, string_bytes, take}
use Rattle.std.specs.Prelude.{flat_map}
use Rattle.az_text.specs.Lumps.{bytes_of}
use Rattle.alphabets_show.specs.Shown.{equation}
use Rattle.alphabets_show.proofs.program.push_equations.Given as goal

abbrev pub invariant-loop-equation : goal.invariant-loop-equation
invariant-loop-equation l = string_bytes l.text ≡ string_bytes l.fn.text ++ bytes_of (flat_map (equation l.declared.params.now l.declared.variables.now) (take l.equation-index l.equations))
