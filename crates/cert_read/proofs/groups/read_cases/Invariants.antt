use Rattle.std.proofs.Common.{◌-◌, ◌^◌, ◌<◌, ◌≤◌, length, drop, All}
use Rattle.cert_read.specs.Inner.Found.{IsSomeStep}
use Rattle.cert_read.specs.Inner.Groups.{AreTaken, Begins}
use Rattle.cert_text.specs.Lines.{case_lines, IsSpelledCase}
use Rattle.cert_read.proofs.groups.read_cases.Given as goal

abbrev pub invariant-cases : goal.invariant-cases
invariant-cases l = record {
  taken : AreTaken l.lines l.from (case_lines 0 l.derivations.items) l.end;
  few : length l.derivations.items ≤ 2 ^ 32;
  spelled : All IsSpelledCase l.derivations.items;
  stops : 0 < length l.derivations.items → Begins IsSomeStep (drop l.end l.lines) → ⊥;
}

abbrev pub decreases-cases : goal.decreases-cases
decreases-cases l = length l.lines - l.end
