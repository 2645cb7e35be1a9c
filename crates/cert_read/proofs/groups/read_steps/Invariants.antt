use Rattle.std.proofs.Common.{◌-◌, length, map, All}
use Rattle.cert_read.specs.Inner.Groups.{AreTaken}
use Rattle.cert_text.specs.Lines.{step_line, IsSpelledStep}
use Rattle.cert_read.proofs.groups.read_steps.Given as goal

abbrev pub invariant-steps : goal.invariant-steps
invariant-steps l = record {
  taken : AreTaken l.lines l.from (map step_line l.steps.items) l.end;
  spelled : All IsSpelledStep l.steps.items;
}

abbrev pub decreases-steps : goal.decreases-steps
decreases-steps l = length l.lines - l.end
