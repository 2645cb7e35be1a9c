use Rattle.std.proofs.Common.{◌-◌}
use Rattle.farkas_find.proofs.Staged.{Stands}
use Rattle.farkas_find.proofs.run.run_stages.Given as goal

-- each stage eliminates a column
abbrev pub decreases-stages : goal.decreases-stages
decreases-stages l = l.width - l.number

abbrev pub invariant-stages : goal.invariant-stages
invariant-stages l = Stands l.kept l.width l.fn.rows.items l.number l.stage
