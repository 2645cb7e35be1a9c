use Rattle.std.proofs.Common.{◌≡◌, ◌++◌, length, take, All}
use Rattle.az_lin.specs.Affine.{HasWidth}
use Rattle.az_lin.specs.Derivation.{rows_after, AllSteps}
use Rattle.farkas_check.specs.Verdict.{IsGood}
use Rattle.farkas_check.proofs.judge.judge.Given as goal

-- the steps so far are good, and the rows that they make are those that were made
abbrev pub invariant-steps : goal.invariant-steps
invariant-steps l = record {
  rows : rows_after l.system.rows (take l.number l.steps) ≡ l.system.rows ++ l.made.items;
  good : AllSteps (IsGood l.rule) l.system.rows (take l.number l.steps);
  widths : All (HasWidth l.system.width) l.made.items;
  count : length l.made.items ≡ l.number;
}
