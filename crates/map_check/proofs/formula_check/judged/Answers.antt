use Rattle.std.proofs.Common.{List}
use Rattle.az_lin.specs.Affine.{Affine}
use Rattle.az_lin.specs.declared.step.Step.{Step}
use Rattle.farkas_check.specs.Verdict.{IsVerdict}
use Rattle.map_verify.proofs.Judged.{by_first, by_other}
use Rattle.map_check.proofs.formula_check.judged.Goals as goal

pub returns-then-version-eq1 : goal.returns-then-version-eq1
returns-then-version-eq1 c =
    let P : (List Affine → Step → Type 0) → Type 0 = λ rule. IsVerdict rule c.args.system.now.rows c.args.derivation.now.steps c.check_exact.result in
    by_first P c.args.version c.if-version-eq1.true c.check_exact.ensures.verdict

pub returns-else-version-eq1 : goal.returns-else-version-eq1
returns-else-version-eq1 c =
    let P : (List Affine → Step → Type 0) → Type 0 = λ rule. IsVerdict rule c.args.system.now.rows c.args.derivation.now.steps c.check.result in
    by_other P c.args.version c.if-version-eq1.false c.check.ensures.verdict
