use Rattle.std.proofs.Common.{◌++◌}
use Rattle.rewriting.proofs.FineParts.{placed, shaped}
use Rattle.normalize_eqs.specs.Normal.{normalized}
use Rattle.normalize_eqs.proofs.NormalFine.{normal-fine}
use Rattle.normalize_eqs.proofs.NormalParts.{result}
use Rattle.normalize_eqs.proofs.laws.normal_form_keeps_rules.Goals as goal

pub returns : goal.returns
returns c = λ p program few.
    let fine = normal-fine p program few in
    let made = result p program in (
      placed p program (normalized p).variables (made.kept ++ made.added) fine,
      shaped p program (normalized p).variables (made.kept ++ made.added) fine,
    )
