-- A formula whose rows have this width.
use Rattle.std.specs.Prelude.{ℕ}
use Rattle.formula_refute.specs.Claims.{claim, IsOver}
use Rattle.formula_refute.specs.declared.formula.Formula.{Formula}

abbrev pub IsFormulaOver : ℕ → Formula → Type 0
IsFormulaOver width formula = IsOver width (claim formula)
