-- A formula over the ten columns of a stencil's mapping.
use Rattle.formula_refute.specs.Claims.{claim, IsOver}
use Rattle.formula_refute.specs.declared.formula.Formula.{Formula}

abbrev pub IsTenWide : Formula → Type 0
IsTenWide formula = IsOver 10 (claim formula)
