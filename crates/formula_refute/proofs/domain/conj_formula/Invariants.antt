use Rattle.std.proofs.Common.{◌≡◌, take, map}
use Rattle.formula_refute.specs.declared.formula.Formula.TheVariants.{Atom}
use Rattle.formula_refute.proofs.domain.conj_formula.Given as goal

abbrev pub invariant-rows : goal.invariant-rows
invariant-rows l = l.atoms.items ≡ map Atom (take l.row-index l.rows)
