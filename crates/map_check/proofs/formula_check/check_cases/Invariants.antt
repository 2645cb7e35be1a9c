use Rattle.std.proofs.Common.{take}
use Rattle.std.specs.List.{AllZip}
use Rattle.map_verify.specs.Certificates.{IsProvedCase}
use Rattle.map_verify.specs.Formulas.{cases_of}
use Rattle.order_sets.specs.Stated.{stated_claim}
use Rattle.map_check.proofs.formula_check.check_cases.Given as goal

abbrev pub invariant-cases : goal.invariant-cases
invariant-cases l = AllZip (IsProvedCase l.version) (take l.number (cases_of (stated_claim l.stated))) (take l.number l.derivations)
