use Rattle.std.proofs.Common.{map, take}
use Rattle.std.specs.List.{AllZip}
use Rattle.map_verify.specs.Certificates.{IsProvedBy}
use Rattle.order_sets.specs.Stated.{stated_claim}
use Rattle.map_check.proofs.list_check.check_all.Given as goal

abbrev pub invariant-formulas : goal.invariant-formulas
invariant-formulas l = AllZip (IsProvedBy l.version) (take l.number (map stated_claim l.formulas)) (take l.number l.proved)
