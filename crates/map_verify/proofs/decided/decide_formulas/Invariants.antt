use Rattle.std.proofs.Common.{◌≡◌, ◌+◌, map, take}
use Rattle.std.specs.List.{AllZip}
use Rattle.map_verify.specs.Verdicts.{IsRefutedAs, steps_of, most_steps}
use Rattle.order_sets.specs.Stated.{stated_claim}
use Rattle.map_verify.proofs.decided.decide_formulas.Given as goal

abbrev pub invariant-formulas : goal.invariant-formulas
invariant-formulas g l = record {
  refuted : AllZip IsRefutedAs (take l.number (map stated_claim l.formulas)) l.proved.items;
  steps : l.left + steps_of l.proved.items ≡ most_steps;
}
