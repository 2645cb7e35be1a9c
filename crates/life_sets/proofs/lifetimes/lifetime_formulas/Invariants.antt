use Rattle.std.proofs.Common.{◌≡◌, ◌++◌, take, map, All}
use Rattle.std.specs.List.{flat_map}
use Rattle.expr_places.specs.Reads.{reads_of}
use Rattle.life_sets.specs.Fits.{FitsRead, FitsOutput}
use Rattle.life_sets.specs.Lifetimes.{keep_of, lives_from}
use Rattle.order_sets.specs.Stated.{stated_claim}
use Rattle.target_map.specs.Storage.{writers_of}
use Rattle.life_sets.proofs.lifetimes.lifetime_formulas.Given as goal

abbrev pub invariant-equations : goal.invariant-equations
invariant-equations l = record {
  so_far : map stated_claim l.list.items ≡ flat_map (λ equation. lives_from l.program l.mapping equation.variable 0 (reads_of l.program equation)) (take l.equation-index l.equation-items);
  fits : All (λ equation. All (FitsRead l.program l.mapping equation.variable) (reads_of l.program equation)) (take l.equation-index l.equation-items);
}

abbrev pub invariant-outputs : goal.invariant-outputs
invariant-outputs l = record {
  so_far : map stated_claim l.list.items ≡ map stated_claim l.initial.list.items ++ flat_map (λ x. map (keep_of l.target.program.now l.target.mapping.now x) (writers_of l.target.program.now l.target.mapping.now x)) (take l.x-index l.x-items);
  fits : All (FitsOutput l.target.program.now l.target.mapping.now) (take l.x-index l.x-items);
}
