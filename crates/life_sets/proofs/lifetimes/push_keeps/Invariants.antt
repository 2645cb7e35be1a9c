use Rattle.std.proofs.Common.{◌≡◌, ◌++◌, take, map, All}
use Rattle.life_sets.specs.Fits.{FitsKeep}
use Rattle.life_sets.specs.Lifetimes.{keep_of}
use Rattle.order_sets.specs.Stated.{stated_claim}
use Rattle.life_sets.proofs.lifetimes.push_keeps.Given as goal

abbrev pub invariant-writers : goal.invariant-writers
invariant-writers l = record {
  so_far : map stated_claim l.list.items ≡ map stated_claim l.initial.list.items ++ map (keep_of l.target.program.now l.target.mapping.now l.x) (take l.place l.writers.items);
  fits : All (FitsKeep l.target.program.now l.target.mapping.now l.x) (take l.place l.writers.items);
}
