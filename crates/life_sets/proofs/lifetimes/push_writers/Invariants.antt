use Rattle.std.proofs.Common.{◌≡◌, ◌++◌, take, map, All}
use Rattle.expr_places.specs.Lent.{read_of}
use Rattle.life_sets.specs.Fits.{FitsLife}
use Rattle.life_sets.specs.Lifetimes.{life_of}
use Rattle.order_sets.specs.Stated.{stated_claim}
use Rattle.life_sets.proofs.lifetimes.push_writers.Given as goal

abbrev pub invariant-writers : goal.invariant-writers
invariant-writers l = record {
  so_far : map stated_claim l.list.items ≡ map stated_claim l.initial.list.items ++ map (life_of l.target.program.now l.target.mapping.now l.x l.number (read_of l.read)) (take l.place l.writers.items);
  fits : All (FitsLife l.target.program.now l.target.mapping.now l.x (read_of l.read)) (take l.place l.writers.items);
}
