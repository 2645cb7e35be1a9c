use Rattle.std.proofs.Common.{◌≡◌, ◌++◌, take, map, All}
use Rattle.expr_places.specs.Lent.{read_of}
use Rattle.life_sets.specs.Fits.{FitsRead}
use Rattle.life_sets.specs.Lifetimes.{lives_from}
use Rattle.order_sets.specs.Stated.{stated_claim}
use Rattle.life_sets.proofs.lifetimes.push_reads.Given as goal

abbrev pub invariant-reads : goal.invariant-reads
invariant-reads l = record {
  so_far : map stated_claim l.list.items
      ≡ map stated_claim l.initial.list.items ++ lives_from l.target.program.now l.target.mapping.now l.equation.variable 0 (map read_of (take l.number l.reads.items));
  fits : All (FitsRead l.target.program.now l.target.mapping.now l.equation.variable) (map read_of (take l.number l.reads.items));
}
