use Rattle.std.proofs.Common.{◌≡◌, ◌++◌, drop}
use Rattle.plan_cells.specs.Numbering.{kept_with, sides_over, sides_of}
use Rattle.plan_cells.proofs.numbering.Kept.sides_of.Given as goal

-- the sides so far, and those to come
abbrev pub invariant-factors : goal.invariant-factors
invariant-factors l =
    l.sides.items ++ sides_over l.self.mapping.now l.self.params.now (kept_with l.self.mapping.now l.self.params.now l.self.instances.now l.x) l.number (drop l.number l.factors)
    ≡ sides_of l.self.mapping.now l.self.params.now l.self.instances.now l.x
