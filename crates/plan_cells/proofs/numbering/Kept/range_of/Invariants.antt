use Rattle.std.proofs.Common.{◌≡◌, ◌≤◌, length, take, map}
use Rattle.std.specs.Prelude.{filter, IfSome}
use Rattle.execution.specs.declared.instance.Instance.{Instance}
use Rattle.plan_cells.specs.Inner.Passing.{IsNarrow}
use Rattle.plan_cells.specs.Numbering.{coordinate, range_over}
use Rattle.target_map.specs.Storage.{shares_space}
use Rattle.plan_cells.proofs.numbering.Kept.range_of.Given as goal

-- the range goes over the instances so far
abbrev pub invariant-instances : goal.invariant-instances
invariant-instances l = record {
  outer : take (length l.self.params.now) l.z.items ≡ l.self.params.now;
  long : length l.self.params.now ≤ length l.z.items;
  range : l.range ≡ range_over (map (coordinate l.self.mapping.now l.self.params.now l.number) (filter (λ (u : Instance). shares_space l.self.mapping.now l.x u.variable) (take l.u-index l.self.instances.now)));
  narrow : IfSome l.range IsNarrow;
}
