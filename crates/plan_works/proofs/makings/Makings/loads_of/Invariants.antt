use Rattle.std.proofs.Common.{◌≡◌, map, take}
use Rattle.plan_works.specs.WorkOf.{setting, load_of}
use Rattle.plan_works.proofs.makings.Makings.loads_of.Given as goal

abbrev pub invariant-instances : goal.invariant-instances
invariant-instances l = l.loads.items ≡ map (load_of (setting l.self.given.program.now l.self.mapping.now l.self.given.params.now l.self.given.inputs.now) l.self.cells.now) (take l.u-index l.us)
