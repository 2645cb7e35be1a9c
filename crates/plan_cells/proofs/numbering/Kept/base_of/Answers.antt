use Rattle.plan_cells.proofs.Loops.{home-within, base-is}
use Rattle.plan_cells.proofs.numbering.Kept.base_of.Goals as goal

pub bounds-homes-first : goal.bounds-homes-first
bounds-homes-first c =
    home-within c.args.self.now.mapping.now c.args.self.now.params.now c.args.self.now.instances.now c.args.x c.args.homes.now c.args.used c.first_of-first.result c.requires c.first_of-first.ensures c.if-first-x.false

pub bounds-homes-first-else-first-x : goal.bounds-homes-first-else-first-x
bounds-homes-first-else-first-x c =
    home-within c.args.self.now.mapping.now c.args.self.now.params.now c.args.self.now.instances.now c.args.x c.args.homes.now c.args.used c.first_of-first.result c.requires c.first_of-first.ensures c.if-first-x.false

pub returns : goal.returns
returns c =
    base-is c.args.self.now.mapping.now c.args.self.now.params.now c.args.self.now.instances.now c.args.x c.args.homes.now c.args.used c.first_of-first.result c.requires c.first_of-first.ensures c.if-first-x.false
    c.index-homes-first.result
