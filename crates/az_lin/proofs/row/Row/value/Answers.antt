use Rattle.std.proofs.Common.{◌≡◌, ◌^◌, ◌<◌, unsigned_abs, sym, subst, rules, to_z, of_z, ◌+ℤ◌, ℤ}
use Rattle.std.specs.Int.{w128}
use Rattle.az_lin.specs.Affine.{HasEntries, value_at}
use Rattle.az_lin.proofs.Dot.{value_at-small}
use Rattle.az_lin.proofs.row.Row.value.Goals as goal

pub returns-clause-range : goal.returns-clause-range
returns-clause-range c =
    let value : to_z w128 (of_z w128 (to_z w128 (of_z w128 c.scalar_product.result) +ℤ to_z w128 (of_z w128 c.self.inside.konst))) ≡ value_at c.args.self.now c.args.z.now = search rules in
    let entries : HasEntries c.args.self.now = subst HasEntries c.self.view_is c.self.invariant in
    subst (λ (v : ℤ). unsigned_abs v < 2 ^ 107) (sym value) (value_at-small c.args.self.now c.args.z.now entries c.requires.narrow c.requires.range)
