use Rattle.std.proofs.Common.{subst, sym, SFits, rules}
use Rattle.std.proofs.lemmas.Int.{to_z-of_z}
use Rattle.std.specs.Int.{w128}
use Rattle.az_lin.specs.Affine.{IsWide}
use Rattle.az_lin.proofs.AddedProducts.{wide_if_found}
use Rattle.farkas_find.proofs.value.value_over.Goals as goal

pub returns-clause-range : goal.returns-clause-range
returns-clause-range c =
    let s_fits : SFits w128 c.in-Some.start = search rules in
    let k_fits : SFits w128 c.konst.result = search rules in
    let d_fits : SFits w128 c.args.found.now.den = search rules in
    let got = simp to_z-of_z at c.in-Some.ensures in
    let all = simp to_z-of_z at c.add_products.ensures in
    wide_if_found c.add_products.result c.in-Some.start c.coefs.result.now c.as_slice.result.now (subst IsWide (sym got.1) got.0) all
