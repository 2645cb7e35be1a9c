use Rattle.std.proofs.Common.{◌≡◌, ◌<◌, length, List, get_or, subst, SFits, rules}
use Rattle.std.specs.Int.{w128}
use Rattle.std.proofs.lemmas.Int.{to_z-of_z}
use Rattle.std.proofs.lemmas.List.Elements.{All-more}
use Rattle.az_lin.specs.RationalPoint.{IsWideAt}
use Rattle.farkas_find.specs.BackSubstitution.{point_in}
use Rattle.farkas_find.specs.declared.numbered.Numbered.{Numbered}
use Rattle.farkas_find.proofs.Bounds.{bound_more, bound_is_wide}
use Rattle.farkas_find.proofs.bound.bounds_at.Goals as goal

pub rows-preserved : goal.rows-preserved
rows-preserved c =
    let rows = c.args.gone.now.rows in
    let i = c.rows.place in
    let it = c.index-rows-place.result in
    let point = point_in c.args.found.now in
    let P : Numbered → Type 0 = λ r. IsWideAt point r.row in
    let Inside : List Numbered → Type 0 = λ rs. i < length rs in
    let Is : List Numbered → Type 0 = λ rs. it ≡ get_or rs i it in
    let inside : i < length rows = subst Inside c.as_slice-rows.ensures c.rows-test.true in
    let is : it ≡ get_or rows i it = subst Is c.as_slice-rows.ensures c.index-rows-place.is in
    let r_fits : SFits w128 c.in-Some.rest = search rules in
    let c_fits : SFits w128 c.coef.result = search rules in
    let pushed = simp to_z-of_z at c.in_ok-push.ensures.items in
    record {
      bounds = bound_more c.args.gone.now.column i point rows it c.rows.bounds.items c.push.new.self.items c.in-Some.rest c.coef.result inside is
          c.rows.invariant.bounds c.in-Some.ensures.exact.1 c.coef.ensures.value pushed;
      wide = All-more P rows i it inside c.rows.invariant.wide (subst P is c.in-Some.ensures.exact.0);
      ranges = bound_is_wide c.rows.bounds.items c.push.new.self.items c.in-Some.rest c.coef.result c.rows.invariant.ranges c.in-Some.ensures.range c.coef.ensures.range pushed;
    }
