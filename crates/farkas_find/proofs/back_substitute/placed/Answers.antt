use Rattle.std.proofs.Common.{◌∙◌, sym, subst, SFits, rules}
use Rattle.std.specs.Option.{option_map}
use Rattle.std.specs.Int.{w128}
use Rattle.std.proofs.lemmas.Int.{to_z-of_z}
use Rattle.farkas_find.specs.BackSubstitution.{point_in, TakenWide}
use Rattle.farkas_find.proofs.Placing.{placed_exact}
use Rattle.farkas_find.proofs.back_substitute.placed.Goals as goal

pub returns-in_default-clause-exact : goal.returns-in_default-clause-exact
returns-in_default-clause-exact c =
    let d_fits : SFits w128 c.args.found.den = search rules in
    let narrow = rw c.in_default.is at c.in_ok-bounds.ensures in
    λ wide. (simp to_z-of_z at narrow) wide.rests

pub returns-in_default-taken-clause-exact : goal.returns-in_default-taken-clause-exact
returns-in_default-taken-clause-exact c =
    let d_fits : SFits w128 c.args.found.den = search rules in
    let some = rw c.in-Some.is at c.in_ok-bounds.ensures in
    let made = simp to_z-of_z at some in
    λ wide. c.in_default-taken.ensures.exact (subst TakenWide (sym (c.as_slice.ensures.value ∙ made.1)) wide.takes)

pub returns-clause-exact : goal.returns-clause-exact
returns-clause-exact c =
    let d_fits : SFits w128 c.args.found.den = search rules in
    let some = rw c.in-Some.is at c.in_ok-bounds.ensures in
    let made = simp to_z-of_z at some in
    let last = simp to_z-of_z at c.placed_by.ensures.exact in
    placed_exact c.args.gone.now (point_in c.args.found) (option_map point_in c.placed_by.result) c.as_slice.result.now c.in-Some-taken.bound made.0 (c.as_slice.ensures.value ∙ made.1)
    c.in-Some-taken.ensures.exact.0 c.in-Some-taken.ensures.exact.1 last
