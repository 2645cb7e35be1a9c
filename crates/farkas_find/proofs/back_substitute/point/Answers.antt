use Rattle.std.proofs.Common.{◌≡◌, ◌∙◌, ap, subst, All, Some, List, ℤ, to_z, of_z, SFits, rules}
use Rattle.std.specs.Int.{w128}
use Rattle.std.proofs.lemmas.Int.{to_z-of_z}
use Rattle.az_lin.specs.RationalPoint.{IsWideAt}
use Rattle.az_lin.specs.declared.step.RatPoint.{RatPoint}
use Rattle.farkas_find.specs.Tidying.{rounded}
use Rattle.farkas_find.specs.BackSubstitution.{point_of}
use Rattle.farkas_find.proofs.Ending.{found_satisfies}
use Rattle.farkas_find.proofs.back_substitute.point.Goals as goal

pub returns-clause-exact : goal.returns-clause-exact
returns-clause-exact c =
    let made = rw c.in-Some.is at c.in_ok-found.ensures.exact in
    let evaluated = rw c.in_ok-of_memory.ensures at c.evaluate.ensures.exact in
    let fits : SFits w128 c.in-Some.found.den = search rules in
    let point : List ℤ → ℤ → RatPoint = λ nums den. record { nums = nums; den = den } in
    let P : RatPoint → Type 0 = λ p. All (λ row. IsWideAt p (rounded row)) c.args.given.now in
    let same : point c.from_vec.result (to_z w128 (of_z w128 c.in-Some.found.den)) ≡ point_of c.args.width c.args.trail.now =
    ap (λ nums. point nums (to_z w128 (of_z w128 c.in-Some.found.den))) c.from_vec.ensures ∙ ap (point c.in-Some.found.nums.items) (to_z-of_z w128 c.in-Some.found.den fits) ∙ made.1 in
    (record { columns = made.0; rows = subst P made.1 (evaluated.0 c.if-not-branch.false) }, same)

pub returns-clause-open_there : goal.returns-clause-open_there
returns-clause-open_there c = λ ends.
    let point : RatPoint = record { nums = c.from_vec.result; den = to_z w128 (of_z w128 c.in-Some.found.den) } in
    found_satisfies c.args.width c.args.given.now c.args.trail.now (Some point) c.requires.given ends (returns-clause-exact c)
