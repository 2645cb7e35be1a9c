use Rattle.std.proofs.Common.{◌≡◌, ◌+◌, ◌-◌, ◌<◌, ◌∙◌, sym, ap, subst, suc, length, arith, rules}
use Rattle.std.proofs.lemmas.Bool.{false≢true}
use Rattle.az_lin.specs.Inversion.{Tableau, HasSize, step, StepsWide, reduced, ReducesWide}
use Rattle.az_lin.proofs.TableauSteps.{HasSize-step, HasSize-own}
use Rattle.az_lin.proofs.tableau.Tableau.reduce.Goals as goal

pub returns-then-not-branch-clause-exact : goal.returns-then-not-branch-clause-exact
returns-then-not-branch-clause-exact c = λ wide.
    let n = length c.args.self.rest in
    let left = n - (c.columns.column + 1) in
    let count : c.len-column-end.result ≡ n = search rules in
    let below : c.columns.column < n = omega (arith, count, c.columns-test.true) in
    let whole : suc left + c.columns.column ≡ n = omega (arith, below) in
    let steps : ReducesWide (suc left) c.columns.tableau = (c.columns.invariant.left (suc left) whole).1.1 wide in
    absurd (false≢true (sym c.if-not-branch.true ∙ c.in_ok-step.ensures.fits.1 steps.0))

pub columns-preserved : goal.columns-preserved
columns-preserved c =
    let t = c.columns.tableau in
    let next = c.step.new.self in
    let n = length c.args.self.rest in
    let is : next ≡ step t = c.in_ok-step.ensures.value c.if-not-branch.false in
    let fits : StepsWide t = c.in_ok-step.ensures.fits.0 c.if-not-branch.false in
    let size : HasSize (length next.pivots + length next.rest) next =
    HasSize-own (length t.pivots + length t.rest) next (subst (HasSize (length t.pivots + length t.rest)) (sym is) (HasSize-step (length t.pivots + length t.rest) t c.columns.invariant.size)) in
    record {
      size = size;
      left = λ left whole.
          let more : suc left + c.columns.column ≡ n = omega (arith, whole) in
          let before = c.columns.invariant.left (suc left) more in
          let W : Tableau → Type 0 = ReducesWide left in (
            ap (reduced left) is ∙ before.0,
            (λ h. before.1.0 (fits, subst W is h), λ h. subst W (sym is) (before.1.1 h).1),
          );
    }

pub returns-clause-exact : goal.returns-clause-exact
returns-clause-exact c =
    let count : c.len-column-end.result ≡ length c.args.self.rest = search rules in
    let whole : 0 + c.columns.column ≡ length c.args.self.rest = omega (arith, count) in
    let done = c.columns.invariant.left 0 whole in
    (done.1.0 tt, done.0)
