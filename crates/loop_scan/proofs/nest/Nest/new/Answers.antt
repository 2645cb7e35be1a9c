use Rattle.std.proofs.Common.{refl, sym, subst, length, take, List, get_or, ℕ, ◌≤◌, [], ◌++◌, ◌∷◌, pos}
use Rattle.std.specs.List.{AllZip}
use Rattle.std.proofs.lemmas.List.{take_all, take_more}
use Rattle.loop_scan.specs.declared.range.Range.{Range}
use Rattle.loop_scan.specs.declared.level.Level.{Level}
use Rattle.loop_scan.proofs.Lists.{AllZip-push, AllZip-length}
use Rattle.loop_scan.proofs.Bounding.{IsPlain, Passes-plain, plain-Passes, AreLevels-plain}
use Rattle.loop_scan.proofs.nest.Nest.new.Goals as goal

pub levels-preserved : goal.levels-preserved
levels-preserved c =
    let ranges = c.args.ranges.now in
    let i = c.levels.range-index in
    let levels = c.levels.levels.items in
    let zero : Range = record { low = pos 0; high = pos 0 } in
    let level : Level = record { range = get_or ranges i zero; bounds = c.new.result } in
    let P : List Range → List Level → Type 0 = AllZip IsPlain in
    subst (λ xs. P xs c.push.new.self.items) (sym (take_more ranges i zero c.levels-test.true))
    (subst (λ ys. P (take i ranges ++ get_or ranges i zero ∷ []) ys) (sym c.in_ok-push.ensures.items)
    (AllZip-push IsPlain (take i ranges) levels (get_or ranges i zero) level c.levels.invariant (refl, c.new.ensures.items)))

-- all ranges have their levels
whole : (ranges : List Range) (levels : List Level) (n : ℕ) → length ranges ≤ n → AllZip IsPlain (take n ranges) levels → AllZip IsPlain ranges levels
whole ranges levels n h all = let P : List Range → Type 0 = λ rs. AllZip IsPlain rs levels in subst P (take_all n ranges h) all

pub returns-clause-state : goal.returns-clause-state
returns-clause-state c =
    let all = whole c.args.ranges.now c.levels.levels.items c.levels.range-index c.levels-test.false c.levels.invariant in
    record {
      levels = AreLevels-plain 0 c.args.ranges.now c.levels.levels.items c.requires.coordinates all;
      indices = sym (AllZip-length IsPlain c.args.ranges.now c.levels.levels.items all);
    }

pub returns-clause-points : goal.returns-clause-points
returns-clause-points c = λ y.
    let all = whole c.args.ranges.now c.levels.levels.items c.levels.range-index c.levels-test.false c.levels.invariant in
    (λ a. Passes-plain c.args.ranges.now c.levels.levels.items [] y all a.1, λ a. (refl, plain-Passes c.args.ranges.now c.levels.levels.items [] y all a))
