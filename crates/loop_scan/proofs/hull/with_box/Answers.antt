use Rattle.std.proofs.Common.{◌≡◌, ◌∙◌, ◌++◌, ◌∷◌, [], ◌<◌, ℕ, arith, sym, subst, ap, length, take, drop, List, Option, Some, None}
use Rattle.std.specs.Global.{Vec}
use Rattle.std.specs.List.{All}
use Rattle.loop_scan.specs.declared.range.Range.{Range}
use Rattle.loop_scan.specs.Hulls.{HasNumber, range_of}
use Rattle.loop_scan.specs.Nest.Answered.{ranges_of}
use Rattle.loop_scan.specs.Nest.Joined.{joined, IsHullOf, IsBoxOver}
use Rattle.loop_scan.proofs.Hulls.{full-none, full-empty, hull_same, hull_one, hull_joined, ends-more, refilled}
use Rattle.loop_scan.proofs.hull.with_box.Goals as goal

pub returns-in_default-clause-joins : goal.returns-in_default-clause-joins
returns-in_default-clause-joins c = λ boxes h.
    subst (λ (o : Option (Vec Range)). IsHullOf c.args.width (boxes ++ ranges_of o ∷ []) (ranges_of c.args.hull)) (sym c.in_default.is)
    (hull_same c.args.width boxes (boxes ++ None ∷ []) (ranges_of c.args.hull) (sym (full-none boxes)) h)

pub returns-then-not-is_full-clause-joins : goal.returns-then-not-is_full-clause-joins
returns-then-not-is_full-clause-joins c = λ boxes h.
    let ranges = c.in-Some.ranges.items in
    let empty : All HasNumber ranges → ⊥ = λ full.
    let t = c.is_full.ensures.1 (subst (λ (rs : List Range). All HasNumber rs) (sym c.as_slice.ensures.value) full) in
    let f = c.if-not-is_full.true in cc in
    subst (λ (o : Option (Vec Range)). IsHullOf c.args.width (boxes ++ ranges_of o ∷ []) (ranges_of c.args.hull)) (sym c.in-Some.is)
    (hull_same c.args.width boxes (boxes ++ Some ranges ∷ []) (ranges_of c.args.hull) (sym (full-empty boxes ranges empty)) h)

pub returns-in_default-hull-clause-over : goal.returns-in_default-hull-clause-over
returns-in_default-hull-clause-over c =
    let ranges = c.in-Some.ranges.items in
    let copied : c.in_ok-from_slice.field-0.items ≡ ranges = c.in_ok-from_slice.ensures.items ∙ c.as_slice-in_default-hull.ensures.value in
    let over = subst (λ (o : Option (Vec Range)). IsBoxOver c.args.width (ranges_of o)) c.in-Some.is c.requires.one in
    subst (λ (rs : List Range). IsBoxOver c.args.width (Some rs)) (sym copied) over

pub returns-in_default-hull-clause-joins : goal.returns-in_default-hull-clause-joins
returns-in_default-hull-clause-joins c = λ boxes h.
    let ranges = c.in-Some.ranges.items in
    let copied : c.in_ok-from_slice.field-0.items ≡ ranges = c.in_ok-from_slice.ensures.items ∙ c.as_slice-in_default-hull.ensures.value in
    let over = subst (λ (o : Option (Vec Range)). IsBoxOver c.args.width (ranges_of o)) c.in-Some.is c.requires.one in
    let none = subst (λ (o : Option (Vec Range)). IsHullOf c.args.width boxes (ranges_of o)) c.in_default-hull.is h in
    let full = subst (λ (rs : List Range). All HasNumber rs) c.as_slice.ensures.value (c.is_full.ensures.0 c.if-not-is_full.false) in
    subst (λ (o : Option (Vec Range)). IsHullOf c.args.width (boxes ++ ranges_of o ∷ []) (Some c.in_ok-from_slice.field-0.items)) (sym c.in-Some.is)
    (subst (λ (rs : List Range). IsHullOf c.args.width (boxes ++ Some ranges ∷ []) (Some rs)) (sym copied) (hull_one c.args.width boxes ranges none full over.0))

pub widen-requires : goal.widen-requires
widen-requires c =
    let over = subst (λ (o : Option (Vec Range)). IsBoxOver c.args.width (ranges_of o)) c.in-Some.is c.requires.one in
    let old = subst (λ (o : Option (Vec Range)). IsBoxOver c.args.width (ranges_of o)) c.in-Some-hull.is c.requires.hull in
    record { same = ap length c.as_slice-2.ensures.value ∙ over.0 ∙ sym old.0 ∙ sym (ap length c.as_mut_slice.ensures.value) }

pub returns-clause-over : goal.returns-clause-over
returns-clause-over c =
    let ranges = c.in-Some.ranges.items in
    let old = c.in-Some-hull.joint.items in
    let new = c.widen.new.hull in
    let over = subst (λ (o : Option (Vec Range)). IsBoxOver c.args.width (ranges_of o)) c.in-Some.is c.requires.one in
    let before = subst (λ (o : Option (Vec Range)). IsBoxOver c.args.width (ranges_of o)) c.in-Some-hull.is c.requires.hull in
    let each = subst (λ (xs : List Range). (k : ℕ) → k < length xs → range_of k new ≡ joined (range_of k xs) (range_of k c.as_slice-2.result.now)) c.as_mut_slice.ensures.value c.widen.ensures in
    let joins = subst (λ (ys : List Range). (k : ℕ) → k < length old → range_of k new ≡ joined (range_of k old) (range_of k ys)) c.as_slice-2.ensures.value each in
    let count : length new ≡ length old = omega (arith, c.widen.auto.hull, ap length c.as_mut_slice.ensures.value) in
    let whole = refilled c.in-Some-hull.joint.len new old count (omega (arith, c.in-Some-hull.joint.ok.0)) in
    subst (λ (rs : List Range). IsBoxOver c.args.width (Some rs)) (sym whole)
    (count ∙ before.0, ends-more old ranges new count (over.0 ∙ sym before.0) joins before.1 over.1)

pub returns-clause-joins : goal.returns-clause-joins
returns-clause-joins c = λ boxes h.
    let ranges = c.in-Some.ranges.items in
    let old = c.in-Some-hull.joint.items in
    let new = c.widen.new.hull in
    let before = subst (λ (o : Option (Vec Range)). IsBoxOver c.args.width (ranges_of o)) c.in-Some-hull.is c.requires.hull in
    let each = subst (λ (xs : List Range). (k : ℕ) → k < length xs → range_of k new ≡ joined (range_of k xs) (range_of k c.as_slice-2.result.now)) c.as_mut_slice.ensures.value c.widen.ensures in
    let joins = subst (λ (ys : List Range). (k : ℕ) → k < length old → range_of k new ≡ joined (range_of k old) (range_of k ys)) c.as_slice-2.ensures.value each in
    let count : length new ≡ length old = omega (arith, c.widen.auto.hull, ap length c.as_mut_slice.ensures.value) in
    let whole = refilled c.in-Some-hull.joint.len new old count (omega (arith, c.in-Some-hull.joint.ok.0)) in
    let full = subst (λ (rs : List Range). All HasNumber rs) c.as_slice.ensures.value (c.is_full.ensures.0 c.if-not-is_full.false) in
    let hull = subst (λ (o : Option (Vec Range)). IsHullOf c.args.width boxes (ranges_of o)) c.in-Some-hull.is h in
    subst (λ (o : Option (Vec Range)). IsHullOf c.args.width (boxes ++ ranges_of o ∷ []) (Some (take c.in-Some-hull.joint.len (new ++ drop (length new) old)))) (sym c.in-Some.is)
    (subst (λ (rs : List Range). IsHullOf c.args.width (boxes ++ Some ranges ∷ []) (Some rs)) (sym whole)
    (hull_joined c.args.width boxes ranges old new full hull (count ∙ before.0) (λ k l. joins k (omega (arith, l, before.0)))))
