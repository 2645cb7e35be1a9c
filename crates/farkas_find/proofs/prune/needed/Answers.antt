use Rattle.std.proofs.Common.{◌≡◌, ◌<◌, ◌+◌, ◌-◌, ℕ, length, arith, subst, true, false, Bool, sym, ◌∙◌, List, get_or, pos}
use Rattle.std.proofs.lemmas.List.{get_or_default}
use Rattle.farkas_find.proofs.Marks.{Marked, IsSet, Marked-start, Marked-yes, Marked-no, Marked-end}
use Rattle.farkas_find.proofs.prune.needed.Goals as goal

pub steps-init : goal.steps-init
steps-init c =
    let P : List Bool → Type 0 = λ bs. IsSet c.args.given c.args.target bs c.mark.new.marks.items in
    let here = subst P (c.in_ok-marks.ensures.items_if_clones_equal (λ y e. e)) (record { count = c.mark.ensures.length; value = c.mark.ensures.value }) in
    Marked-start c.args.target c.args.given c.args.steps.now c.mark.new.marks.items here

one_back : (marks : List Bool) (q : ℕ) (b c : Bool) → q < length marks → b ≡ get_or marks q b → b ≡ c → get_or marks q false ≡ c
one_back marks q b c h is e = get_or_default marks q false b h ∙ sym is ∙ e

pub steps-preserved-then-index : goal.steps-preserved-then-index
steps-preserved-then-index c =
    let q = c.steps.place - 1 in
    let back : c.steps.place ≡ q + 1 = omega (arith, c.steps-test.true) in
    let before = subst (Marked c.args.target c.args.given c.args.steps.now c.steps.marks.items) back c.steps.invariant in
    let inside : q < length c.steps.marks.items = omega (arith, c.steps.invariant.inside, c.steps.invariant.count) in
    let flag = one_back c.steps.marks.items q c.index.result.now true inside c.index.ensures c.if-index.true in
    let left = c.mark-then-index.ensures in
    let right = c.mark-then-index-2.ensures in
    Marked-yes c.args.target c.args.given c.args.steps.now c.steps.marks.items c.mark-then-index.new.marks.items c.mark-then-index-2.new.marks.items q
    (record { a = pos 0; i = 0; b = pos 0; j = 0; g = pos 0 }) before flag c.requires.order
    (record { count = left.length; value = left.value }) (record { count = right.length; value = right.value })

pub steps-preserved : goal.steps-preserved
steps-preserved c =
    let q = c.steps.place - 1 in
    let back : c.steps.place ≡ q + 1 = omega (arith, c.steps-test.true) in
    let before = subst (Marked c.args.target c.args.given c.args.steps.now c.steps.marks.items) back c.steps.invariant in
    let inside : q < length c.steps.marks.items = omega (arith, c.steps.invariant.inside, c.steps.invariant.count) in
    let flag = one_back c.steps.marks.items q c.index.result.now false inside c.index.ensures c.if-index.false in
    Marked-no c.args.target c.args.given c.args.steps.now c.steps.marks.items q (record { a = pos 0; i = 0; b = pos 0; j = 0; g = pos 0 }) before flag

pub returns : goal.returns
returns c = Marked-end c.args.target c.args.given c.args.steps.now c.steps.marks.items c.steps.place c.steps.invariant c.steps-test.false
