use Rattle.std.proofs.Common.{pos, get_or, unsigned_abs, SFits, to_z-of_z, rules, refl, sym, ◌∙◌, true≢false}
use Rattle.std.proofs.lemmas.List.{take_all}
use Rattle.std.proofs.lemmas.List.Elements.{All-more, All-same}
use Rattle.std.specs.Int.{w128}
use Prim.Native.Nat.{◌∣◌}
use Rattle.farkas_check.proofs.next_row.divides_each.Goals as goal

pub loop-number-preserved : goal.loop-number-preserved
loop-number-preserved c =
    let i = c.loop-number.number-index in
    let fits : SFits w128 (get_or c.args.numbers.now i (pos 0)) = search rules in
    All-more (λ z. c.args.divisor ∣ unsigned_abs z) c.args.numbers.now i (pos 0) c.loop-number-test.true c.loop-number.invariant
    (simp to_z-of_z at (c.divides_number.ensures.0 c.if-not-divides_number.false))

pub returns-then-not-divides_number : goal.returns-then-not-divides_number
returns-then-not-divides_number c =
    let i = c.loop-number.number-index in
    let fits : SFits w128 (get_or c.args.numbers.now i (pos 0)) = search rules in
    let passes = simp to_z-of_z at c.divides_number.ensures.1 in
    (λ t. absurd (true≢false (sym t)), λ all. sym c.if-not-divides_number.true ∙ passes (all i (pos 0) c.loop-number-test.true))

pub returns : goal.returns
returns c =
    (λ _. All-same (λ z. c.args.divisor ∣ unsigned_abs z) c.args.numbers.now _ (sym (take_all c.loop-number.number-index c.args.numbers.now c.loop-number-test.false)) c.loop-number.invariant, λ _. refl)
