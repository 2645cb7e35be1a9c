use Rattle.std.proofs.Common.{◌≡◌, arith, length, take, sym, ◌∙◌, append-nil, slice_index_or, ◌++◌, ◌∷◌, []}
use Rattle.std.proofs.lemmas.List.{take_more, length-take}
use Rattle.std.proofs.lemmas.List.Elements.{All-nil, All-more}
use Rattle.farkas_find.specs.declared.choice.Pair.{Pair}
use Rattle.farkas_find.specs.Combining.{FitsAt, combined_at, step_at}
use Rattle.farkas_find.proofs.Numbering.{numbered_from-nil, makes_one, step_more}
use Rattle.farkas_find.proofs.made.made.Goals as goal

pub pairs-init : goal.pairs-init
pairs-init c = record {
  fits = All-nil (FitsAt c.args.column c.args.rows.now);
  made = c.in_ok-made.ensures.items ∙ sym (numbered_from-nil c.args.next);
  steps = sym (append-nil c.args.steps.now.items);
  number = omega arith;
}

pub pairs-preserved : goal.pairs-preserved
pairs-preserved c =
    let none : Pair = record { plus = 0; minus = 0 } in
    let i = c.pairs.pair-index in
    let pairs = c.args.pairs.now in
    let pair : Pair = slice_index_or pairs i none in
    let more = take_more pairs i none c.pairs-test.true in
    let long : length (take i pairs) ≡ i = omega (arith, length-take i pairs, c.pairs-test.true) in
    let facts = rw c.in-Some.is at c.in_ok-new.ensures.exact in
    let fits : FitsAt c.args.column c.args.rows.now pair = rw (← c.at-plus.ensures, ← c.at-minus.ensures) facts.0 in
    let row_is : c.in-Some.new.row ≡ combined_at c.args.column c.args.rows.now pair = rw (← c.at-plus.ensures, ← c.at-minus.ensures) facts.1 in
    let step_is : c.in-Some.new.step ≡ step_at c.args.column c.args.rows.now pair = rw (← c.at-plus.ensures, ← c.at-minus.ensures) facts.2 in
    let pushed : c.push.new.self.items ≡ c.pairs.steps.items ++ c.in-Some.new.step ∷ [] = c.in_ok-push.ensures.items in
    record {
      fits = All-more (FitsAt c.args.column c.args.rows.now) pairs i none c.pairs-test.true c.pairs.invariant.fits fits;
      made = c.in_ok-push-2.ensures.items ∙ makes_one c.args.next c.pairs.number c.args.column i c.args.rows.now pairs pair c.in-Some.new.row c.pairs.made.items more long row_is c.pairs.invariant.made c.pairs.invariant.number;
      steps = pushed ∙ step_more c.args.column i c.args.rows.now pairs pair c.in-Some.new.step c.args.steps.now.items c.pairs.steps.items more step_is c.pairs.invariant.steps;
      number = omega arith;
    }
