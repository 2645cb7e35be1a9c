use Rattle.std.proofs.Common.{rules, ◌≡◌, ◌++◌, ◌∷◌, [], ◌<◌, ◌≤◌, arith, length, sym, ◌∙◌, append-nil, pos, FitsSigned}
use Rattle.std.specs.Int.{w128}
use Rattle.std.proofs.lemmas.Int.{to_z-of_z, fits_signed_from_abs}
use Rattle.az_lin.specs.Combination.{quotient}
use Rattle.std.proofs.lemmas.Iterator.Adapters.{YieldsList-from_vec}
use Rattle.std.proofs.lemmas.Iterator.Consumers.{YieldsList-turn}
use Rattle.farkas_find.specs.Tidying.{rounding_steps}
use Rattle.farkas_find.proofs.Rounded.{rounds_one, steps_one, counts_one, leaves_one, same_steps, rounded_rows-nil, rounding_steps-nil, length-rounding_steps}
use Rattle.farkas_find.proofs.rounding.round_rows.Goals as goal

pub rows-init : goal.rows-init
rows-init c = record {
  done = c.in_ok-done.ensures.items ∙ sym (rounded_rows-nil c.args.next);
  steps = rw rounding_steps-nil (sym (append-nil c.args.steps.now.items));
  number = rw rounding_steps-nil (omega arith);
}

pub overflow_add-number : goal.overflow_add-number
overflow_add-number c =
    let turn = YieldsList-turn (YieldsList-from_vec c.args.rows.items (cc) (cc)) c.rows.yielded c.rows.it-iterator c.rows.yielded_by c.next.result c.next.new.self c.in-Some.it c.in-Some.is c.next.ensures.steps in
    let inside : length c.rows.yielded < length c.args.rows.items = turn.0 in
    let few : length (rounding_steps c.rows.yielded) ≤ length c.rows.yielded = length-rounding_steps c.rows.yielded in
    search rules

pub rows-preserved-in-Some-divisor : goal.rows-preserved-in-Some-divisor
rows-preserved-in-Some-divisor c =
    let above = c.in-Some-divisor.ensures.0 in
    let d = c.in-Some-divisor.ensures.1 in
    let fits : FitsSigned w128 c.in-Some-divisor.divisor = fits_signed_from_abs w128 c.in-Some-divisor.divisor c.in-Some-divisor.ensures.2 in
    let quotient_is : c.divided.result ≡ quotient c.in-Some.it.row c.in-Some-divisor.divisor = simp to_z-of_z at c.divided.ensures in
    let step_is : c.rounding_step.result ≡ record { a = pos 1; i = c.in-Some.it.number; b = pos 0; j = c.in-Some.it.number; g = c.in-Some-divisor.divisor } = simp to_z-of_z at c.rounding_step.ensures in
    let pushed : c.push.new.self.items ≡ c.rows.steps.items ++ c.rounding_step.result ∷ [] = c.in_ok-push-in-Some-divisor.ensures.items in
    record {
      done = c.in_ok-push-in-Some-divisor-2.ensures.items ∙ rounds_one c.args.next c.rows.number c.rows.done.items c.rows.yielded c.in-Some.it c.divided.result c.in-Some-divisor.divisor above d quotient_is c.rows.invariant.done c.rows.invariant.number;
      steps = pushed ∙ steps_one c.args.steps.now.items c.rows.steps.items c.rows.yielded c.in-Some.it c.rounding_step.result c.in-Some-divisor.divisor above d step_is c.rows.invariant.steps;
      number = counts_one c.args.next c.rows.number c.rows.yielded c.in-Some.it above c.rows.invariant.number;
    }

pub rows-preserved : goal.rows-preserved
rows-preserved c =
    let same = same_steps c.rows.yielded c.in-Some.it c.in-None-divisor.ensures in
    record {
      done = c.in_ok-push-in-None-divisor.ensures.items ∙ leaves_one c.args.next c.rows.done.items c.rows.yielded c.in-Some.it c.in-None-divisor.ensures c.rows.invariant.done;
      steps = rw same c.rows.invariant.steps;
      number = rw same c.rows.invariant.number;
    }
