use Rattle.std.proofs.Common.{◌≡◌, ◌+◌, ◌∷◌, ◌∙◌, [], List, length, sym, ap, subst, refl, arith}
use Rattle.std.proofs.lemmas.List.{length_push}
use Rattle.az_lin.specs.declared.step.Derivation.{Derivation}
use Rattle.formula_refute.specs.Fronts.{IsFront}
use Rattle.formula_refute.specs.declared.share.Share.{Share}
use Rattle.formula_refute.specs.declared.front.Stop.TheVariants.{End}
use Rattle.formula_refute.proofs.FrontSteps.{front_more, front_with, front_ends}
use Rattle.formula_refute.proofs.ShareSteps.{turn_more, turn_stops, no_items, ended_gives}
use Rattle.formula_refute.proofs.gated.joined.Goals as goal

pub returns-in-None : goal.returns-in-None
returns-in-None g c =
    let systems = g.C.CaseList.list c.args.cases.now in
    let ds : List Derivation = c.cases.derivations.items in
    let share : Share = c.in-Some.share in
    let stride = length c.args.shares.items in
    let none : share.derivations.items ≡ [] = no_items share.derivations.items c.pop_front-in-cases.new.self.items c.in-None.ensures.items c.in-None.ensures.rest in
    ended_gives systems ds share.end c.ended.result c.ended.ensures.ok c.ended.ensures.cause
    (λ stop ended. front_with systems ds c.cases._case (omega arith) c.cases.invariant.refuted stop
    (turn_stops stride systems c.cases._case c.cases.shares.items c.pop_front.new.self.items share c.in-Some.ensures.items c.cases.invariant.turn stop none ended))

pub cases-preserved : goal.cases-preserved
cases-preserved g c =
    let systems = g.C.CaseList.list c.args.cases.now in
    let case = c.cases._case in
    let ds : List Derivation = c.cases.derivations.items in
    let share : Share = c.in-Some.share in
    let later : Share = record { derivations = c.pop_front-in-cases.new.self; end = share.end } in
    let rest : List Share = c.pop_front.new.self.items in
    let derivation : Derivation = c.in-Some-pop_front.derivation in
    let turned = turn_more (length c.args.shares.items) systems case c.cases.shares.items rest share c.in-Some.ensures.items c.cases.invariant.turn c.push_back.new.self.items later derivation
    c.cases.invariant.count c.in-Some-pop_front.ensures.items refl c.in_ok-push_back.ensures.items in
    let popped : length c.cases.shares.items ≡ length (share ∷ rest) = ap length c.in-Some.ensures.items in
    let pushed : length c.push_back.new.self.items ≡ length rest + 1 = ap length c.in_ok-push_back.ensures.items ∙ length_push rest later in
    let count = c.cases.invariant.count in
    record {
      refuted = front_more systems ds case (omega arith) c.cases.invariant.refuted c.push.new.self.items derivation (omega arith) turned.0 c.in_ok-push-in-Some-pop_front.ensures.items;
      count = omega (arith, popped, pushed, count);
      turn = turned.1;
    }

pub returns : goal.returns
returns g c =
    let systems = g.C.CaseList.list c.args.cases.now in
    let F : List Derivation → Type 0 = λ ds. IsFront systems (record { derivations = ds; stop = End }) in
    subst F (sym c.from_vec.ensures) (front_ends systems c.cases.derivations.items c.cases._case (omega arith) c.cases.invariant.refuted (omega arith))
