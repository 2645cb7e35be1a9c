use Rattle.std.proofs.Common.{◌≡◌, [], ◌∷◌, ◌++◌, List, true, eq-eqb, ap, sym}
use Rattle.std.specs.Prelude.{◌==◌, if◌then◌else◌}
use Rattle.formula_refute.specs.Claims.{Claim}
use Rattle.order_sets.specs.NotBefore.{at_least}
use Rattle.order_sets.proofs.Making.{made_same, pushed}
use Rattle.order_sets.proofs.before.push_unit.Goals as goal

pub returns : goal.returns
returns c = λ cs so_far.
    let here = at_least c.args.u.now c.args.v.now in
    let none : List Claim = [] in
    let one : (c.args.size == 1) ≡ true = eq-eqb c.args.size 1 c.if-size-ne1.false in
    made_same (cs ++ here ∷ []) (cs ++ (if c.args.size == 1 then here ∷ [] else none)) c.push.new.self (ap (λ b. cs ++ (if b then here ∷ [] else none)) (sym one))
    (pushed cs here c.args.members.now c.push.new.self c.in_ok-at_least.field-0 c.in_ok-at_least.ensures c.in_ok-push.ensures so_far)
