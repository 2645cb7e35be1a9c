use Rattle.std.proofs.Common.{◌≡◌, ◌++◌, [], ◌∷◌, rules, arith, pos, ◌-ℤ◌, to_z, of_z, subst, length, ◌↔◌}
use lib.IntN.{neg_ℤ}
use Rattle.std.specs.Int.{w128}
use Rattle.std.proofs.lemmas.Int.{ints}
use Rattle.az_lin.specs.Affine.{HasEntries, IsAtLeastZero}
use Rattle.az_lin.specs.Answers.{IsExactly}
use Rattle.az_lin.specs.Negation.{negated}
use Rattle.az_lin.proofs.Exactly.{ok_from_exactly}
use Rattle.az_lin.proofs.Mapped.{map-take-more, map-take-all}
use Rattle.az_lin.proofs.Negation.{negated_holds}
use Rattle.az_lin.proofs.Substitution.{row_is}
use Rattle.az_lin.proofs.row.Row.negate.Goals as goal

pub coefs-preserved : goal.coefs-preserved
coefs-preserved c =
    let pushed : c.push.new.self.items ≡ c.coefs.coefs.items ++ c.negative.result ∷ [] = search rules in
    map-take-more neg_ℤ c.coefs-coef-items.result.now c.coefs.coef-index (pos 0) c.negative.result c.coefs.coefs.items c.push.new.self.items
    c.coefs-test.true c.coefs.invariant c.negative.ensures.value pushed

exact : (c : goal.After-checked) → IsExactly HasEntries (negated c.args.self.now) c.checked.result
exact c =
    let full : c.coefs.coef-index ≡ length c.coefs-coef-items.result.now = omega arith in
    let coefs : c.coefs.coefs.items ≡ (negated c.args.self.now).coefs =
    map-take-all neg_ℤ c.coefs-coef-items.result.now c.args.self.now.coefs c.coefs.coef-index c.coefs.coefs.items c.coefs.invariant full c.coefs-coef-items.ensures.value in
    let konst : to_z w128 (of_z w128 (to_z w128 (of_z w128 c.negative-2.result) -ℤ pos 1)) ≡ (negated c.args.self.now).konst = omega (arith, ints) in
    subst (λ row. IsExactly HasEntries row c.checked.result) (row_is _ _ _ coefs konst) c.checked.ensures

pub returns-clause-exact : goal.returns-clause-exact
returns-clause-exact c = exact c

pub returns-clause-meaning : goal.returns-clause-meaning
returns-clause-meaning c = λ z.
    ok_from_exactly HasEntries (negated c.args.self.now) (λ row. IsAtLeastZero z row ↔ (IsAtLeastZero z c.args.self.now → ⊥)) c.checked.result
    (exact c) (negated_holds c.args.self.now z)
