use Rattle.std.proofs.Common.{◌≡◌, ◌-◌, ◌++◌, ◌∙◌, arith, ap, subst, length, take, drop, to_z, of_z, length-drop}
use Rattle.std.specs.Int.{w128}
use Rattle.std.proofs.lemmas.Int.{ints}
use Rattle.std.proofs.lemmas.List.{take_all}
use Rattle.az_lin.specs.Affine.{HasEntries, value_at}
use Rattle.az_lin.specs.Answers.{IsExactly}
use Rattle.az_lin.specs.Columns.{at_params}
use Rattle.az_lin.proofs.Columns.{value_at-at_params}
use Rattle.az_lin.proofs.Exactly.{ok_from_exactly}
use Rattle.az_lin.proofs.Substitution.{row_is}
use Rattle.row_columns.proofs.put.row_at_params.Goals as goal

pub returns-clause-meaning : goal.returns-clause-meaning
returns-clause-meaning c = λ z.
    let k = length c.args.params.now in
    let rest = drop k c.coefs.result.now in
    let coefs : take (length c.coefs.result.now - k) rest ≡ drop k c.args.row.now.coefs =
    take_all (length c.coefs.result.now - k) rest (omega (arith, length-drop k c.coefs.result.now)) ∙ ap (drop k) c.coefs.ensures.value in
    let konst : to_z w128 (of_z w128 c.value_at_params.result) ≡ (at_params c.args.params.now c.args.row.now).konst = omega (arith, ints) in
    let exact : IsExactly HasEntries (at_params c.args.params.now c.args.row.now) c.new.result =
    subst (λ row. IsExactly HasEntries row c.new.result) (row_is (at_params c.args.params.now c.args.row.now) _ _ coefs konst) c.new.ensures in
    ok_from_exactly HasEntries (at_params c.args.params.now c.args.row.now) (λ put. value_at put z ≡ value_at c.args.row.now (c.args.params.now ++ z)) c.new.result
    exact (value_at-at_params c.args.params.now c.args.row.now z)
