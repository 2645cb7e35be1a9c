use Rattle.std.proofs.Common.{◌^◌, arith}
use Rattle.std.proofs.lemmas.Int.{ints}
use Rattle.std.proofs.lemmas.Nat.{div-add-mod'}
use Rattle.side_rows.proofs.Sums.{signed-minus, signed-plus}
use Rattle.side_rows.proofs.total.Total.with.Goals as goal

pub returns-then-negative-clause-value : goal.returns-then-negative-clause-value
returns-then-negative-clause-value c =
    let parts = div-add-mod' c.args.factor (2 ^ 96) in
    let value = c.carried.ensures.value in
    let sign = signed-minus c.args.negative c.args.factor c.if-negative.true in
    omega (arith, ints, parts, value, sign)

pub returns-then-negative-clause-near : goal.returns-then-negative-clause-near
returns-then-negative-clause-near c =
    let near = c.carried.ensures.near in
    omega (arith, ints, near)

pub returns-else-negative-clause-value : goal.returns-else-negative-clause-value
returns-else-negative-clause-value c =
    let parts = div-add-mod' c.args.factor (2 ^ 96) in
    let value = c.carried-else-negative.ensures.value in
    let sign = signed-plus c.args.negative c.args.factor c.if-negative.false in
    omega (arith, ints, parts, value, sign)
