use Rattle.std.proofs.Common.{◌∙◌, suc, drop, ◌≡◌, ◌+◌, arith, sym, subst, add-one}
use Rattle.std.specs.Prelude.{◌+ℤ◌}
use Rattle.std.proofs.lemmas.Int.{ints}
use Rattle.side_rows.specs.Columns.{column_of}
use Rattle.side_rows.specs.Sides.{sum_of}
use Rattle.side_rows.specs.Totals.{IsTotal, total_of}
use Rattle.side_rows.proofs.Sums.{sum-holding, sum-other}
use Rattle.side_rows.proofs.total.sum.Goals as goal
use Rattle.side_rows.proofs.total.sum.Goals.{then-holds, else-holds}

pub terms-preserved : goal.terms-preserved
terms-preserved c =
    let column = column_of c.args.column in
    let side = c.args.side.now in
    let k = c.terms.term-index in
    let t = c.term-item.result in
    let old = c.terms.invariant.rest in
    let high = c.terms.invariant.parts.high in
    elim c.if-holds.branch [
      | then-holds w ↦
          let step = sum-holding column side k t c.terms-test.true c.term-item.is (sym c.holds.ensures ∙ w.if-holds.true) in
          let value = w.with-total.ensures.value in
          let near = w.with-total.ensures.near in
          let rest : total_of w.with-total.result +ℤ sum_of column (drop (suc k) side) ≡ sum_of column side = omega (arith, ints, step, old, value) in
          subst (λ x. record { rest : total_of x +ℤ sum_of column (drop (k + 1) side) ≡ sum_of column side; parts : IsTotal (k + 1) x }) (sym w.total-is)
          (record { rest = rw add-one rest; parts = record { high = omega (arith, near, high); from = w.with-total.ensures.from; to = w.with-total.ensures.to } })
      | else-holds w ↦
          let step = sum-other column side k t c.terms-test.true c.term-item.is (sym c.holds.ensures ∙ w.if-holds.false) in
          let rest : total_of c.terms.total +ℤ sum_of column (drop (suc k) side) ≡ sum_of column side = omega (arith, ints, step, old) in
          subst (λ x. record { rest : total_of x +ℤ sum_of column (drop (k + 1) side) ≡ sum_of column side; parts : IsTotal (k + 1) x }) (sym w.total-is)
          (record { rest = rw add-one rest; parts = record { high = omega (arith, high); from = c.terms.invariant.parts.from; to = c.terms.invariant.parts.to } })
    ]
