use Rattle.std.proofs.Common.{rules, ◌≡◌, arith}
use Rattle.std.proofs.lemmas.Int.{ints}
use Rattle.side_rows.specs.Columns.{column_of}
use Rattle.side_rows.specs.Sides.{entry_of, gap_of, sum_of}
use Rattle.side_rows.specs.Totals.{total_of}
use Rattle.side_rows.proofs.difference.Difference.entry.Goals as goal

pub overflow_sub-left-3 : goal.overflow_sub-left-3
overflow_sub-left-3 c =
    let a = c.sum-left.ensures.parts in
    let b = c.sum-right.ensures.parts in
    let g = c.gap.ensures.range in
    omega (arith, ints, a.from, a.to, b.from, b.to, g.0, g.1)

pub entry-requires : goal.entry-requires
entry-requires c =
    let a = c.sum-left.ensures.parts in
    let b = c.sum-right.ensures.parts in
    let g = c.gap.ensures.range in
    omega (arith, ints, a.from, a.to, b.from, b.to, g.0, g.1)

pub returns : goal.returns
returns c =
    let column = column_of c.args.column in
    let d = c.args.self.now in
    let a = c.sum-left.ensures in
    let b = c.sum-right.ensures in
    let g = c.gap.ensures in
    let left : total_of c.sum-left.result ≡ sum_of column d.left = search rules in
    let right : total_of c.sum-right.result ≡ sum_of column d.right = search rules in
    let gap : c.gap.result ≡ gap_of column d.strict = search rules in
    c.entry.ensures (entry_of d column)
    (omega (arith, ints, left, right, gap, a.near, b.near, a.parts.from, a.parts.to, b.parts.from, b.parts.to, g.range.0, g.range.1))
