use Rattle.std.proofs.Common.{◌≡◌, ◌∙◌, sym, arith, length, to_z, of_z}
use Rattle.std.specs.Int.{w128}
use Rattle.std.proofs.lemmas.Int.{ints}
use Rattle.std.specs.Prelude.{pos}
use Rattle.alphabets_show.proofs.Texts.{further_one, then_ok, same_ok}
use Rattle.alphabets_show.proofs.Terms.{coefficient_more, empty_more, affine_bytes}
use Rattle.alphabets_show.proofs.sides.push_affine.Goals as goal

pub loop-column-preserved : goal.loop-column-preserved
loop-column-preserved c =
    let cs = c.coefs-value-items.result.now in
    record {
      written = further_one _ _ _ _ _ _ c.loop-column.invariant.written c.in_ok-first.ensures.ok
          (coefficient_more c.args.params.now cs c.loop-column.column (pos 0) c.loop-column-test.true c.loop-column.first c.loop-column.invariant.none);
      none = c.in_ok-first.ensures.none ∙ sym (empty_more c.args.params.now cs c.loop-column.column (pos 0) c.loop-column-test.true c.loop-column.first c.loop-column.invariant.none);
    }

pub returns : goal.returns
returns c =
    let cs = c.coefs-value-items.result.now in
    let end : c.loop-column.column ≡ length cs = omega arith in
    let constant : to_z w128 (of_z w128 c.konst.result) ≡ c.args.row.now.konst = omega (arith, ints) in
    record {
      ok = same_ok _ _ _ _ _
          (affine_bytes c.args.params.now c.args.row.now cs c.loop-column.column (to_z w128 (of_z w128 c.konst.result)) c.loop-column.first c.coefs-value-items.ensures.value end constant c.loop-column.invariant.none)
          (then_ok _ _ _ _ _ _ c.loop-column.invariant.written c.push_constant.ensures.ok);
    }
