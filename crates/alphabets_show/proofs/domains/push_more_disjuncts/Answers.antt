use Rattle.std.proofs.Common.{◌≡◌, arith, length}
use Rattle.az_lin.specs.Affine.{Polyhedron}
use Rattle.az_text.specs.declared.mark.MarkKind.TheVariants.{BarBar}
use Rattle.alphabets_show.specs.Pieces.{spaced}
use Rattle.alphabets_show.specs.Sides.{conjunction}
use Rattle.alphabets_show.proofs.Texts.{item_more, all_written, further_two}
use Rattle.alphabets_show.proofs.domains.push_more_disjuncts.Goals as goal

pub loop-conj-preserved : goal.loop-conj-preserved
loop-conj-preserved c =
    let step = item_more (λ (conj : Polyhedron). spaced BarBar (conjunction c.args.params.now conj)) c.args.disjuncts.now c.loop-conj.conj-index c.conj-item.result c.loop-conj-test.true c.conj-item.is in
    further_two _ _ _ _ _ _ _ _ c.loop-conj.invariant c.in_ok-push_str.ensures.bytes c.in_ok-push_conjunction.ensures.ok step

pub returns : goal.returns
returns c =
    let end : c.loop-conj.conj-index ≡ length c.args.disjuncts.now = omega arith in
    record { ok = all_written (λ (conj : Polyhedron). spaced BarBar (conjunction c.args.params.now conj)) c.args.disjuncts.now c.loop-conj.conj-index _ _ end c.loop-conj.invariant }
