use Rattle.std.proofs.Common.{arith}
use Rattle.alphabets_show.proofs.Texts.{index_written, further_one}
use Rattle.alphabets_show.proofs.names.push_indices.Goals as goal

pub loop-index-preserved : goal.loop-index-preserved
loop-index-preserved c = record {
  counted = omega arith;
  written = further_one _ _ _ _ _ _ c.loop-index.invariant.written c.in_ok-write-2.ensures.bytes (index_written c.args.from c.loop-index.index-counter c.loop-index.invariant.counted);
}
