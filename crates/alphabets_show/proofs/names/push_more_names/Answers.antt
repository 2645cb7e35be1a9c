use Rattle.std.proofs.Common.{◌≡◌, List, ℕ, arith, length, []}
use Rattle.std.specs.Prelude.{◌∷◌}
use Rattle.alphabets_show.specs.Pieces.{word, comma}
use Rattle.alphabets_show.proofs.Texts.{name_more, all_written, further_two}
use Rattle.alphabets_show.proofs.names.push_more_names.Goals as goal

pub loop-name-preserved : goal.loop-name-preserved
loop-name-preserved c =
    further_two _ _ _ _ _ _ _ _ c.loop-name.invariant c.in_ok-push_str.ensures.bytes c.in_ok-push_str-2.ensures.bytes
    (name_more c.args.names.now c.loop-name.name-index c.name-item.result c.as_str.result.now c.loop-name-test.true c.name-item.is c.as_str.ensures)

pub returns : goal.returns
returns c =
    let end : c.loop-name.name-index ≡ length c.args.names.now = omega arith in
    record { ok = all_written (λ (name : List ℕ). comma (word name ∷ [])) c.args.names.now c.loop-name.name-index _ _ end c.loop-name.invariant }
