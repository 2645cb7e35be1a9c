use Rattle.std.proofs.Common.{rules, ap, ◌∙◌, slice_index_or, pos, FitsSigned}
use Rattle.std.specs.Int.{w128}
use Rattle.std.proofs.lemmas.Int.{to_z-of_z}
use Rattle.session_state.proofs.CoordinateText.{one_more}
use Rattle.std.specs.Prelude.{string_bytes, ◌++◌}
use Rattle.session_state.proofs.coordinates.rows_text.Goals as goal

pub loop-place-preserved : goal.loop-place-preserved
loop-place-preserved c =
    let place = c.loop-place.place in
    let fits : FitsSigned w128 (slice_index_or c.args.numbers.now place (pos 0)) = search rules in
    one_more c.args.row c.args.den place c.args.numbers.now _ (search rules) (to_z-of_z w128 (slice_index_or c.args.numbers.now place (pos 0)) fits)
    (string_bytes c.loop-place.text) (string_bytes c.push_str.new.self) _ _ c.loop-place.invariant
    (c.in_ok-push_str.ensures.bytes ∙ ap (λ s. string_bytes c.loop-place.text ++ s) c.separator.ensures) c.in_ok-push_coordinate.ensures
