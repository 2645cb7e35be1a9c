use Rattle.std.proofs.Common.{rules, ap, ◌∙◌, w64, to_z}
use Rattle.std.specs.Int.{w128, int_wrap, int_rem_euclid}
use Rattle.std.specs.Prelude.{pos, unsigned_abs, ◌^◌, FitsSigned}
use Rattle.std.proofs.lemmas.Int.{to_z-of_z}
use Rattle.az_ast.proofs.op.wrap.Goals as goal

pub returns : goal.returns
unfolding int_wrap
returns c =
    let word_fits : FitsSigned w64 c.cast_signed.result = search rules in
    let rest_fits : FitsSigned w128 c.rem_euclid-word.result = search rules in
    to_z-of_z w64 c.cast_signed.result word_fits
    ∙ (c.cast_signed.ensures
    ∙ ap (λ z. to_z w64 (unsigned_abs z))
    (to_z-of_z w128 c.rem_euclid-word.result rest_fits
    ∙ (c.rem_euclid-word.ensures.value ∙ ap (λ z. int_rem_euclid z (pos (2 ^ 64))) (to_z-of_z w128 c.args.number c.ranges.number))))
