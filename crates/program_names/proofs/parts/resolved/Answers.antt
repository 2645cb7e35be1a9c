use Rattle.program_names.specs.Refusals.{is_wide_literal, is_wide_row}
use Rattle.program_names.proofs.Accepted.{none-in-equations, literals_fit, equations_fit}
use Rattle.program_names.proofs.parts.resolved.Goals as goal

pub equations-requires-clause-literals : goal.equations-requires-clause-literals
equations-requires-clause-literals c =
    let text = c.args.text.now in
    none-in-equations is_wide_literal text.params c.as_slice-outer.result.now text.equations c.as_slice-3.result.now c.as_slice-outer.ensures c.as_slice-3.ensures (literals_fit text c.requires)

pub equations-requires-clause-rows : goal.equations-requires-clause-rows
equations-requires-clause-rows c =
    let text = c.args.text.now in
    none-in-equations is_wide_row text.params c.as_slice-outer.result.now text.equations c.as_slice-3.result.now c.as_slice-outer.ensures c.as_slice-3.ensures (equations_fit text c.requires)
