use Rattle.std.proofs.Common.{◌≡◌, subst}
use Rattle.az_ast.specs.Shapes.{IsProgram}
use Rattle.az_ast.specs.System.{System}
use Rattle.life_sets.proofs.Certified.{certified_by_formulas}
use Rattle.map_verify.proofs.certified.all_false.Goals as goal

pub returns : goal.returns
returns c =
    let p : System = c.args.checked.now in
    let m = c.args.mapping.now in
    let rules : IsProgram p = subst IsProgram c.program.ensures.value c.variables.ensures.rules in
    (certified_by_formulas p m rules c.kinds.ensures.mapping c.requires.complete).1 c.requires.each
