use Rattle.std.proofs.Common.{sym}
use Rattle.equation_meaning.proofs.PointSteps.{variable-can, variable-own}
use Rattle.equation_meaning.proofs.point_count.variable_count.Goals as goal

pub body_count-requires-clause-each : goal.body_count-requires-clause-each
body_count-requires-clause-each c =
    variable-can c.args.program.now c.args.params.now c.args.x c.requires.within c.requires.count c.in-Some.equation.now (sym c.in-Some.ensures.value) (sym c.in-Some.ensures.none) c.args.points.now c.requires.covered
    c.requires.rules c.requires.certified c.requires.inside

pub returns-in-Some : goal.returns-in-Some
returns-in-Some c =
    variable-own c.args.program.now c.args.params.now c.args.x c.requires.within c.requires.count c.in-Some.equation.now (sym c.in-Some.ensures.value) (sym c.in-Some.ensures.none) c.args.points.now c.requires.covered
    c.args.left c.body_count.result c.body_count.ensures
