use Rattle.std.proofs.Common.{◌≡◌, ap, subst, ◌∙◌, None}
use Rattle.az_ast.specs.Shapes.{limit_of}
use Rattle.rewriting.proofs.Made.{within-limits}
use Rattle.rewriting.proofs.assembly.changed_program.Goals as goal

pub certified-requires : goal.certified-requires
certified-requires c = within-limits c.in-Ok.changed c.in-Ok.ensures.ok.1
