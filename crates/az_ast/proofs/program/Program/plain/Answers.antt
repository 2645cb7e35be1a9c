use Rattle.std.proofs.Common.{sym, subst}
use Rattle.std.specs.Prelude.{◌↔◌, IsTrue, not}
use Rattle.az_ast.specs.Shapes.{IsPlain}
use Rattle.az_ast.proofs.ProgramLaws.{plain_is}
use Rattle.az_ast.proofs.program.Program.plain.Goals as goal

pub returns : goal.returns
returns c =
    subst (λ p. IsTrue (not c.some_domain_outside.result) ↔ IsPlain p) c.self.view_is
    (subst (λ b. IsTrue (not b) ↔ IsPlain c.self.inside.draft) (sym c.some_domain_outside.ensures) (plain_is c.self.inside.draft))
