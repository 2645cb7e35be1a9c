use Rattle.std.proofs.Common.{rules, ◌≡◌, Option, Some, None, refl, ap, subst, ◌∙◌}
use Rattle.std.specs.Prelude.{is_none}
use Rattle.std.specs.Borrow.{Bor}
use Rattle.std.specs.Option.{option_copied}
use Rattle.az_ast.specs.Meaning.{equation_of}
use Rattle.az_ast.specs.Shapes.{IsProgram}
use Rattle.az_ast.proofs.ProgramLaws.{declared_equation_is}
use Rattle.az_ast.proofs.program.Program.equation.Goals as goal

copied_none : {A : Type 0} (o : Option (Bor A)) → is_none o ≡ is_none (option_copied o)
copied_none None = refl
copied_none (Some x) = refl

pub returns-clause-none : goal.returns-clause-none
returns-clause-none c =
    let p = c.args.self.now in
    let program : IsProgram p = subst IsProgram c.self.view_is c.self.invariant in
    let found : option_copied c.equation_of.result ≡ equation_of p.equations c.args.variable = search rules in
    copied_none c.equation_of.result ∙ (ap is_none found ∙ declared_equation_is p program c.args.variable c.requires)
