use Rattle.std.proofs.Common.{◌≡◌, Err, ap, sym, subst, ◌∙◌}
use Rattle.rewriting.specs.Answers.{Gives}
use Rattle.rewriting.proofs.Made.{refused-certification}
use Rattle.rewriting.proofs.assembly.certified.Goals as goal

pub returns : goal.returns
returns c = subst (λ e. Gives c.args.program (Err e)) (sym c.from.ensures) (refused-certification c.args.program c.in-Err.fault c.requires c.in-Err.ensures.answer.1)
