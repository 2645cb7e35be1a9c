use Rattle.std.proofs.Common.{◌≡◌, ◌∙◌, rules, refl, ap}
use Rattle.std.specs.Prelude.{Err}
use Rattle.az_lin.specs.declared.fault.LinFault.TheVariants as lin
use Rattle.rewriting.proofs.Answered.{unremembered}
use Rattle.rewriting.specs.declared.fault.ChangeFault.TheVariants.{Memory}
use Rattle.change_basis.specs.Basis.{basis_refusal, Rebases}
use Rattle.change_basis.proofs.rebasing.moved.Goals as goal

pub returns-in_err-found-clause-answer : goal.returns-in_err-found-clause-answer
returns-in_err-found-clause-answer c =
    let handed : c.from_residual.result ≡ Err Memory = search rules in
    unremembered (basis_refusal c.args.program.now c.args.target c.args.basis.now) (Rebases c.args.program.now c.args.target c.args.basis.now) c.from_residual.result (Err lin.Memory, tt, refl) handed
