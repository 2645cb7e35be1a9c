use Rattle.std.proofs.Common.{◌∙◌, List, ℕ, refl, ap, subst}
use Rattle.std.specs.Prelude.{MatchOption, Ok, Err}
use Rattle.az_ast.specs.Certified.{IsCertified}
use Rattle.az_ast.specs.System.{System}
use Rattle.az_ast.specs.declared.reason.Reason.TheVariants.{Unknown}
use Rattle.az_lin.specs.Affine.{AffineMap}
use Rattle.change_basis.specs.Basis.{basis_refusal, Rebases}
use Rattle.command_script.specs.Resolved.{Resolves}
use Rattle.rewriting.specs.Answers.{Unless, IsRefusedFor}
use Rattle.session_state.specs.Steps.{TakesAlone, IsStopFor}
use Rattle.rewrite_commands.specs.Changes.{basis_at}
use Rattle.rewrite_commands.specs.Inner.{change_refusal}
use Rattle.rewrite_commands.proofs.Written.{meant_takes}
use Rattle.rewrite_commands.proofs.basis.moved.Goals as goal

pub returns-in-Err : goal.returns-in-Err
returns-in-Err c = subst (λ (p : System). TakesAlone (basis_at c.args.map.now p c.args.target) (Err c.unresolved.result)) c.program-program.ensures.value c.unresolved.ensures

pub returns-in-Ok-change_basis : goal.returns-in-Ok-change_basis
returns-in-Ok-change_basis c =
    let p = c.args.checked.now in
    let x = c.args.target in
    let changed = c.in-Ok-change_basis.changed in
    let same = c.params.ensures ∙ ap (λ (q : System). q.params) c.program-program.ensures.value in
    let resolved = subst (λ (names : List (List ℕ)). Resolves names c.args.map.now (Ok c.in-Ok.basis)) same c.in-Ok.ensures in
    let at = subst (λ o. MatchOption o (IsRefusedFor (Unknown c.args.name.now) (Ok changed)) (λ (y : ℕ). Unless (basis_refusal p y c.in-Ok.basis) (Rebases p y c.in-Ok.basis) (Ok changed))) c.requires.named c.in-Ok-change_basis.ensures.answer in
    meant_takes p c.args.map.now x (Ok changed) (Ok changed) (refl, subst IsCertified c.program.ensures.value c.program.ensures.certified) resolved.0
    (subst (λ (f : AffineMap). Unless (basis_refusal p x f) (Rebases p x f) (Ok changed)) resolved.1 at)

pub returns : goal.returns
returns c =
    let p = c.args.checked.now in
    let x = c.args.target in
    let fault = c.in-Err-change_basis.fault in
    let same = c.params.ensures ∙ ap (λ (q : System). q.params) c.program-program.ensures.value in
    let resolved = subst (λ (names : List (List ℕ)). Resolves names c.args.map.now (Ok c.in-Ok.basis)) same c.in-Ok.ensures in
    let at = subst (λ o. MatchOption o (IsRefusedFor (Unknown c.args.name.now) (Err fault)) (λ (y : ℕ). Unless (basis_refusal p y c.in-Ok.basis) (Rebases p y c.in-Ok.basis) (Err fault))) c.requires.named c.in-Err-change_basis.ensures.answer in
    meant_takes p c.args.map.now x (Err fault) (Err c.unchanged.result)
    (subst (λ (q : System). IsStopFor (change_refusal q fault) c.unchanged.result) c.program-program.ensures.value c.unchanged.ensures) resolved.0
    (subst (λ (f : AffineMap). Unless (basis_refusal p x f) (Rebases p x f) (Err fault)) resolved.1 at)
