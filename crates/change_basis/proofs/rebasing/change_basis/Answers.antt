use Rattle.std.proofs.Common.{◌≡◌, ◌∙◌, ap, subst, ℕ}
use Rattle.std.specs.Prelude.{IfOk, MatchOption, Some}
use Rattle.std.proofs.lemmas.Option.{same_Some}
use Rattle.az_ast.specs.System.{System}
use Rattle.az_ast.specs.declared.reason.Reason.TheVariants.{Unknown}
use Rattle.rewriting.specs.Answers.{Unless, IsRefusedFor}
use Rattle.rewriting.specs.Named.{number_of}
use Rattle.rewriting.specs.Promise.{KeepsMeaning}
use Rattle.change_basis.specs.Basis.{basis_refusal, Rebases, moves_by}
use Rattle.change_basis.proofs.rebasing.change_basis.Goals as goal

pub returns-in-Some-clause-answer : goal.returns-in-Some-clause-answer
returns-in-Some-clause-answer c =
    let p = c.args.checked.now in
    let result = c.moved.result in
    let For : System → ℕ → Type 0 = λ (q : System) (x : ℕ). Unless (basis_refusal q x c.args.map.now) (Rebases q x c.args.map.now) result in
    subst (λ o. MatchOption o (IsRefusedFor (Unknown c.args.name.now) result) (λ x. For p x))
    (c.in-Some.ensures.value ∙ ap (λ (q : System). number_of q c.args.name.now) c.program-program.ensures.value)
    (subst (λ (q : System). For q c.in-Some.target) c.program-program.ensures.value c.moved.ensures.answer)

pub returns-in-Some-clause-meaning : goal.returns-in-Some-clause-meaning
returns-in-Some-clause-meaning c x named =
    let found : Some c.in-Some.target ≡ Some x = c.in-Some.ensures.value ∙ ap (λ (q : System). number_of q c.args.name.now) c.program-program.ensures.value ∙ named in
    subst (λ (y : ℕ). IfOk c.moved.result (λ changed. KeepsMeaning c.args.checked.now changed (moves_by y c.args.map.now))) (same_Some c.in-Some.target x found)
    (subst (λ (q : System). IfOk c.moved.result (λ changed. KeepsMeaning q changed (moves_by c.in-Some.target c.args.map.now))) c.program-program.ensures.value c.moved.ensures.meaning)
