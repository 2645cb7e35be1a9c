use Rattle.std.proofs.Common.{◌∙◌, ap, subst, ℕ}
use Rattle.std.specs.Prelude.{IfOk, MatchOption}
use Rattle.az_ast.specs.System.{System}
use Rattle.az_ast.specs.declared.reason.Reason.TheVariants.{Unknown}
use Rattle.rewriting.specs.Answers.{GivesIf, Unless, IsRefusedFor}
use Rattle.rewriting.specs.Named.{number_of, ForNamed}
use Rattle.rewriting.specs.Promise.{KeepsMeaning, stays}
use Rattle.inline_eqs.specs.Inlining.{inlined, InliningFits, inlining_refusal}
use Rattle.inline_eqs.proofs.inlining.inline.Goals as goal

pub returns-in-Some-clause-answer : goal.returns-in-Some-clause-answer
returns-in-Some-clause-answer c =
    let p = c.args.checked.now in
    let result = c.put_named.result in
    let For : System → ℕ → Type 0 = λ (q : System) (y : ℕ). ForNamed q c.args.target.now (λ x. Unless (inlining_refusal q y x) (GivesIf (InliningFits q y x) (inlined q y x))) result in
    subst (λ o. MatchOption o (IsRefusedFor (Unknown c.args.into.now) result) (λ y. For p y))
    (c.in-Some.ensures.value ∙ ap (λ (q : System). number_of q c.args.into.now) c.program-program.ensures.value)
    (subst (λ (q : System). For q c.in-Some.into) c.program-program.ensures.value c.put_named.ensures.answer)

pub returns-in-Some-clause-meaning : goal.returns-in-Some-clause-meaning
returns-in-Some-clause-meaning c =
    subst (λ (q : System). IfOk c.put_named.result (λ changed. KeepsMeaning q changed stays)) c.program-program.ensures.value c.put_named.ensures.meaning
