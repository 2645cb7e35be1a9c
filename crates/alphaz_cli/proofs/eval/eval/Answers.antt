use Rattle.std.proofs.Common.{◌≡◌, List, ℕ, rules, subst}
use Rattle.std.specs.Prelude.{Ok, Err}
use Rattle.az_desk.specs.Desk.{Seen}
use Rattle.session_state.proofs.Taking.{stops_first, goes_on, left_then, left_stop}
use Rattle.session_state.specs.Steps.{Takes}
use Rattle.az_ast.specs.System.{System}
use Rattle.alphaz_cli.specs.Evaluation.{evaluated}
use Rattle.program_commands.specs.Programs.{read_alphabets}
use Rattle.alphaz_cli.proofs.eval.eval.Goals as goal

pub returns-in_err-checked-clause-answer : goal.returns-in_err-checked-clause-answer
returns-in_err-checked-clause-answer g c =
    let files = (g.D.Desk.seen c.args.desk.now).files in
    let handed : c.from_residual.result ≡ Err c.in_err-checked.field-0.0 = search rules in
    rw handed (stops_first (λ call. Unit {0}) (read_alphabets files c.args.asked.now.program) (evaluated files c.args.asked.now)
    c.in_err-checked.field-0.0 (subst (λ (f : List ℕ). Takes (read_alphabets files f) (Err c.in_err-checked.field-0.0)) c.as_str.ensures c.in_err-checked.ensures.answer))

pub returns-in_err-checked-clause-left : goal.returns-in_err-checked-clause-left
returns-in_err-checked-clause-left g c =
    let handed : c.from_residual.result ≡ Err c.in_err-checked.field-0.0 = search rules in
    rw handed (left_stop System (List ℕ) _ _ _ c.in_err-checked.ensures.left)

pub returns-clause-answer : goal.returns-clause-answer
returns-clause-answer g c =
    let files = (g.D.Desk.seen c.args.desk.now).files in
    let asked = c.args.asked.now in
    let checked = c.in_ok-checked.checked in
    goes_on (λ call. Unit {0}) (read_alphabets files asked.program) (evaluated files asked) checked c.evaluated.result
    (subst (λ (f : List ℕ). Takes (read_alphabets files f) (Ok checked)) c.as_str.ensures c.in_ok-checked.ensures.answer)
    (subst (λ (s : Seen). Takes (evaluated s.files asked checked) c.evaluated.result) c.in_ok-checked.ensures.left c.evaluated.ensures.answer)

pub returns-clause-left : goal.returns-clause-left
returns-clause-left g c = left_then _ _ _ c.evaluated.result c.in_ok-checked.ensures.left c.evaluated.ensures.left
