use Rattle.std.proofs.Common.{List, ℕ, subst}
use Rattle.alphaz_cli.specs.Runs.{HasWorkers, RunsScript}
use Rattle.alphaz_cli.proofs.run.run_request.Goals as goal

pub run_script-requires-clause-some : goal.run_script-requires-clause-some
run_script-requires-clause-some g c = λ κs lives. (subst HasWorkers c.in-Run.is c.requires.workers).0

pub run_script-requires-clause-at_most : goal.run_script-requires-clause-at_most
run_script-requires-clause-at_most g c = λ κs lives. (subst HasWorkers c.in-Run.is c.requires.workers).1

pub returns-in-Run : goal.returns-in-Run
returns-in-Run g c = rw c.in-Run.is (
    subst (λ (file : List ℕ). RunsScript file (g.D.Desk.seen c.args.desk.now) (g.D.Desk.seen c.run_script.new.desk) c.run_script.result) c.as_str.ensures c.run_script.ensures)
