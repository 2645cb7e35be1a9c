use Rattle.command_words.specs.Words.{texts}
use Rattle.alphaz_cli.proofs.Ran.{same_files, still_stands, done_or_memory}
use Rattle.alphaz_cli.proofs.run.alphaz.Goals as goal

pub returns-clause-files : goal.returns-clause-files
returns-clause-files g c = λ none.
    same_files (g.D.Desk.seen c.args.desk.now) (g.D.Desk.seen c.run-ending.new.desk) (texts c.args.words.now) c.run-ending.result c.run-ending.ensures none

pub returns-clause-others : goal.returns-clause-others
returns-clause-others g c = λ name others.
    still_stands (g.D.Desk.seen c.args.desk.now) (g.D.Desk.seen c.run-ending.new.desk) name (texts c.args.words.now) c.run-ending.result c.run-ending.ensures others

pub returns-clause-complete : goal.returns-clause-complete
returns-clause-complete g c = λ told request is asks carried honest.
    rw c.status.ensures (
    done_or_memory (g.D.Desk.seen c.args.desk.now) (g.D.Desk.seen c.run-ending.new.desk) told is honest (texts c.args.words.now) request c.run-ending.result c.run-ending.ensures
    asks carried)
