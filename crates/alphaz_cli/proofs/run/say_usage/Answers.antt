use Rattle.alphaz_cli.proofs.Ran.{usage_ends}
use Rattle.alphaz_cli.proofs.run.say_usage.Goals as goal

pub returns : goal.returns
returns g c = usage_ends (g.D.Desk.seen c.args.desk.now) (g.D.Desk.seen c.say_stop.new.desk) c.say_stop.result c.say_stop.ensures
