use Rattle.loop_scan.proofs.Parting.{scan_answers}
use Rattle.loop_scan.proofs.scanner.Scanner.new.Goals as goal

pub returns : goal.returns
returns c = scan_answers c.args.d.now c.args.params.now c.in_ok-located.located c.over.result c.in_ok-located.ensures c.over.ensures.ok c.over.ensures.cause
