use Rattle.std.proofs.Common.{◌≡◌}
use Rattle.std.specs.FinMap.{empty}
use Rattle.alphaz_cli.specs.Bound.{read_bound}
use Rattle.session_state.proofs.Each.{TakesRest}
use Rattle.alphaz_cli.proofs.bound.read_all.Given as goal

abbrev pub invariant-loop-binding : goal.invariant-loop-binding
invariant-loop-binding g l = record {
  same : g.D.Desk.seen l.desk ≡ g.D.Desk.seen l.fn.desk;
  taken : TakesRest (λ call. Unit {0}) (read_bound l.program (g.D.Desk.seen l.fn.desk).files l.settings) l.bindings empty l.inputs l.binding-index;
}
