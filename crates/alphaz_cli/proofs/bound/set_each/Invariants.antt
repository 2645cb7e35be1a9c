use Rattle.std.proofs.Common.{◌≡◌, length}
use Rattle.alphaz_cli.specs.Bound.{set_bound}
use Rattle.session_state.proofs.Each.{TakesRest}
use Rattle.alphaz_cli.proofs.bound.set_each.Given as goal

abbrev pub invariant-loop-binding : goal.invariant-loop-binding
invariant-loop-binding l = record {
  as_long : length l.settings ≡ length l.program.params;
  sets : TakesRest (λ call. ⊥) (set_bound l.program) l.bindings l.fn.settings l.settings l.binding-index;
}
