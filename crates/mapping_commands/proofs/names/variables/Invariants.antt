use Rattle.std.specs.Prelude.{◌<◌, All, [], length}
use Rattle.session_state.proofs.Each.{TakesRest}
use Rattle.mapping_commands.specs.Names.{one_more}
use Rattle.mapping_commands.proofs.names.variables.Given as goal

abbrev pub invariant-names : goal.invariant-names
invariant-names l = record {
  taken : TakesRest (λ call. ⊥) (one_more l.program) l.names [] l.numbers.items l.name-index;
  declared : All (λ number. number < length l.program.variables) l.numbers.items;
}
