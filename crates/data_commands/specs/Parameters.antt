-- The values of a program's parameters: each has to be set, and together they have to lie in the parameters' domain.
use Rattle.std.specs.Prelude.{◌≡◌, ℤ, List, map, Some, Ok, Err}
use Rattle.az_lin.specs.Affine.{HoldsSome}
use Rattle.az_ast.specs.System.{System}
use Rattle.az_ast.specs.declared.reason.Reason.TheVariants as reason
use Rattle.session_state.specs.Settings.{Settings}
use Rattle.session_state.specs.Steps.{Step, ◌>>=◌, gives, holds_or}
use Rattle.session_state.specs.declared.refusal.Refusal.TheVariants.{Command}
use Rattle.session_state.specs.declared.stop.Stop.TheVariants.{Refused, Fault, Memory}

abbrev pub all_set : Settings → Step (List ℤ)
all_set settings (Ok values) = map Some values ≡ settings
all_set settings (Err (Refused refusal)) = (refusal ≡ Command reason.Params) × ((values : List ℤ) → map Some values ≡ settings → ⊥)
all_set settings (Err (Fault call)) = ⊥
all_set settings (Err Memory) = ⊥

abbrev pub params : System → Settings → Step (List ℤ)
params p settings =
    all_set settings >>= (λ values. holds_or (Command reason.Params) (HoldsSome p.pdom values) >>= (λ held. gives values))
