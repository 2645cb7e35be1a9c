-- The numbers of a program's parameters, as far as they were set.
use Rattle.std.specs.Prelude.{◌≡◌, ℕ, ◌^◌, nat_lt, List, length, map, set, position, if◌then◌else◌, ℤ, unsigned_abs, All, Option, Some, None, IfSome, Ok, Err}
use Rattle.std.specs.Str.{bytes_eq}
use Rattle.az_lin.specs.Affine.{IsCoordinate}
use Rattle.az_lin.specs.declared.limit.Limit.TheVariants.{Coordinate}
use Rattle.az_ast.specs.System.{System}
use Rattle.az_ast.specs.declared.reason.Reason.TheVariants.{Unknown}
use Rattle.session_state.specs.Steps.{Step, ◌>>=◌, answers, gives, some_or}
use Rattle.session_state.specs.declared.refusal.Refusal.TheVariants.{Command, Limited}
use Rattle.session_state.specs.declared.stop.Stop.TheVariants.{Refused}

-- for each parameter in order its number, where it has one
abbrev pub Settings : Type 0
Settings = List (Option ℤ)

abbrev pub unset : System → Settings
unset p = map (λ name. None) p.params

-- such numbers for the parameters of a program
pub record AreSettings (p : System) (settings : Settings) : Type 0 where
  pub each : length settings ≡ length p.params
  pub coordinates : All (λ setting. IfSome setting IsCoordinate) settings

abbrev pub place_of : System → List ℕ → Option ℕ
place_of p name = position (λ param. bytes_eq param name) p.params

abbrev pub parameter : System → List ℕ → Step ℕ
parameter p name = some_or (Command (Unknown name)) (place_of p name)

abbrev pub coordinate : ℤ → Step ℤ
coordinate number = answers (if nat_lt (unsigned_abs number) (2 ^ 40) then Ok number else Err (Refused (Limited Coordinate)))

-- To set a parameter, its name is looked for, and then whether the number is a coordinate.
abbrev pub set_parameter : System → Settings → List ℕ → ℤ → Step Settings
set_parameter p settings name number =
    parameter p name >>= (λ place. coordinate number >>= (λ small. gives (set settings place (Some small))))
