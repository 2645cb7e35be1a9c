-- Variables by their names.
use Rattle.std.specs.Prelude.{ℕ, List, [], ◌∷◌, ◌++◌, Option, position}
use Rattle.std.specs.Str.{bytes_eq}
use Rattle.az_ast.specs.System.{System}
use Rattle.az_ast.specs.declared.reason.Reason.TheVariants.{Unknown}
use Rattle.session_state.specs.Steps.{Step, ◌>>=◌, gives, some_or, each_in}
use Rattle.session_state.specs.declared.refusal.Refusal.TheVariants.{Command}

abbrev pub place_of : System → List ℕ → Option ℕ
place_of p name = position (λ variable. bytes_eq variable.name name) p.variables

abbrev pub variable : System → List ℕ → Step ℕ
variable p name = some_or (Command (Unknown name)) (place_of p name)

-- the variables of a list: the first name that is no variable's is refused
abbrev pub one_more : System → List ℕ → List ℕ → Step (List ℕ)
one_more p numbers name = variable p name >>= (λ number. gives (numbers ++ number ∷ []))

abbrev pub variables : System → List (List ℕ) → Step (List ℕ)
variables p names = each_in (one_more p) [] names
