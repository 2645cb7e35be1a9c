-- The domain of a variable of a program.
use Rattle.std.proofs.Common.{◌≡◌, ℕ, ◌<◌, List, [], length, get_or, Option, Some, refl, ap, subst}
use Rattle.std.specs.Prelude.{slice_get}
use Rattle.std.specs.Option.{option_map_or}
use Rattle.std.proofs.lemmas.Option.{slice_get_read}
use Rattle.az_ast.specs.System.{System}
use Rattle.az_ast.specs.declared.program.Variable.{Variable}
use Rattle.data_commands.specs.Tables.{domain_at}

module _ (p : System) (x : ℕ) (variables : List Variable) (variable : Variable) (whole : variables ≡ p.variables) (within : x < length variables) (here : variable ≡ get_or variables x variable) where
  pub domain_here : domain_at p x ≡ variable.domain
  domain_here =
      ap (λ (o : Option Variable). option_map_or (λ v. v.domain) o (record { width = 0; disjuncts = [] }))
      (subst (λ vs. slice_get vs x ≡ Some variable) whole (slice_get_read variables (length variables) x variable refl within here))
