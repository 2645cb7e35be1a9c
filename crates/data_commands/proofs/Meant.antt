-- The tables of meanings, as what the output rows are written from.
use Rattle.std.proofs.Common.{◌≡◌, ℕ, List, Option, Some, None}
use Rattle.std.specs.Prelude.{ℤ, MatchOption, slice_get}
use Rattle.std.specs.FinMap.{get}
use Rattle.az_ast.specs.Meaning.{RoleGives}
use Rattle.az_ast.specs.System.{System}
use Rattle.az_ast.specs.Tables.{Tables, Rows}
use Rattle.az_ast.specs.declared.program.Role.{Role}
use Rattle.az_ast.specs.declared.program.Role.TheVariants.{Input, Output, Local}
use Rattle.az_ast.specs.declared.program.Variable.{Variable}
use Rattle.table_data.specs.Written.{rows_at, IfOutput, HasMeanings, TablesMean}
use Rattle.value_walk.specs.Meanings.{IsMeaningTable, AreMeanings}

module _ (p : System) (tables : Tables) (params : List ℤ) (values : Tables) where
  module _ (x : ℕ) (variable : Variable) where
    rows_mean : (o : Option Rows) → MatchOption o ⊥ (IsMeaningTable p tables params x variable) → HasMeanings p tables params x variable (rows_at o)
    rows_mean None means = absurd means
    rows_mean (Some rows) means = record { points = means.points; values = means.values }

    role_means : (role : Role) → RoleGives role (get values x ≡ None) (MatchOption (get values x) ⊥ (IsMeaningTable p tables params x variable))
        → IfOutput role (HasMeanings p tables params x variable (rows_at (get values x)))
    role_means Input means = tt
    role_means Output means = rows_mean (get values x) means
    role_means Local means = tt

  pub tables_mean : AreMeanings p tables params values → TablesMean p tables params values
  tables_mean means x = by (slice_get p.variables x) (means x)
    where
      by : (o : Option Variable)
          → MatchOption o (get values x ≡ None) (λ variable. RoleGives variable.role (get values x ≡ None) (MatchOption (get values x) ⊥ (IsMeaningTable p tables params x variable)))
          → MatchOption o (Unit {0}) (λ variable. IfOutput variable.role (HasMeanings p tables params x variable (rows_at (get values x))))
      by None h = tt
      by (Some variable) h = role_means x variable variable.role h
