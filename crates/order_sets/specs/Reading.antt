-- What each read of a program has.
use Rattle.std.specs.Prelude.{◌≡◌, ℕ, ◌≤◌, List, All, length, slice_get, Some}
use Rattle.std.specs.List.{AllByRecursion}
use Rattle.az_ast.specs.System.{System}
use Rattle.az_ast.specs.declared.program.Variable.{Variable}
use Rattle.domain_check.specs.Context.{context}
use Rattle.domain_check.specs.Inner.Ready.{IsReadAt}
use Rattle.expr_places.specs.Reads.{ReadPlace}
use Rattle.formula_refute.specs.Claims.{IsOver}
use Rattle.target_map.specs.Settings.{is_written}
use Rattle.target_map.specs.Times.{domain_of}

-- a read of the equation of `x`
pub record IsReadOf (p : System) (x : ℕ) (read : ReadPlace) : Type 0 where
  pub variable : Variable
  pub declared : slice_get p.variables read.variable ≡ Some variable
  pub at : IsReadAt p read.scope read.map variable
  pub written : is_written p read.variable
  pub inside : AllByRecursion (λ domain. domain.width ≤ read.scope.width) read.scope.domains
  pub narrow : read.scope.width ≤ 64
  pub context : AllByRecursion (IsOver read.scope.width) (context read.scope)
  pub reader : (domain_of p x).width ≤ read.scope.width

-- an equation whose reads have it, and are few
pub record HasReads (p : System) (x : ℕ) (reads : List ReadPlace) : Type 0 where
  pub written : is_written p x
  pub each : All (IsReadOf p x) reads
  pub few : length reads ≤ 512
