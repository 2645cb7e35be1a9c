-- What each place of a program has that its checks need: room in its columns for the domains in force, and rows of
-- their width.
use Rattle.std.specs.Prelude.{◌≡◌, ◌≤◌, ◌+◌, ℕ, List, ◌∷◌, length, All, slice_get, MatchOption}
use Rattle.std.specs.List.{flat_map}
use Rattle.az_lin.specs.Affine.{AffineMap, Union, HasWidth}
use Rattle.az_ast.specs.System.{System}
use Rattle.az_ast.specs.declared.program.Variable.{Variable}
use Rattle.expr_places.specs.Places.{Part, case_over, reduction_over, access_to, Place, places_of}
use Rattle.expr_places.specs.declared.scope.Scope.{Scope}
use Rattle.formula_refute.specs.Claims.{IsOver}
use Rattle.domain_check.specs.Checks.{Checks, checks_at, unbounded}
use Rattle.domain_check.specs.Directions.{rows_of}
use Rattle.domain_check.specs.Stops.{IsFew, all_places}

pub record HasRoom (scope : Scope) : Type 0 where
  pub narrow : scope.width ≤ 64
  pub inside : All (λ domain. domain.width ≤ scope.width) scope.domains

pub record IsReadAt (p : System) (scope : Scope) (f : AffineMap) (variable : Variable) : Type 0 where
  pub columns : f.width ≡ scope.width
  pub widths : All (HasWidth f.width) f.rows
  pub params : length p.params ≤ scope.width
  pub rows : length p.params + length f.rows ≡ variable.domain.width
  pub narrow : variable.domain.width ≤ 64

abbrev pub IsReadyPart : System → Scope → Part → Type 0
IsReadyPart p scope (case_over domains) = Unit {0}
IsReadyPart p scope (reduction_over extra domain) =
    (scope.width + extra ≤ 64) × All (λ row. length row.coefs ≤ scope.width) (flat_map rows_of (p.pdom ∷ scope.reductions))
IsReadyPart p scope (access_to x f) = MatchOption (slice_get p.variables x) ⊥ (IsReadAt p scope f)

abbrev pub IsReadyChecks : Checks → Type 0
IsReadyChecks checks = (checks.width ≤ 4096) × All (IsOver checks.width) checks.claims

pub record IsReady (p : System) (place : Place) : Type 0 where
  pub room : HasRoom place.scope
  pub part : IsReadyPart p place.scope place.part
  pub checks : All IsReadyChecks (checks_at p place)

pub record IsReadyDomain (p : System) (variable : Variable) : Type 0 where
  pub params : length p.params ≤ variable.domain.width
  pub narrow : variable.domain.width ≤ 64
  pub checks : IsReadyChecks (unbounded p variable)
  pub few : IsFew (unbounded p variable)

pub record IsReadyProgram (p : System) : Type 0 where
  pub count : length p.variables ≤ 256
  pub domains : All (IsReadyDomain p) p.variables
  pub places : All (IsReady p) (all_places p)
  pub short : All (λ equation. length (places_of p equation) ≤ 512) p.equations
