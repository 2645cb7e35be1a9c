-- What settling the body of an instance answers.
--
-- The branches that hold, the index expressions and the values of inputs are settled, so that the steps make the
-- body's value from the values of the loads, whatever these are. A refusal is that of a scan of a reduction that
-- is evaluated, or there are more points of reductions or more loads than there is room for.
use Rattle.std.specs.Prelude.{◌≡◌, ℕ, ◌<◌, ◌⊎◌, ℤ, List, length, MatchOption, Option}
use Rattle.az_lin.specs.Affine.{Union}
use Rattle.az_lin.specs.declared.limit.Limit.TheVariants.{Points, Loads}
use Rattle.az_ast.specs.Dependences.{Evaluates}
use Rattle.az_ast.specs.Meaning.{body_of}
use Rattle.az_ast.specs.System.{System}
use Rattle.az_ast.specs.Tables.{Tables}
use Rattle.az_ast.specs.Term.{Term}
use Rattle.equation_meaning.specs.Counts.{TermCounts}
use Rattle.execution.specs.Bodies.{body_value}
use Rattle.loop_scan.specs.Boxes.{HasBoxes, Refuses}
use Rattle.loop_scan.specs.declared.fault.ScanFault.{ScanFault}
use Rattle.loop_scan.specs.declared.fault.ScanFault.TheVariants.{Limit, Memory}
use Rattle.loop_scan.specs.declared.range.Range.{Range}
use Rattle.plan_words.specs.Makes.{Find, TermMakes}
use Rattle.plan_steps.specs.Layouts.{Layout, finds_at}
use Rattle.plan_steps.specs.Runs.{Runs}
use Rattle.value_walk.specs.Chains.{IsReduction}

-- the most values that the steps of a body hold at once
abbrev pub most_height : ℕ
most_height = 512

-- a reduction over the domain is evaluated, at this outer point
abbrev pub EvaluatesAt : Term → List ℤ → ℕ → Union → List ℤ → Type 0
EvaluatesAt e z extra domain outer = Evaluates (IsReduction extra domain outer) e z

abbrev pub IsScanned : Union → List ℤ → Type 0
IsScanned domain outer = (boxes : List (Option (List Range))) × HasBoxes domain outer boxes

module _ (p : System) (tables : Tables) where
  -- the body `e` at the point `z` of its columns
  pub record IsSettled (e : Term) (z : List ℤ) (layout : Layout) : Type 0 where
    pub value :
        (loaded : List ℤ) → length loaded ≡ length layout.loads →
        TermMakes p tables e z (finds_at layout.loads loaded) (body_value layout.steps layout.constants loaded)
    pub runs : Runs most_height layout.steps (length layout.constants) (length layout.loads) 0
    pub points : TermCounts e z layout.points
    pub scanned : (extra : ℕ) (domain : Union) (outer : List ℤ) → EvaluatesAt e z extra domain outer → IsScanned domain outer

  abbrev pub IsScanRefused : Term → List ℤ → ScanFault → Type 0
  IsScanRefused e z fault = (extra : ℕ) × (domain : Union) × (outer : List ℤ) × EvaluatesAt e z extra domain outer × Refuses domain outer fault

  -- more points, and more loads, than so many
  abbrev pub HasManyPoints : Term → List ℤ → ℕ → Type 0
  HasManyPoints e z most = (points : ℕ) → TermCounts e z points → most < points

  abbrev pub HasManyLoads : Term → List ℤ → ℕ → Type 0
  HasManyLoads e z most = (finds : List Find) (v : ℤ) → TermMakes p tables e z finds v → most < length finds

  abbrev pub RefusesBody : Term → List ℤ → ℕ → ℕ → ScanFault → Type 0
  RefusesBody e z most_points most_loads fault =
      (fault ≡ Memory) ⊎ (IsScanRefused e z fault
      ⊎ (((fault ≡ Limit Points) × HasManyPoints e z most_points) ⊎ ((fault ≡ Limit Loads) × HasManyLoads e z most_loads)))

  -- the equation of a variable, at a point
  abbrev pub AtBody : ℕ → (Term → Type 0) → Type 0
  AtBody x P = MatchOption (body_of p.equations x) ⊥ P
