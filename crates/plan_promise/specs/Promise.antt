-- What is promised of a plan for a program with a mapping, at parameters and tables.
--
-- Its instances stand in the waves, tiles and order of the mapping. Of each instance the reads of outputs and locals
-- are loaded in order of evaluation; what the branch that holds, the index expressions and the inputs give is settled,
-- so that the steps of the instance make its body's value from the values of its loads, whatever they are. A load's
-- cell is that of the instance which it names.
use Rattle.std.specs.Prelude.{◌≡◌, ◌↔◌, ℕ, ◌<◌, ℤ, List, ◌++◌, length, map, slice_get, Some, MatchOption}
use Rattle.std.specs.List.{zip}
use Rattle.az_lin.specs.Affine.{HoldsSome}
use Rattle.az_ast.specs.Certified.{IsCertified}
use Rattle.az_ast.specs.Meaning.{body_of}
use Rattle.az_ast.specs.Shapes.{IsProgram}
use Rattle.execution.specs.Plans.{Load, Work, Plan, Stands, value_of}
use Rattle.execution.specs.Setting.{Setting}
use Rattle.execution.specs.declared.instance.Instance.{Instance}
use Rattle.execution.specs.declared.place.Place.{Place}
use Rattle.target_map.specs.Promise.{IsCertifiedMap}
use Rattle.target_map.specs.Settings.{IsMapping}
use Rattle.tile_waves.specs.Waves.{AllWaves, AreWaves}
use Rattle.plan_words.specs.Cells.{AreOneCell}
use Rattle.plan_words.specs.Makes.{Find, TermMakes}

-- a certified program with a certified mapping, at parameters of its parameter domain
pub record IsCertifiedSetting (g : Setting) : Type 0 where
  pub program : IsProgram g.program
  pub certified : IsCertified g.program
  pub mapping : IsMapping g.mapping
  pub map : IsCertifiedMap g.program g.mapping
  pub count : length g.params ≡ length g.program.params
  pub inside : HoldsSome g.program.pdom g.params

-- the body of an instance makes this value, where it finds these
abbrev pub InstanceMakes : Setting → Instance → List Find → ℤ → Type 0
InstanceMakes g u finds v = MatchOption (body_of g.program.equations u.variable) ⊥ (λ body. TermMakes g.program g.tables body (g.params ++ u.point) finds v)

-- each load finds the value beside it
abbrev pub finds_of : List Load → List ℤ → List Find
finds_of loads loaded = map (λ both. record { named = both.0.named; value = both.1 }) (zip loads loaded)

-- the steps and constants of a work make the value of its instance's body
abbrev pub MakesValue : Setting → Work → Type 0
MakesValue g w = (loaded : List ℤ) → length loaded ≡ length w.loads → InstanceMakes g w.instance (finds_of w.loads loaded) (value_of w loaded)

abbrev pub instances_of : Plan → AllWaves
instances_of plan = map (λ tiles. map (λ works. map (λ w. w.instance) works) tiles) plan.waves

pub record IsPlanOf (g : Setting) (plan : Plan) : Type 0 where
  pub waves : AreWaves g.program g.mapping g.params (instances_of plan)
  pub values : (q : Place) (w : Work) → Stands plan q w → MakesValue g w
  pub cells : (q r : Place) (u v : Work) → Stands plan q u → Stands plan r v → (u.cell ≡ v.cell) ↔ AreOneCell g.mapping g.params u.instance v.instance
  pub loads :
      (q : Place) (w : Work) → Stands plan q w → (j : ℕ) (load : Load) → slice_get w.loads j ≡ Some load →
      (r : Place) (v : Work) → Stands plan r v → v.instance ≡ load.named → load.cell ≡ v.cell
  pub room : (q : Place) (w : Work) → Stands plan q w → w.cell < plan.cells
