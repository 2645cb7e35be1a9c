-- The work of an instance: its steps make the body's value from the values of its loads, whatever they are, and each load
-- has the cell of the instance that it names.
use Rattle.std.specs.Prelude.{◌≡◌, ℕ, ℤ, List, ◌++◌, All, Contains}
use Rattle.az_ast.specs.System.{System}
use Rattle.az_ast.specs.Tables.{Tables}
use Rattle.execution.specs.Plans.{Load, Work}
use Rattle.execution.specs.Setting.{Setting}
use Rattle.execution.specs.declared.instance.Instance.{Instance}
use Rattle.plan_cells.specs.Answers.{IsKeepable, AreNumbers}
use Rattle.plan_cells.specs.Laws.{cell_of}
use Rattle.plan_cells.specs.Numbering.{Numbers}
use Rattle.plan_promise.specs.Promise.{IsCertifiedSetting, MakesValue}
use Rattle.plan_steps.specs.Settled.{AtBody, RefusesBody}
use Rattle.loop_scan.specs.declared.fault.ScanFault.{ScanFault}
use Rattle.target_map.specs.Settings.{TargetMapping}
use Rattle.tile_waves.specs.Waves.{IsInstance}
use Rattle.value_walk.specs.Meanings.{HaveInputs}

abbrev pub setting : System → TargetMapping → List ℤ → Tables → Setting
setting p m params tables = record { program = p; mapping = m; params = params; tables = tables }

module _ (g : Setting) (numbers : Numbers) where
  -- all instances of a certified mapping at these parameters, with the numbers of their cells
  pub record CanMake (us : List Instance) : Type 0 where
    pub certified : IsCertifiedSetting g
    pub inputs : HaveInputs g.program g.tables g.params
    pub every : (u : Instance) → IsInstance g.program g.params u → Contains us u
    pub keepable : All (IsKeepable g.program g.params) us
    pub are : AreNumbers g.program g.mapping g.params us numbers

  abbrev pub load_of : Instance → Load
  load_of u = record { named = u; cell = cell_of g.mapping g.params numbers u }

  -- a load of an instance of the program, with that instance's cell
  pub record IsLoad (load : Load) : Type 0 where
    pub instance : IsInstance g.program g.params load.named
    pub cell : load.cell ≡ cell_of g.mapping g.params numbers load.named

  pub record IsWorkOf (u : Instance) (w : Work) : Type 0 where
    pub instance : w.instance ≡ u
    pub values : MakesValue g w
    pub loads : All IsLoad w.loads
    pub cell : w.cell ≡ cell_of g.mapping g.params numbers u

abbrev pub RefusesWork : Setting → Instance → ℕ → ℕ → ScanFault → Type 0
RefusesWork g u most_points most_loads fault =
    AtBody g.program g.tables u.variable (λ e. RefusesBody g.program g.tables e (g.params ++ u.point) most_points most_loads fault)
