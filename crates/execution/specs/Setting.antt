-- A program with a mapping, at given parameters and tables: what its instances mean, and which is before which.
use Rattle.std.specs.Prelude.{◌≡◌, ℤ, List, ◌++◌, true}
use Rattle.az_ast.specs.Meaning.{Means}
use Rattle.az_ast.specs.Shapes.{of_variable}
use Rattle.az_ast.specs.System.{System}
use Rattle.az_ast.specs.Tables.{Tables}
use Rattle.target_map.specs.Settings.{TargetMapping}
use Rattle.target_map.specs.Times.{IsBefore, is_output}
use Rattle.execution.specs.Good as good
use Rattle.execution.specs.Plans.{Plan}
use Rattle.execution.specs.Sound as sound
use Rattle.execution.specs.States.{State}
use Rattle.execution.specs.declared.instance.Instance.{Instance}

pub record Setting : Type 0 where
  pub program : System
  pub mapping : TargetMapping
  pub params : List ℤ
  pub tables : Tables

abbrev pub InstanceMeans : Setting → Instance → ℤ → Type 0
InstanceMeans g u v = Means g.program g.tables g.params u.variable u.point v

abbrev pub InstanceBefore : Setting → Instance → Instance → Type 0
InstanceBefore g u v = IsBefore g.mapping u.variable (g.params ++ u.point) v.variable (g.params ++ v.point)

abbrev pub IsOutputInstance : Setting → Instance → Type 0
IsOutputInstance g u = of_variable g.program.variables (λ variable. is_output variable.role) u.variable ≡ true

abbrev pub IsSoundPlan : Setting → Plan → Type 0
IsSoundPlan g plan = sound.IsSound (InstanceMeans g) (InstanceBefore g) (IsOutputInstance g) plan

abbrev pub IsGoodState : Setting → Plan → State → Type 0
IsGoodState g plan s = good.IsGood (InstanceMeans g) (InstanceBefore g) (IsOutputInstance g) plan s
