-- A program and a mapping for it.
use Rattle.az_ast.specs.System.{System}
use Rattle.target_map.specs.Settings.{TargetMapping}

pub record MappedProgram : Type 0 where
  pub program : System
  pub mapping : TargetMapping
