-- The program that a text says: what the grammar takes, and what that means.
use Rattle.std.specs.Prelude.{ℕ, List, Ok}
use Rattle.az_ast.specs.System.{System}
use Rattle.program_grammar.specs.declared.tree.ProgramText.{ProgramText}
use Rattle.program_grammar.specs.Readings.{IsReadingOf}
use Rattle.program_names.specs.Answers.{Means}

pub record IsProgramOf (bytes : List ℕ) (p : System) : Type 0 where
  pub written : ProgramText
  pub read : IsReadingOf bytes (Ok written)
  pub means : Means written p
