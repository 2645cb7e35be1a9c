-- What `eval` asks for.
use Rattle.std.specs.Prelude.{◌≡◌, ℕ, List, ◌∷◌}
use Rattle.std.specs.List.{AllZip}
use Rattle.command_words.specs.Bindings.{IsBinding}
use Rattle.command_words.specs.declared.evaluation.Evaluation.{Evaluation}

-- The plain words are the program's file and then the bindings.
pub record HasPlain (plain : List (List ℕ)) (evaluation : Evaluation) : Type 0 where
  pub bindings : List (List ℕ)
  pub words : plain ≡ evaluation.program ∷ bindings
  pub bound : AllZip IsBinding bindings evaluation.bindings
