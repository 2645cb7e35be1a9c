-- What one line is.
use Rattle.std.specs.Prelude.{◌≡◌, ℕ, ◌<◌, ◌^◌, List}
use Rattle.az_lin.specs.declared.step.Step.{Step}
use Rattle.az_ast.specs.System.{System}
use Rattle.cert_text.specs.Lines.{which_line, case_line, step_line, version_line, IsOfProgram, IsNarrowName, IsSpelledStep}
use Rattle.cert_text.specs.Versions.{IsVersion}
use Rattle.target_map.specs.declared.which.Which.{Which}

-- the line with the formula's name
pub record IsNameLine (p : System) (which : Which) (line : List ℕ) : Type 0 where
  pub own : IsOfProgram p which
  pub narrow : IsNarrowName which
  pub spelled : line ≡ which_line p which

-- the line with the case's number
pub record IsCaseLine (number : ℕ) (line : List ℕ) : Type 0 where
  pub narrow : number < 2 ^ 32
  pub spelled : line ≡ case_line number

-- the line of the step
pub record IsStepLine (step : Step) (line : List ℕ) : Type 0 where
  pub fits : IsSpelledStep step
  pub spelled : line ≡ step_line step

abbrev pub IsSomeName : System → List ℕ → Type 0
IsSomeName p line = (which : Which) × IsNameLine p which line

abbrev pub IsSomeStep : List ℕ → Type 0
IsSomeStep line = (step : Step) × IsStepLine step line

-- the line with the version
pub record IsVersionLine (version : ℕ) (line : List ℕ) : Type 0 where
  pub known : IsVersion version
  pub spelled : line ≡ version_line version

abbrev pub IsSomeVersion : List ℕ → Type 0
IsSomeVersion line = (version : ℕ) × IsVersionLine version line
