-- A certificate as text: a line with its version, and for each proof a line with the formula's name; behind it for each
-- derivation a line with the number of its case, and behind that a line for each step.
use Rattle.std.specs.Prelude.{ℕ, suc, ◌<◌, ◌≤◌, ◌^◌, List, [], ◌∷◌, ◌++◌, length, map, All, codes}
use Rattle.std.specs.Fmt.{decimal, signed_decimal}
use Rattle.std.specs.List.{flat_map}
use Rattle.az_lin.specs.declared.step.Derivation.{Derivation}
use Rattle.az_lin.specs.declared.step.Step.{Step}
use Rattle.az_ast.specs.System.{System}
use Rattle.cert_text.specs.Versions.{IsVersion}
use Rattle.cert_text.specs.declared.certificate.Certificate.{Certificate}
use Rattle.cert_text.specs.declared.certificate.Proved.{Proved}
use Rattle.grammar_rules.specs.Lines.{joined}
use Rattle.line_fields.specs.Fields.{IsWide, spaced}
use Rattle.target_map.specs.Refusals.{name_of}
use Rattle.target_map.specs.declared.which.Which.{Which}
use Rattle.target_map.specs.declared.which.Which.TheVariants.{Order, Life, Keep}

abbrev pub which_line : System → Which → List ℕ
which_line p (Order reader read) = codes "Order " ++ spaced (name_of p reader) (decimal read)
which_line p (Life reader read writer) = codes "Life " ++ spaced (name_of p reader) (spaced (decimal read) (name_of p writer))
which_line p (Keep output writer) = codes "Keep " ++ spaced (name_of p output) (name_of p writer)

abbrev pub case_line : ℕ → List ℕ
case_line number = codes "case " ++ decimal number

abbrev pub step_line : Step → List ℕ
step_line step =
    spaced (signed_decimal step.a) (spaced (decimal step.i) (spaced (signed_decimal step.b) (spaced (decimal step.j) (signed_decimal step.g))))

abbrev pub version_line : ℕ → List ℕ
version_line version = codes "alphaz-certificate " ++ decimal version

-- the cases from one with this number on
abbrev pub case_lines : ℕ → List Derivation → List (List ℕ)
case_lines number [] = []
case_lines number (derivation ∷ derivations) = case_line number ∷ (map step_line derivation.steps ++ case_lines (suc number) derivations)

abbrev pub proved_lines : System → Proved → List (List ℕ)
proved_lines p proved = which_line p proved.which ∷ case_lines 0 proved.derivations

abbrev pub lines_of : System → Certificate → List (List ℕ)
lines_of p certificate = version_line certificate.version ∷ flat_map (proved_lines p) certificate.proved

abbrev pub text_of : System → Certificate → List ℕ
text_of p certificate = joined (lines_of p certificate)

-- the variables are the program's
abbrev pub IsOfProgram : System → Which → Type 0
IsOfProgram p (Order reader read) = reader < length p.variables
IsOfProgram p (Life reader read writer) = (reader < length p.variables) × (writer < length p.variables)
IsOfProgram p (Keep output writer) = (output < length p.variables) × (writer < length p.variables)

-- a read's number has 32 bits
abbrev pub IsNarrowName : Which → Type 0
IsNarrowName (Order reader read) = read < 2 ^ 32
IsNarrowName (Life reader read writer) = read < 2 ^ 32
IsNarrowName (Keep output writer) = Unit {0}

-- the numbers of rows have 32 bits, the others lie within ±(2^127 - 1)
pub record IsSpelledStep (step : Step) : Type 0 where
  pub a : IsWide step.a
  pub i : step.i < 2 ^ 32
  pub b : IsWide step.b
  pub j : step.j < 2 ^ 32
  pub g : IsWide step.g

abbrev pub IsSpelledCase : Derivation → Type 0
IsSpelledCase derivation = All IsSpelledStep derivation.steps

pub record IsSpelledProof (p : System) (proved : Proved) : Type 0 where
  pub own : IsOfProgram p proved.which
  pub narrow : IsNarrowName proved.which
  pub few : length proved.derivations ≤ 2 ^ 32
  pub cases : All IsSpelledCase proved.derivations

-- a certificate that has a text
pub record IsSpelled (p : System) (certificate : Certificate) : Type 0 where
  pub version : IsVersion certificate.version
  pub proved : All (IsSpelledProof p) certificate.proved
