-- Steps, cases and proofs read from the lines behind a place, up to the first line that can't go on.
use Rattle.std.specs.Prelude.{◌≡◌, ℕ, ◌+◌, ◌<◌, ◌≤◌, ◌^◌, List, [], ◌∷◌, ◌++◌, length, map, drop, All, ◌⊎◌}
use Rattle.std.specs.List.{flat_map}
use Rattle.az_lin.specs.declared.step.Derivation.{Derivation}
use Rattle.az_ast.specs.System.{System}
use Rattle.cert_read.specs.Inner.Found.{IsCaseLine, IsSomeName, IsSomeStep}
use Rattle.cert_text.specs.Lines.{case_lines, step_line, proved_lines, IsSpelledStep, IsSpelledCase, IsSpelledProof}
use Rattle.cert_text.specs.declared.certificate.Proved.{Proved}
use Rattle.cert_read.specs.declared.groups.Cases.{Cases}
use Rattle.cert_read.specs.declared.groups.Proofs.{Proofs}
use Rattle.cert_read.specs.declared.groups.Steps.{Steps}

-- there is a first line, and it is so
abbrev pub Begins : (List ℕ → Type 0) → List (List ℕ) → Type 0
Begins P [] = ⊥
Begins P (line ∷ lines) = P line

-- one line is taken from the place
pub record IsTaken (lines : List (List ℕ)) (place : ℕ) (line : List ℕ) : Type 0 where
  pub within : place < length lines
  pub first : drop place lines ≡ line ∷ drop (place + 1) lines

-- these are taken, from one place to the other
pub record AreTaken (lines : List (List ℕ)) (from : ℕ) (taken : List (List ℕ)) (end : ℕ) : Type 0 where
  pub rises : from ≤ end
  pub within : end ≤ length lines
  pub whole : drop from lines ≡ taken ++ drop end lines

-- the line goes on behind cases of which the first has this number: with the next case, or with a step
abbrev pub GoesOnCases : ℕ → List Derivation → List ℕ → Type 0
GoesOnCases number derivations line = IsCaseLine (number + length derivations) line ⊎ ((0 < length derivations) × IsSomeStep line)

-- the line goes on in the last proof
abbrev pub GoesOnProof : List Proved → List ℕ → Type 0
GoesOnProof [] line = ⊥
GoesOnProof (proved ∷ []) line = GoesOnCases 0 proved.derivations line
GoesOnProof (proved ∷ next ∷ rest) line = GoesOnProof (next ∷ rest) line

-- the line goes on behind the proofs: with one more, or in the last
abbrev pub GoesOn : System → List Proved → List ℕ → Type 0
GoesOn p proved line = IsSomeName p line ⊎ GoesOnProof proved line

pub record AreSteps (lines : List (List ℕ)) (from : ℕ) (found : Steps) : Type 0 where
  pub taken : AreTaken lines from (map step_line found.steps) found.end
  pub spelled : All IsSpelledStep found.steps
  pub stops : Begins IsSomeStep (drop found.end lines) → ⊥

pub record AreCases (lines : List (List ℕ)) (from : ℕ) (found : Cases) : Type 0 where
  pub taken : AreTaken lines from (case_lines 0 found.derivations) found.end
  pub few : length found.derivations ≤ 2 ^ 32
  pub spelled : All IsSpelledCase found.derivations
  pub stops : Begins (GoesOnCases 0 found.derivations) (drop found.end lines) → ⊥

pub record AreProofs (p : System) (lines : List (List ℕ)) (from : ℕ) (found : Proofs) : Type 0 where
  pub taken : AreTaken lines from (flat_map (proved_lines p) found.proved) found.end
  pub spelled : All (IsSpelledProof p) found.proved
  pub stops : Begins (GoesOn p found.proved) (drop found.end lines) → ⊥
