-- What counting needs, and what it answers.
use Rattle.std.specs.Prelude.{◌≡◌, ℕ, ℤ, ◌+◌, ◌<◌, ◌≤◌, Bool, true, false, ◌||◌, List, ◌++◌, length, All, Contains, Result, Ok, Err}
use Rattle.std.specs.List.{AllZip, sum}
use Rattle.az_lin.specs.Affine.{Union, IsCoordinate}
use Rattle.az_ast.specs.Certified.{IsFinite}
use Rattle.az_ast.specs.Dependences.{Evaluates, EvaluatesBranch}
use Rattle.az_ast.specs.System.{System}
use Rattle.az_ast.specs.Term.{Term, constant, index, access, negation, binary, cases, reduction, Choices, none, choice}
use Rattle.loop_scan.specs.Answers.{IsUnrefused}
use Rattle.loop_scan.specs.declared.fault.ScanFault.{ScanFault}
use Rattle.value_walk.specs.Boxes.{BoxRefuses, UnlessMemory}
use Rattle.value_walk.specs.Chains.{IsReduction, PointEvaluates}
use Rattle.value_walk.specs.Needs.{IsReady, AreReady}
use Rattle.equation_meaning.specs.Counts.{TermCounts, ChoiceCounts, VariableCounts, IsNumberOfPoints}
use Rattle.equation_meaning.specs.declared.body_count.CountFault.{CountFault}
use Rattle.equation_meaning.specs.declared.body_count.CountFault.TheVariants.{Many, Scan}

-- whether an expression has a reduction
abbrev mutual
  pub has_reduction : Term → Bool
  has_reduction (constant c) = false
  has_reduction (index row) = false
  has_reduction (access x f) = false
  has_reduction (negation e) = has_reduction e
  has_reduction (binary op a b) = has_reduction a || has_reduction b
  has_reduction (cases branches) = have_reduction branches
  has_reduction (reduction op extra domain e) = true

  pub have_reduction : Choices → Bool
  have_reduction none = false
  have_reduction (choice domain e rest) = has_reduction e || have_reduction rest

-- an expression whose reductions can be counted at a point
abbrev pub IsCountable : Term → List ℤ → Type 0
IsCountable e z = IsReady 0 (λ x ps k. Unit {0}) (λ extra domain outer. IsFinite domain (length outer) extra) e z

abbrev pub AreCountable : Choices → List ℤ → Type 0
AreCountable branches z = AreReady 0 (λ x ps k. Unit {0}) (λ extra domain outer. IsFinite domain (length outer) extra) branches z

pub record CanCount (e : Term) (z : List ℤ) : Type 0 where
  pub ready : IsCountable e z
  pub narrow : length z ≤ 64
  pub range : All IsCoordinate z

-- which reductions are evaluated: so many extra indices over a domain, at an outer point
abbrev pub Met : Type 1
Met = ℕ → Union → List ℤ → Type 0

-- a count of at most so many, or why there is none
module _ (Is : ℕ → Type 0) (met : Met) where
  pub record IsCounted (left n : ℕ) : Type 0 where
    pub counts : Is n
    pub few : n ≤ left
    pub boxes : (extra : ℕ) (domain : Union) (outer : List ℤ) → met extra domain outer → IsUnrefused domain outer

  abbrev pub SomeRefused : ScanFault → Type 0
  SomeRefused fault = (extra : ℕ) × (domain : Union) × (outer : List ℤ) × met extra domain outer × BoxRefuses domain outer fault

  abbrev pub CountFails : ℕ → CountFault → Type 0
  CountFails left Many = (n : ℕ) → Is n → left < n
  CountFails left (Scan fault) = UnlessMemory SomeRefused fault

  abbrev pub CountAnswers : ℕ → Result ℕ CountFault → Type 0
  CountAnswers left (Ok n) = IsCounted left n
  CountAnswers left (Err fault) = CountFails left fault

-- of an expression, of a case's branches, of a body over points, and of a program
abbrev pub Evaluated : Term → List ℤ → Met
Evaluated e z extra domain outer = Evaluates (IsReduction extra domain outer) e z

abbrev pub TermAnswers : Term → List ℤ → ℕ → Result ℕ CountFault → Type 0
TermAnswers e z left result = CountAnswers (λ n. TermCounts e z n) (Evaluated e z) left result

abbrev pub ChoiceAnswers : Choices → List ℤ → ℕ → Result ℕ CountFault → Type 0
ChoiceAnswers branches z left result =
    CountAnswers (λ n. ChoiceCounts branches z n) (λ extra domain outer. EvaluatesBranch (IsReduction extra domain outer) branches z) left result

abbrev pub BodyCounts : Term → List ℤ → List (List ℤ) → ℕ → Type 0
BodyCounts e z points n = (counts : List ℕ) × AllZip (λ k c. TermCounts e (z ++ k) c) points counts × (n ≡ length points + sum counts)

abbrev pub EvaluatedAt : Term → List ℤ → List (List ℤ) → Met
EvaluatedAt e z points extra domain outer = (k : List ℤ) × Contains points k × Evaluated e (z ++ k) extra domain outer

abbrev pub BodyAnswers : Term → List ℤ → List (List ℤ) → ℕ → Result ℕ CountFault → Type 0
BodyAnswers e z points left result = CountAnswers (BodyCounts e z points) (EvaluatedAt e z points) left result

abbrev pub EvaluatedIn : System → List ℤ → Met
EvaluatedIn p params extra domain outer = (x : ℕ) × (k : List ℤ) × PointEvaluates p params x k extra domain outer

abbrev pub ProgramAnswers : System → List ℤ → ℕ → Result ℕ CountFault → Type 0
ProgramAnswers p params left result = CountAnswers (IsNumberOfPoints p params) (EvaluatedIn p params) left result

abbrev pub EvaluatedOf : System → List ℤ → ℕ → Met
EvaluatedOf p params x extra domain outer = (k : List ℤ) × PointEvaluates p params x k extra domain outer

abbrev pub VariableAnswers : System → List ℤ → ℕ → ℕ → Result ℕ CountFault → Type 0
VariableAnswers p params x left result = CountAnswers (VariableCounts p params x) (EvaluatedOf p params x) left result
