-- What an evaluation answers: for each output and local the table of its meanings over its domain and nothing else, or why
-- there is none.
--
-- It may go through 2^22 points, and asks for the box of each domain of an output or local, and of each reduction that is
-- evaluated at one of their points. Points beyond that and refused boxes are looked for first. So a closed chain is only
-- answered where neither stands, and a deep chain that isn't closed is no reason at all.
use Rattle.std.specs.Prelude.{◌≡◌, ℕ, ℤ, ◌<◌, ◌≤◌, ◌^◌, List, Result, Ok, Err, ◌⊎◌}
use Rattle.az_lin.specs.Affine.{Union}
use Rattle.az_lin.specs.declared.limit.Limit.TheVariants.{Points}
use Rattle.az_ast.specs.System.{System}
use Rattle.az_ast.specs.Tables.{Tables}
use Rattle.loop_scan.specs.Answers.{IsUnrefused}
use Rattle.loop_scan.specs.declared.fault.ScanFault.TheVariants as scan
use Rattle.value_walk.specs.Chains.{IsClosedChain}
use Rattle.value_walk.specs.Meanings.{AreMeanings, IsAsked, IsRefused}
use Rattle.value_walk.specs.declared.refusal.EvalRefusal.{EvalRefusal}
use Rattle.value_walk.specs.declared.refusal.EvalRefusal.TheVariants.{Cycle, Overflow, Entry, Limit, Memory}
use Rattle.equation_meaning.specs.Counts.{IsNumberOfPoints}

pub record IsWithin (p : System) (params : List ℤ) : Type 0 where
  pub number : ℕ
  pub points : IsNumberOfPoints p params number
  pub few : number ≤ 2 ^ 22
  pub boxes : (domain : Union) (outer : List ℤ) → IsAsked p params domain outer → IsUnrefused domain outer

abbrev pub HasManyPoints : System → List ℤ → Type 0
HasManyPoints p params = (n : ℕ) × IsNumberOfPoints p params n × (2 ^ 22 < n)

abbrev pub EvaluationAnswers : System → Tables → List ℤ → Result Tables EvalRefusal → Type 0
EvaluationAnswers p tables params (Ok values) = AreMeanings p tables params values × IsWithin p params
EvaluationAnswers p tables params (Err (Cycle chain)) = IsClosedChain p params chain × IsWithin p params
EvaluationAnswers p tables params (Err Overflow) = IsRefused p params scan.Overflow
EvaluationAnswers p tables params (Err Entry) = IsRefused p params scan.Entry
EvaluationAnswers p tables params (Err (Limit limit)) = ((limit ≡ Points) × HasManyPoints p params) ⊎ IsRefused p params (scan.Limit limit)
EvaluationAnswers p tables params (Err Memory) = Unit {0}
