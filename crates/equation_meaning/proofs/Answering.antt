-- From the count and the walk to the answer of an evaluation.
use Rattle.std.proofs.Common.{ℕ, ◌^◌, List, inr, ⊎_elim}
use Rattle.std.specs.Prelude.{ℤ, Result, Ok, Err, IfOk, IfErr}
use Rattle.az_lin.specs.Affine.{Union}
use Rattle.az_ast.specs.System.{System}
use Rattle.az_ast.specs.Tables.{Tables}
use Rattle.loop_scan.specs.Answers.{IsUnrefused}
use Rattle.loop_scan.specs.declared.fault.ScanFault.{ScanFault}
use Rattle.loop_scan.specs.declared.fault.ScanFault.TheVariants as scan
use Rattle.value_walk.specs.Boxes.{UnlessMemory}
use Rattle.value_walk.specs.Meanings.{AreMeanings, IsOwnBox, IsRefused, IsCause}
use Rattle.value_walk.specs.declared.refusal.EvalRefusal.{EvalRefusal}
use Rattle.value_walk.specs.declared.refusal.EvalRefusal.TheVariants.{Cycle, Overflow, Entry, Limit, Memory}
use Rattle.value_walk.specs.Refusals.{refusal_of}
use Rattle.equation_meaning.specs.Counts.{IsNumberOfPoints}
use Rattle.equation_meaning.specs.Evaluation.{IsWithin, EvaluationAnswers}
use Rattle.equation_meaning.specs.Inner.Counting.{EvaluatedIn, IsCounted, SomeRefused}

-- a box that is refused
pub refused-answers : (p : System) (tables : Tables) (params : List ℤ) (fault : ScanFault) → UnlessMemory (IsRefused p params) fault → EvaluationAnswers p tables params (Err (refusal_of fault))
refused-answers p tables params scan.Overflow h = h
refused-answers p tables params scan.Entry h = h
refused-answers p tables params (scan.Limit limit) h = inr h
refused-answers p tables params scan.Memory h = tt

pub counting-refused : (p : System) (params : List ℤ) (fault : ScanFault) → UnlessMemory (SomeRefused (IsNumberOfPoints p params) (EvaluatedIn p params)) fault → UnlessMemory (IsRefused p params) fault
counting-refused p params scan.Overflow h = (h.1, h.2, inr (h.3.0, h.3.1, h.0, h.3.2), h.4)
counting-refused p params scan.Entry h = (h.1, h.2, inr (h.3.0, h.3.1, h.0, h.3.2), h.4)
counting-refused p params (scan.Limit limit) h = (h.1, h.2, inr (h.3.0, h.3.1, h.0, h.3.2), h.4)
counting-refused p params scan.Memory h = tt

-- few points, and out box refused
pub within : (p : System) (params : List ℤ) (n : ℕ) → ((domain : Union) (outer : List ℤ) → IsOwnBox p params domain outer → IsUnrefused domain outer) →
    IsCounted (IsNumberOfPoints p params) (EvaluatedIn p params) (2 ^ 22) n → IsWithin p params
within p params n own h = record {
  number = n;
  points = h.counts;
  few = h.few;
  boxes = λ domain outer asked. ⊎_elim (λ o. own domain outer o) (λ e. h.boxes e.2 domain outer (e.0, e.1, e.3)) asked;
}

-- the walk's answer
pub walked : (p : System) (tables : Tables) (params : List ℤ) (result : Result Tables EvalRefusal) → IsWithin p params → IfOk result (AreMeanings p tables params) → IfErr result (IsCause p params) →
    EvaluationAnswers p tables params result
walked p tables params (Ok values) w ok cause = (ok, w)
walked p tables params (Err (Cycle chain)) w ok cause = (cause, w)
walked p tables params (Err Overflow) w ok cause = cause
walked p tables params (Err Entry) w ok cause = cause
walked p tables params (Err (Limit limit)) w ok cause = inr cause
walked p tables params (Err Memory) w ok cause = tt
