-- What a command does, test by test.
--
-- A step is what it may answer: a value, or why the command stops there. Steps follow one another in the order in which
-- causes are looked for, so a command is refused for the first of its steps that is not passed, and for no other.
use Rattle.std.specs.Prelude.{◌≡◌, ◌⊎◌, List, [], ◌∷◌, Option, Some, None, Result, Ok, Err}
use Rattle.az_desk.specs.declared.call.Call.{Call}
use Rattle.session_state.specs.declared.refusal.Refusal.{Refusal}
use Rattle.session_state.specs.declared.stop.Stop.{Stop}
use Rattle.session_state.specs.declared.stop.Stop.TheVariants.{Refused, Fault, Memory}

abbrev pub Step : Type 0 → Type 1
Step A = Result A Stop → Type 0

-- a step, and then those that it gives a value to
infixl 10 ◌>>=◌
abbrev pub ◌>>=◌ : {A B : Type 0} → Step A → (A → Step B) → Step B
◌>>=◌ first rest (Ok y) = (x : _) × first (Ok x) × rest x (Ok y)
◌>>=◌ first rest (Err stop) = first (Err stop) ⊎ ((x : _) × first (Ok x) × rest x (Err stop))

-- a step that answers one thing
abbrev pub answers : {A : Type 0} → Result A Stop → Step A
answers one result = result ≡ one

abbrev pub gives : {A : Type 0} → A → Step A
gives x = answers (Ok x)

-- the value, where there is one, or else a refusal
abbrev pub some_or : {A : Type 0} → Refusal → Option A → Step A
some_or refusal (Some x) = gives x
some_or refusal None = answers (Err (Refused refusal))

-- nothing, or else a refusal
abbrev pub unless : Option Refusal → Step (Unit {0})
unless None = gives tt
unless (Some refusal) = answers (Err (Refused refusal))

-- what holds is passed, or else there is a refusal
abbrev pub holds_or : Refusal → Type 0 → Step (Unit {0})
holds_or refusal claim (Ok _) = claim
holds_or refusal claim (Err (Refused why)) = (why ≡ refusal) × (claim → ⊥)
holds_or refusal claim (Err (Fault call)) = ⊥
holds_or refusal claim (Err Memory) = ⊥

-- a step for each item in order, each from what the one before it gave
abbrev pub each_in : {S B : Type 0} → (S → B → Step S) → S → List B → Step S
each_in one state [] = gives state
each_in one state (item ∷ items) = one state item >>= (λ more. each_in one more items)

-- A function takes a step, where only such calls on the desk may fail. Want of memory may stand for any answer.
abbrev pub TakesBy : {A : Type 0} → (Call → Type 0) → Step A → Result A Stop → Type 0
TakesBy fails step (Ok x) = step (Ok x)
TakesBy fails step (Err Memory) = Unit {0}
TakesBy fails step (Err (Refused refusal)) = step (Err (Refused refusal))
TakesBy fails step (Err (Fault call)) = fails call × step (Err (Fault call))

-- one that is lent the desk, and one that isn't
abbrev pub Takes : {A : Type 0} → Step A → Result A Stop → Type 0
Takes step result = TakesBy (λ call. Unit {0}) step result

abbrev pub TakesAlone : {A : Type 0} → Step A → Result A Stop → Type 0
TakesAlone step result = TakesBy (λ call. ⊥) step result

-- how a call ends that gives nothing but leaves this
abbrev pub with_value : {A : Type 0} → A → Result (Unit {0}) Stop → Result A Stop
with_value x (Ok _) = Ok x
with_value x (Err stop) = Err stop

-- the stop of a cause: its refusal, or want of memory
abbrev pub IsStopFor : Option Refusal → Stop → Type 0
IsStopFor cause (Refused refusal) = cause ≡ Some refusal
IsStopFor cause (Fault call) = ⊥
IsStopFor cause Memory = Unit {0}
