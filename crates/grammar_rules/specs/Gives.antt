-- What a reading function returns, beside the answer of a reader on lists. Where it takes memory, want of
-- memory may stand for any answer.
use Rattle.std.specs.Prelude.{◌≡◌, ℕ, List, Result, Ok, Err}
use denote.Ref.{Bor}
use Rattle.grammar_rules.specs.declared.cursor.Cursor.{Cursor}
use Rattle.grammar_rules.specs.declared.fault.ReadError.{ReadError}
use Rattle.grammar_rules.specs.declared.fault.ReadError.TheVariants.{Syntax, Size, Memory}
use Rattle.grammar_rules.specs.Rules.{Rule}
use Rattle.grammar_rules.specs.Readers.{Answer, Reader}
use Rattle.grammar_rules.specs.Readers.Answer.{got, wrong, large}
use Rattle.grammar_rules.specs.Whole.{Verdict, IsSentence, IsMisplacedAt, IsTooHeavy}
use Rattle.grammar_rules.specs.Whole.Verdict.{parsed, misplaced, too_heavy}

-- a value, and the cursor behind what was read
abbrev pub Gives : {T A : Type 0} → Result (A × Cursor T) ReadError → Answer T A → Type 0
Gives (Ok found) answer = answer ≡ got found.0 found.1.rest.now found.1.budget
Gives (Err (Syntax remaining)) answer = answer ≡ wrong remaining
Gives (Err Size) answer = answer ≡ large
Gives (Err Memory) answer = Unit {0}

-- The same of calls that take no memory, and so never answer that it ran out: a value, a text that is lent,
-- and the cursor alone.
abbrev pub GivesAlways : {T A : Type 0} → Result (A × Cursor T) ReadError → Answer T A → Type 0
GivesAlways (Ok found) answer = answer ≡ got found.0 found.1.rest.now found.1.budget
GivesAlways (Err (Syntax remaining)) answer = answer ≡ wrong remaining
GivesAlways (Err Size) answer = answer ≡ large
GivesAlways (Err Memory) answer = ⊥

abbrev pub GivesText : {T : Type 0} → Result (Bor (List ℕ) × Cursor T) ReadError → Answer T (List ℕ) → Type 0
GivesText (Ok found) answer = answer ≡ got found.0.now found.1.rest.now found.1.budget
GivesText (Err (Syntax remaining)) answer = answer ≡ wrong remaining
GivesText (Err Size) answer = answer ≡ large
GivesText (Err Memory) answer = ⊥

abbrev pub Passes : {T : Type 0} → Result (Cursor T) ReadError → Answer T (Unit {0}) → Type 0
Passes (Ok cursor) answer = answer ≡ got tt cursor.rest.now cursor.budget
Passes (Err (Syntax remaining)) answer = answer ≡ wrong remaining
Passes (Err Size) answer = answer ≡ large
Passes (Err Memory) answer = ⊥

-- What a closure may return for each cursor is what this reader answers.
abbrev pub IsReadAs : {T A : Type 0} → (Cursor T → Result (A × Cursor T) ReadError → Type 0) → Reader T A → Type 0
IsReadAs returns reader = (cursor : Cursor _) (result : Result (_ × Cursor _) ReadError) → returns cursor result → Gives result (reader cursor.budget cursor.rest.now)

-- the result of a whole text, by its verdict
abbrev pub Concludes : {A : Type 0} → Result A ReadError → Verdict A → Type 0
Concludes (Ok a) verdict = verdict ≡ parsed a
Concludes (Err (Syntax remaining)) verdict = verdict ≡ misplaced remaining
Concludes (Err Size) verdict = verdict ≡ too_heavy
Concludes (Err Memory) verdict = Unit {0}

-- A whole text is read exactly by a rule, with a limit of weight.
abbrev pub IsReadBy : {T A : Type 0} → Rule T A → ℕ → List T → Result A ReadError → Type 0
IsReadBy rule limit ts (Ok a) = IsSentence rule limit ts a
IsReadBy rule limit ts (Err (Syntax remaining)) = IsMisplacedAt rule limit ts remaining
IsReadBy rule limit ts (Err Size) = IsTooHeavy rule limit ts
IsReadBy rule limit ts (Err Memory) = Unit {0}
