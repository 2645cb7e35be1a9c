-- From the result of a whole text to what its rule says.
use Rattle.std.proofs.Common.{◌≡◌, ℕ, List, Result, Ok, Err, subst}
use Rattle.grammar_rules.specs.declared.fault.ReadError.{ReadError}
use Rattle.grammar_rules.specs.declared.fault.ReadError.TheVariants.{Syntax, Size, Memory}
use Rattle.grammar_rules.specs.Rules.{Rule}
use Rattle.grammar_rules.specs.Whole.{Verdict, IsVerdict}
use Rattle.grammar_rules.specs.Gives.{Gives, GivesAlways, Concludes, IsReadBy}
use Rattle.grammar_rules.specs.Readers.{Answer}
use Rattle.grammar_rules.specs.declared.cursor.Cursor.{Cursor}

pub read_by : {T A : Type 0} (rule : Rule T A) (limit : ℕ) (ts : List T) (verdict : Verdict A) (result : Result A ReadError)
    → IsVerdict rule limit ts verdict → Concludes result verdict → IsReadBy rule limit ts result
read_by rule limit ts verdict (Ok a) is concludes = subst (IsVerdict rule limit ts) concludes is
read_by rule limit ts verdict (Err (Syntax remaining)) is concludes = subst (IsVerdict rule limit ts) concludes is
read_by rule limit ts verdict (Err Size) is concludes = subst (IsVerdict rule limit ts) concludes is
read_by rule limit ts verdict (Err Memory) is concludes = tt

-- A call that takes no memory gives what one that may take some does, and never answers that it ran out.
pub always_gives : {T A : Type 0} (result : Result (A × Cursor T) ReadError) (answer : Answer T A) → GivesAlways result answer → Gives result answer
always_gives (Ok found) answer is = is
always_gives (Err (Syntax remaining)) answer is = is
always_gives (Err Size) answer is = is
always_gives (Err Memory) answer is = tt

pub always_some : {T A : Type 0} (result : Result (A × Cursor T) ReadError) (answer : Answer T A) → GivesAlways result answer → result ≡ Err Memory → ⊥
always_some (Ok found) answer is e = absurd (cc)
always_some (Err (Syntax remaining)) answer is e = absurd (cc)
always_some (Err Size) answer is e = absurd (cc)
always_some (Err Memory) answer is e = is
