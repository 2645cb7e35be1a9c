-- How much an answer leaves.
use Rattle.std.proofs.Common.{◌≡◌, ℕ, ◌≤◌, List, ◌++◌, ◌<◌, ◌⊎◌, inl, inr, length, arith, sym, subst, length-append}
use Rattle.std.proofs.lemmas.Bool.Decides.{leb_tells}
use Rattle.grammar_rules.specs.Rules.{Rule}
use Rattle.grammar_rules.specs.Readers.{Answer}
use Rattle.grammar_rules.specs.Readers.Answer.{got, wrong, large}
use Rattle.grammar_rules.specs.Exactness.{Says, LeavesAtMost}

pub shorter : {T : Type 0} (us rest ts : List T) → ts ≡ us ++ rest → length rest ≤ length ts
shorter us rest ts split = rw split (let sum = length-append us rest in omega arith)

-- An answer leaves no more than the tokens that the reader was given.
pub leaves_all : {T A : Type 0} (rule : Rule T A) (b : ℕ) (ts : List T) (answer : Answer T A) → Says rule b ts answer → LeavesAtMost ts answer
leaves_all rule b ts (got a rest remaining) says = shorter says.0 rest ts says.2
leaves_all rule b ts (wrong remaining) says = let part = shorter says.0 says.1 ts says.3 in let is = says.6 in omega arith
leaves_all rule b ts large says = tt

-- What a later part leaves is less still.
pub leaves_less : {T A : Type 0} (some rest : List T) (answer : Answer T A) → length some ≤ length rest → LeavesAtMost some answer → LeavesAtMost rest answer
leaves_less some rest (got a remaining b) below leaves = omega arith
leaves_less some rest (wrong remaining) below leaves = omega arith
leaves_less some rest large below leaves = tt

pub or_at_most : (v b : ℕ) → (v ≤ b) ⊎ (b < v)
or_at_most v b = elim (leb_tells v b) [ inl under ↦ inl under.1 | inr over ↦ inr over.1 ]

pub leaves_as : {T A : Type 0} (rest : List T) (answer other : Answer T A) → answer ≡ other → LeavesAtMost rest other → LeavesAtMost rest answer
leaves_as rest answer other same leaves = subst (λ x. LeavesAtMost rest x) (sym same) leaves
