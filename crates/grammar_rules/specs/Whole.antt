-- What is answered for a whole text: its value, or the exact place of the first token that can't go on,
-- or that it is too heavy.
use Rattle.std.specs.Prelude.{◌≡◌, ℕ, ◌<◌, ◌≤◌, List, [], ◌∷◌, ◌++◌, length}
use Rattle.grammar_rules.specs.Rules.{Rule}
use Rattle.grammar_rules.specs.Readers.{Answer}
use Rattle.grammar_rules.specs.Readers.Answer.{got, wrong, large}

pub data Verdict (A : Type 0) : Type 0 where
  parsed : A → Verdict A
  misplaced : ℕ → Verdict A
  too_heavy : Verdict A

-- a text that goes on behind its sentence is misplaced there
abbrev pub verdict : {T A : Type 0} → Answer T A → Verdict A
verdict (got a [] budget) = parsed a
verdict (got a (t ∷ ts) budget) = misplaced (length (t ∷ ts))
verdict (wrong remaining) = misplaced remaining
verdict large = too_heavy

-- the tokens are a sentence, and of this value alone
pub record IsSentence {T A : Type 0} (rule : Rule T A) (limit : ℕ) (ts : List T) (a : A) : Type 0 where
  pub taken : (w : ℕ) × (w ≤ limit) × rule.takes ts w a
  pub alone : (w : ℕ) (b : A) → rule.takes ts w b → b ≡ a

-- The tokens before the place are a front within the limit, and no front of the tokens is longer: with the
-- token at the place they are none. None weighs more than the limit, and they are no sentence.
pub record IsMisplaced {T A : Type 0} (rule : Rule T A) (limit : ℕ) (ts before rest : List T) : Type 0 where
  pub split : ts ≡ before ++ rest
  pub front : (w : ℕ) × (w ≤ limit) × rule.front before w
  pub furthest : (us later : List T) (w : ℕ) → ts ≡ us ++ later → rule.front us w → (length us ≤ length before) × (w ≤ limit)
  pub no_sentence : (w : ℕ) (a : A) → rule.takes ts w a → ⊥

-- A front of the tokens weighs more than the limit, and they are no sentence within it.
pub record IsTooHeavy {T A : Type 0} (rule : Rule T A) (limit : ℕ) (ts : List T) : Type 0 where
  pub front : (before : List T) × (later : List T) × (w : ℕ) × (ts ≡ before ++ later) × (limit < w) × rule.front before w
  pub no_sentence : (w : ℕ) (a : A) → rule.takes ts w a → limit < w

-- the place, by how many tokens are left from it on
abbrev pub IsMisplacedAt : {T A : Type 0} → Rule T A → ℕ → List T → ℕ → Type 0
IsMisplacedAt rule limit ts remaining = (before : List _) × (rest : List _) × (remaining ≡ length rest) × IsMisplaced rule limit ts before rest

abbrev pub IsVerdict : {T A : Type 0} → Rule T A → ℕ → List T → Verdict A → Type 0
IsVerdict rule limit ts (parsed a) = IsSentence rule limit ts a
IsVerdict rule limit ts (misplaced remaining) = IsMisplacedAt rule limit ts remaining
IsVerdict rule limit ts too_heavy = IsTooHeavy rule limit ts
