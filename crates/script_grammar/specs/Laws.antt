-- What holds of all scripts.
use Rattle.std.specs.Prelude.{◌≡◌, ℕ, ◌≤◌, List, [], ◌∷◌, Ok, Bool, ℤ, pos, neg_ℤ, if◌then◌else◌}
use Rattle.std.specs.List.{AllByRecursion}
use Rattle.az_text.specs.Reading.{Reads}
use Rattle.az_text.specs.declared.token.Token.{Token}
use Rattle.az_text.specs.declared.token.TokenKind.{TokenKind}
use Rattle.az_text.specs.declared.token.TokenKind.TheVariants.{Number}
use Rattle.grammar_rules.specs.Whole.{IsTooHeavy}
use Rattle.script_grammar.specs.Grammar.{script}
use Rattle.script_grammar.specs.Values.{signed}

-- No list of tokens is too heavy.
abbrev pub NoScriptIsHeavy : Type 0
NoScriptIsHeavy = (tokens : List Token) → IsTooHeavy script 0 tokens → ⊥

-- The number with its sign, whatever its size.
abbrev pub written : Bool → ℕ → ℤ
written negative n = if negative then neg_ℤ (pos n) else pos n

abbrev pub HasItsValue : Token → Type 0
HasItsValue token = (n : ℕ) → token.kind ≡ Number n → (negative : Bool) → signed negative n ≡ written negative n

-- The numbers of a text's tokens have their values as they are written.
abbrev pub NumbersStay : Type 0
NumbersStay = (bytes : List ℕ) (tokens : List Token) → Reads 0 bytes (Ok tokens) → AllByRecursion HasItsValue tokens
