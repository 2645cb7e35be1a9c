-- What is answered for a text by a rule with a limit of weight: its value, exactly where its tokens are a
-- sentence of the rule within the limit; else the first fault of its tokens, the exact place of the first
-- token that can't go on, or that it is too heavy, whichever a reading from left to right meets first.
use Rattle.std.specs.Prelude.{◌≡◌, ℕ, List, [], ◌∷◌, ◌++◌, length, Result, Ok, Err}
use Rattle.az_text.specs.declared.fault.LexFault.{LexFault}
use Rattle.az_text.specs.declared.fault.LexFault.TheVariants.{BadByte, WideNumber}
use Rattle.az_text.specs.declared.fault.LexFault.TheVariants as lex
use Rattle.az_text.specs.declared.token.Token.{Token}
use Rattle.az_text.specs.Reading.{Reads}
use Rattle.grammar_rules.specs.Rules.{Rule}
use Rattle.grammar_rules.specs.Whole.{IsSentence, IsMisplaced, IsTooHeavy}
use Rattle.grammar_rules.specs.declared.fault.ReadError.{ReadError}
use Rattle.grammar_rules.specs.declared.fault.ReadError.TheVariants as error
use Rattle.grammar_rules.specs.declared.fault.TextFault.{TextFault}
use Rattle.grammar_rules.specs.declared.fault.TextFault.TheVariants.{Lex, Syntax, Size, Memory}

-- the first byte of the first of these tokens, or the text's length where none is left
abbrev pub place_of : List ℕ → List Token → ℕ
place_of text [] = length text
place_of text (t ∷ ts) = t.from

-- the tokens before the place are a front, and those up to and including the one there are none
abbrev pub StopsAt : {A : Type 0} → Rule Token A → ℕ → List ℕ → List Token → ℕ → Type 0
StopsAt rule limit text tokens place = (before : List Token) × (rest : List Token) × (place ≡ place_of text rest) × IsMisplaced rule limit tokens before rest

-- what the tokens are refused for, which is never that memory ran out
abbrev pub IsLexFaultOf : List ℕ → LexFault → Type 0
IsLexFaultOf text (BadByte place) = Reads 0 text (Err (BadByte place))
IsLexFaultOf text (WideNumber place) = Reads 0 text (Err (WideNumber place))
IsLexFaultOf text lex.Memory = ⊥

abbrev pub IsReadingOf : {A : Type 0} → Rule Token A → ℕ → List ℕ → Result A TextFault → Type 0
IsReadingOf rule limit text (Ok read) = (tokens : List Token) × Reads 0 text (Ok tokens) × IsSentence rule limit tokens read
IsReadingOf rule limit text (Err (Lex fault)) = IsLexFaultOf text fault
IsReadingOf rule limit text (Err (Syntax place)) = (tokens : List Token) × Reads 0 text (Ok tokens) × StopsAt rule limit text tokens place
IsReadingOf rule limit text (Err Size) = (tokens : List Token) × Reads 0 text (Ok tokens) × IsTooHeavy rule limit tokens
IsReadingOf rule limit text (Err Memory) = Unit {0}

-- What was read of a text's tokens, with the place in the text: where so many tokens are left, the first
-- byte of the first of them.
abbrev pub Places : {A : Type 0} → List ℕ → List Token → Result A ReadError → Result A TextFault → Type 0
Places text tokens (Ok read) result = result ≡ Ok read
Places text tokens (Err (error.Syntax remaining)) (Err (Syntax place)) = (before rest : List Token) → tokens ≡ before ++ rest → remaining ≡ length rest → place ≡ place_of text rest
Places text tokens (Err error.Size) result = result ≡ Err Size
Places text tokens (Err error.Memory) result = result ≡ Err Memory
Places text tokens (Err (error.Syntax remaining)) (Ok read) = ⊥
Places text tokens (Err (error.Syntax remaining)) (Err (Lex fault)) = ⊥
Places text tokens (Err (error.Syntax remaining)) (Err Size) = ⊥
Places text tokens (Err (error.Syntax remaining)) (Err Memory) = ⊥
