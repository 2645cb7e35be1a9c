-- Where a command of a text begins.
use Rattle.std.specs.Prelude.{◌≡◌, ℕ, ◌-◌, ◌==◌, Bool, true, false, List, [], ◌∷◌, Ok, if◌then◌else◌}
use Rattle.az_text.specs.Reading.{Reads}
use Rattle.az_text.specs.declared.mark.MarkKind.TheVariants.{Semicolon}
use Rattle.az_text.specs.declared.token.Token.{Token}
use Rattle.az_text.specs.declared.token.TokenKind.{TokenKind}
use Rattle.az_text.specs.declared.token.TokenKind.TheVariants.{Mark}
use Rattle.grammar_rules.specs.TextReadings.{place_of}
use Rattle.session_state.specs.declared.refusal.Refusal.{Refusal}
use Rattle.session_state.specs.declared.refusal.Refusal.TheVariants.{Text}
use Rattle.session_state.specs.declared.refusal.TextKind.TheVariants.{Syntax}
use Rattle.session_state.specs.declared.stop.Stop.{Stop}
use Rattle.session_state.specs.declared.stop.Stop.TheVariants.{Refused, Fault, Memory}

abbrev pub is_semicolon : TokenKind → Bool
is_semicolon (Mark Semicolon) = true
is_semicolon other = false

-- The tokens behind so many commands: each ends with a semicolon, and no other stands in a script.
abbrev pub behind : List Token → ℕ → List Token
behind [] count = []
behind (token ∷ tokens) count =
    if count == 0 then token ∷ tokens else (if is_semicolon token.kind then behind tokens (count - 1) else behind tokens count)

-- the text is one that has tokens
abbrev pub HasTokens : List ℕ → Type 0
HasTokens text = (tokens : List Token) × Reads 0 text (Ok tokens)

-- the text can't go on at the command before which so many stand
abbrev pub IsSyntaxRefusal : List ℕ → List ℕ → ℕ → Refusal → Type 0
IsSyntaxRefusal file text number refusal =
    (tokens : List Token) × Reads 0 text (Ok tokens) × (refusal ≡ Text file Syntax (place_of text (behind tokens number)))

-- so a run stops at it, or for want of memory
abbrev pub IsSyntaxStop : List ℕ → List ℕ → ℕ → Stop → Type 0
IsSyntaxStop file text number (Refused refusal) = IsSyntaxRefusal file text number refusal
IsSyntaxStop file text number (Fault call) = ⊥
IsSyntaxStop file text number Memory = Unit {0}
