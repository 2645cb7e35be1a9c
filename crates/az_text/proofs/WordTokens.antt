-- A word among the tokens of a text is spelled as one.
use Rattle.std.proofs.Common.{ℕ, List, [], ◌∷◌, Ok, sym, subst}
use Rattle.std.specs.List.{AllByRecursion}
use Rattle.az_text.specs.declared.token.Token.{Token}
use Rattle.az_text.specs.declared.token.TokenKind.{TokenKind}
use Rattle.az_text.specs.declared.token.TokenKind.TheVariants.{Word, Number, Quoted, Mark}
use Rattle.az_text.specs.Reading.{Reads, AreIn}
use Rattle.az_text.specs.Tokens.{IsWord, Spells}
use Rattle.az_text.proofs.Spans.{tokens_in}

abbrev pub IsSpelledKind : TokenKind → Type 0
IsSpelledKind (Word name) = IsWord name
IsSpelledKind (Number n) = Unit {0}
IsSpelledKind (Quoted inner) = Unit {0}
IsSpelledKind (Mark kind) = Unit {0}

abbrev pub IsSpelled : Token → Type 0
IsSpelled t = IsSpelledKind t.kind

spelled_kind : (kind : TokenKind) (bytes : List ℕ) → Spells kind bytes → IsSpelledKind kind
spelled_kind (Word name) bytes spelled = subst IsWord (sym spelled.1) spelled.0
spelled_kind (Number n) bytes spelled = tt
spelled_kind (Quoted inner) bytes spelled = tt
spelled_kind (Mark kind) bytes spelled = tt

spelled_in : (text : List ℕ) (at : ℕ) (tokens : List Token) → AreIn text at tokens → AllByRecursion IsSpelled tokens
spelled_in text at [] h = tt
spelled_in text at (t ∷ tokens) h = (spelled_kind t.kind _ h.2, spelled_in text t.to tokens h.4)

pub all_spelled : (text : List ℕ) (tokens : List Token) → Reads 0 text (Ok tokens) → AllByRecursion IsSpelled tokens
all_spelled text tokens reads = spelled_in text 0 tokens (tokens_in text tokens reads)
