-- Reading the text of a file.
use Rattle.std.specs.Prelude.{◌≡◌, ℕ, ◌^◌, ◌<◌, ◌≤◌, List, length, Option, Ok, Err}
use Rattle.std.specs.Option.{ForSome}
use Rattle.az_lin.specs.declared.limit.Limit.TheVariants.{File}
use Rattle.az_desk.specs.Files.{Files, content_of}
use Rattle.az_desk.specs.declared.call.Call.TheVariants.{Read}
use Rattle.session_state.specs.Steps.{Step}
use Rattle.session_state.specs.declared.refusal.Refusal.TheVariants.{Limited}
use Rattle.session_state.specs.declared.stop.Stop.TheVariants.{Refused, Fault, Memory}

-- the text under a name, of a desk that tells its files
abbrev pub HasText : Option Files → List ℕ → List ℕ → Type 0
HasText files file text = (length text ≤ 2 ^ 24) × ForSome files (λ told. text ≡ content_of told file)

abbrev pub HasLongText : Option Files → List ℕ → Type 0
HasLongText files file = ForSome files (λ told. 2 ^ 24 < length (content_of told file))

-- the text is given, the file is too long, or this very read fails
abbrev pub text_of : Option Files → List ℕ → Step (List ℕ)
text_of files file (Ok text) = HasText files file text
text_of files file (Err (Refused refusal)) = (refusal ≡ Limited File) × HasLongText files file
text_of files file (Err (Fault call)) = call ≡ Read file
text_of files file (Err Memory) = ⊥
