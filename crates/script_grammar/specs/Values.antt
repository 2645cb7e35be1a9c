-- The values that the rules put together.
pub use Rattle.grammar_rules.specs.Sides.{behind, before, pair}
use Rattle.std.specs.Prelude.{ℕ, ◌-◌, ◌^◌, min, Bool, if◌then◌else◌, List, map, Option, Some, None, ℤ, pos, neg_ℤ}
use Rattle.grammar_rules.specs.declared.term.Term.{Term}
use Rattle.script_grammar.specs.declared.command.Command.{Command}
use Rattle.script_grammar.specs.declared.command.Command.TheVariants.{SetMemoryMap}
use Rattle.script_grammar.specs.declared.command.KindText.{KindText}
use Rattle.script_grammar.specs.declared.command.KindText.TheVariants.{Processor}
use Rattle.script_grammar.specs.declared.command.MapText.{MapText}
use Rattle.script_grammar.specs.declared.command.TermText.{TermText}

-- A number of a text is at most this one, so the bound takes nothing away from it
-- (`numbers_stay_as_they_are`).
abbrev pub greatest : ℕ
greatest = 2 ^ 127 - 1

abbrev pub signed : Bool → ℕ → ℤ
signed negative n = if negative then neg_ℤ (pos (min n greatest)) else pos (min n greatest)

-- maps
abbrev pub term_text : Term → TermText
term_text term = record { factor = signed term.negative term.factor; name = term.name }

abbrev pub row_text : List Term → List TermText
row_text row = map term_text row

abbrev pub map_text : List (List ℕ) → List (List TermText) → MapText
map_text indices rows = record { indices = indices; rows = rows }

-- `P` alone is `P 1`
abbrev pub processor : Option ℤ → KindText
processor (Some size) = Processor size
processor None = Processor (pos 1)

abbrev pub memory_map : List ℕ → List ℕ × (MapText × List ℤ) → Command
memory_map variable rest = SetMemoryMap variable rest.0 rest.1.0 rest.1.1
