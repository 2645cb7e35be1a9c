-- Kinds, sizes and factors, as a script has them.
use Rattle.std.specs.Prelude.{ℕ, ◌+◌, nat_le, if◌then◌else◌, ℤ, pos, negsuc}
use Rattle.script_grammar.specs.declared.command.KindText.{KindText}
use Rattle.script_grammar.specs.declared.command.KindText.TheVariants as text
use Rattle.target_map.specs.Kinds.{most_size}
use Rattle.target_map.specs.declared.kind.Kind.{Kind}
use Rattle.target_map.specs.declared.kind.Kind.TheVariants.{Outer, Band, Processor, Inner}

-- A number from 0 to the greatest size and factor. Every other one is refused wherever it stands, as the next greater
-- number is, which stands for it.
abbrev pub within : ℤ → ℕ
within (pos n) = if nat_le n most_size then n else most_size + 1
within (negsuc n) = most_size + 1

abbrev pub kind_of : KindText → Kind
kind_of text.Outer = Outer
kind_of (text.Band size) = Band (within size)
kind_of (text.Processor size) = Processor (within size)
kind_of text.Inner = Inner
