-- The operators on 64-bit two's complement words. A value is the whole number that its word stands
-- for, and an operand that is no word stands for the word that is congruent to it. Sum, difference and
-- product are those of whole numbers, brought back modulo 2^64; the bitwise operators work on the words
-- bit by bit; the greater and the smaller are those of whole numbers.
use Rattle.std.specs.Prelude.{◌≡◌, ℕ, ◌-◌, ◌^◌, ℤ, pos, negsuc, ◌+ℤ◌, ◌-ℤ◌, ◌*ℤ◌, bit_and, bit_or, bit_xor}
use Rattle.std.specs.Int.{w64, int_wrap, cast_signed, cast_unsigned, int_max, int_min}
use Rattle.std.specs.Int.RustNames.{FitsSigned}
use Rattle.az_ast.specs.declared.op.Op.{Op}
use Rattle.az_ast.specs.declared.op.Op.TheVariants.{Add, Sub, Mul, And, Or, Xor, Max, Min}

-- a whole number that is the value of a word
abbrev pub IsWord : ℤ → Type 0
IsWord z = FitsSigned w64 z

-- the value of the word that is congruent to a whole number
abbrev pub wrapped : ℤ → ℤ
wrapped z = int_wrap w64 z

abbrev pub bitwise : (ℕ → ℕ → ℕ) → ℤ → ℤ → ℤ
bitwise f a b = cast_signed w64 (f (cast_unsigned w64 a) (cast_unsigned w64 b))

-- at two words
abbrev pub on_words : Op → ℤ → ℤ → ℤ
on_words Add a b = wrapped (a +ℤ b)
on_words Sub a b = wrapped (a -ℤ b)
on_words Mul a b = wrapped (a *ℤ b)
on_words And a b = bitwise bit_and a b
on_words Or a b = bitwise bit_or a b
on_words Xor a b = bitwise bit_xor a b
on_words Max a b = int_max a b
on_words Min a b = int_min a b

abbrev pub applied : Op → ℤ → ℤ → ℤ
applied op a b = on_words op (wrapped a) (wrapped b)

-- a difference is no operator of a reduction
abbrev pub FoldsFromIdentity : Op → Type 0
FoldsFromIdentity op = op ≡ Sub → ⊥

-- the value of a reduction over no points: what changes no other operand
abbrev pub identity : Op → ℤ
identity Add = pos 0
identity Sub = pos 0
identity Mul = pos 1
identity And = negsuc 0
identity Or = pos 0
identity Xor = pos 0
identity Max = negsuc (2 ^ 63 - 1)
identity Min = pos (2 ^ 63 - 1)
