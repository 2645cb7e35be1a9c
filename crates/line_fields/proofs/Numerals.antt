-- A number at the front of a line, or alone on it, as grammar_rules reads it.
use Rattle.std.proofs.Common.{◌≡◌, ℕ, ◌<◌, ℤ, pos, negsuc, List, [], ◌∷◌, append-nil, refl, sym, arith, ◌∙◌}
use Rattle.std.specs.Fmt.{decimal, signed_decimal}
use Rattle.grammar_rules.specs.Decimals.{BeginsWithNatural, BeginsWithInteger, Has128Bits}
use Rattle.line_fields.specs.Fields.{IsWide, spaced}

pub natural_first : (line : List ℕ) (n : ℕ) (rest : List ℕ) → n < 4294967296 → line ≡ spaced (decimal n) rest → BeginsWithNatural line n (32 ∷ rest)
natural_first line n rest small same = record { fits = omega (arith, small); whole = same; ended = refl }

pub natural_alone : (line : List ℕ) (n : ℕ) → n < 4294967296 → line ≡ decimal n → BeginsWithNatural line n []
natural_alone line n small same = record { fits = omega (arith, small); whole = same ∙ sym (append-nil (decimal n)); ended = tt }

wide_fits : (z : ℤ) → IsWide z → Has128Bits z
wide_fits (pos n) wide = wide
wide_fits (negsuc n) wide = omega (arith, wide)

pub integer_first : (line : List ℕ) (z : ℤ) (rest : List ℕ) → IsWide z → line ≡ spaced (signed_decimal z) rest → BeginsWithInteger line z (32 ∷ rest)
integer_first line z rest wide same = record { fits = wide_fits z wide; whole = same; ended = refl }

pub integer_alone : (line : List ℕ) (z : ℤ) → IsWide z → line ≡ signed_decimal z → BeginsWithInteger line z []
integer_alone line z wide same = record { fits = wide_fits z wide; whole = same ∙ sym (append-nil (signed_decimal z)); ended = tt }
