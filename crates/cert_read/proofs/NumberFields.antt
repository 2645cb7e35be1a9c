-- A number in front of a line has one field, so what was written is read as the same.
use Rattle.std.proofs.Common.{◌≡◌, ℕ, ◌<◌, ℤ, pos, negsuc, List, [], ◌∷◌, append-nil, refl, sym, arith, ◌∙◌}
use Rattle.std.specs.Fmt.{decimal, signed_decimal}
use Rattle.grammar_rules.specs.Decimals.{BeginsWithNatural, BeginsWithInteger, Has128Bits}
use Rattle.grammar_rules.proofs.DecimalLaws.{naturals_are_one, integers_are_one}
use Rattle.line_fields.specs.Fields.{IsWide, spaced}

behind_space : (rest later : List ℕ) → 32 ∷ rest ≡ 32 ∷ later → rest ≡ later
behind_space rest later same = cc

wide_fits : (z : ℤ) → IsWide z → Has128Bits z
wide_fits (pos n) wide = wide
wide_fits (negsuc n) wide = omega (arith, wide)

natural_first : (line : List ℕ) (n : ℕ) (rest : List ℕ) → n < 4294967296 → line ≡ spaced (decimal n) rest → BeginsWithNatural line n (32 ∷ rest)
natural_first line n rest small same = record { fits = omega (arith, small); whole = same; ended = refl }

integer_first : (line : List ℕ) (z : ℤ) (rest : List ℕ) → IsWide z → line ≡ spaced (signed_decimal z) rest → BeginsWithInteger line z (32 ∷ rest)
integer_first line z rest wide same = record { fits = wide_fits z wide; whole = same; ended = refl }

integer_alone : (line : List ℕ) (z : ℤ) → IsWide z → line ≡ signed_decimal z → BeginsWithInteger line z []
integer_alone line z wide same = record { fits = wide_fits z wide; whole = same ∙ sym (append-nil (signed_decimal z)); ended = tt }

pub natural_fields : (m n : ℕ) (rest later : List ℕ) → m < 4294967296 → n < 4294967296 → spaced (decimal m) rest ≡ spaced (decimal n) later → (m ≡ n) × (rest ≡ later)
natural_fields m n rest later small low same =
    let line = spaced (decimal m) rest in
    let both = naturals_are_one line m n (32 ∷ rest) (32 ∷ later) (natural_first line m rest small refl) (natural_first line n later low same) in
    (both.0, behind_space rest later both.1)

pub integer_fields : (y z : ℤ) (rest later : List ℕ) → IsWide y → IsWide z → spaced (signed_decimal y) rest ≡ spaced (signed_decimal z) later → (y ≡ z) × (rest ≡ later)
integer_fields y z rest later wide low same =
    let line = spaced (signed_decimal y) rest in
    let both = integers_are_one line y z (32 ∷ rest) (32 ∷ later) (integer_first line y rest wide refl) (integer_first line z later low same) in
    (both.0, behind_space rest later both.1)

pub last_integers : (y z : ℤ) → IsWide y → IsWide z → signed_decimal y ≡ signed_decimal z → y ≡ z
last_integers y z wide low same =
    let line = signed_decimal y in
    (integers_are_one line y z [] [] (integer_alone line y wide refl) (integer_alone line z low same)).0
