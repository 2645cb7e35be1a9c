-- The names of the columns of a place differ.
use Rattle.std.proofs.Common.{◌≡◌, ℕ, zero, suc, ◌+◌, ◌<◌, ◌≤◌, ◌^◌, Bool, true, false, true≢false, ◌||◌, ◌&&◌, List, [], ◌∷◌, ◌++◌, length, refl, sym, ap, subst, ◌∙◌, arith, length-append, append-nil, append_assoc}
use Rattle.std.specs.Prelude.{◌==◌, bytes_eq, decimal}
use Rattle.std.specs.Char.{is_ascii_digit, digit_value}
use Rattle.std.specs.List.{list_any, list_all, AllByRecursion}
use Rattle.std.specs.Str.Parse.{IsNumeral, AllDigits}
use Rattle.std.proofs.lemmas.Bool.{and_from}
use Rattle.std.proofs.lemmas.Slice.Eq.{bytes_eq-Decides}
use Rattle.std.proofs.lemmas.Bool.Decides.{nat_tests}
use Rattle.std.proofs.lemmas.Fmt.{decimal_injective, decimal_is_IsNumeral_wide}
use Rattle.std.proofs.lemmas.List.Folds.{list_any-append}
use Rattle.az_ast.specs.Shapes.{is_index_name, has_twice}
use Rattle.alphabets_show.specs.Sides.{Names, index_name, indices}
use Rattle.program_names.proofs.NameNumbers.{equal-bytes}
use Rattle.program_names.proofs.Sums.{not-true, or-left, or-right}
use Rattle.show_means.specs.Kept.{columns}

pub length-indices : (from count : ℕ) → length (indices from count) ≡ count
length-indices from zero = refl
length-indices from (suc count) = ap suc (length-indices (suc from) count)

pub length-columns : (params : Names) (count : ℕ) → length (columns params count) ≡ length params + count
length-columns params count = length-append params (indices 0 count) ∙ ap (λ (n : ℕ). length params + n) (length-indices 0 count)

indices-append : (from a b at : ℕ) → at ≡ from + a → indices from a ++ indices at b ≡ indices from (a + b)
indices-append from zero b at is =
    let start : at ≡ from = omega arith in
    let none : b ≡ 0 + b = omega arith in
    (λ i. indices (start i) (none i))
indices-append from (suc a) b at is =
    let next : at ≡ suc from + a = omega arith in
    let count : suc (a + b) ≡ suc a + b = omega arith in
    ap (λ (rest : Names). index_name from ∷ rest) (indices-append (suc from) a b at next) ∙ ap (indices from) count

pub columns-more : (params : Names) (count extra : ℕ) → columns params count ++ indices count extra ≡ columns params (count + extra)
columns-more params count extra =
    append_assoc params (indices 0 count) (indices count extra) ∙ ap (λ (rest : Names). params ++ rest) (indices-append 0 count extra count (omega arith))

-- indices differ from each other
pub same_bytes : (x y : List ℕ) → bytes_eq x y ≡ true → x ≡ y
same_bytes x y h = (bytes_eq-Decides x y).0 h

other_index : (n k : ℕ) → n < k → k < 2 ^ 64 → bytes_eq (index_name n) (index_name k) ≡ false
other_index n k less few =
    not-true (bytes_eq (index_name n) (index_name k))
    (λ h. let same : index_name n ≡ index_name k = same_bytes (index_name n) (index_name k) h in
    let digits : decimal n ≡ decimal k = cc in
    let equal = decimal_injective n k (omega arith) (omega arith) digits in
    absurd (omega (arith, equal)))

index_not_later : (n from count : ℕ) → n < from → from + count ≤ 2 ^ 64 → list_any (bytes_eq (index_name n)) (indices from count) ≡ false
index_not_later n from zero less few = refl
index_not_later n from (suc count) less few =
    ap (λ b. b || list_any (bytes_eq (index_name n)) (indices (suc from) count)) (other_index n from less (omega arith)) ∙ index_not_later n (suc from) count (omega arith) (omega arith)

indices_once : (from count : ℕ) → from + count ≤ 2 ^ 64 → has_twice (indices from count) ≡ false
indices_once from zero few = refl
indices_once from (suc count) few =
    ap (λ b. b || has_twice (indices (suc from) count)) (index_not_later from (suc from) count (omega arith) (omega arith)) ∙ indices_once (suc from) count (omega arith)

-- and from the parameters
digit_test : (c : ℕ) → digit_value c < 10 → is_ascii_digit c ≡ true
digit_test c h = grind (arith, nat_tests)

digits_pass : (ds : List ℕ) → AllDigits 10 ds → list_all is_ascii_digit ds ≡ true
digits_pass [] h = refl
digits_pass (d ∷ ds) h = and_from (is_ascii_digit d) (list_all is_ascii_digit ds) (digit_test d h.0) (digits_pass ds h.1)

numeral_index : (ds : List ℕ) → IsNumeral 10 ds → is_index_name (105 ∷ ds) ≡ true
numeral_index [] h = absurd (omega (arith, h.0))
numeral_index (d ∷ ds) h = digits_pass (d ∷ ds) h.1

index_is : (n : ℕ) → n < 2 ^ 64 → is_index_name (index_name n) ≡ true
index_is n few = numeral_index (decimal n) (decimal_is_IsNumeral_wide n (omega arith)).0

param_no_index : (x : List ℕ) (from count : ℕ) → is_index_name x ≡ false → from + count ≤ 2 ^ 64 → list_any (bytes_eq x) (indices from count) ≡ false
param_no_index x from zero is few = refl
param_no_index x from (suc count) is few =
    let differs : bytes_eq x (index_name from) ≡ false =
    not-true (bytes_eq x (index_name from)) (λ h. true≢false (sym (ap is_index_name (same_bytes x (index_name from) h) ∙ index_is from (omega arith)) ∙ is)) in
    ap (λ b. b || list_any (bytes_eq x) (indices (suc from) count)) differs ∙ param_no_index x (suc from) count is (omega arith)

pub columns_once : (params : Names) (count : ℕ) → has_twice params ≡ false → list_any is_index_name params ≡ false → count ≤ 2 ^ 64 → has_twice (columns params count) ≡ false
columns_once [] count once plain few = indices_once 0 count (omega arith)
columns_once (x ∷ params) count once plain few =
    let here = or-left (list_any (bytes_eq x) params) (has_twice params) once in
    let no_index = param_no_index x 0 count (or-left (is_index_name x) (list_any is_index_name params) plain) (omega arith) in
    let none : list_any (bytes_eq x) (columns params count) ≡ false =
    list_any-append (bytes_eq x) params (indices 0 count) ∙ (ap (λ b. b || list_any (bytes_eq x) (indices 0 count)) here ∙ no_index) in
    ap (λ b. b || has_twice (columns params count)) none
    ∙ columns_once params count (or-right (list_any (bytes_eq x) params) (has_twice params) once) (or-right (is_index_name x) (list_any is_index_name params) plain) few
