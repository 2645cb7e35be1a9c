-- What is shown is a sentence: the grammar takes its lumps, they stand apart, and each text has one verdict.
use Rattle.std.proofs.Common.{◌≡◌, ℕ, zero, suc, ◌+◌, ◌-◌, ◌<◌, ◌/◌, ◌%◌, Bool, true, false, ◌||◌, List, [], ◌∷◌, ◌++◌, length, Ok, refl, sym, ap, subst, ◌∙◌, arith}
use Rattle.std.specs.Prelude.{◌==◌, if◌then◌else◌, bytes_eq, decimal, slice_get, unwrap_or}
use Rattle.std.specs.Char.{digit_value}
use Rattle.std.specs.Fmt.{digits, digits_onto, digit_glyph}
use Rattle.std.specs.List.{list_any, AllByRecursion}
use Rattle.std.specs.Str.Parse.{IsNumeral, AllDigits}
use Rattle.std.proofs.lemmas.Bool.Decides.{nat_tests}
use Rattle.az_ast.specs.System.{System}
use Rattle.az_text.specs.Lumps.{tokens_at}
use Rattle.az_text.specs.Tokens.{is_word_byte, AllAre, IsWord}
use Rattle.az_text.proofs.LumpLaws.{apart_read}
use Rattle.alphabets_show.specs.Shown as shown
use Rattle.alphabets_show.specs.Sides.{Names, index_name, indices, column_name}
use Rattle.grammar_rules.specs.Whole.{verdict}
use Rattle.grammar_rules.proofs.Within.{sentence_of}
use Rattle.program_grammar.specs.Grammar.{program}
use Rattle.program_grammar.specs.Readers.{read_program}
use Rattle.program_grammar.specs.Words.{reserved}
use Rattle.program_grammar.specs.Written.{IsName}
use Rattle.program_grammar.proofs.ProgramRules.{program_verdict}
use Rattle.show_grammar.specs.Showable.{IsShowableProgram, ShownIsASentence}
use Rattle.show_grammar.specs.WrittenOf.{written_of}
use Rattle.show_grammar.proofs.ExpressionApart.{program_spelled}
use Rattle.show_grammar.proofs.ProgramWithin.{program_within}
use Rattle.show_grammar.proofs.SideWithin.{AreNames}

-- the digits of a number
glyph_value : (d : ℕ) → d < 10 → digit_value (digit_glyph false d) < 10
glyph_value d few = grind (arith, nat_tests)

onto_digits : (k n : ℕ) (acc : List ℕ) → AllDigits 10 acc → AllDigits 10 (digits_onto k 10 false n acc)
onto_digits zero n acc h = h
onto_digits (suc k) n acc h =
    let here : AllDigits 10 (digit_glyph false (n % 10) ∷ acc) = (glyph_value (n % 10) (omega arith), h) in
    by (n / 10 == 0) here (onto_digits k (n / 10) (digit_glyph false (n % 10) ∷ acc) here)
  where
    by : (b : Bool) → AllDigits 10 (digit_glyph false (n % 10) ∷ acc) → AllDigits 10 (digits_onto k 10 false (n / 10) (digit_glyph false (n % 10) ∷ acc))
        → AllDigits 10 (if b then digit_glyph false (n % 10) ∷ acc else digits_onto k 10 false (n / 10) (digit_glyph false (n % 10) ∷ acc))
    by true here rest = here
    by false here rest = rest

onto_some : (k n d : ℕ) (acc : List ℕ) → 0 < length (digits_onto k 10 false n (d ∷ acc))
onto_some zero n d acc = omega arith
onto_some (suc k) n d acc = by (n / 10 == 0) (onto_some k (n / 10) (digit_glyph false (n % 10)) (d ∷ acc))
  where
    by : (b : Bool) → 0 < length (digits_onto k 10 false (n / 10) (digit_glyph false (n % 10) ∷ d ∷ acc))
        → 0 < length (if b then digit_glyph false (n % 10) ∷ d ∷ acc else digits_onto k 10 false (n / 10) (digit_glyph false (n % 10) ∷ d ∷ acc))
    by true rest = omega arith
    by false rest = rest

first_some : (k n : ℕ) → 0 < length (digits_onto (suc k) 10 false n [])
first_some k n = by (n / 10 == 0)
  where
    by : (b : Bool) → 0 < length (if b then digit_glyph false (n % 10) ∷ [] else digits_onto k 10 false (n / 10) (digit_glyph false (n % 10) ∷ []))
    by true = omega arith
    by false = onto_some k (n / 10) (digit_glyph false (n % 10)) []

numeral : (n : ℕ) → IsNumeral 10 (decimal n)
unfolding digits
numeral n = (first_some 63 n, onto_digits 64 n [] tt)

-- names of indices
word_digit : (d : ℕ) → digit_value d < 10 → is_word_byte d ≡ true
word_digit d h = grind (arith, nat_tests)

word_digits : (ds : List ℕ) → AllDigits 10 ds → AllAre is_word_byte ds
word_digits [] h = tt
word_digits (d ∷ ds) h = (word_digit d h.0, word_digits ds h.1)

-- of the reserved words that begin with an i, the second letter is no digit
not_n : (d : ℕ) → digit_value d < 10 → (d == 110) ≡ false
not_n d h = grind (arith, nat_tests)

unreserved : (d : ℕ) (ds : List ℕ) → (d == 110) ≡ false → list_any (bytes_eq (105 ∷ d ∷ ds)) reserved ≡ false
unreserved d ds differs = rw differs refl

numeral_name : (ds : List ℕ) → IsNumeral 10 ds → IsName (105 ∷ ds)
numeral_name [] h = absurd (omega (arith, h.0))
numeral_name (d ∷ ds) h = ((refl, word_digits (d ∷ ds) h.1), unreserved d ds (not_n d h.1.0))

index_named : (n : ℕ) → IsName (index_name n)
index_named n = numeral_name (decimal n) (numeral n)

pub indices_named : (from count : ℕ) → AllByRecursion IsName (indices from count)
indices_named from zero = tt
indices_named from (suc count) = (index_named from, indices_named (suc from) count)

pub name_behind : (x : List ℕ) (params : Names) (column : ℕ) → column_name (x ∷ params) (suc column) ≡ column_name params column
name_behind x params column =
    let same : suc column - suc (length params) ≡ column - length params = omega arith in
    ap (λ (n : ℕ). unwrap_or (slice_get params column) (index_name n)) same

pub columns_named : (params : Names) → AllByRecursion IsName params → AreNames params
columns_named [] is column = index_named (column - 0)
columns_named (x ∷ params) is zero = is.0
columns_named (x ∷ params) is (suc column) = subst IsName (sym (name_behind x params column)) (columns_named params is.1 column)

-- The lumps are taken, and read from their bytes.
pub shown_is_a_sentence : ShownIsASentence
shown_is_a_sentence p is =
    let lumps = shown.program p in
    let named = columns_named p.params is.params in
    let w = program_within p is named indices_named in
    let ts = tokens_at 0 lumps in
    (ts, apart_read 0 lumps (program_spelled p is named indices_named [] tt), sentence_of program 0 ts w.weight (written_of p) (verdict (read_program 0 ts)) (program_verdict ts) (w.taken 0) w.light)
