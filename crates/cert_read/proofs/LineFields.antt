-- What the fields of a line are that was cut at its first field.
use Rattle.std.proofs.Common.{◌≡◌, ℕ, ◌<◌, ℤ, Bool, true, false, List, ◌++◌, length, get_or, Some, None, sym, subst, inl, inr, ◌∙◌, arith}
use Rattle.std.specs.Prelude.{codes, nat_lt, position}
use Rattle.std.specs.Fmt.{decimal, signed_decimal}
use Rattle.std.specs.List.{position_or_len}
use Rattle.std.specs.Str.{bytes_eq}
use Rattle.std.proofs.lemmas.Bool.{cases_lt, cond-true}
use Rattle.std.proofs.lemmas.Bool.Decides.{nat_tests}
use Rattle.std.proofs.lemmas.Fmt.{decimal_injective}
use Rattle.std.proofs.lemmas.List.{append_cancel_left}
use Rattle.std.proofs.lemmas.List.Quantifiers.{position-Some}
use Rattle.std.proofs.lemmas.List.Sums.{fails_before_first}
use Rattle.std.proofs.lemmas.Option.{get_or_from_slice_get}
use Rattle.std.proofs.lemmas.Slice.Eq.{bytes_eq-Decides}
use Rattle.az_ast.specs.System.{System}
use Rattle.az_ast.specs.Writable.{IsWritable}
use Rattle.az_ast.specs.declared.program.Variable.{Variable}
use Rattle.cert_text.specs.Lines.{version_line}
use Rattle.cert_text.specs.Versions.{IsVersion}
use Rattle.cert_read.proofs.Names.{at_place, named, name_in_word}
use Rattle.line_fields.specs.Fields.{IsWide, IsWord, spaced, FieldsAreOne}
use Rattle.cert_read.proofs.NumberFields.{integer_fields, natural_fields}
use Rattle.target_map.specs.Refusals.{name_of}

-- the word is the name, and the rest is what stands behind it
pub first_name : (p : System) → IsWritable p → FieldsAreOne → (front line fields word rest tail : List ℕ) (x : ℕ) → line ≡ front ++ fields → IsWord word → fields ≡ spaced word rest → x < length p.variables
    → line ≡ front ++ spaced (name_of p x) tail → (word ≡ name_of p x) × (rest ≡ tail)
first_name p writable fields_are_one front line fields word rest tail x begins is split within spelled =
    let inner : fields ≡ spaced (name_of p x) tail = append_cancel_left front fields (spaced (name_of p x) tail) (sym begins ∙ spelled) in
    fields_are_one word (name_of p x) rest tail is (name_in_word p writable x within) (sym split ∙ inner)

-- the weight and the number of a row, and what stands behind them
pub pair_fields : (w y : ℤ) (r s : ℕ) (rest later : List ℕ) → IsWide w → r < 4294967296 → IsWide y → s < 4294967296
    → spaced (signed_decimal w) (spaced (decimal r) rest) ≡ spaced (signed_decimal y) (spaced (decimal s) later) → rest ≡ later
pair_fields w y r s rest later wide small low few same =
    let weights = integer_fields w y (spaced (decimal r) rest) (spaced (decimal s) later) wide low same in
    (natural_fields r s rest later small few weights.1).1

pub same_version_digits : (line digits : List ℕ) (given version : ℕ) → line ≡ codes "alphaz-certificate " ++ digits → given < 4294967296 → digits ≡ decimal given → IsVersion version → line ≡ version_line version → given ≡ version
same_version_digits line digits given version begins small is told spelled =
    let low : version < 3 = elim told as (λ _. version < 3) [ inl one ↦ omega (arith, one) | inr two ↦ omega (arith, two) ] in
    let inner : digits ≡ decimal version = append_cancel_left (codes "alphaz-certificate ") digits (decimal version) (sym begins ∙ spelled) in
    decimal_injective given version (omega (arith, small)) (omega (arith, low)) (sym is ∙ inner)

module _ (p : System) (name : List ℕ) where
  abbrev Test : Variable → Bool
  Test v = bytes_eq v.name name

  pub found_name : (x : ℕ) → x < length p.variables → position Test p.variables ≡ Some x → name ≡ name_of p x
  found_name x within found =
      let here = at_place p.variables x within in
      let v = here.0 in
      let got : get_or p.variables x v ≡ v = get_or_from_slice_get p.variables x v v here.1 in
      let passes : bytes_eq v.name name ≡ true = subst (λ (w : Variable). bytes_eq w.name name ≡ true) got (position-Some Test p.variables x v found).1 in
      sym (named p x v here.1 ∙ (bytes_eq-Decides v.name name).0 passes)

  pub no_name : position Test p.variables ≡ None → (x : ℕ) → x < length p.variables → name ≡ name_of p x → ⊥
  no_name none x within same =
      let k = position_or_len Test p.variables in
      let here = at_place p.variables x within in
      let v = here.0 in
      let got : get_or p.variables x v ≡ v = get_or_from_slice_get p.variables x v v here.1 in
      let equal : bytes_eq v.name name ≡ true = (bytes_eq-Decides v.name name).1 (sym (same ∙ named p x v here.1)) in
      elim (cases_lt k (length p.variables)) as (λ _. ⊥) [
        | inl below ↦
            let passes : nat_lt k (length p.variables) ≡ true = grind (arith, nat_tests) in
            let some : Some k ≡ None = sym (cond-true (nat_lt k (length p.variables)) (Some k) None passes) ∙ none in
            cc
        | inr past ↦
            let fails : bytes_eq (get_or p.variables x v).name name ≡ false = fails_before_first Test p.variables x v (omega (arith, past, within)) in
            let never : bytes_eq v.name name ≡ false = subst (λ (w : Variable). bytes_eq w.name name ≡ false) got fails in
            cc
      ]
