-- No line of a certificate has a line feed in it.
use Rattle.std.proofs.Common.{◌≡◌, ℕ, suc, ◌+◌, ◌<◌, ◌≤◌, ◌^◌, ℤ, pos, negsuc, true, List, [], ◌∷◌, ◌++◌, length, map, refl, inl, inr, arith}
use Rattle.std.specs.Prelude.{codes}
use Rattle.std.specs.Char.{is_ascii_digit}
use Rattle.std.specs.Fmt.{decimal, signed_decimal}
use Rattle.std.specs.List.{AllByRecursion, flat_map, list_all}
use Rattle.std.proofs.lemmas.Bool.{and_parts}
use Rattle.std.proofs.lemmas.Bool.Decides.{nat_tests}
use Rattle.std.proofs.lemmas.List.Elements.{recursion_from_All}
use Rattle.az_ast.specs.System.{System}
use Rattle.az_ast.specs.Writable.{IsWritable}
use Rattle.az_lin.specs.declared.step.Derivation.{Derivation}
use Rattle.az_lin.specs.declared.step.Step.{Step}
use Rattle.az_text.specs.Tokens.{AllAre, is_before_line_feed}
use Rattle.cert_text.specs.Lines.{which_line, case_line, case_lines, step_line, version_line, proved_lines, lines_of, IsOfProgram, IsNarrowName, IsSpelledStep, IsSpelledCase, IsSpelledProof, IsSpelled}
use Rattle.cert_text.specs.Versions.{IsVersion}
use Rattle.cert_text.specs.declared.certificate.Certificate.{Certificate}
use Rattle.cert_text.specs.declared.certificate.Proved.{Proved}
use Rattle.cert_read.proofs.Names.{name_in_line}
use Rattle.grammar_rules.specs.Lines.{IsLine}
use Rattle.grammar_rules.proofs.DecimalLaws.{decimal_plain}
use Rattle.line_fields.specs.Fields.{IsWide, spaced}
use Rattle.target_map.specs.Refusals.{name_of}
use Rattle.target_map.specs.declared.which.Which.{Which}
use Rattle.target_map.specs.declared.which.Which.TheVariants.{Order, Life, Keep}

abbrev Lines : Type 0
Lines = List (List ℕ)

line_by_test : (bytes : List ℕ) → list_all is_before_line_feed bytes ≡ true → IsLine bytes
line_by_test [] all = tt
line_by_test (b ∷ bytes) all = let both = and_parts (is_before_line_feed b) (list_all is_before_line_feed bytes) all in (both.0, line_by_test bytes both.1)

line_append : (xs ys : List ℕ) → IsLine xs → IsLine ys → IsLine (xs ++ ys)
line_append [] ys one two = two
line_append (x ∷ xs) ys one two = (one.0, line_append xs ys one.1 two)

line_spaced : (xs ys : List ℕ) → IsLine xs → IsLine ys → IsLine (spaced xs ys)
line_spaced xs ys one two = line_append xs (32 ∷ ys) one (refl, two)

digit_test : (b : ℕ) → is_ascii_digit b ≡ true → is_before_line_feed b ≡ true
digit_test b digit = grind (arith, nat_tests)

digits_line : (ds : List ℕ) → AllAre is_ascii_digit ds → IsLine ds
digits_line [] digits = tt
digits_line (d ∷ ds) digits = (digit_test d digits.0, digits_line ds digits.1)

decimal_line : (n : ℕ) → n < 2 ^ 128 → IsLine (decimal n)
decimal_line n small = digits_line (decimal n) (decimal_plain n small).digits

signed_line : (z : ℤ) → IsWide z → IsLine (signed_decimal z)
signed_line (pos n) wide = decimal_line n (omega (arith, wide))
signed_line (negsuc n) wide = (refl, decimal_line (suc n) (omega (arith, wide)))

step_is_line : (step : Step) → IsSpelledStep step → IsLine (step_line step)
step_is_line step fits =
    let i = fits.i in
    let j = fits.j in
    line_spaced (signed_decimal step.a) (spaced (decimal step.i) (spaced (signed_decimal step.b) (spaced (decimal step.j) (signed_decimal step.g)))) (signed_line step.a fits.a)
    (line_spaced (decimal step.i) (spaced (signed_decimal step.b) (spaced (decimal step.j) (signed_decimal step.g))) (decimal_line step.i (omega (arith, i)))
    (line_spaced (signed_decimal step.b) (spaced (decimal step.j) (signed_decimal step.g)) (signed_line step.b fits.b)
    (line_spaced (decimal step.j) (signed_decimal step.g) (decimal_line step.j (omega (arith, j))) (signed_line step.g fits.g))))

case_is_line : (n : ℕ) → n < 2 ^ 128 → IsLine (case_line n)
case_is_line n small = line_append (codes "case ") (decimal n) (line_by_test (codes "case ") refl) (decimal_line n small)

all_append : (xs ys : Lines) → AllByRecursion IsLine xs → AllByRecursion IsLine ys → AllByRecursion IsLine (xs ++ ys)
all_append [] ys one two = two
all_append (x ∷ xs) ys one two = (one.0, all_append xs ys one.1 two)

steps_are_lines : (steps : List Step) → AllByRecursion IsSpelledStep steps → AllByRecursion IsLine (map step_line steps)
steps_are_lines [] fits = tt
steps_are_lines (step ∷ steps) fits = (step_is_line step fits.0, steps_are_lines steps fits.1)

cases_are_lines : (n : ℕ) (derivations : List Derivation) → n + length derivations ≤ 2 ^ 32 → AllByRecursion IsSpelledCase derivations → AllByRecursion IsLine (case_lines n derivations)
cases_are_lines n [] few fits = tt
cases_are_lines n (d ∷ ds) few fits = (
  case_is_line n (omega (arith, few)),
  all_append (map step_line d.steps) (case_lines (suc n) ds) (steps_are_lines d.steps (recursion_from_All IsSpelledStep d.steps fits.0)) (cases_are_lines (suc n) ds (omega (arith, few)) fits.1),
)

module _ (p : System) (writable : IsWritable p) where
  name_is_line : (which : Which) → IsOfProgram p which → IsNarrowName which → IsLine (which_line p which)
  name_is_line (Order reader read) own narrow =
      line_append (codes "Order ") (spaced (name_of p reader) (decimal read)) (line_by_test (codes "Order ") refl)
      (line_spaced (name_of p reader) (decimal read) (name_in_line p writable reader own) (decimal_line read (omega (arith, narrow))))
  name_is_line (Life reader read writer) own narrow =
      line_append (codes "Life ") (spaced (name_of p reader) (spaced (decimal read) (name_of p writer))) (line_by_test (codes "Life ") refl)
      (line_spaced (name_of p reader) (spaced (decimal read) (name_of p writer)) (name_in_line p writable reader own.0)
      (line_spaced (decimal read) (name_of p writer) (decimal_line read (omega (arith, narrow))) (name_in_line p writable writer own.1)))
  name_is_line (Keep output writer) own narrow =
      line_append (codes "Keep ") (spaced (name_of p output) (name_of p writer)) (line_by_test (codes "Keep ") refl)
      (line_spaced (name_of p output) (name_of p writer) (name_in_line p writable output own.0) (name_in_line p writable writer own.1))

  proofs_are_lines : (proved : List Proved) → AllByRecursion (IsSpelledProof p) proved → AllByRecursion IsLine (flat_map (proved_lines p) proved)
  proofs_are_lines [] fits = tt
  proofs_are_lines (one ∷ proved) fits =
      let it = fits.0 in
      let few = it.few in (
        name_is_line one.which it.own it.narrow,
        all_append (case_lines 0 one.derivations) (flat_map (proved_lines p) proved) (cases_are_lines 0 one.derivations (omega (arith, few)) (recursion_from_All IsSpelledCase one.derivations it.cases))
            (proofs_are_lines proved fits.1),
      )

  version_is_line : (version : ℕ) → IsVersion version → IsLine (version_line version)
  version_is_line version is =
      line_append (codes "alphaz-certificate ") (decimal version) (line_by_test (codes "alphaz-certificate ") refl)
      (decimal_line version (elim is as (λ _. version < 2 ^ 128) [ inl one ↦ omega (arith, one) | inr two ↦ omega (arith, two) ]))

  pub are_lines : (certificate : Certificate) → IsSpelled p certificate → AllByRecursion IsLine (lines_of p certificate)
  are_lines certificate is = (version_is_line certificate.version is.version, proofs_are_lines certificate.proved (recursion_from_All (IsSpelledProof p) certificate.proved is.proved))
