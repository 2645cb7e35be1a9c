-- From the proofs that were read to what the text is.
use Rattle.std.proofs.Common.{◌≡◌, ◌≢◌, ℕ, zero, suc, ◌+◌, ◌<◌, ◌≤◌, List, [], ◌∷◌, ◌++◌, length, take, drop, get_or, All, Result, Ok, Err, refl, sym, ap, subst, inl, inr, ◌∙◌, append-nil, add-one, drop-cons, arith}
use Rattle.std.specs.Prelude.{◌⊎◌, codes}
use Rattle.std.specs.Fmt.{decimal}
use Rattle.std.specs.List.{AllByRecursion, flat_map}
use Rattle.std.proofs.lemmas.Bool.{cases_lt}
use Rattle.std.proofs.lemmas.Fmt.{decimal_injective}
use Rattle.std.proofs.lemmas.List.{append_cancel_left, append_cancel_right, take-append-drop, take_more}
use Rattle.std.proofs.lemmas.List.Elements.{recursion_from_All}
use Rattle.az_ast.specs.Shapes.{IsProgram}
use Rattle.az_ast.specs.System.{System}
use Rattle.az_ast.specs.Writable.{IsWritable}
use Rattle.az_lin.specs.declared.step.Derivation.{Derivation}
use Rattle.cert_text.specs.Answers.{AreLines, IsFirstBadLine, ReadsOnly}
use Rattle.cert_read.specs.Inner.Found.{IsSomeVersion}
use Rattle.cert_read.specs.Inner.Groups.{Begins, IsTaken, AreProofs, GoesOn}
use Rattle.cert_text.specs.Lines.{version_line, proved_lines, lines_of, text_of, IsSpelledStep, IsSpelledCase, IsSpelledProof, IsSpelled}
use Rattle.cert_text.specs.Versions.{IsVersion}
use Rattle.cert_text.specs.declared.certificate.Certificate.{Certificate}
use Rattle.cert_text.specs.declared.certificate.Proved.{Proved}
use Rattle.cert_text.specs.declared.fault.CertFault.{CertFault}
use Rattle.cert_text.specs.declared.fault.CertFault.TheVariants.{Memory}
use Rattle.cert_read.specs.declared.groups.Proofs.{Proofs}
use Rattle.cert_read.proofs.LineBytes.{are_lines}
use Rattle.cert_read.proofs.OneReading.{heads, tails, IsSpelledOne, AreSpelledCases, same_proofs}
use Rattle.line_fields.specs.Fields.{FieldsAreOne}
use Rattle.grammar_rules.specs.Lines.{joined, IsCut}
use Rattle.grammar_rules.proofs.LineLaws.{lines_are_one}

abbrev Lines : Type 0
Lines = List (List ℕ)

small_version : (version : ℕ) → IsVersion version → version < 3
small_version version is = elim is as (λ _. version < 3) [ inl one ↦ omega (arith, one) | inr two ↦ omega (arith, two) ]

same_version : (v w : ℕ) → IsVersion v → IsVersion w → version_line v ≡ version_line w → v ≡ w
same_version v w is at same =
    let a = small_version v is in
    let b = small_version w at in
    decimal_injective v w (omega (arith, a)) (omega (arith, b)) (append_cancel_left (codes "alphaz-certificate ") (decimal v) (decimal w) same)

nothing_left : (lines : Lines) (end : ℕ) → length lines ≤ end → drop end lines ≡ []
nothing_left [] zero past = refl
nothing_left [] (suc end) past = refl
nothing_left (x ∷ lines) zero past = absurd (omega (arith, past))
nothing_left (x ∷ lines) (suc end) past = nothing_left lines end (omega (arith, past))

cases_by_recursion : (derivations : List Derivation) → AllByRecursion IsSpelledCase derivations → AreSpelledCases derivations
cases_by_recursion [] fits = tt
cases_by_recursion (d ∷ ds) fits = (recursion_from_All IsSpelledStep d.steps fits.0, cases_by_recursion ds fits.1)

abbrev pub made : ℕ → List Proved → Certificate
made v ps = record { version = v; proved = ps }

module _ (p : System) (rules : IsProgram p) (writable : IsWritable p) (law : FieldsAreOne) where
  abbrev flat : List Proved → Lines
  flat = flat_map (proved_lines p)

  ones : (ps : List Proved) → AllByRecursion (IsSpelledProof p) ps → AllByRecursion (IsSpelledOne p) ps
  ones [] fits = tt
  ones (one ∷ ps) fits =
      let it = fits.0 in
      let few = it.few in (
        record {
          name = record { own = it.own; narrow = it.narrow; spelled = refl };
          few = omega (arith, few);
          cases = cases_by_recursion one.derivations (recursion_from_All IsSpelledCase one.derivations it.cases);
        },
        ones ps fits.1,
      )

  all_ones : (ps : List Proved) → All (IsSpelledProof p) ps → AllByRecursion (IsSpelledOne p) ps
  all_ones ps fits = ones ps (recursion_from_All (IsSpelledProof p) ps fits)

  -- a certificate whose lines begin as those read, where they can't go on, is the one that was read
  one_certificate : (v : ℕ) (ps : List Proved) (tail : Lines) (c : Certificate) → IsVersion v → All (IsSpelledProof p) ps → (Begins (GoesOn p ps) tail → ⊥) → IsSpelled p c
      → version_line v ∷ (flat ps ++ tail) ≡ lines_of p c → (made v ps ≡ c) × (tail ≡ [])
  one_certificate v ps tail c is fits stops spelled same =
      let first : version_line v ≡ version_line c.version = heads (version_line v) (version_line c.version) (flat ps ++ tail) (flat c.proved) same in
      let behind : flat ps ++ tail ≡ flat c.proved = tails (version_line v) (version_line c.version) (flat ps ++ tail) (flat c.proved) same in
      let version : v ≡ c.version = same_version v c.version is spelled.version first in
      elim (same_proofs p rules writable law ps c.proved tail (all_ones ps fits) (all_ones c.proved spelled.proved) behind) as (λ _. (made v ps ≡ c) × (tail ≡ [])) [
        | inl both ↦ (ap (λ (x : ℕ). made x ps) version ∙ ap (λ (qs : List Proved). made c.version qs) both.0, both.1)
        | inr begins ↦ absurd (stops begins)
      ]

  no_version_line : (lines : Lines) (rest : List ℕ) → (Begins IsSomeVersion lines → ⊥)
      → ((0 < length lines) × (¬ AreLines p (take 1 lines))) ⊎ ((0 ≡ length lines) × ((rest ≢ []) ⊎ (lines ≡ [])))
  no_version_line [] rest stops = inr (refl, inr refl)
  no_version_line (x ∷ lines) rest stops =
      inl (omega arith, λ are. (let first : x ≡ version_line are.0.version = heads x (version_line are.0.version) [] (flat are.0.proved) are.2 in let spelled = are.1 in stops (are.0.version, record { known = spelled.version; spelled = first })))

  module _ (text : List ℕ) (lines : Lines) (rest : List ℕ) (cut : IsCut text lines rest) where
    pub no_version : (Begins IsSomeVersion lines → ⊥) → IsFirstBadLine p text 1
    no_version stops = record { before = 0; lines = lines; rest = rest; cut = cut; number_is = refl; front = inl refl; outside = no_version_line lines rest stops }

    -- a text of a certificate has its lines
    has_lines : (c : Certificate) → IsSpelled p c → text ≡ text_of p c → (lines ≡ lines_of p c) × (rest ≡ [])
    has_lines c spelled same =
        lines_are_one text lines (lines_of p c) rest [] cut (record { whole = same ∙ sym (append-nil (text_of p c)); ended = are_lines p writable c spelled; unended = tt })

    pub no_version_only : (Begins IsSomeVersion lines → ⊥) → (result : Result Certificate CertFault) → ReadsOnly p text result
    no_version_only stops result = λ c spelled same.
        let has = has_lines c spelled same in
        absurd (stops (subst (Begins IsSomeVersion) (sym has.0) (c.version, record { known = spelled.version; spelled = refl })))

    module _ (v : ℕ) (version : IsVersion v) (front : IsTaken lines 0 (version_line v)) (found : Proofs) (are : AreProofs p lines 1 found) where
      abbrev read : Certificate
      read = made v found.proved

      whole : lines ≡ version_line v ∷ (flat found.proved ++ drop found.end lines)
      whole = let taken = are.taken in front.first ∙ ap (λ (behind : Lines). version_line v ∷ behind) taken.whole

      read_spelled : IsSpelled p read
      read_spelled = record { version = version; proved = are.spelled }

      before_end : take found.end lines ≡ lines_of p read
      before_end = append_cancel_right (take found.end lines) (lines_of p read) (drop found.end lines) (take-append-drop found.end lines ∙ whole)

      bad_here : found.end < length lines → ¬ AreLines p (take (suc found.end) lines)
      bad_here within = λ these.
          let end = found.end in
          let bad : List ℕ = get_or lines end [] in
          let here : drop end lines ≡ bad ∷ drop (suc end) lines = drop-cons lines end [] within in
          let stops : Begins (GoesOn p found.proved) (bad ∷ []) → ⊥ = λ begins. are.stops (subst (Begins (GoesOn p found.proved)) (sym here) begins) in
          let more : take (suc end) lines ≡ take end lines ++ bad ∷ [] = ap (λ (n : ℕ). take n lines) (sym (add-one end)) ∙ take_more lines end [] within in
          let same : version_line v ∷ (flat found.proved ++ bad ∷ []) ≡ lines_of p these.0 = sym (more ∙ ap (λ (xs : Lines). xs ++ bad ∷ []) before_end) ∙ these.2 in
          let none : bad ∷ [] ≡ [] = (one_certificate v found.proved (bad ∷ []) these.0 version are.spelled stops these.1 same).1 in
          cc

      not_at_end : ((length lines ≤ found.end) × (rest ≡ []) → ⊥) → (found.end < length lines) ⊎ (rest ≢ [])
      not_at_end more = elim (cases_lt found.end (length lines)) as (λ _. (found.end < length lines) ⊎ (rest ≢ [])) [
        | inl within ↦ inl within
        | inr past ↦ inr (λ ended. more (omega (arith, past), ended))
      ]

      pub bad_line : ((length lines ≤ found.end) × (rest ≡ []) → ⊥) → IsFirstBadLine p text (found.end + 1)
      bad_line more =
          let ends = not_at_end more in
          let taken = are.taken in
          let most = taken.within in
          record {
            before = found.end;
            lines = lines;
            rest = rest;
            cut = cut;
            number_is = add-one found.end;
            front = inr (read, read_spelled, before_end);
            outside =
                elim (cases_lt found.end (length lines)) as (λ _. ((found.end < length lines) × (¬ AreLines p (take (suc found.end) lines))) ⊎ ((found.end ≡ length lines) × ((rest ≢ []) ⊎ (lines ≡ [])))) [
                  | inl within ↦ inl (within, bad_here within)
                  | inr past ↦ elim ends as (λ _. ((found.end < length lines) × (¬ AreLines p (take (suc found.end) lines))) ⊎ ((found.end ≡ length lines) × ((rest ≢ []) ⊎ (lines ≡ [])))) [
                    | inl within ↦ inl (within, bad_here within)
                    | inr left ↦ inr (omega (arith, past, most), inl left)
                  ]
                ];
          }

      pub read_whole : (length lines ≤ found.end) × (rest ≡ []) → IsSpelled p read × (text ≡ text_of p read)
      read_whole ended =
          let all : lines ≡ lines_of p read = whole ∙ ap (λ (tail : Lines). version_line v ∷ (flat found.proved ++ tail)) (nothing_left lines found.end ended.0) ∙ ap (λ (behind : Lines). version_line v ∷ behind) (append-nil (flat found.proved)) in
          (read_spelled, cut.whole ∙ ap (λ (tail : List ℕ). joined lines ++ tail) ended.1 ∙ append-nil (joined lines) ∙ ap joined all)

      read_only : (c : Certificate) → IsSpelled p c → text ≡ text_of p c → (read ≡ c) × (drop found.end lines ≡ []) × (rest ≡ [])
      read_only c spelled same =
          let has = has_lines c spelled same in
          let one = one_certificate v found.proved (drop found.end lines) c version are.spelled are.stops spelled (sym whole ∙ has.0) in
          (one.0, one.1, has.1)

      pub bad_only : ((length lines ≤ found.end) × (rest ≡ []) → ⊥) → (result : Result Certificate CertFault) → ReadsOnly p text result
      bad_only more result = λ c spelled same.
          let ends = not_at_end more in
          let only = read_only c spelled same in
          elim ends as (λ _. (result ≡ Ok c) ⊎ (result ≡ Err Memory)) [
            | inl within ↦ (let none : get_or lines found.end [] ∷ drop (suc found.end) lines ≡ [] = sym (drop-cons lines found.end [] within) ∙ only.1 in absurd (cc))
            | inr left ↦ absurd (left only.2)
          ]

      pub whole_only : (result : Result Certificate CertFault) → result ≡ Ok read → ReadsOnly p text result
      whole_only result is = λ c spelled same. inl (is ∙ ap Ok (read_only c spelled same).0)
