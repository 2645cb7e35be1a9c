-- The lines of a certificate that begin as those that were read are these and no others, or go on behind them.
use Rattle.std.proofs.Common.{◌≡◌, ℕ, suc, ◌+◌, ◌<◌, ◌≤◌, List, [], ◌∷◌, ◌++◌, length, map, refl, sym, ap, subst, inl, inr, ◌∙◌, append_assoc, arith}
use Rattle.std.specs.Prelude.{◌⊎◌}
use Rattle.std.specs.List.{AllByRecursion, flat_map}
use Rattle.az_ast.specs.Shapes.{IsProgram}
use Rattle.az_ast.specs.System.{System}
use Rattle.az_ast.specs.Writable.{IsWritable}
use Rattle.az_lin.specs.declared.step.Derivation.{Derivation}
use Rattle.az_lin.specs.declared.step.Step.{Step}
use Rattle.cert_read.specs.Inner.Found.{IsNameLine, IsCaseLine, IsSomeName, IsSomeStep}
use Rattle.cert_read.specs.Inner.Groups.{Begins, GoesOnCases, GoesOn}
use Rattle.cert_text.specs.Lines.{which_line, case_line, case_lines, step_line, proved_lines, IsSpelledStep}
use Rattle.cert_text.specs.declared.certificate.Proved.{Proved}
use Rattle.line_fields.specs.Fields.{FieldsAreOne}
use Rattle.target_map.specs.declared.which.Which.{Which}
use Rattle.cert_read.proofs.LineKinds.{name_no_case, name_no_step, case_no_step, one_step, one_name}

abbrev Lines : Type 0
Lines = List (List ℕ)

-- what the first line is, another list that is the same has too
begins_same : (P : List ℕ → Type 0) (xs ys : Lines) → xs ≡ ys → Begins P ys → Begins P xs
begins_same P xs ys same begins = subst (Begins P) (sym same) begins

pub heads : (x y : List ℕ) (xs ys : Lines) → x ∷ xs ≡ y ∷ ys → x ≡ y
heads x y xs ys same = cc

pub tails : (x y : List ℕ) (xs ys : Lines) → x ∷ xs ≡ y ∷ ys → xs ≡ ys
tails x y xs ys same = cc

-- spelled, by recursion
abbrev pub AreSpelledSteps : List Step → Type 0
AreSpelledSteps = AllByRecursion IsSpelledStep

abbrev pub AreSpelledCases : List Derivation → Type 0
AreSpelledCases = AllByRecursion (λ derivation. AreSpelledSteps derivation.steps)

same_steps : (ss ts : List Step) (rest later : Lines) → AreSpelledSteps ss → AreSpelledSteps ts → (Begins IsSomeStep later → ⊥) → map step_line ss ++ rest ≡ map step_line ts ++ later
    → ((ss ≡ ts) × (rest ≡ later)) ⊎ Begins IsSomeStep rest
same_steps [] [] rest later p q stops same = inl (refl, same)
same_steps [] (t ∷ ts) rest later p q stops same = inr (begins_same IsSomeStep rest (step_line t ∷ (map step_line ts ++ later)) same (t, record { fits = q.0; spelled = refl }))
same_steps (s ∷ ss) [] rest later p q stops same =
    absurd (stops (begins_same IsSomeStep later (step_line s ∷ (map step_line ss ++ rest)) (sym same) (s, record { fits = p.0; spelled = refl })))
same_steps (s ∷ ss) (t ∷ ts) rest later p q stops same =
    let first : step_line s ≡ step_line t = heads (step_line s) (step_line t) (map step_line ss ++ rest) (map step_line ts ++ later) same in
    let one : s ≡ t = one_step (step_line s) s t (record { fits = p.0; spelled = refl }) (record { fits = q.0; spelled = first }) in
    let further = same_steps ss ts rest later p.1 q.1 stops (tails (step_line s) (step_line t) (map step_line ss ++ rest) (map step_line ts ++ later) same) in
    elim further as (λ _. (((s ∷ ss) ≡ (t ∷ ts)) × (rest ≡ later)) ⊎ Begins IsSomeStep rest) [
      | inl both ↦ inl (let steps : ss ≡ ts = both.0 in let all : (s ∷ ss) ≡ (t ∷ ts) = cc in all, both.1)
      | inr begins ↦ inr begins
    ]

-- a case, whatever its number
abbrev IsSomeCase : List ℕ → Type 0
IsSomeCase line = (number : ℕ) × IsCaseLine number line

case_here : (n : ℕ) → n < 4294967296 → IsCaseLine n (case_line n)
case_here n small = record { narrow = omega (arith, small); spelled = refl }

-- no step follows where a case begins or the lines of cases end so
no_step_first : (n : ℕ) (ds : List Derivation) (later : Lines) → n + length ds ≤ 4294967296 → (Begins IsSomeStep later → ⊥) → Begins IsSomeStep (case_lines n ds ++ later) → ⊥
no_step_first n [] later few stops begins = stops begins
no_step_first n (d ∷ ds) later few stops begins = case_no_step n (case_line n) begins.0 (case_here n (omega (arith, few))) begins.1

-- one case in front of others
case_front : (n : ℕ) (d : Derivation) (ds : List Derivation) (rest : Lines) → case_lines n (d ∷ ds) ++ rest ≡ case_line n ∷ (map step_line d.steps ++ (case_lines (suc n) ds ++ rest))
case_front n d ds rest = ap (λ (lines : Lines). case_line n ∷ lines) (append_assoc (map step_line d.steps) (case_lines (suc n) ds) rest)

goes_on_behind : (n : ℕ) (d : Derivation) (ds : List Derivation) (line : List ℕ) → GoesOnCases (suc n) ds line → GoesOnCases n (d ∷ ds) line
goes_on_behind n d ds line goes = elim goes as (λ _. GoesOnCases n (d ∷ ds) line) [
  | inl case ↦ inl (let count : suc n + length ds ≡ n + suc (length ds) = omega arith in subst (λ (k : ℕ). IsCaseLine k line) count case)
  | inr step ↦ inr (omega arith, step.1)
]

begins_more : (P Q : List ℕ → Type 0) (lines : Lines) → ((line : List ℕ) → P line → Q line) → Begins P lines → Begins Q lines
begins_more P Q [] more begins = begins
begins_more P Q (line ∷ lines) more begins = more line begins

-- a step behind the steps of a case, where the cases go on
step_behind : (n : ℕ) (d : Derivation) (ds : List Derivation) (rest : Lines) → suc n + length ds ≤ 4294967296 → Begins IsSomeStep (case_lines (suc n) ds ++ rest) → Begins (GoesOnCases n (d ∷ ds)) rest
step_behind n d [] rest few begins = begins_more IsSomeStep (GoesOnCases n (d ∷ [])) rest (λ line step. inr (omega arith, step)) begins
step_behind n d (e ∷ ds) rest few begins = absurd (case_no_step (suc n) (case_line (suc n)) begins.0 (case_here (suc n) (omega (arith, few))) begins.1)

same_cases : (n : ℕ) (ds es : List Derivation) (rest later : Lines) → AreSpelledCases ds → AreSpelledCases es → n + length ds ≤ 4294967296 → n + length es ≤ 4294967296
    → (Begins IsSomeCase later → ⊥) → (Begins IsSomeStep later → ⊥) → case_lines n ds ++ rest ≡ case_lines n es ++ later → ((ds ≡ es) × (rest ≡ later)) ⊎ Begins (GoesOnCases n ds) rest
same_cases n [] [] rest later p q few less no_case no_step same = inl (refl, same)
same_cases n [] (e ∷ es) rest later p q few less no_case no_step same =
    let zero_more : n + 0 ≡ n = omega arith in
    let here : IsCaseLine (n + 0) (case_line n) = subst (λ (k : ℕ). IsCaseLine k (case_line n)) (sym zero_more) (case_here n (omega (arith, less))) in
    inr (begins_same (GoesOnCases n []) rest (case_line n ∷ (map step_line e.steps ++ (case_lines (suc n) es ++ later))) (same ∙ case_front n e es later) (inl here))
same_cases n (d ∷ ds) [] rest later p q few less no_case no_step same =
    absurd (no_case (begins_same IsSomeCase later (case_line n ∷ (map step_line d.steps ++ (case_lines (suc n) ds ++ rest))) (sym same ∙ case_front n d ds rest) (n, case_here n (omega (arith, few)))))
same_cases n (d ∷ ds) (e ∷ es) rest later p q few less no_case no_step same =
    let mine : Lines = case_lines (suc n) ds ++ rest in
    let theirs : Lines = case_lines (suc n) es ++ later in
    let whole : case_line n ∷ (map step_line d.steps ++ mine) ≡ case_line n ∷ (map step_line e.steps ++ theirs) = sym (case_front n d ds rest) ∙ same ∙ case_front n e es later in
    let behind = tails (case_line n) (case_line n) (map step_line d.steps ++ mine) (map step_line e.steps ++ theirs) whole in
    let few' : suc n + length ds ≤ 4294967296 = omega (arith, few) in
    let less' : suc n + length es ≤ 4294967296 = omega (arith, less) in
    let steps = same_steps d.steps e.steps mine theirs p.0 q.0 (no_step_first (suc n) es later less' no_step) behind in
    elim steps as (λ _. (((d ∷ ds) ≡ (e ∷ es)) × (rest ≡ later)) ⊎ Begins (GoesOnCases n (d ∷ ds)) rest) [
      | inl both ↦ elim (same_cases (suc n) ds es rest later p.1 q.1 few' less' no_case no_step both.1) as (λ _. (((d ∷ ds) ≡ (e ∷ es)) × (rest ≡ later)) ⊎ Begins (GoesOnCases n (d ∷ ds)) rest) [
        | inl further ↦ inl (
          let D : List Step → Derivation = λ these. record { steps = these } in
              let one : d ≡ e = ap D both.0 in
              let others : ds ≡ es = further.0 in
              let all : (d ∷ ds) ≡ (e ∷ es) = cc in
              all,
          further.1,
        )
        | inr begins ↦ inr (begins_more (GoesOnCases (suc n) ds) (GoesOnCases n (d ∷ ds)) rest (goes_on_behind n d ds) begins)
      ]
      | inr begins ↦ inr (step_behind n d ds rest few' begins)
    ]

-- the same of proofs
pub record IsSpelledOne (p : System) (proved : Proved) : Type 0 where
  pub name : IsNameLine p proved.which (which_line p proved.which)
  pub few : length proved.derivations ≤ 4294967296
  pub cases : AreSpelledCases proved.derivations

module _ (p : System) (rules : IsProgram p) (writable : IsWritable p) (law : FieldsAreOne) where
  abbrev flat : List Proved → Lines
  flat = flat_map (proved_lines p)

  name_here : (proved : Proved) → IsSpelledOne p proved → IsSomeName p (which_line p proved.which)
  name_here proved is = (proved.which, is.name)

  no_case_first : (qs : List Proved) → AllByRecursion (IsSpelledOne p) qs → Begins IsSomeCase (flat qs) → ⊥
  no_case_first [] is begins = begins
  no_case_first (q ∷ qs) is begins = let one = is.0 in name_no_case p q.which (which_line p q.which) one.name begins.0 begins.1

  no_step_at : (qs : List Proved) → AllByRecursion (IsSpelledOne p) qs → Begins IsSomeStep (flat qs) → ⊥
  no_step_at [] is begins = begins
  no_step_at (q ∷ qs) is begins = let one = is.0 in name_no_step p q.which (which_line p q.which) one.name begins.0 begins.1

  proof_front : (one : Proved) (ps : List Proved) (rest : Lines) → flat (one ∷ ps) ++ rest ≡ which_line p one.which ∷ (case_lines 0 one.derivations ++ (flat ps ++ rest))
  proof_front one ps rest = ap (λ (lines : Lines). which_line p one.which ∷ lines) (append_assoc (case_lines 0 one.derivations) (flat ps) rest)

  -- a line that goes on behind the cases of a proof, where the proofs go on
  cases_behind : (one : Proved) (ps : List Proved) (rest : Lines) → AllByRecursion (IsSpelledOne p) ps → Begins (GoesOnCases 0 one.derivations) (flat ps ++ rest) → Begins (GoesOn p (one ∷ ps)) rest
  cases_behind one [] rest is begins = begins_more (GoesOnCases 0 one.derivations) (GoesOn p (one ∷ [])) rest (λ line goes. inr goes) begins
  cases_behind one (q ∷ ps) rest is begins =
      let it = is.0 in
      elim begins as (λ _. Begins (GoesOn p (one ∷ q ∷ ps)) rest) [
        | inl case ↦ absurd (name_no_case p q.which (which_line p q.which) it.name (0 + length one.derivations) case)
        | inr step ↦ absurd (name_no_step p q.which (which_line p q.which) it.name step.1.0 step.1.1)
      ]

  goes_behind : (one : Proved) (ps : List Proved) (line : List ℕ) → GoesOn p ps line → GoesOn p (one ∷ ps) line
  goes_behind one [] line goes = elim goes as (λ _. GoesOn p (one ∷ []) line) [
    | inl name ↦ inl name
    | inr never ↦ absurd never
  ]
  goes_behind one (q ∷ ps) line goes = goes

  pub same_proofs : (ps qs : List Proved) (rest : Lines) → AllByRecursion (IsSpelledOne p) ps → AllByRecursion (IsSpelledOne p) qs → flat ps ++ rest ≡ flat qs
      → ((ps ≡ qs) × (rest ≡ [])) ⊎ Begins (GoesOn p ps) rest
  same_proofs [] [] rest i k same = inl (refl, same)
  same_proofs [] (q ∷ qs) rest i k same = inr (begins_same (GoesOn p []) rest (which_line p q.which ∷ (case_lines 0 q.derivations ++ flat qs)) same (inl (name_here q k.0)))
  same_proofs (one ∷ ps) [] rest i k same = absurd (cc)
  same_proofs (one ∷ ps) (q ∷ qs) rest i k same =
      let mine = i.0 in
      let theirs = k.0 in
      let whole : which_line p one.which ∷ (case_lines 0 one.derivations ++ (flat ps ++ rest)) ≡ which_line p q.which ∷ (case_lines 0 q.derivations ++ flat qs) = sym (proof_front one ps rest) ∙ same in
      let first = heads (which_line p one.which) (which_line p q.which) (case_lines 0 one.derivations ++ (flat ps ++ rest)) (case_lines 0 q.derivations ++ flat qs) whole in
      let behind = tails (which_line p one.which) (which_line p q.which) (case_lines 0 one.derivations ++ (flat ps ++ rest)) (case_lines 0 q.derivations ++ flat qs) whole in
      let name : one.which ≡ q.which = one_name p rules writable law one.which q.which (which_line p one.which) mine.name (subst (IsNameLine p q.which) (sym first) theirs.name) in
      let my_few = mine.few in
      let their_few = theirs.few in
      let few : 0 + length one.derivations ≤ 4294967296 = omega (arith, my_few) in
      let less : 0 + length q.derivations ≤ 4294967296 = omega (arith, their_few) in
      let cases = same_cases 0 one.derivations q.derivations (flat ps ++ rest) (flat qs) mine.cases theirs.cases few less (no_case_first qs k.1) (no_step_at qs k.1) behind in
      elim cases as (λ _. (((one ∷ ps) ≡ (q ∷ qs)) × (rest ≡ [])) ⊎ Begins (GoesOn p (one ∷ ps)) rest) [
        | inl both ↦ elim (same_proofs ps qs rest i.1 k.1 both.1) as (λ _. (((one ∷ ps) ≡ (q ∷ qs)) × (rest ≡ [])) ⊎ Begins (GoesOn p (one ∷ ps)) rest) [
          | inl further ↦ inl (
            let derivations : one.derivations ≡ q.derivations = both.0 in
                let P : Which → List Derivation → Proved = λ w ds. record { which = w; derivations = ds } in
                let same_one : one ≡ q = ap (λ (w : Which). P w one.derivations) name ∙ ap (λ (ds : List Derivation). P q.which ds) derivations in
                ap (λ (x : Proved). x ∷ ps) same_one ∙ ap (λ (others : List Proved). q ∷ others) further.0,
            further.1,
          )
          | inr begins ↦ inr (begins_more (GoesOn p ps) (GoesOn p (one ∷ ps)) rest (goes_behind one ps) begins)
        ]
        | inr begins ↦ inr (cases_behind one ps rest i.1 begins)
      ]
