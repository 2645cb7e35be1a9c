-- Lines taken one after another from a place.
use Rattle.std.proofs.Common.{◌≡◌, ℕ, zero, suc, ◌+◌, ◌<◌, ◌≤◌, List, [], ◌∷◌, ◌++◌, length, map, drop, Option, Some, None, refl, sym, ap, subst, inl, inr, ◌∙◌, append_assoc, append-nil, arith}
use Rattle.std.specs.Prelude.{slice_get, MatchOption}
use Rattle.std.specs.List.{flat_map}
use Rattle.std.proofs.lemmas.Grind.{flat_map-append}
use Rattle.std.proofs.lemmas.List.{map-append}
use Rattle.az_ast.specs.System.{System}
use Rattle.az_lin.specs.declared.step.Derivation.{Derivation}
use Rattle.az_lin.specs.declared.step.Step.{Step}
use Rattle.cert_read.specs.Inner.Found.{IsCaseLine, IsSomeName, IsSomeStep, IsSomeVersion, IsVersionLine}
use Rattle.cert_read.specs.Inner.Groups.{Begins, IsTaken, AreTaken, GoesOnCases, GoesOnProof, GoesOn}
use Rattle.cert_text.specs.Lines.{version_line, case_line, case_lines, step_line, which_line, proved_lines}
use Rattle.cert_text.specs.Versions.{IsVersion}
use Rattle.cert_text.specs.declared.certificate.Proved.{Proved}

abbrev Lines : Type 0
Lines = List (List ℕ)

pub taken_here : (lines : Lines) (place : ℕ) (line : List ℕ) → slice_get lines place ≡ Some line → IsTaken lines place line
taken_here [] place line here = absurd (cc)
taken_here (x ∷ lines) zero line here = let same : x ≡ line = cc in record { within = omega arith; first = ap (λ (it : List ℕ). it ∷ lines) same }
taken_here (x ∷ lines) (suc place) line here =
    let rest = taken_here lines place line here in
    let within = rest.within in
    let next : suc place + 1 ≡ suc (place + 1) = omega arith in
    record { within = omega (arith, within); first = rest.first ∙ ap (λ (n : ℕ). line ∷ drop n (x ∷ lines)) (sym next) }

pub none_past : (P : List ℕ → Type 0) (lines : Lines) (place : ℕ) → slice_get lines place ≡ None → Begins P (drop place lines) → ⊥
none_past P [] zero past begins = begins
none_past P [] (suc place) past begins = begins
none_past P (x ∷ lines) zero past begins = cc
none_past P (x ∷ lines) (suc place) past begins = none_past P lines place past begins

pub begins_here : (P : List ℕ → Type 0) (lines : Lines) (place : ℕ) (line : List ℕ) → IsTaken lines place line → Begins P (drop place lines) → P line
begins_here P lines place line taken begins = subst (Begins P) taken.first begins

pub here_begins : (P : List ℕ → Type 0) (lines : Lines) (place : ℕ) (line : List ℕ) → IsTaken lines place line → P line → Begins P (drop place lines)
here_begins P lines place line taken is = subst (Begins P) (sym taken.first) is

-- the version that the line at the place has
pub version_here : (lines : Lines) (place : ℕ) (line : List ℕ) → IsTaken lines place line → (found : Option ℕ) → MatchOption found ((version : ℕ) → IsVersionLine version line → ⊥) (λ version. IsVersionLine version line)
    → MatchOption found (Begins IsSomeVersion (drop place lines) → ⊥) (λ version. IsVersion version × IsTaken lines place (version_line version))
version_here lines place line taken None none = λ begins. (let is = begins_here IsSomeVersion lines place line taken begins in none is.0 is.1)
version_here lines place line taken (Some version) is = (is.known, subst (IsTaken lines place) is.spelled taken)

-- what begins there is taken
pub begun : (P : List ℕ → Type 0) (lines : Lines) (place : ℕ) → Begins P (drop place lines) → (line : List ℕ) × P line × IsTaken lines place line
begun P [] zero begins = absurd begins
begun P [] (suc place) begins = absurd begins
begun P (x ∷ lines) zero begins = (x, begins, taken_here (x ∷ lines) zero x refl)
begun P (x ∷ lines) (suc place) begins =
    let rest = begun P lines place begins in
    let it = rest.2 in
    let within = it.within in
    let next : suc place + 1 ≡ suc (place + 1) = omega arith in
    (rest.0, rest.1, record { within = omega (arith, within); first = it.first ∙ ap (λ (n : ℕ). rest.0 ∷ drop n (x ∷ lines)) (sym next) })

pub none_taken : (lines : Lines) (from : ℕ) → from ≤ length lines → AreTaken lines from [] from
none_taken lines from within = record { rises = omega arith; within = within; whole = refl }

module _ (lines : Lines) (from : ℕ) (taken : Lines) (end : ℕ) (so_far : AreTaken lines from taken end) where
  pub one_taken : (line : List ℕ) (all : Lines) → IsTaken lines end line → all ≡ taken ++ line ∷ [] → AreTaken lines from all (end + 1)
  one_taken line all next is =
      let rises = so_far.rises in
      let within = next.within in
      record {
        rises = omega (arith, rises);
        within = omega (arith, within);
        whole = so_far.whole ∙ ap (λ (rest : Lines). taken ++ rest) next.first ∙ sym (append_assoc taken (line ∷ []) (drop (end + 1) lines)) ∙ ap (λ (front : Lines). front ++ drop (end + 1) lines) (sym is);
      }

  -- a line, and others behind it
  pub group_taken : (line : List ℕ) (others all : Lines) (later : ℕ) → IsTaken lines end line → AreTaken lines (end + 1) others later → all ≡ taken ++ (line ∷ others) → AreTaken lines from all later
  group_taken line others all later next behind is =
      let rises = so_far.rises in
      let more = behind.rises in
      record {
        rises = omega (arith, rises, more);
        within = behind.within;
        whole = so_far.whole ∙ ap (λ (rest : Lines). taken ++ rest) (next.first ∙ ap (λ (rest : Lines). line ∷ rest) behind.whole) ∙ sym (append_assoc taken (line ∷ others) (drop later lines))
            ∙ ap (λ (front : Lines). front ++ drop later lines) (sym is);
      }

-- one step more
pub steps_more : (steps next : List Step) (step : Step) → next ≡ steps ++ step ∷ [] → map step_line next ≡ map step_line steps ++ step_line step ∷ []
steps_more steps next step is = ap (map step_line) is ∙ map-append step_line steps (step ∷ [])

-- the lines of a last case stand behind the others
cases_append : (n : ℕ) (ds : List Derivation) (d : Derivation) → case_lines n (ds ++ d ∷ []) ≡ case_lines n ds ++ (case_line (n + length ds) ∷ map step_line d.steps)
cases_append n [] d =
    let zero_more : n + 0 ≡ n = omega arith in
    ap (λ lines. case_line n ∷ lines) (append-nil (map step_line d.steps)) ∙ ap (λ k. case_line k ∷ map step_line d.steps) (sym zero_more)
cases_append n (e ∷ ds) d =
    let count : suc n + length ds ≡ n + suc (length ds) = omega arith in
    let rest = cases_append (suc n) ds d ∙ ap (λ k. case_lines (suc n) ds ++ (case_line k ∷ map step_line d.steps)) count in
    ap (λ lines. case_line n ∷ (map step_line e.steps ++ lines)) rest
    ∙ ap (λ lines. case_line n ∷ lines) (sym (append_assoc (map step_line e.steps) (case_lines (suc n) ds) (case_line (n + suc (length ds)) ∷ map step_line d.steps)))

-- one case more
pub cases_more : (derivations next : List Derivation) (steps : List Step) → next ≡ derivations ++ record { steps = steps } ∷ []
    → case_lines 0 next ≡ case_lines 0 derivations ++ (case_line (length derivations) ∷ map step_line steps)
cases_more derivations next steps is =
    let count : 0 + length derivations ≡ length derivations = omega arith in
    ap (case_lines 0) is ∙ cases_append 0 derivations (record { steps = steps }) ∙ ap (λ (n : ℕ). case_lines 0 derivations ++ (case_line n ∷ map step_line steps)) count

pub no_case_goes_on : (derivations : List Derivation) (lines : Lines) → (Begins (IsCaseLine (length derivations)) lines → ⊥) → (0 < length derivations → Begins IsSomeStep lines → ⊥)
    → Begins (GoesOnCases 0 derivations) lines → ⊥
no_case_goes_on derivations [] no_case no_step begins = begins
no_case_goes_on derivations (line ∷ lines) no_case no_step begins =
    let count : 0 + length derivations ≡ length derivations = omega arith in
    elim begins as (λ _. ⊥) [
      | inl case ↦ no_case (subst (λ (n : ℕ). IsCaseLine n line) count case)
      | inr step ↦ no_step step.0 step.1
    ]

-- one proof more
pub proofs_more : (p : System) (proved next : List Proved) (one : Proved) → next ≡ proved ++ one ∷ []
    → flat_map (proved_lines p) next ≡ flat_map (proved_lines p) proved ++ (which_line p one.which ∷ case_lines 0 one.derivations)
proofs_more p proved next one is =
    ap (flat_map (proved_lines p)) is ∙ flat_map-append (proved_lines p) proved (one ∷ []) ∙ ap (λ (lines : Lines). flat_map (proved_lines p) proved ++ lines) (append-nil (proved_lines p one))

last_goes_on : (proved : List Proved) (one : Proved) (line : List ℕ) → GoesOnProof (proved ++ one ∷ []) line → GoesOnCases 0 one.derivations line
last_goes_on [] one line goes = goes
last_goes_on (q ∷ []) one line goes = goes
last_goes_on (q ∷ r ∷ proved) one line goes = last_goes_on (r ∷ proved) one line goes

pub no_proof_goes_on : (proved next : List Proved) (one : Proved) (lines : Lines) → next ≡ proved ++ one ∷ [] → (Begins (GoesOnCases 0 one.derivations) lines → ⊥) → Begins (GoesOnProof next) lines → ⊥
no_proof_goes_on proved next one [] is no_case begins = begins
no_proof_goes_on proved next one (line ∷ lines) is no_case begins = no_case (last_goes_on proved one line (subst (λ (all : List Proved). GoesOnProof all line) is begins))

pub nothing_goes_on : (p : System) (proved : List Proved) (lines : Lines) → (Begins (IsSomeName p) lines → ⊥) → (Begins (GoesOnProof proved) lines → ⊥) → Begins (GoesOn p proved) lines → ⊥
nothing_goes_on p proved [] no_name no_proof begins = begins
nothing_goes_on p proved (line ∷ lines) no_name no_proof begins = elim begins as (λ _. ⊥) [
  | inl name ↦ no_name name
  | inr goes ↦ no_proof goes
]
