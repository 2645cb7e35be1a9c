-- A verification has one answer alone: formula by formula and case by case the elimination has one answer.
use Rattle.std.proofs.Common.{◌≡◌, ◌≢◌, ℕ, zero, suc, ◌+◌, ◌<◌, ◌≤◌, List, [], ◌∷◌, length, take, drop, Some, Result, Ok, Err, refl, sym, ap, ap₂, subst, inl, inr, ◌∙◌, arith}
use Rattle.std.specs.Prelude.{slice_get}
use Rattle.std.specs.List.{AllZip}
use Rattle.std.proofs.lemmas.List.Sums.{sum_by-cons}
use Rattle.az_lin.specs.Affine.{Polyhedron}
use Rattle.az_lin.specs.declared.limit.Limit.{Limit as Bound}
use Rattle.az_lin.specs.declared.limit.Limit.TheVariants.{Systems, Steps, Rows as TooManyRows}
use Rattle.az_lin.specs.declared.step.Derivation.{Derivation}
use Rattle.az_ast.specs.System.{System}
use Rattle.cert_text.specs.declared.certificate.Certificate.{Certificate}
use Rattle.cert_text.specs.declared.certificate.Proved.{Proved}
use Rattle.formula_refute.specs.Fronts.{IsFront, StopsAtFirst}
use Rattle.formula_refute.specs.declared.front.Front.{Front}
use Rattle.formula_refute.specs.declared.front.Stop.{Stop}
use Rattle.formula_refute.specs.declared.front.Stop.TheVariants as stop
use Rattle.formula_refute.proofs.OneFront.{front_once}
use Rattle.order_sets.specs.Orders.{StatedClaim}
use Rattle.target_map.specs.Settings.{TargetMapping}
use Rattle.target_map.specs.declared.which.Which.{Which}
use Rattle.map_verify.specs.Formulas.{formulas, systems_of, AreInRange, AreFew, AreReady}
use Rattle.map_verify.specs.Verdicts.{AreRefutedBy, IsRefutedAs, Reaches, StopsAt, TakesManySteps, IsRefuted, Verifies, steps_in, steps_of, most_steps}
use Rattle.map_verify.specs.declared.fault.VerifyFault.{VerifyFault}
use Rattle.map_verify.specs.declared.fault.VerifyFault.TheVariants.{Overflow, Entry, Limit, Memory}
use Rattle.map_verify.specs.declared.verdict.Verdict.{Verdict}
use Rattle.map_verify.specs.declared.verdict.Verdict.TheVariants.{Yes, No}

abbrev steps_one : Derivation → ℕ
steps_one derivation = length derivation.steps

-- ---- one system, and one formula

one_front : (systems : List Polyhedron) (ds es : List Derivation) (a b : Stop) → IsFront systems (record { derivations = ds; stop = a }) → IsFront systems (record { derivations = es; stop = b })
    → ◌≡◌ {A = Front} (record { derivations = ds; stop = a }) (record { derivations = es; stop = b })
one_front systems ds es a b first second =
    let left : Front = record { derivations = ds; stop = a } in
    let right : Front = record { derivations = es; stop = b } in
    front_once systems right second left first

-- the derivations of the first cases have no more steps than those of all cases before the stop
front_steps : (systems : List Polyhedron) (ds es : List Derivation) (end : Stop) → AreRefutedBy (take (length ds) systems) ds
    → AreRefutedBy (take (length es) systems) es → StopsAtFirst (drop (length es) systems) end → steps_in ds ≤ steps_in es
front_steps systems [] es end p q stops = omega arith
front_steps [] (d ∷ ds) es end p q stops = absurd p
front_steps (s ∷ systems) (d ∷ ds) [] end p q stops =
    let first : IsFront (s ∷ []) (record { derivations = d ∷ []; stop = stop.End }) = record { refuted = (p.0, tt); stop = refl } in
    let second : IsFront (s ∷ []) (record { derivations = []; stop = end }) = record { refuted = tt; stop = stops } in
    let same : [] ≡ d ∷ [] = ap (λ (f : Front). f.derivations) (one_front (s ∷ []) [] (d ∷ []) end stop.End second first) in
    absurd (cc)
front_steps (s ∷ systems) (d ∷ ds) (e ∷ es) end p q stops =
    let first : IsFront (s ∷ []) (record { derivations = d ∷ []; stop = stop.End }) = record { refuted = (p.0, tt); stop = refl } in
    let second : IsFront (s ∷ []) (record { derivations = e ∷ []; stop = stop.End }) = record { refuted = (q.0, tt); stop = refl } in
    let same : d ∷ [] ≡ e ∷ [] = ap (λ (f : Front). f.derivations) (one_front (s ∷ []) (d ∷ []) (e ∷ []) stop.End stop.End first second) in
    let one : d ≡ e = cc in
    let rest = front_steps systems ds es end p.1 q.1 stops in
    let left : steps_in (d ∷ ds) ≡ steps_one d + steps_in ds = sum_by-cons steps_one d ds in
    let right : steps_in (e ∷ es) ≡ steps_one e + steps_in es = sum_by-cons steps_one e es in
    let count : steps_one d ≡ steps_one e = ap steps_one one in
    omega (arith, rest, left, right, count)

whole_taken : (systems : List Polyhedron) (ds : List Derivation) → AreRefutedBy systems ds → AreRefutedBy (take (length ds) systems) ds
whole_taken [] [] p = tt
whole_taken [] (d ∷ ds) p = absurd p
whole_taken (s ∷ systems) [] p = absurd p
whole_taken (s ∷ systems) (d ∷ ds) p = (p.0, whole_taken systems ds p.1)

whole_left : (systems : List Polyhedron) (ds : List Derivation) → AreRefutedBy systems ds → StopsAtFirst (drop (length ds) systems) stop.End
whole_left [] [] p = refl
whole_left [] (d ∷ ds) p = absurd p
whole_left (s ∷ systems) [] p = absurd p
whole_left (s ∷ systems) (d ∷ ds) p = whole_left systems ds p.1

whole : (stated : StatedClaim) (proved : Proved) → IsRefutedAs stated proved → IsFront (systems_of stated) (record { derivations = proved.derivations; stop = stop.End })
whole stated proved is =
    record { refuted = whole_taken (systems_of stated) proved.derivations is.cases; stop = whole_left (systems_of stated) proved.derivations is.cases }

-- a formula that is refuted doesn't stop
not_both : (stated : StatedClaim) (proved : Proved) (ds : List Derivation) (end : Stop) → IsRefutedAs stated proved
    → IsFront (systems_of stated) (record { derivations = ds; stop = end }) → end ≢ stop.End → ⊥
not_both stated proved ds end is front other =
    other (ap (λ (f : Front). f.stop) (one_front (systems_of stated) ds proved.derivations end stop.End front (whole stated proved is)))

one_proof : (stated : StatedClaim) (a b : Proved) → IsRefutedAs stated a → IsRefutedAs stated b → a ≡ b
one_proof stated a b p q =
    let P : Which → List Derivation → Proved = λ which ds. record { which = which; derivations = ds } in
    ap₂ P (p.name ∙ sym q.name)
    (ap (λ (f : Front). f.derivations) (one_front (systems_of stated) a.derivations b.derivations stop.End stop.End (whole stated a p) (whole stated b q)))

-- ---- all formulas

proofs_once : (all : List StatedClaim) (ps qs : List Proved) → AllZip IsRefutedAs all ps → AllZip IsRefutedAs all qs → ps ≡ qs
proofs_once [] [] [] p q = refl
proofs_once [] [] (b ∷ qs) p q = absurd q
proofs_once [] (a ∷ ps) qs p q = absurd p
proofs_once (s ∷ all) [] qs p q = absurd p
proofs_once (s ∷ all) (a ∷ ps) [] p q = absurd q
proofs_once (s ∷ all) (a ∷ ps) (b ∷ qs) p q =
    let Q : Proved → List Proved → List Proved = λ x xs. x ∷ xs in ap₂ Q (one_proof s a b p.0 q.0) (proofs_once all ps qs p.1 q.1)

-- formula by formula up to here
abbrev ReachesBy : List StatedClaim → List Proved → StatedClaim → Type 0
ReachesBy [] before here = ⊥
ReachesBy (s ∷ all) [] here = s ≡ here
ReachesBy (s ∷ all) (a ∷ before) here = IsRefutedAs s a × ReachesBy all before here

reaches_by : (all : List StatedClaim) (before : List Proved) (here : StatedClaim) → slice_get all (length before) ≡ Some here → AllZip IsRefutedAs (take (length before) all) before
    → ReachesBy all before here
reaches_by [] [] here place is = absurd (cc)
reaches_by [] (a ∷ before) here place is = absurd is
reaches_by (s ∷ all) [] here place is = cc
reaches_by (s ∷ all) (a ∷ before) here place is = (is.0, reaches_by all before here place is.1)

-- where all are refuted, none stops, and the first cases take no more steps than all
none_stops : (all : List StatedClaim) (ps before : List Proved) (here : StatedClaim) (ds : List Derivation) (end : Stop) → AllZip IsRefutedAs all ps → ReachesBy all before here
    → IsFront (systems_of here) (record { derivations = ds; stop = end }) → end ≢ stop.End → ⊥
none_stops [] ps before here ds end is at front other = at
none_stops (s ∷ all) [] before here ds end is at front other = is
none_stops (s ∷ all) (a ∷ ps) [] here ds end is at front other =
    let P : StatedClaim → Type 0 = λ it. IsFront (systems_of it) (record { derivations = ds; stop = end }) in not_both s a ds end is.0 (subst P (sym at) front) other
none_stops (s ∷ all) (a ∷ ps) (b ∷ before) here ds end is at front other = none_stops all ps before here ds end is.1 at.1 front other

all_steps : (all : List StatedClaim) (ps before : List Proved) (here : StatedClaim) (ds : List Derivation) → AllZip IsRefutedAs all ps → ReachesBy all before here
    → AreRefutedBy (take (length ds) (systems_of here)) ds → steps_of before + steps_in ds ≤ steps_of ps
all_steps [] ps before here ds is at refuted = absurd at
all_steps (s ∷ all) [] before here ds is at refuted = absurd is
all_steps (s ∷ all) (a ∷ ps) [] here ds is at refuted =
    let front = whole s a is.0 in
    let P : StatedClaim → Type 0 = λ it. AreRefutedBy (take (length ds) (systems_of it)) ds in
    let part = front_steps (systems_of s) ds a.derivations stop.End (subst P (sym at) refuted) front.refuted front.stop in
    let sum : steps_of (a ∷ ps) ≡ steps_in a.derivations + steps_of ps = sum_by-cons (λ (one : Proved). steps_in one.derivations) a ps in
    omega (arith, part, sum)
all_steps (s ∷ all) (a ∷ ps) (b ∷ before) here ds is at refuted =
    let rest = all_steps all ps before here ds is.1 at.1 refuted in
    let same : steps_in a.derivations ≡ steps_in b.derivations = ap (λ (one : Proved). steps_in one.derivations) (one_proof s a b is.0 at.0) in
    let left : steps_of (a ∷ ps) ≡ steps_in a.derivations + steps_of ps = sum_by-cons (λ (one : Proved). steps_in one.derivations) a ps in
    let right : steps_of (b ∷ before) ≡ steps_in b.derivations + steps_of before = sum_by-cons (λ (one : Proved). steps_in one.derivations) b before in
    omega (arith, rest, same, left, right)

-- the first cases take no more steps than all before the stop
stop_steps : (all : List StatedClaim) (ps before : List Proved) (there here : StatedClaim) (es ds : List Derivation) (end : Stop) → ReachesBy all ps there
    → IsFront (systems_of there) (record { derivations = es; stop = end }) → end ≢ stop.End → ReachesBy all before here
    → AreRefutedBy (take (length ds) (systems_of here)) ds → steps_of before + steps_in ds ≤ steps_of ps + steps_in es
stop_steps [] ps before there here es ds end is front other at refuted = absurd at
stop_steps (s ∷ all) [] [] there here es ds end is front other at refuted =
    let P : StatedClaim → Type 0 = λ it. AreRefutedBy (take (length ds) (systems_of it)) ds in
    let part = front_steps (systems_of there) ds es end (subst P (sym at ∙ is) refuted) front.refuted front.stop in
    omega (arith, part)
stop_steps (s ∷ all) [] (b ∷ before) there here es ds end is front other at refuted =
    let P : StatedClaim → Type 0 = λ it. IsFront (systems_of it) (record { derivations = es; stop = end }) in absurd (not_both s b es end at.0 (subst P (sym is) front) other)
stop_steps (s ∷ all) (a ∷ ps) [] there here es ds end is front other at refuted =
    let one = whole s a is.0 in
    let P : StatedClaim → Type 0 = λ it. AreRefutedBy (take (length ds) (systems_of it)) ds in
    let part = front_steps (systems_of s) ds a.derivations stop.End (subst P (sym at) refuted) one.refuted one.stop in
    let sum : steps_of (a ∷ ps) ≡ steps_in a.derivations + steps_of ps = sum_by-cons (λ (one : Proved). steps_in one.derivations) a ps in
    omega (arith, part, sum)
stop_steps (s ∷ all) (a ∷ ps) (b ∷ before) there here es ds end is front other at refuted =
    let rest = stop_steps all ps before there here es ds end is.1 front other at.1 refuted in
    let same : steps_in a.derivations ≡ steps_in b.derivations = ap (λ (one : Proved). steps_in one.derivations) (one_proof s a b is.0 at.0) in
    let left : steps_of (a ∷ ps) ≡ steps_in a.derivations + steps_of ps = sum_by-cons (λ (one : Proved). steps_in one.derivations) a ps in
    let right : steps_of (b ∷ before) ≡ steps_in b.derivations + steps_of before = sum_by-cons (λ (one : Proved). steps_in one.derivations) b before in
    omega (arith, rest, same, left, right)

-- two stops are one
record SameStop (here there : StatedClaim) (first second : Front) : Type 0 where
  formula : here ≡ there
  front : first ≡ second

one_stop : (all : List StatedClaim) (ps qs : List Proved) (here there : StatedClaim) (ds es : List Derivation) (a b : Stop) → ReachesBy all ps here → ReachesBy all qs there
    → IsFront (systems_of here) (record { derivations = ds; stop = a }) → IsFront (systems_of there) (record { derivations = es; stop = b }) → a ≢ stop.End → b ≢ stop.End
    → SameStop here there (record { derivations = ds; stop = a }) (record { derivations = es; stop = b })
one_stop [] ps qs here there ds es a b p q first second x y = absurd p
one_stop (s ∷ all) [] [] here there ds es a b p q first second x y =
    let P : StatedClaim → Type 0 = λ it. IsFront (systems_of it) (record { derivations = es; stop = b }) in
    record { formula = sym p ∙ q; front = one_front (systems_of here) ds es a b first (subst P (sym q ∙ p) second) }
one_stop (s ∷ all) [] (u ∷ qs) here there ds es a b p q first second x y =
    let P : StatedClaim → Type 0 = λ it. IsFront (systems_of it) (record { derivations = ds; stop = a }) in absurd (not_both s u ds a q.0 (subst P (sym p) first) x)
one_stop (s ∷ all) (u ∷ ps) [] here there ds es a b p q first second x y =
    let P : StatedClaim → Type 0 = λ it. IsFront (systems_of it) (record { derivations = es; stop = b }) in absurd (not_both s u es b p.0 (subst P (sym q) second) y)
one_stop (s ∷ all) (u ∷ ps) (v ∷ qs) here there ds es a b p q first second x y = one_stop all ps qs here there ds es a b p.1 q.1 first second x y

-- ---- how the cases of all formulas end

data Ending : Type 0 where
  all_refuted : List Proved → Ending
  stopped_at : Which → ℕ → Stop → Ending
  takes_many : Ending

abbrev EndsSo : List StatedClaim → Ending → Type 0
EndsSo all (all_refuted proved) = AllZip IsRefutedAs all proved × (steps_of proved ≤ most_steps)
EndsSo all (stopped_at which case_no end) = StopsAt all which case_no end × (end ≢ stop.End)
EndsSo all takes_many = TakesManySteps all

module _ (all : List StatedClaim) where
  reached : (before : List Proved) (here : StatedClaim) → Reaches all before here → ReachesBy all before here
  reached before here r = reaches_by all before here r.place r.refuted

  refuted_or_stopped : (ps : List Proved) (which : Which) (case_no : ℕ) (end : Stop) → EndsSo all (all_refuted ps) → EndsSo all (stopped_at which case_no end) → ⊥
  refuted_or_stopped ps which case_no end p q =
      let at = q.0 in none_stops all ps at.before at.here at.derivations end p.0 (reached at.before at.here at.reached) at.front q.1

  refuted_or_many : (ps : List Proved) → EndsSo all (all_refuted ps) → EndsSo all takes_many → ⊥
  refuted_or_many ps p q =
      let steps = all_steps all ps q.before q.here q.derivations p.0 (reached q.before q.here q.reached) q.refuted in
      let few = p.1 in
      let more = q.many in
      omega (arith, steps, few, more)

  stopped_or_many : (which : Which) (case_no : ℕ) (end : Stop) → EndsSo all (stopped_at which case_no end) → EndsSo all takes_many → ⊥
  stopped_or_many which case_no end p q =
      let at = p.0 in
      let steps = stop_steps all at.before q.before at.here q.here at.derivations q.derivations end (reached at.before at.here at.reached) at.front p.1 (reached q.before q.here q.reached) q.refuted in
      let few = at.few in
      let more = q.many in
      omega (arith, steps, few, more)

  both_stopped : (which which' : Which) (case_no case_no' : ℕ) (end end' : Stop) → EndsSo all (stopped_at which case_no end) → EndsSo all (stopped_at which' case_no' end')
      → stopped_at which case_no end ≡ stopped_at which' case_no' end'
  both_stopped which which' case_no case_no' end end' p q =
      let a = p.0 in
      let b = q.0 in
      let same = one_stop all a.before b.before a.here b.here a.derivations b.derivations end end' (reached a.before a.here a.reached) (reached b.before b.here b.reached) a.front b.front p.1 q.1 in
      let name : which ≡ which' = a.name ∙ ap (λ (s : StatedClaim). s.which) same.formula ∙ sym b.name in
      let number : case_no ≡ case_no' = a.number ∙ ap (λ (f : Front). length f.derivations) same.front ∙ sym b.number in
      let ended : end ≡ end' = ap (λ (f : Front). f.stop) same.front in
      cc

  ends_once : (x y : Ending) → EndsSo all x → EndsSo all y → x ≡ y
  ends_once (all_refuted ps) (all_refuted qs) p q = ap all_refuted (proofs_once all ps qs p.0 q.0)
  ends_once (all_refuted ps) (stopped_at which case_no end) p q = absurd (refuted_or_stopped ps which case_no end p q)
  ends_once (all_refuted ps) takes_many p q = absurd (refuted_or_many ps p q)
  ends_once (stopped_at which case_no end) (all_refuted qs) p q = absurd (refuted_or_stopped qs which case_no end q p)
  ends_once (stopped_at which case_no end) (stopped_at which' case_no' end') p q = both_stopped which which' case_no case_no' end end' p q
  ends_once (stopped_at which case_no end) takes_many p q = absurd (stopped_or_many which case_no end p q)
  ends_once takes_many (all_refuted qs) p q = absurd (refuted_or_many qs q p)
  ends_once takes_many (stopped_at which case_no end) p q = absurd (stopped_or_many which case_no end q p)
  ends_once takes_many takes_many p q = refl

-- ---- the answer

data Phase : Type 0 where
  out_of_range : Phase
  too_many : Phase
  decided : Ending → Phase

module _ (p : System) (m : TargetMapping) where
  abbrev IsPhase : Phase → Type 0
  IsPhase out_of_range = ¬ AreInRange p m
  IsPhase too_many = AreInRange p m × (¬ AreFew p m)
  IsPhase (decided ending) = AreReady p m × EndsSo (formulas p m) ending

  phase_once : (x y : Phase) → IsPhase x → IsPhase y → x ≡ y
  phase_once out_of_range out_of_range h k = refl
  phase_once out_of_range too_many h k = absurd (h k.0)
  phase_once out_of_range (decided ending) h k = let ready = k.0 in absurd (h ready.in_range)
  phase_once too_many out_of_range h k = absurd (k h.0)
  phase_once too_many too_many h k = refl
  phase_once too_many (decided ending) h k = let ready = k.0 in absurd (h.1 ready.few)
  phase_once (decided ending) out_of_range h k = let ready = h.0 in absurd (k ready.in_range)
  phase_once (decided ending) too_many h k = let ready = h.0 in absurd (k.1 ready.few)
  phase_once (decided x) (decided y) h k = ap decided (ends_once (formulas p m) x y h.1 k.1)

  answer_of : Phase → Result Verdict VerifyFault
  answer_of out_of_range = Err Entry
  answer_of too_many = Err (Limit Systems)
  answer_of (decided (all_refuted proved)) = Ok (Yes (record { program = p; mapping = m }) (record { version = 2; proved = proved }))
  answer_of (decided (stopped_at which case_no stop.End)) = Err Memory
  answer_of (decided (stopped_at which case_no (stop.Point point))) = Ok (No which case_no point)
  answer_of (decided (stopped_at which case_no stop.Overflow)) = Err (Overflow which case_no)
  answer_of (decided (stopped_at which case_no stop.Rows)) = Err (Limit TooManyRows)
  answer_of (decided takes_many) = Err (Limit Steps)

  record HasPhase (result : Result Verdict VerifyFault) : Type 0 where
    phase : Phase
    holds : IsPhase phase
    shown : result ≡ answer_of phase

  phase_of : (result : Result Verdict VerifyFault) → Verifies p m result → result ≢ Err Memory → HasPhase result
  unfolding answer_of
  phase_of (Ok (Yes certified certificate)) h told =
      let is = h.2 in
      record {
        phase = decided (all_refuted certificate.proved);
        holds = (h.0, (is.refuted, is.few));
        shown =
            let C : ℕ → Certificate = λ version. record { version = version; proved = certificate.proved } in
            ap₂ (λ pair cert. Ok (Yes pair cert)) h.1 (ap C is.version);
      }
  phase_of (Ok (No which case_no point)) h told =
      record { phase = decided (stopped_at which case_no (stop.Point point)); holds = (h.0, (h.1, λ e. absurd (cc))); shown = refl }
  phase_of (Err (Overflow which case_no)) h told = record { phase = decided (stopped_at which case_no stop.Overflow); holds = (h.0, (h.1, λ e. absurd (cc))); shown = refl }
  phase_of (Err Entry) h told = record { phase = out_of_range; holds = h; shown = refl }
  phase_of (Err (Limit limit)) h told = elim h as (λ _. HasPhase (Err (Limit limit))) [
    | inl systems ↦ record { phase = too_many; holds = (systems.1, systems.2); shown = ap (λ (l : Bound). Err (Limit l)) systems.0 }
    | inr other ↦ elim other as (λ _. HasPhase (Err (Limit limit))) [
      | inl rows ↦ record { phase = decided (stopped_at rows.2.0 rows.2.1.0 stop.Rows); holds = (rows.1, (rows.2.1.1, λ e. absurd (cc))); shown = ap (λ (l : Bound). Err (Limit l)) rows.0 }
      | inr steps ↦ record { phase = decided takes_many; holds = (steps.1, steps.2); shown = ap (λ (l : Bound). Err (Limit l)) steps.0 }
    ]
  ]
  phase_of (Err Memory) h told = absurd (told refl)

  pub one_verdict : (result other : Result Verdict VerifyFault) → Verifies p m result → Verifies p m other → other ≢ Err Memory → result ≢ Err Memory → other ≡ result
  one_verdict result other here there told known =
      let a = phase_of other there told in
      let b = phase_of result here known in
      a.shown ∙ ap answer_of (phase_once a.phase b.phase a.holds b.holds) ∙ sym b.shown
