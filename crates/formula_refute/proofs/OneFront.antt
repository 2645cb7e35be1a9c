-- The front of some systems is the only one, and so is what a refutation answers.
use Rattle.std.proofs.Common.{◌≡◌, ◌≢◌, List, [], ◌∷◌, ◌∙◌, length, take, drop, Result, Ok, Err, IfOk, refl, sym, ap, ap₂, subst}
use Rattle.az_lin.specs.Affine.{Polyhedron}
use Rattle.az_lin.specs.declared.limit.Limit.TheVariants.{Rows as TooManyRows}
use Rattle.az_lin.specs.declared.step.Derivation.{Derivation}
use Rattle.farkas_find.specs.Verdict.{IsRefutedBy, Decides}
use Rattle.farkas_find.specs.declared.fault.FindFault.{FindFault}
use Rattle.farkas_find.specs.declared.fault.FindFault.TheVariants as find
use Rattle.farkas_find.specs.declared.verdict.Decision.{Decision}
use Rattle.farkas_find.specs.declared.verdict.Decision.TheVariants as decision
use Rattle.farkas_find.proofs.OneAnswer.{decide_once}
use Rattle.formula_refute.specs.Fronts.{IsFront, IsOnlyFront, Stops, StopsAtFirst}
use Rattle.formula_refute.specs.Answers.{GivesFront, GivesCaseFront}
use Rattle.formula_refute.specs.declared.front.Front.{Front}
use Rattle.formula_refute.specs.declared.front.Stop.{Stop}
use Rattle.formula_refute.specs.declared.front.Stop.TheVariants.{End, Point, Overflow, Rows}
use Rattle.formula_refute.specs.declared.fault.RefuteFault.{RefuteFault}
use Rattle.formula_refute.proofs.FrontSteps.{AllRefuted}

-- what stops a front, by the answer of the elimination
stop_of : Result Decision FindFault → Stop
stop_of (Ok (decision.Refuted derivation)) = End
stop_of (Ok (decision.Point point)) = Point point
stop_of (Err (find.Overflow stage)) = Overflow
stop_of (Err (find.Limit limit)) = Rows
stop_of (Err find.Memory) = End

record StopAnswer (system : Polyhedron) (stop : Stop) : Type 0 where
  answer : Result Decision FindFault
  decides : Decides system answer
  told : answer ≢ Err find.Memory
  shown : stop_of answer ≡ stop

stop_answer : (system : Polyhedron) (stop : Stop) → Stops system stop → StopAnswer system stop
unfolding stop_of
stop_answer system End stops = absurd stops
stop_answer system (Point point) stops = record { answer = Ok (decision.Point point); decides = stops; told = λ e. absurd (cc); shown = refl }
stop_answer system Overflow stops = record { answer = Err (find.Overflow stops.0); decides = stops.1; told = λ e. absurd (cc); shown = refl }
stop_answer system Rows stops = record { answer = Err (find.Limit TooManyRows); decides = stops; told = λ e. absurd (cc); shown = refl }

one_stop : (system : Polyhedron) (a b : Stop) → Stops system a → Stops system b → a ≡ b
one_stop system a b p q =
    let x = stop_answer system a p in
    let y = stop_answer system b q in
    sym x.shown ∙ ap stop_of (decide_once system x.answer y.answer x.decides y.decides x.told y.told) ∙ y.shown

not_stopped : (system : Polyhedron) (derivation : Derivation) (stop : Stop) → IsRefutedBy system derivation.steps → ¬ Stops system stop
unfolding stop_of
not_stopped system derivation stop refuted stops =
    let y = stop_answer system stop stops in
    let told : ◌≢◌ {A = Result Decision FindFault} (Ok (decision.Refuted derivation)) (Err find.Memory) = λ e. absurd (cc) in
    let ended : End ≡ stop = ap stop_of (decide_once system (Ok (decision.Refuted derivation)) y.answer refuted y.decides told y.told) ∙ y.shown in
    let P : Stop → Type 0 = λ it. Stops system it in
    subst P (sym ended) stops

same_derivation : (d e : Derivation) → ◌≡◌ {A = Result Decision FindFault} (Ok (decision.Refuted d)) (Ok (decision.Refuted e)) → d ≡ e
same_derivation d e same = cc

one_derivation : (system : Polyhedron) (d e : Derivation) → IsRefutedBy system d.steps → IsRefutedBy system e.steps → d ≡ e
one_derivation system d e p q =
    let first : ◌≢◌ {A = Result Decision FindFault} (Ok (decision.Refuted d)) (Err find.Memory) = λ same. absurd (cc) in
    let second : ◌≢◌ {A = Result Decision FindFault} (Ok (decision.Refuted e)) (Err find.Memory) = λ same. absurd (cc) in
    same_derivation d e (decide_once system (Ok (decision.Refuted d)) (Ok (decision.Refuted e)) p q first second)

record SameFront (ds es : List Derivation) (a b : Stop) : Type 0 where
  derivations : ds ≡ es
  stop : a ≡ b

one_front : (systems : List Polyhedron) (ds es : List Derivation) (a b : Stop) → AllRefuted (take (length ds) systems) ds → StopsAtFirst (drop (length ds) systems) a
    → AllRefuted (take (length es) systems) es → StopsAtFirst (drop (length es) systems) b → SameFront ds es a b
one_front [] [] [] a b p p' q q' = record { derivations = refl; stop = p' ∙ sym q' }
one_front [] (d ∷ ds) es a b p p' q q' = absurd p
one_front [] [] (e ∷ es) a b p p' q q' = absurd q
one_front (s ∷ ss) [] [] a b p p' q q' = record { derivations = refl; stop = one_stop s a b p' q' }
one_front (s ∷ ss) [] (e ∷ es) a b p p' q q' = absurd (not_stopped s e a q.0 p')
one_front (s ∷ ss) (d ∷ ds) [] a b p p' q q' = absurd (not_stopped s d b p.0 q')
one_front (s ∷ ss) (d ∷ ds) (e ∷ es) a b p p' q q' =
    let rest = one_front ss ds es a b p.1 p' q.1 q' in
    let first : d ≡ e = one_derivation s d e p.0 q.0 in
    record { derivations = ap (λ x. x ∷ ds) first ∙ ap (λ xs. e ∷ xs) rest.derivations; stop = rest.stop }

pub front_once : (systems : List Polyhedron) (front : Front) → IsFront systems front → IsOnlyFront systems front
front_once systems front here other there =
    let same = one_front systems other.derivations front.derivations other.stop front.stop there.refuted there.stop here.refuted here.stop in
    let F : List Derivation → Stop → Front = λ ds stop. record { derivations = ds; stop = stop } in
    ap₂ F same.derivations same.stop

pub given_once : (systems : List Polyhedron) (result : Result Front RefuteFault) → GivesFront systems result → IfOk result (IsOnlyFront systems)
given_once systems (Ok front) h = front_once systems front h
given_once systems (Err fault) h = tt

pub case_front_once : (systems : List Polyhedron) (result : Result Front RefuteFault) → GivesCaseFront systems result → IfOk result (IsOnlyFront systems)
case_front_once systems (Ok front) h = front_once systems front h.1
case_front_once systems (Err fault) h = tt
