-- A worker's share grows by one derivation after another, and the shares in turn give the derivations of all systems.
use Rattle.std.proofs.Common.{◌≡◌, ℕ, suc, ◌+◌, ◌<◌, ◌≤◌, ◌∙◌, List, [], ◌∷◌, ◌++◌, length, drop, get_or, Option, Some, Result, Ok, Err, IfOk, IfErr, refl, sym, ap, subst, arith}
use Rattle.std.proofs.lemmas.List.{append_assoc, append-nil, drop-drop}
use Rattle.az_lin.specs.Affine.{Polyhedron}
use Rattle.az_lin.specs.declared.step.Derivation.{Derivation}
use Rattle.formula_refute.specs.Fronts.{IsFront, StopsAtFirst}
use Rattle.formula_refute.specs.Answers.{GivesFront}
use Rattle.formula_refute.specs.declared.front.Front.{Front}
use Rattle.formula_refute.specs.declared.fault.RefuteFault.{RefuteFault}
use Rattle.formula_refute.specs.declared.fault.RefuteFault.TheVariants.{Memory}
use Rattle.formula_refute.specs.Inner.Shares.{RefutesFirst, AnswersEvery, IsShare, InTurn}
use Rattle.formula_refute.specs.declared.front.Stop.{Stop}
use Rattle.formula_refute.specs.declared.share.Share.{Share}

-- what stands behind these derivations stands behind all systems so far
abbrev pub GoesOn : ℕ → List Polyhedron → List Polyhedron → List Derivation → Type 0
GoesOn stride systems rest done = (more : List Derivation) (end : Option Stop) → AnswersEvery stride rest more end → AnswersEvery stride systems (done ++ more) end

pub share_more : (stride : ℕ) (systems all : List Polyhedron) (place : ℕ) (done next : List Derivation) (derivation : Derivation) → GoesOn stride systems (drop place all) done
    → RefutesFirst (drop place all) derivation → next ≡ done ++ derivation ∷ [] → GoesOn stride systems (drop (place + stride) all) next
share_more stride systems all place done next derivation goes_on refuted pushed = λ more end answers.
    let P : List Polyhedron → Type 0 = λ ss. AnswersEvery stride ss more end in
    let Q : List Derivation → Type 0 = λ ds. AnswersEvery stride systems ds end in
    let behind : P (drop stride (drop place all)) = subst P (sym (drop-drop stride place all)) answers in
    subst Q (sym (ap (λ ds. ds ++ more) pushed ∙ append_assoc done (derivation ∷ []) more)) (goes_on (derivation ∷ more) end (refuted, behind))

pub share_ends : (stride : ℕ) (systems rest : List Polyhedron) (done : List Derivation) (end : Option Stop) → GoesOn stride systems rest done
    → AnswersEvery stride rest [] end → AnswersEvery stride systems done end
share_ends stride systems rest done end goes_on last =
    let Q : List Derivation → Type 0 = λ ds. AnswersEvery stride systems ds end in
    subst Q (append-nil done) (goes_on [] end last)

-- the first share of a turn goes behind the others
turn_push : (stride : ℕ) (systems : List Polyhedron) (shares : List Share) (share : Share) → InTurn stride systems shares → IsShare stride (drop (length shares) systems) share
    → InTurn stride systems (shares ++ share ∷ [])
turn_push stride systems [] share turn last = (last, tt)
turn_push stride systems (first ∷ shares) share turn last =
    let P : List Polyhedron → Type 0 = λ ss. IsShare stride ss share in
    let one_more : 1 + length shares ≡ length (first ∷ shares) = omega arith in
    let behind : drop (length shares) (drop 1 systems) ≡ drop (length (first ∷ shares)) systems = drop-drop (length shares) 1 systems ∙ ap (λ n. drop n systems) one_more in
    (turn.0, turn_push stride (drop 1 systems) shares share turn.1 (subst P (sym behind) last))

module _ (stride : ℕ) (all : List Polyhedron) (place : ℕ) (shares rest : List Share) (share : Share) (popped : shares ≡ share ∷ rest) (turn : InTurn stride (drop place all) shares) where
  first_turn : InTurn stride (drop place all) (share ∷ rest)
  first_turn = let P : List Share → Type 0 = λ ss. InTurn stride (drop place all) ss in subst P popped turn

  -- it has one more derivation, and takes its next turn as the last
  pub turn_more : (next : List Share) (later : Share) (derivation : Derivation) → length shares ≡ stride → share.derivations.items ≡ derivation ∷ later.derivations.items → later.end ≡ share.end
      → next ≡ rest ++ later ∷ [] → RefutesFirst (drop place all) derivation × InTurn stride (drop (place + 1) all) next
  turn_more next later derivation count taken same pushed =
      let P : List Derivation → Type 0 = λ ds. AnswersEvery stride (drop place all) ds share.end in
      let answers = subst P taken first_turn.0 in
      let Q : Option Stop → Type 0 = λ end. AnswersEvery stride (drop stride (drop place all)) later.derivations.items end in
      let later_share : IsShare stride (drop stride (drop place all)) later = subst Q (sym same) answers.1 in
      let length_rest : length rest + 1 ≡ stride = omega (arith, count, ap length popped) in
      let next_place : drop 1 (drop place all) ≡ drop (place + 1) all = drop-drop 1 place all in
      let S : List Polyhedron → Type 0 = λ ss. IsShare stride ss later in
      let far : drop stride (drop place all) ≡ drop (length rest) (drop (place + 1) all) =
      drop-drop stride place all ∙ ap (λ n. drop n all) (let sums : place + stride ≡ (place + 1) + length rest = omega (arith, length_rest) in sums) ∙ sym (drop-drop (length rest) (place + 1) all) in
      let R : List Polyhedron → Type 0 = λ ss. InTurn stride ss rest in
      let T : List Share → Type 0 = λ ss. InTurn stride (drop (place + 1) all) ss in (
        answers.0,
        subst T (sym pushed) (turn_push stride (drop (place + 1) all) rest later (subst R next_place first_turn.1) (subst S far later_share)),
      )

  -- it has none left, and what stands behind it stops the front
  pub turn_stops : (stop : Stop) → share.derivations.items ≡ [] → share.end ≡ Some stop → StopsAtFirst (drop place all) stop
  turn_stops stop none ended =
      let P : List Derivation → Type 0 = λ ds. AnswersEvery stride (drop place all) ds share.end in
      let Q : Option Stop → Type 0 = λ end. AnswersEvery stride (drop place all) [] end in
      subst Q ended (subst P none first_turn.0)

-- the shares of the workers by their numbers
pub turn_from : (stride : ℕ) (systems : List Polyhedron) (first : ℕ) (shares : List Share)
    → ((k : ℕ) (share : Share) → k < length shares → IsShare stride (drop (first + k) systems) (get_or shares k share)) → InTurn stride (drop first systems) shares
turn_from stride systems first [] each = tt
turn_from stride systems first (share ∷ shares) each =
    let S : List Polyhedron → Type 0 = λ ss. IsShare stride ss share in
    let zero_more : first + 0 ≡ first = omega arith in
    let here : S (drop first systems) = subst S (ap (λ n. drop n systems) zero_more) (each 0 share (omega arith)) in
    let T : List Polyhedron → Type 0 = λ ss. InTurn stride ss shares in
    let rest : T (drop (first + 1) systems) =
    turn_from stride systems (first + 1) shares
    (λ k other below.
    let U : List Polyhedron → Type 0 = λ ss. IsShare stride ss (get_or shares k other) in
    let sums : first + suc k ≡ (first + 1) + k = omega arith in
    subst U (ap (λ n. drop n systems) sums) (each (suc k) other (omega (arith, below)))) in
    (here, subst T (sym (drop-drop 1 first systems)) rest)

-- a queue from which nothing was taken was empty
pub no_items : {A : Type 0} (before after : List A) → before ≡ after → after ≡ drop 1 before → before ≡ []
no_items [] after same rest = refl
no_items (x ∷ xs) after same rest = absurd (omega (arith, ap length same, ap length rest))

-- the front that ends as the share says
pub ended_gives : (systems : List Polyhedron) (derivations : List Derivation) (end : Option Stop) (result : Result Front RefuteFault)
    → IfOk result (λ front. (front.derivations ≡ derivations) × (end ≡ Some front.stop)) → IfErr result (λ fault. fault ≡ Memory)
    → ((stop : Stop) → end ≡ Some stop → IsFront systems (record { derivations = derivations; stop = stop })) → GivesFront systems result
ended_gives systems derivations end (Ok front) ok cause fronts =
    let P : List Derivation → Type 0 = λ ds. IsFront systems (record { derivations = ds; stop = front.stop }) in
    subst P (sym ok.0) (fronts front.stop ok.1)
ended_gives systems derivations end (Err fault) ok cause fronts = cause
