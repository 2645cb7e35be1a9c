-- What an answer says beyond its definition: Yes that the formula is false at all whole points, No that its point is open.
use Rattle.std.proofs.Common.{◌≡◌, ◌≤◌, refl, ap, ℕ, zero, suc, List, [], ◌∷◌, length, take, drop, ℤ, Result, Ok, Err, IfOk, sym, subst, inl, inr, ◌↔◌, map}
use Rattle.std.specs.Prelude.{All, Any, slice_get, IsSomeAnd}
use Rattle.std.proofs.lemmas.List.Elements.{All-from_recursion, All-map}
use Rattle.az_lin.specs.Affine.{Affine, Polyhedron, Holds, IsAtLeastZero}
use Rattle.az_lin.specs.declared.step.Derivation.{Derivation}
use Rattle.az_lin.specs.declared.step.RatPoint.{RatPoint}
use Rattle.farkas_find.specs.Verdict.{HasPoint}
use Rattle.farkas_check.proofs.Soundness.{refutes}
use Rattle.formula_refute.specs.Claims.{Claim, claim, IsTrueAt}
use Rattle.formula_refute.specs.Cases.{cases, system_of, systems}
use Rattle.formula_refute.specs.Fronts.{IsFront, StopsAtFirst, open_at}
use Rattle.formula_refute.specs.Answers.{Negates, GivesCases}
use Rattle.formula_refute.specs.Promise.{Refutes, StopsAtCase, IsFalseIfYes, IsOpenIfNo}
use Rattle.formula_refute.specs.declared.formula.Formula.{Formula}
use Rattle.formula_refute.specs.declared.front.Stop.TheVariants.{End, Point}
use Rattle.formula_refute.specs.declared.refutation.Answer.{Answer}
use Rattle.formula_refute.specs.declared.refutation.Answer.TheVariants.{Yes, No}
use Rattle.formula_refute.specs.declared.fault.RefuteFault.{RefuteFault}
use Rattle.formula_refute.proofs.CaseTruth.{SomeHolds, case_to, some_system}
use Rattle.formula_refute.proofs.OppositeTruth.{opposite_holds}
use Rattle.formula_refute.proofs.FrontSteps.{AllRefuted}

pub point_is_open : (system : Polyhedron) (point : RatPoint) → HasPoint system point → open_at system point
point_is_open system point p = record { trail = p.trail; unrefuted = p.unrefuted; meets = p.meets }

-- each case is refuted, so none holds a point
no_case_holds : (width : ℕ) (z : List ℤ) (all : List (List Affine)) (derivations : List Derivation) → AllRefuted (map (system_of width) all) derivations → SomeHolds z all → ⊥
no_case_holds width z [] derivations refuted some = some
no_case_holds width z (rows ∷ all) [] refuted some = refuted
no_case_holds width z (rows ∷ all) (d ∷ ds) refuted some = elim some as (λ _. ⊥) [
  | inl here ↦ refutes rows d.steps z refuted.0.valid (All-from_recursion (IsAtLeastZero z) rows here)
  | inr rest ↦ no_case_holds width z all ds refuted.1 rest
]

-- a front that ends behind the last system has a derivation for each
pub ended_front : (all : List Polyhedron) (derivations : List Derivation) → IsFront all (record { derivations = derivations; stop = End }) → AllRefuted all derivations
ended_front all derivations front = all_of_front all derivations front.refuted front.stop where
  all_of_front : (all : List Polyhedron) (ds : List Derivation) → AllRefuted (take (length ds) all) ds → StopsAtFirst (drop (length ds) all) End → AllRefuted all ds
  all_of_front [] [] refuted stop = tt
  all_of_front [] (d ∷ ds) refuted stop = refuted
  all_of_front (s ∷ ss) [] refuted stop = absurd stop
  all_of_front (s ∷ ss) (d ∷ ds) refuted stop = (refuted.0, all_of_front ss ds refuted.1 stop)

-- the formula of refuted cases is false at all whole points
pub refuted_is_false : (width : ℕ) (c : Claim) (derivations : List Derivation) → IsFront (systems width c) (record { derivations = derivations; stop = End })
    → (z : List ℤ) → ¬ IsTrueAt z c
refuted_is_false width c derivations front z true = no_case_holds width z (cases c) derivations (ended_front (systems width c) derivations front) (case_to z c true)

pub yes_is_false : (width : ℕ) (c : Claim) (result : Result Answer RefuteFault) → Refutes (systems width c) result → IfOk result (IsFalseIfYes c)
yes_is_false width c (Ok (Yes derivations)) h = refuted_is_false width c derivations h.1
yes_is_false width c (Ok (No number point)) h = tt
yes_is_false width c (Err fault) h = tt

open_first : (all : List Polyhedron) (number : ℕ) (point : RatPoint) → StopsAtFirst (drop number all) (Point point) → IsSomeAnd (slice_get all number) (λ system. open_at system point)
open_first [] zero point stop = absurd (cc)
open_first [] (suc n) point stop = absurd (cc)
open_first (s ∷ ss) zero point stop = point_is_open s point stop
open_first (s ∷ ss) (suc n) point stop = open_first ss n point stop

pub no_is_open : (all : List Polyhedron) (result : Result Answer RefuteFault) → Refutes all result → IfOk result (IsOpenIfNo all)
no_is_open all (Ok (Yes derivations)) h = tt
no_is_open all (Ok (No number point)) h =
    let stops : StopsAtCase all number (Point point) = h.1 in
    let P : ℕ → Type 0 = λ n. StopsAtFirst (drop n all) (Point point) in
    open_first all number point (subst P (sym stops.here) stops.front.stop)
no_is_open all (Err fault) h = tt

-- what is negated is true exactly where the formula is not
pub negation_means : (c : Claim) (result : Result Formula RefuteFault) → Negates c result → (z : List ℤ)
    → IfOk result (λ formula. IsTrueAt z (claim formula) ↔ (IsTrueAt z c → ⊥))
negation_means c (Ok formula) h z = let P : Claim → Type 0 = λ it. IsTrueAt z it ↔ (IsTrueAt z c → ⊥) in subst P (sym h.0) (opposite_holds z c)
negation_means c (Err fault) h z = tt

pub cases_mean : (width : ℕ) (c : Claim) (result : Result (List Polyhedron) RefuteFault) → GivesCases width c result → (z : List ℤ)
    → IfOk result (λ all. Any (λ system. Holds system z) all ↔ IsTrueAt z c)
cases_mean width c (Ok all) h z = let P : List Polyhedron → Type 0 = λ it. Any (λ system. Holds system z) it ↔ IsTrueAt z c in subst P (sym h.0) (some_system z width c)
cases_mean width c (Err fault) h z = tt

pub cases_widths : (width : ℕ) (c : Claim) (result : Result (List Polyhedron) RefuteFault) → GivesCases width c result
    → IfOk result (All (λ system. system.width ≡ width))
cases_widths width c (Ok all) h =
    let P : Polyhedron → Type 0 = λ system. system.width ≡ width in
    let Q : List Polyhedron → Type 0 = λ it. All P it in
    subst Q (sym h.0) (All-map P (system_of width) (cases c) (λ k d below. refl))
cases_widths width c (Err fault) h = tt

pub cases_few : (width : ℕ) (c : Claim) (result : Result (List Polyhedron) RefuteFault) → GivesCases width c result → IfOk result (λ all. length all ≤ 131072)
cases_few width c (Ok all) h = let Q : ℕ → Type 0 = λ n. n ≤ 131072 in subst Q (sym (ap length h.0)) h.1
cases_few width c (Err fault) h = tt
