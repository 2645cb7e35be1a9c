-- A front grows by one derivation after another, and ends at a system or behind the last.
use Rattle.std.proofs.Common.{◌≡◌, ℕ, suc, ◌+◌, ◌<◌, ◌≤◌, ◌∙◌, List, [], ◌∷◌, ◌++◌, length, take, drop, get_or, refl, sym, ap, subst, arith}
use Rattle.std.specs.List.{AllZip}
use Rattle.std.proofs.Math.Seq.{drop-length}
use Rattle.std.proofs.lemmas.List.{take_more, length-take-le, get_or_default}
use Rattle.az_lin.specs.Affine.{Polyhedron}
use Rattle.az_lin.specs.declared.step.Derivation.{Derivation}
use Rattle.farkas_find.specs.Verdict.{IsRefutedBy}
use Rattle.formula_refute.specs.Fronts.{IsFront, StopsAtFirst}
use Rattle.formula_refute.specs.declared.front.Stop.{Stop}
use Rattle.formula_refute.specs.declared.front.Stop.TheVariants.{End}
use Rattle.formula_refute.specs.declared.front.Front.{Front}
use Rattle.formula_refute.specs.Inner.Shares.{RefutesFirst}
use Rattle.formula_refute.proofs.FirstSystem.{refuted_here}

abbrev pub AllRefuted : List Polyhedron → List Derivation → Type 0
AllRefuted systems derivations = AllZip (λ (system : Polyhedron) (derivation : Derivation). IsRefutedBy system derivation.steps) systems derivations

refuted_length : (systems : List Polyhedron) (derivations : List Derivation) → AllRefuted systems derivations → length systems ≡ length derivations
refuted_length [] [] h = refl
refuted_length [] (d ∷ ds) h = absurd h
refuted_length (s ∷ ss) [] h = absurd h
refuted_length (s ∷ ss) (d ∷ ds) h = ap suc (refuted_length ss ds h.1)

refuted_push : (systems : List Polyhedron) (derivations : List Derivation) (system : Polyhedron) (derivation : Derivation) → AllRefuted systems derivations
    → IsRefutedBy system derivation.steps → AllRefuted (systems ++ system ∷ []) (derivations ++ derivation ∷ [])
refuted_push [] [] system derivation h p = (p, tt)
refuted_push [] (d ∷ ds) system derivation h p = absurd h
refuted_push (s ∷ ss) [] system derivation h p = absurd h
refuted_push (s ∷ ss) (d ∷ ds) system derivation h p = (h.0, refuted_push ss ds system derivation h.1 p)

module _ (systems : List Polyhedron) (derivations : List Derivation) (i : ℕ) (within : i ≤ length systems) (so_far : AllRefuted (take i systems) derivations) where
  pub front_count : length derivations ≡ i
  front_count = sym (refuted_length (take i systems) derivations so_far) ∙ length-take-le i systems within

  own_part : AllRefuted (take (length derivations) systems) derivations
  own_part = let P : ℕ → Type 0 = λ n. AllRefuted (take n systems) derivations in subst P (sym front_count) so_far

  -- one more system is refuted
  pub front_more : (next : List Derivation) (derivation : Derivation) → i < length systems → RefutesFirst (drop i systems) derivation
      → next ≡ derivations ++ derivation ∷ [] → AllRefuted (take (i + 1) systems) next
  front_more next derivation here refuted pushed =
      let nothing : Polyhedron = record { width = 0; rows = [] } in
      let system : Polyhedron = get_or systems i nothing in
      let is : system ≡ get_or systems i system = get_or_default systems i nothing system here in
      let taken : take (i + 1) systems ≡ take i systems ++ system ∷ [] = take_more systems i system here ∙ ap (λ s. take i systems ++ s ∷ []) (sym is) in
      let P : List Polyhedron → Type 0 = λ ss. AllRefuted ss next in
      let Q : List Derivation → Type 0 = λ ds. AllRefuted (take i systems ++ system ∷ []) ds in
      subst P (sym taken) (subst Q (sym pushed) (refuted_push (take i systems) derivations system derivation so_far (refuted_here systems i system here is derivation refuted)))

  -- what stands at the next system stops the front
  pub front_with : (stop : Stop) → StopsAtFirst (drop i systems) stop → IsFront systems (record { derivations = derivations; stop = stop })
  front_with stop stops =
      let P : ℕ → Type 0 = λ n. StopsAtFirst (drop n systems) stop in
      record { refuted = own_part; stop = subst P (sym front_count) stops }

  -- no system is left
  pub front_ends : i ≡ length systems → IsFront systems (record { derivations = derivations; stop = End })
  front_ends end =
      let P : List Polyhedron → Type 0 = λ ss. StopsAtFirst ss End in
      let rest : drop (length derivations) systems ≡ [] = ap (λ n. drop n systems) (front_count ∙ end) ∙ drop-length systems in
      record { refuted = own_part; stop = subst P (sym rest) refl }

-- a front has no more derivations than there are systems
pub front_within : (systems : List Polyhedron) (front : Front) → IsFront systems front → length front.derivations ≤ length systems
front_within systems front is = within systems front.derivations is.refuted where
  within : (ss : List Polyhedron) (ds : List Derivation) → AllRefuted (take (length ds) ss) ds → length ds ≤ length ss
  within ss [] refuted = omega arith
  within [] (d ∷ ds) refuted = absurd refuted
  within (s ∷ ss) (d ∷ ds) refuted = let rest = within ss ds refuted.1 in omega (arith, rest)
