-- What is known of the first of the systems from a place on.
use Rattle.std.proofs.Common.{◌≡◌, ℕ, suc, ◌<◌, ◌≤◌, ◌∙◌, List, [], ◌∷◌, length, drop, get_or, refl, sym, ap, subst, drop-cons}
use Rattle.std.proofs.lemmas.List.{drop_all}
use Rattle.az_lin.specs.Affine.{Polyhedron}
use Rattle.az_lin.specs.declared.step.Derivation.{Derivation}
use Rattle.farkas_find.specs.Verdict.{IsRefutedBy}
use Rattle.formula_refute.specs.Fronts.{StopsAtFirst}
use Rattle.formula_refute.specs.Inner.Shares.{RefutesFirst}
use Rattle.formula_refute.specs.Inner.Verdicts.{IsVerdict, AnswersFirst}
use Rattle.formula_refute.specs.declared.verdict.Verdict.{Verdict}
use Rattle.formula_refute.specs.declared.verdict.Verdict.TheVariants.{Refuted, Stopped}
use Rattle.formula_refute.specs.declared.front.Stop.{Stop}
use Rattle.formula_refute.specs.declared.front.Stop.TheVariants.{End}

-- the system at a place
module _ (systems : List Polyhedron) (place : ℕ) (system : Polyhedron) (here : place < length systems) (is : system ≡ get_or systems place system) where
  opened : drop place systems ≡ system ∷ drop (suc place) systems
  opened = drop-cons systems place system here ∙ ap (λ s. s ∷ drop (suc place) systems) (sym is)

  pub answers_first : (verdict : Verdict) → IsVerdict system verdict → AnswersFirst (drop place systems) verdict
  answers_first verdict answers = let P : List Polyhedron → Type 0 = λ ss. AnswersFirst ss verdict in subst P (sym opened) answers

  pub refuted_here : (derivation : Derivation) → RefutesFirst (drop place systems) derivation → IsRefutedBy system derivation.steps
  refuted_here derivation first = let P : List Polyhedron → Type 0 = λ ss. RefutesFirst ss derivation in subst P opened first

pub refutes_first : (rest : List Polyhedron) (derivation : Derivation) → AnswersFirst rest (Refuted derivation) → RefutesFirst rest derivation
refutes_first [] derivation answers = answers
refutes_first (system ∷ rest) derivation answers = answers

pub stops_first : (rest : List Polyhedron) (stop : Stop) → AnswersFirst rest (Stopped stop) → StopsAtFirst rest stop
stops_first [] stop answers = absurd answers
stops_first (system ∷ rest) stop answers = answers

pub nothing_left : (systems : List Polyhedron) (place : ℕ) → length systems ≤ place → StopsAtFirst (drop place systems) End
nothing_left systems place past = let P : List Polyhedron → Type 0 = λ ss. StopsAtFirst ss End in subst P (sym (drop_all place systems past)) refl
