-- What one worker has decided: every so many systems from its first on, up to the first that is not refuted, or until
-- memory runs out. And what all workers have decided, whose first systems follow each other.
use Rattle.std.specs.Prelude.{◌≡◌, ℕ, List, [], ◌∷◌, drop, Option, None, Some}
use Rattle.az_lin.specs.Affine.{Polyhedron}
use Rattle.az_lin.specs.declared.step.Derivation.{Derivation}
use Rattle.farkas_find.specs.Verdict.{IsRefutedBy}
use Rattle.formula_refute.specs.Fronts.{StopsAtFirst}
use Rattle.formula_refute.specs.declared.front.Stop.{Stop}
use Rattle.formula_refute.specs.declared.share.Share.{Share}

abbrev pub RefutesFirst : List Polyhedron → Derivation → Type 0
RefutesFirst [] derivation = ⊥
RefutesFirst (system ∷ rest) derivation = IsRefutedBy system derivation.steps

abbrev pub AnswersEvery : ℕ → List Polyhedron → List Derivation → Option Stop → Type 0
AnswersEvery stride systems [] None = Unit {0}
AnswersEvery stride systems [] (Some stop) = StopsAtFirst systems stop
AnswersEvery stride systems (derivation ∷ more) end = RefutesFirst systems derivation × AnswersEvery stride (drop stride systems) more end

abbrev pub IsShare : ℕ → List Polyhedron → Share → Type 0
IsShare stride systems share = AnswersEvery stride systems share.derivations.items share.end

abbrev pub InTurn : ℕ → List Polyhedron → List Share → Type 0
InTurn stride systems [] = Unit {0}
InTurn stride systems (share ∷ shares) = IsShare stride systems share × InTurn stride (drop 1 systems) shares

pub record IsEmptyShare (share : Share) : Type 0 where
  pub none : share.derivations.items ≡ []
  pub open_end : share.end ≡ None
