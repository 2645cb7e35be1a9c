-- The answer of the elimination to one system, and to the first of several.
use Rattle.std.specs.Prelude.{List, [], ◌∷◌}
use Rattle.az_lin.specs.Affine.{Polyhedron}
use Rattle.farkas_find.specs.Verdict.{IsRefutedBy}
use Rattle.formula_refute.specs.Fronts.{Stops}
use Rattle.formula_refute.specs.declared.verdict.Verdict.{Verdict}
use Rattle.formula_refute.specs.declared.verdict.Verdict.TheVariants.{Refuted, Stopped}

abbrev pub IsVerdict : Polyhedron → Verdict → Type 0
IsVerdict system (Refuted derivation) = IsRefutedBy system derivation.steps
IsVerdict system (Stopped stop) = Stops system stop

abbrev pub AnswersFirst : List Polyhedron → Verdict → Type 0
AnswersFirst [] verdict = ⊥
AnswersFirst (system ∷ rest) verdict = IsVerdict system verdict
