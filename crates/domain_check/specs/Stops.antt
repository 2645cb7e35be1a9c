-- Where the cases stop: which of them are refuted, and the first that isn't, by its kind and number. Before any is
-- decided all entries must be in range and the cases of one kind at one place few enough.
use Rattle.std.specs.Prelude.{◌≡◌, ℕ, ◌≤◌, List, ◌∷◌, ◌++◌, length, All}
use Rattle.std.specs.List.{flat_map}
use Rattle.az_lin.specs.Affine.{Polyhedron}
use Rattle.az_lin.specs.declared.step.Step.{Step}
use Rattle.az_ast.specs.System.{System}
use Rattle.expr_places.specs.Places.{Place, places_of}
use Rattle.farkas_find.specs.Verdict.{IsRefutedBy}
use Rattle.formula_refute.specs.Cases.{most_systems}
use Rattle.formula_refute.specs.Claims.{IsInRange}
use Rattle.formula_refute.specs.Fronts.{Stops}
use Rattle.formula_refute.specs.declared.front.Stop.{Stop}
use Rattle.domain_check.specs.Cases.{Case, Series, cases_of}
use Rattle.domain_check.specs.Checks.{Checks, checks_at, made_of}
use Rattle.domain_check.specs.declared.fault.CheckKind.{CheckKind}

abbrev pub all_places : System → List Place
all_places p = flat_map (places_of p) p.equations

abbrev pub FitsAt : System → Place → Type 0
FitsAt p place = All IsInRange (made_of p place.part)

abbrev pub IsFew : Checks → Type 0
IsFew checks = length (cases_of checks) ≤ most_systems

abbrev pub AreFewAt : System → Place → Type 0
AreFewAt p place = All IsFew (checks_at p place)

abbrev pub IsRefuted : Case → Type 0
IsRefuted case = (steps : List Step) × IsRefutedBy case.system steps

-- the first case that isn't refuted, by its kind and number, and what the elimination answers there
pub record IsFirst (cases : List Case) (kind : CheckKind) (number : ℕ) (stop : Stop) : Type 0 where
  pub before : List Case
  pub system : Polyhedron
  pub after : List Case
  pub order : cases ≡ before ++ record { kind = kind; system = system } ∷ after
  pub refuted : All IsRefuted before
  pub here : number ≡ length before
  pub stops : Stops system stop

abbrev pub IsRefutedSeries : Series → Type 0
IsRefutedSeries series = All IsRefuted series.cases

pub record StopsAt (all : List Series) (kind : CheckKind) (variable number : ℕ) (stop : Stop) : Type 0 where
  pub before : List Series
  pub cases : List Case
  pub after : List Series
  pub order : all ≡ before ++ record { variable = variable; cases = cases } ∷ after
  pub refuted : All IsRefutedSeries before
  pub first : IsFirst cases kind number stop

-- no entry is out of range, and no limit on cases is passed
pub record IsDecidable (p : System) : Type 0 where
  pub entries : All (FitsAt p) (all_places p)
  pub few : All (AreFewAt p) (all_places p)
