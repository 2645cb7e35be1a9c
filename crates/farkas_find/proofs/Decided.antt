-- The verdict: what the end of the stages gives, and that small systems always get one.
use Rattle.std.proofs.Common.{◌≡◌, ℕ, ◌+◌, ◌*◌, ◌^◌, ◌<◌, ◌≤◌, ◌∙◌, sym, subst, ap, arith, None, List, length, All, inl, inr, Result, Ok, Err}
use Rattle.std.proofs.Common.{length-append}
use Rattle.std.proofs.lemmas.List.Elements.{All-weaker}
use Rattle.az_lin.specs.Affine.{Affine, Polyhedron, HasWidth}
use Rattle.az_lin.specs.Combination.{HasWideEntries}
use Rattle.az_lin.specs.Derivation.{IsStep, IsDerivation}
use Rattle.az_lin.specs.declared.step.Step.{Step}
use Rattle.farkas_find.specs.declared.numbered.Numbered.{Numbered}
use Rattle.farkas_find.specs.declared.trail.Stage.{Stage}
use Rattle.farkas_find.specs.declared.trail.Eliminated.{Eliminated}
use Rattle.farkas_find.specs.declared.trail.Ended.{Ended}
use Rattle.farkas_find.specs.declared.trail.Ended.TheVariants.{Refuted, Left}
use Rattle.farkas_find.specs.declared.trail.Finished.{Finished}
use Rattle.std.specs.Prelude.{IfOk}
use Rattle.az_lin.specs.RationalPoint.{Satisfies}
use Rattle.az_lin.specs.declared.step.RatPoint.{RatPoint}
use Rattle.farkas_find.specs.Point.{rounded_system, EndsOpen}
use Rattle.farkas_find.proofs.Ending.{point_satisfies, ends_open}
use Rattle.farkas_find.proofs.OneVerdict.{one_verdict}
use Rattle.farkas_find.specs.declared.verdict.Decision.{Decision}
use Rattle.farkas_find.specs.declared.verdict.Decision.TheVariants.{Refuted as RefutedBy, Point}
use Rattle.farkas_find.specs.declared.fault.FindFault.{FindFault}
use Rattle.farkas_find.specs.declared.fault.FindFault.TheVariants.{Overflow, Limit, Memory}
use Rattle.farkas_find.specs.Tidying.{rounding_steps}
use Rattle.farkas_find.specs.Combining.{HaveWidth}
use Rattle.farkas_find.specs.Choosing.{free_columns}
use Rattle.farkas_find.specs.Stages.{HasFew, given_rows, Finishes}
use Rattle.farkas_find.specs.Needed.{derivation_of}
use Rattle.farkas_find.specs.BackSubstitution.{IsInside, IsFoundWide, point_of}
use Rattle.farkas_find.specs.Verdict.{StagesEnd, IsRefutedBy, HasPoint, ExcludesOther, Decides, IsSmallRow, IsSmallSystem, IsNoOverflow}
use Rattle.farkas_find.proofs.Numbering.{length-numbered_from}
use Rattle.farkas_find.proofs.Rounded.{length-rounding_steps}
use Rattle.farkas_find.proofs.Keeping.{Every-given}
use Rattle.farkas_find.proofs.Refuting.{IsRefuted, refuted_by, refuted-derives, reached-logged}
use Rattle.farkas_find.proofs.Small.{IsSmall, few_given, never_leaves}
use Rattle.farkas_find.proofs.SmallPoint.{AreSmallFrom, trail_small, found_wide_small}
use Rattle.farkas_find.proofs.Trails.{reached_inside}

given-width : (width : ℕ) (rows : List Affine) → All (HasWidth width) rows → HaveWidth width (given_rows rows)
given-width width rows all = Every-given (HasWidth width) rows all

pub rows_have_width : (width its : ℕ) (rows : List Affine) (items : List Numbered) → width ≡ its → items ≡ given_rows rows → All (HasWidth its) rows → HaveWidth width items
rows_have_width width its rows items same is all =
    let P : ℕ → Type 0 = λ w. HaveWidth w items in
    let Q : List Numbered → Type 0 = HaveWidth its in
    subst P (sym same) (subst Q (sym is) (given-width its rows all))

-- the end of a system's stages, and what goes with it
pub record Judged (system : Polyhedron) (ended : Ended) (steps : List Step) (trail : List Eliminated) : Type 0 where
  pub ends : StagesEnd system ended steps trail
  pub widths : All (HasWidth system.width) system.rows
  pub wide : All HasWideEntries system.rows
  pub few : length system.rows + length steps < 2 ^ 32
  pub inside : All (IsInside system.width) trail
  pub short : length trail ≤ 4096

facts_of : (system : Polyhedron) (ended : Ended) (steps : List Step) (trail : List Eliminated) → system.width ≤ 4096 → All (HasWidth system.width) system.rows
    → All HasWideEntries system.rows → HasFew (given_rows system.rows) → StagesEnd system ended steps trail → Judged system ended steps trail
facts_of system ended steps trail narrow widths wide few ends =
    let stage : Stage = ends.stage in
    let inside = reached_inside None system.width (given_rows system.rows) ends.number stage (given-width system.width system.rows widths) few ends.reached in
    let logged = reached-logged system.width system.rows ends.number stage wide ends.reached in
    let rows_few : length system.rows ≤ 20000 = omega (arith, few, length-numbered_from 0 system.rows) in
    let log : length steps ≡ length stage.steps + length (rounding_steps stage.rows) =
    ap (λ (ss : List Step). length ss) ends.steps ∙ length-append stage.steps (rounding_steps stage.rows) in
    let number : ends.number ≤ 4096 = omega (arith, inside.stands.live, narrow) in
    let next : stage.next ≤ 20000 + 4096 * 40000 = omega (arith, inside.stands.numbers, number) in
    let P : List Eliminated → Type 0 = All (IsInside system.width) in
    record {
      ends = ends;
      widths = widths;
      wide = wide;
      few = omega (arith, log, logged.next_is, next, length-rounding_steps stage.rows, inside.stands.few, rows_few);
      inside = subst P (sym ends.trail) inside.trail;
      short = omega (arith, ap (λ (t : List Eliminated). length t) ends.trail, inside.count, number);
    }

pub judged : (system : Polyhedron) (width : ℕ) (rows : List Affine) (items : List Numbered) (finished : Finished) (ended : Ended) → width ≡ system.width → system.width ≤ 4096
    → rows ≡ system.rows → All (HasWidth system.width) rows → All HasWideEntries rows → HasFew (given_rows rows) × (items ≡ given_rows rows)
    → Finishes (free_columns None width) items finished → finished.ended ≡ ended → Judged system ended finished.steps finished.trail
judged system width rows items finished ended width_is narrow rows_are widths wide given finishes ended_is =
    let P : List Affine → Type 0 = All (HasWidth system.width) in
    let Q : List Affine → Type 0 = All HasWideEntries in
    let R : List Affine → Type 0 = λ rs. HasFew (given_rows rs) in
    let S : ℕ → Type 0 = λ w. Finishes (free_columns None w) items finished in
    let T : List Numbered → Type 0 = λ is. Finishes (free_columns None system.width) is finished in
    let U : Ended → Type 0 = λ e. StagesEnd system e finished.steps finished.trail in
    let ends : StagesEnd system ended finished.steps finished.trail =
    subst U ended_is (subst T (given.1 ∙ ap (λ (rs : List Affine). given_rows rs) rows_are) (subst S width_is finishes)) in
    facts_of system ended finished.steps finished.trail narrow (subst P rows_are widths) (subst Q rows_are wide) (subst R rows_are given.0) ends

pub refuted_in : (system : Polyhedron) (number : ℕ) (steps : List Step) (trail : List Eliminated) → Judged system (Refuted number) steps trail → IsRefuted system.rows number steps
refuted_in system number steps trail all =
    refuted_by system.width system.rows all.ends.number all.ends.stage number steps all.wide all.ends.reached all.ends.ends all.ends.steps

pub refutes : (system : Polyhedron) (number : ℕ) (log : List Step) (trail : List Eliminated) (rows : List Affine) (seen steps : List Step) → Judged system (Refuted number) log trail
    → rows ≡ system.rows → seen ≡ log → steps ≡ derivation_of number (length rows) seen → IsRefutedBy system steps
refutes system number log trail rows seen steps all rows_are seen_is is =
    let stated : steps ≡ derivation_of number (length system.rows) log =
    is ∙ ap (λ (rs : List Affine). derivation_of number (length rs) seen) rows_are ∙ ap (λ (ss : List Step). derivation_of number (length system.rows) ss) seen_is in
    let P : List Step → Type 0 = IsDerivation IsStep system.rows in
    record {
      number = number;
      log = log;
      trail = trail;
      ends = all.ends;
      stated = stated;
      valid = subst P (sym stated) (refuted-derives system.rows number log all.wide (refuted_in system number log trail all));
    }

pub opens : (system : Polyhedron) (left : List Numbered) (log : List Step) (trail : List Eliminated) (width : ℕ) (rows : List Affine) (seen : List Eliminated) (point : RatPoint)
    → Judged system (Left left) log trail → width ≡ system.width → rows ≡ system.rows → seen ≡ trail
    → IsFoundWide width seen rows × (point ≡ point_of width seen) → HasPoint system point
opens system left log trail width rows seen point all width_is rows_are seen_is found =
    let P : ℕ → Type 0 = λ w. IsFoundWide w seen rows × (point ≡ point_of w seen) in
    let Q : List Eliminated → Type 0 = λ t. IsFoundWide system.width t rows × (point ≡ point_of system.width t) in
    let R : List Affine → Type 0 = λ rs. IsFoundWide system.width trail rs in
    let S : RatPoint → Type 0 = Satisfies (rounded_system system.width system.rows) in
    let here = subst Q seen_is (subst P width_is found) in
    let wide : IsFoundWide system.width trail system.rows = subst R rows_are here.0 in
    let ends : EndsOpen system.width system.rows trail = ends_open system.width system.rows left log trail all.ends in
    record {
      trail = trail;
      unrefuted = record { left = left; log = log; ends = all.ends };
      wide = wide;
      stated = here.1;
      meets = subst S (sym here.1) (point_satisfies system.width system.rows trail all.widths ends wide);
    }

pub excludes_other : (system : Polyhedron) (result : Result Decision FindFault) → Decides system result → IfOk result (ExcludesOther system)
excludes_other system (Ok (RefutedBy derivation)) decides = λ point is_open. one_verdict system derivation.steps is_open.trail decides is_open.unrefuted
excludes_other system (Ok (Point point)) decides = λ steps refuted. one_verdict system steps decides.trail refuted decides.unrefuted
excludes_other system (Err fault) decides = tt

small_rows : (rows : List Affine) → All IsSmallRow rows → All (IsSmall 3) rows
small_rows rows all = All-weaker IsSmallRow (IsSmall 3) (λ row (h : IsSmallRow row). let s : IsSmall 3 row = record { coefficients = h.0; constant = h.1 } in s) rows all

pub small_never_overflows : (system : Polyhedron) (result : Result Decision FindFault) → All (HasWidth system.width) system.rows → Decides system result → IsSmallSystem system → IsNoOverflow result
small_never_overflows system (Ok decision) widths decides small = tt
small_never_overflows system (Err (Overflow stage)) widths (inl leaves) small =
    never_leaves None system.width (given_rows system.rows) stage small.unknowns (given-width system.width system.rows widths)
    (Every-given (IsSmall 3) system.rows (small_rows system.rows small.entries)) leaves
small_never_overflows system (Err (Overflow stage)) widths (inr loses) small =
    let ends = loses.unrefuted.ends in
    let given = given_rows system.rows in
    let few : HasFew given = few_given (free_columns None system.width) given ends.number ends.stage ends.reached in
    let wide : HaveWidth system.width given = given-width system.width system.rows widths in
    let inside = reached_inside None system.width given ends.number ends.stage wide few ends.reached in
    let entries : All (IsSmall 3) system.rows = small_rows system.rows small.entries in
    let gone = trail_small None system.width given ends.number ends.stage wide few (Every-given (IsSmall 3) system.rows entries) ends.reached in
    let P : List Eliminated → Type 0 = AreSmallFrom system.width 0 in
    let short : length loses.trail ≤ 5 = omega (arith, ap (λ (t : List Eliminated). length t) ends.trail, inside.count, inside.stands.live, small.unknowns) in
    loses.leaves (found_wide_small system.width loses.trail system.rows small.unknowns short (subst P (sym ends.trail) gone) widths entries)
small_never_overflows system (Err (Limit limit)) widths decides small = tt
small_never_overflows system (Err Memory) widths decides small = tt
