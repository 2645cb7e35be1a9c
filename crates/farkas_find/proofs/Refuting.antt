-- A row that refutes the system has a valid derivation from the given rows, out of the steps that the stages made.
use Rattle.std.proofs.Common.{◌≡◌, ℕ, zero, suc, ◌+◌, ◌<◌, ◌∙◌, sym, subst, refl, arith, true, List, [], ◌∷◌, ◌++◌, length, map, All, ℤ, pos, None, int_lt}
use Rattle.std.proofs.Common.{length-append, get_or-append-add, append_assoc}
use Rattle.std.proofs.lemmas.List.{length-map}
use Rattle.farkas_find.proofs.Numbering.{length-numbered_from}
use Rattle.std.proofs.lemmas.Int.{ints}
use Rattle.std.proofs.lemmas.Bool.{and_parts}
use Rattle.std.proofs.lemmas.Bool.Decides.{Decides-int_eq}
use Rattle.std.proofs.lemmas.List.Elements.{All-nil, All-cons, All-filter, All-append, All-get_or}
use Rattle.std.proofs.lemmas.List.Quantifiers.{position-Some}
use Rattle.std.specs.List.{list_all, range_with_len}
use Rattle.az_lin.specs.Affine.{Affine}
use Rattle.az_lin.specs.Combination.{HasWideEntries}
use Rattle.az_lin.specs.Derivation.{IsStep, IsContradiction, IsDerivation, AllSteps}
use Rattle.az_lin.specs.Derivation.{row_at as row_made, rows_after as made_after}
use Rattle.az_lin.specs.declared.step.Step.{Step}
use Rattle.az_lin.proofs.Derivations.{length-rows_after}
use Rattle.farkas_find.specs.declared.numbered.Numbered.{Numbered}
use Rattle.farkas_find.specs.declared.choice.Choice.{Choice}
use Rattle.farkas_find.specs.declared.trail.Stage.{Stage}
use Rattle.farkas_find.specs.declared.trail.Ended.TheVariants.{Refuted}
use Rattle.farkas_find.specs.Tidying.{row_at, coef_at, is_zero, is_constant, is_refuting, rounded_rows, rounding_steps, stays, strongest}
use Rattle.farkas_find.specs.Combining.{combined_at, step_at, numbered_from}
use Rattle.farkas_find.specs.Choosing.{free_columns}
use Rattle.farkas_find.specs.Stages.{given_rows, first_stage, tidied_rows, tidied_stage, rows_without, pairs_for, next_rows, StaysWide, without_column, IsReached, EndsBy}
use Rattle.farkas_find.specs.Needed.{derivation_of}
use Rattle.farkas_find.specs.Inner.Nexts.{IsChoice}
use Rattle.farkas_find.proofs.Keeping.{All-picked}
use Rattle.farkas_find.proofs.Chosen.{choice-is_choice}
use Rattle.farkas_find.proofs.Paired.{pairs_for-are_pairs}
use Rattle.farkas_find.proofs.Pruning.{derivation_of-derives}
use Rattle.farkas_find.proofs.Logged.{IsMade, Logged, wide_after, AllSteps-append, rows_after-append, all_made_after, rounding-logged, combining-logged}

-- a stage whose rows the log makes from the given ones
pub record StageLogged (given : List Affine) (stage : Stage) : Type 0 where
  pub logged : Logged given stage.steps stage.rows
  pub next_is : stage.next ≡ length given + length stage.steps

numbered-made : (whole front rest : List Affine) (next : ℕ) → whole ≡ front ++ rest → next ≡ length front → All (IsMade whole) (numbered_from next rest)
unfolding numbered_from
numbered-made whole front [] next is count = All-nil (IsMade whole)
numbered-made whole front (row ∷ rest) next is count =
    let it : Numbered = record { row = row; number = next } in
    let empty : Affine = record { coefs = []; konst = pos 0 } in
    let place : next ≡ length front + 0 = omega (arith, count) in
    let here : row_made whole next ≡ row = rw (is, place) (get_or-append-add front (row ∷ rest) 0 empty) in
    let inside : next < length whole = rw is (omega (arith, count, length-append front (row ∷ rest))) in
    let made : IsMade whole it = record { below = inside; row = here } in
    let on : whole ≡ (front ++ row ∷ []) ++ rest = is ∙ sym (append_assoc front (row ∷ []) rest) in
    All-cons (IsMade whole) it (numbered_from (next + 1) rest) made (numbered-made whole (front ++ row ∷ []) rest (next + 1) on (omega (arith, count, length-append front (row ∷ []))))

first-logged : (given : List Affine) → StageLogged given (first_stage (given_rows given))
first-logged given = record {
  logged = record { good = tt; are_made = numbered-made given [] given 0 refl (omega arith) };
  next_is = omega (arith, length-numbered_from 0 given);
}

strongest-made : (made : List Affine) (rows : List Numbered) → All (IsMade made) rows → All (IsMade made) (strongest rows)
unfolding strongest
strongest-made made rows all = All-picked (IsMade made) (map (stays rows) (range_with_len 0 (length rows))) rows all

-- the log goes on by steps from where it is
logged-more : (given : List Affine) (steps more : List Step) (rows next : List Numbered) → Logged given steps rows → Logged (made_after given steps) more next → Logged given (steps ++ more) next
logged-more given steps more rows next before after = record {
  good = AllSteps-append given steps more before.good after.good;
  are_made =
      let P : List Affine → Type 0 = λ made. All (IsMade made) next in
      subst P (sym (rows_after-append given steps more)) after.are_made;
}

next-made : (column : ℕ) (made : List Affine) (steps : List Step) (rows new : List Numbered) → All (IsMade made) rows → All (IsMade (made_after made steps)) new
    → All (IsMade (made_after made steps)) (rows_without column rows ++ new)
unfolding rows_without
next-made column made steps rows new all others =
    All-append (IsMade (made_after made steps)) (rows_without column rows) new
    (all_made_after made steps (rows_without column rows) (All-filter (λ it. is_zero (coef_at column it)) (IsMade made) rows all)) others

tidied-logged : (given : List Affine) (stage : Stage) → All HasWideEntries given → StageLogged given stage → StageLogged given (tidied_stage stage)
tidied-logged given stage wide before =
    let made = made_after given stage.steps in
    let count : stage.next ≡ length made = omega (arith, before.next_is, length-rows_after given stage.steps) in
    let all_wide : All HasWideEntries made = wide_after given stage.steps wide before.logged.good in
    let rounded = rounding-logged made stage.next stage.rows count all_wide before.logged.are_made in
    let kept : Logged made (rounding_steps stage.rows) (tidied_rows stage) = record {
      good = rounded.good;
      are_made = strongest-made (made_after made (rounding_steps stage.rows)) (rounded_rows stage.next stage.rows) rounded.are_made;
    } in
    record {
      logged = logged-more given stage.steps (rounding_steps stage.rows) stage.rows (tidied_rows stage) before.logged kept;
      next_is = omega (arith, before.next_is, length-append stage.steps (rounding_steps stage.rows));
    }

without-logged : (given : List Affine) (width : ℕ) (choice : Choice) (stage : Stage) → StageLogged given stage → IsChoice width stage.rows choice
    → StaysWide choice stage.rows → StageLogged given (without_column choice stage)
unfolding without_column next_rows
without-logged given width choice stage before is_choice stays =
    let made = made_after given stage.steps in
    let pairs = pairs_for choice stage.rows in
    let steps = map (step_at choice.column stage.rows) pairs in
    let count : stage.next ≡ length made = omega (arith, before.next_is, length-rows_after given stage.steps) in
    let combined = combining-logged made stage.next choice.column stage.rows pairs count before.logged.are_made (pairs_for-are_pairs width stage.rows choice is_choice) stays in
    let next : Logged made steps (rows_without choice.column stage.rows ++ numbered_from stage.next (map (combined_at choice.column stage.rows) pairs)) = record {
      good = combined.good;
      are_made = next-made choice.column made steps stage.rows (numbered_from stage.next (map (combined_at choice.column stage.rows) pairs)) before.logged.are_made combined.are_made;
    } in
    record {
      logged = logged-more given stage.steps steps stage.rows (rows_without choice.column stage.rows ++ numbered_from stage.next (map (combined_at choice.column stage.rows) pairs)) before.logged next;
      next_is = omega (arith, before.next_is, length-append stage.steps steps, length-map pairs (step_at choice.column stage.rows));
    }

pub reached-logged : (width : ℕ) (given : List Affine) (s : ℕ) (stage : Stage) → All HasWideEntries given
    → IsReached (free_columns None width) (given_rows given) s stage → StageLogged given stage
reached-logged width given zero stage wide reached = subst (StageLogged given) (sym reached.1) (first-logged given)
reached-logged width given (suc s) stage wide reached =
    let earlier : Stage = reached.0 in
    let follows = reached.2 in
    let choice : Choice = follows.choice in
    let before = reached-logged width given s earlier wide reached.1 in
    let is_choice : IsChoice width (tidied_rows earlier) choice = choice-is_choice None width (tidied_rows earlier) choice follows.chooses.chosen in
    let after = without-logged given width choice (tidied_stage earlier) (tidied-logged given earlier wide before) is_choice follows.wide in
    subst (StageLogged given) (sym follows.next) after

-- a refuting row is a contradiction
all_zero : (zs : List ℤ) → list_all is_zero zs ≡ true → All (λ coef. coef ≡ pos 0) zs
all_zero [] h = All-nil (λ coef. coef ≡ pos 0)
all_zero (z ∷ zs) h =
    let parts = and_parts (is_zero z) (list_all is_zero zs) h in
    All-cons (λ coef. coef ≡ pos 0) z zs ((Decides-int_eq z (pos 0)).0 parts.0) (all_zero zs parts.1)

refuting-contradicts : (it : Numbered) → is_refuting it ≡ true → IsContradiction it.row
unfolding is_refuting is_constant
refuting-contradicts it h =
    let parts = and_parts (list_all is_zero it.row.coefs) (int_lt it.row.konst (pos 0)) h in
    record { constant_alone = all_zero it.row.coefs parts.0; negative = grind (arith, ints, parts.1) }

-- the last stage's refuting row, out of the log with the roundings of that stage
pub record IsRefuted (given : List Affine) (number : ℕ) (steps : List Step) : Type 0 where
  pub inside : number < length given + length steps
  pub good : AllSteps IsStep given steps
  pub contradiction : IsContradiction (row_made (made_after given steps) number)

pub refuted_by : (width : ℕ) (given : List Affine) (s : ℕ) (stage : Stage) (number : ℕ) (steps : List Step) → All HasWideEntries given
    → IsReached (free_columns None width) (given_rows given) s stage → EndsBy (free_columns None width) stage (Refuted number)
    → steps ≡ stage.steps ++ rounding_steps stage.rows → IsRefuted given number steps
refuted_by width given s stage number steps wide reached ends is =
    let before = reached-logged width given s stage wide reached in
    let made = made_after given stage.steps in
    let count : stage.next ≡ length made = omega (arith, before.next_is, length-rows_after given stage.steps) in
    let rounded = rounding-logged made stage.next stage.rows count (wide_after given stage.steps wide before.logged.good) before.logged.are_made in
    let all = logged-more given stage.steps (rounding_steps stage.rows) stage.rows (rounded_rows stage.next stage.rows) before.logged rounded in
    let nothing : Numbered = record { row = record { coefs = []; konst = pos 0 }; number = 0 } in
    let place : ℕ = ends.0 in
    let found = position-Some is_refuting (rounded_rows stage.next stage.rows) place nothing ends.1 in
    let it = row_at (rounded_rows stage.next stage.rows) place in
    let it_made : IsMade (made_after given (stage.steps ++ rounding_steps stage.rows)) it =
    All-get_or (IsMade (made_after given (stage.steps ++ rounding_steps stage.rows))) (rounded_rows stage.next stage.rows) place nothing found.0 all.are_made in
    let here : IsRefuted given it.number (stage.steps ++ rounding_steps stage.rows) = record {
      inside = omega (arith, it_made.below, length-rows_after given (stage.steps ++ rounding_steps stage.rows));
      good = all.good;
      contradiction = subst IsContradiction (sym it_made.row) (refuting-contradicts it found.1);
    } in
    let P : List Step → Type 0 = IsRefuted given it.number in
    let Q : ℕ → Type 0 = λ n. IsRefuted given n steps in
    subst Q (sym ends.2) (subst P (sym is) here)

pub refuted-derives : (given : List Affine) (number : ℕ) (steps : List Step) → All HasWideEntries given → IsRefuted given number steps
    → IsDerivation IsStep given (derivation_of number (length given) steps)
refuted-derives given number steps wide is = derivation_of-derives given number steps wide is.inside is.good is.contradiction
