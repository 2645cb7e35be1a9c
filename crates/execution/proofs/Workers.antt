-- A worker changes, and no word does.
use Rattle.std.proofs.Common.{◌≡◌, ◌⊎◌, ⊎_elim, ℕ, ◌≤◌, List, length, set, slice_get, Some, refl, sym, ap, ◌∙◌, arith}
use Rattle.std.specs.Prelude.{ℤ}
use Rattle.execution.specs.Good.{IsToMake}
use Rattle.execution.specs.Plans.{Plan}
use Rattle.execution.specs.States.{Worker, working, State, Works, IsStored, in_earlier_wave, in_finished_tile, behind_worker}
use Rattle.execution.specs.declared.place.Place.{Place}
use Rattle.execution.proofs.Lists.{same_or_other, set_same, kept_other, changed}
use Rattle.execution.proofs.Quiet.{IsQuiet}

abbrev pub replaced : State → ℕ → ℕ → Worker → State
replaced s counter k new = record { wave = s.wave; counter = counter; cells = s.cells; finished = s.finished; workers = set s.workers k new }

-- a new worker works at the first instance of a tile or where the old one works, and has loaded no less
pub record Carries (old new : Worker) : Type 0 where
  pub gains : (tile number : ℕ) (values : List ℤ) → new ≡ working tile number values → (number ≡ 0) ⊎ ((others : List ℤ) × (old ≡ working tile number others))
  pub keeps : (tile number : ℕ) (values : List ℤ) → old ≡ working tile number values → (others : List ℤ) × (length values ≤ length others) × (new ≡ working tile number others)

module _ (plan : Plan) (s : State) (counter k : ℕ) (old new : Worker) (at : slice_get s.workers k ≡ Some old) (carries : Carries old new) where
  abbrev t : State
  t = replaced s counter k new

  old_is : (j tile number : ℕ) (values : List ℤ) → j ≡ k → Works s j tile number values → old ≡ working tile number values
  old_is j tile number values same h = let here : slice_get s.workers k ≡ Some (working tile number values) = sym (ap (slice_get s.workers) same) ∙ h in cc

  works_new : (tile number : ℕ) (values : List ℤ) → new ≡ working tile number values → Works t k tile number values
  works_new tile number values is = set_same s.workers k new old at ∙ ap Some is

  forth : (q : Place) → IsStored s q → IsStored t q
  forth q (in_earlier_wave l) = in_earlier_wave l
  forth q (in_finished_tile w f) = in_finished_tile w f
  forth q (behind_worker w j number values h l) =
      ⊎_elim
      (λ same. let keep = carries.keeps q.tile number values (old_is j q.tile number values same h) in behind_worker w k number keep.0 (works_new q.tile number keep.0 keep.2) l)
      (λ other. behind_worker w j number values (kept_other s.workers k j new (working q.tile number values) other h) l) (same_or_other j k)

  back : (q : Place) → IsStored t q → IsStored s q
  back q (in_earlier_wave l) = in_earlier_wave l
  back q (in_finished_tile w f) = in_finished_tile w f
  back q (behind_worker w j number values h l) =
      ⊎_elim
      (λ here. ⊎_elim (λ first. absurd (omega (arith, first, l))) (λ here_is. behind_worker w k number here_is.0 (at ∙ ap Some here_is.1) l) (carries.gains q.tile number values (sym here.1)))
      (λ other. behind_worker w j number values other.1 l) (changed s.workers k j old new (working q.tile number values) at h)

  to_make : (p : Place) (j : ℕ) → IsToMake t p j → IsToMake s p j
  to_make p j made i values wave h =
      ⊎_elim
      (λ same. let keep = carries.keeps p.tile p.number values (old_is i p.tile p.number values same h) in
      let less = made k keep.0 wave (works_new p.tile p.number keep.0 keep.2) in omega (arith, keep.1, less))
      (λ other. made i values wave (kept_other s.workers k i new (working p.tile p.number values) other h)) (same_or_other i k)

  pub replaced_quiet : IsQuiet plan s (replaced s counter k new)
  replaced_quiet = record {
    cells = refl;
    forth = λ q v sq h. forth q h;
    back = λ q v sq h. back q h;
    to_make = λ p w j sp unstored made. to_make p j made;
  }
