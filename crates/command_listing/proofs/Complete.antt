-- What follows of a run: which files stay as they were, and where no command is refused it is done, unless the desk fails
-- or memory runs out.
use Rattle.std.proofs.Common.{◌≡◌, ◌≢◌, ◌⊎◌, ℕ, ◌+◌, List, [], ◌∷◌, All, inl, inr, refl, sym, subst, ap, ◌∙◌, take, arith}
use Rattle.std.specs.Prelude.{Option, Some, None, IfSome, Ok, Err}
use Rattle.std.proofs.lemmas.List.Elements.{All-head, All-tail}
use Rattle.az_desk.specs.Desk.{Seen, Rose}
use Rattle.az_desk.specs.Files.{Files, with_file}
use Rattle.az_desk.proofs.DeskLemmas.{writes_leave_others}
use Rattle.session_state.specs.Codes.{status}
use Rattle.session_state.specs.Endings.{Ending}
use Rattle.session_state.specs.Session.{Session, Carried}
use Rattle.session_state.specs.Steps.{Step}
use Rattle.session_state.specs.Writings.{FileText, with_written, files_after}
use Rattle.session_state.specs.declared.stop.Stop.{Stop}
use Rattle.session_state.specs.declared.stop.Stop.TheVariants.{Memory}
use Rattle.session_state.proofs.Once.{IsOne, NotBoth}
use Rattle.session_state.proofs.Stopped.{same_by_stop, stops_by_fault, same_by_text, text_by_fault}
use Rattle.command_listing.specs.Commands.{Commands, front}
use Rattle.command_listing.specs.Listing.{FailsToWrite, said_of, left_by, told_of, StopsAt, Runs, AreCarriedOut, AreUnrefused}
use Rattle.command_listing.specs.Standing.{stands_under}

-- what the desk shows with a file written
written_files : (file : Option FileText) (old : Seen) → (with_written file old).files ≡ files_after file old.files
written_files None old = refl
written_files (Some file) old = refl

written_faults : (file : Option FileText) (old : Seen) → (with_written file old).faults ≡ old.faults
written_faults None old = refl
written_faults (Some file) old = refl

-- a desk that tells its files still tells them
still_told : (file : Option FileText) (files : Files) → (told : Files) × (files_after file (Some files) ≡ Some told)
still_told None files = (files, refl)
still_told (Some file) files = (with_file file.name file.bytes files, refl)

rose_by_writing : (file : Option FileText) (step : Step Carried) (old new : Seen) (stop : Stop) → FailsToWrite file step old stop new → Rose old.faults new.faults
rose_by_writing None step old new stop h = absurd h
rose_by_writing (Some file) step old new stop (is, taken, (kept, left)) = rw left (omega arith)

-- a file that isn't the one that is written stands as before
module _ (name : List ℕ) where
  abbrev pub IsOther : Option FileText → Type 0
  IsOther file = IfSome file (λ writing. name ≢ writing.name)

  other_written : (file : Option FileText) (old : Seen) → IsOther file → stands_under name (with_written file old).files ≡ stands_under name old.files
  other_written None old other = refl
  other_written (Some file) old other = writes_leave_others old (with_written (Some file) old) file.name file.bytes (Ok tt) refl name other

  other_unwritten : (file : Option FileText) (step : Step Carried) (old new : Seen) (stop : Stop) → IsOther file → FailsToWrite file step old stop new
      → stands_under name new.files ≡ stands_under name old.files
  other_unwritten None step old new stop other h = absurd h
  other_unwritten (Some file) step old new stop other (is, taken, (kept, left)) =
      ap (λ (s : Seen). stands_under name s.files) left ∙ other_written (Some (record { name = file.name; bytes = take kept file.bytes })) old other

module _ {C : Type 0} (commands : Commands C) where
  module _ (name : List ℕ) where
    -- a command that never writes this file
    abbrev pub LeavesFile : C → Type 0
    LeavesFile command = (session : Session) → IsOther name (commands.writes command session)

    other_at : (number : ℕ) (command : C) (session : Session) (old new : Seen) (stop : Stop) → LeavesFile command → StopsAt commands number command session old stop new
        → stands_under name new.files ≡ stands_under name old.files
    other_at number command session old new stop leaves (inl h) =
        ap (stands_under name) (same_by_stop (front number (commands.word command)) (commands.gives command old.files session) old new stop h)
    other_at number command session old new stop leaves (inr (inl h)) =
        other_unwritten name (commands.writes command session) (commands.gives command old.files session) old new stop (leaves session) h
    other_at number command session old new stop leaves (inr (inr (done, taken, said))) =
        ap (stands_under name) (same_by_text (said_of commands number command done) (left_by commands command session old) new stop said)
        ∙ other_written name (commands.writes command session) old (leaves session)

    -- no file changed but those that the commands write
    pub other_stands : (number : ℕ) (all : List C) (session : Session) (old new : Seen) (ending : Ending) → All LeavesFile all → Runs commands number all session old ending new
        → stands_under name new.files ≡ stands_under name old.files
    other_stands number [] session old new ending leave h = ap (λ (s : Seen). stands_under name s.files) h.1
    other_stands number (command ∷ rest) session old new ending leave (inl (stop, is, h)) = other_at number command session old new stop (All-head LeavesFile command rest leave) h
    other_stands number (command ∷ rest) session old new ending leave (inr (done, taken, runs)) =
        other_stands (number + 1) rest done.session (told_of commands number command session done old) new ending (All-tail LeavesFile command rest leave) runs
        ∙ other_written name (commands.writes command session) old (All-head LeavesFile command rest leave session)

  -- a command that never writes
  abbrev pub WritesNone : C → Type 0
  WritesNone command = (session : Session) → commands.writes command session ≡ None

  unwritten : (command : C) (session : Session) (old : Seen) → WritesNone command → left_by commands command session old ≡ old
  unwritten command session old none = ap (λ (file : Option FileText). with_written file old) (none session)

  same_at : (number : ℕ) (command : C) (session : Session) (old new : Seen) (stop : Stop) → WritesNone command → StopsAt commands number command session old stop new → new.files ≡ old.files
  same_at number command session old new stop none (inl h) = same_by_stop (front number (commands.word command)) (commands.gives command old.files session) old new stop h
  same_at number command session old new stop none (inr (inl h)) =
      absurd (subst (λ (file : Option FileText). FailsToWrite file (commands.gives command old.files session) old stop new) (none session) h)
  same_at number command session old new stop none (inr (inr (done, taken, said))) =
      same_by_text (said_of commands number command done) (left_by commands command session old) new stop said ∙ ap (λ (s : Seen). s.files) (unwritten command session old none)

  -- where no command writes a file, no file changed
  pub same_files : (number : ℕ) (all : List C) (session : Session) (old new : Seen) (ending : Ending) → All WritesNone all → Runs commands number all session old ending new
      → new.files ≡ old.files
  same_files number [] session old new ending none h = ap (λ (s : Seen). s.files) h.1
  same_files number (command ∷ rest) session old new ending none (inl (stop, is, h)) = same_at number command session old new stop (All-head WritesNone command rest none) h
  same_files number (command ∷ rest) session old new ending none (inr (done, taken, runs)) =
      same_files (number + 1) rest done.session (told_of commands number command session done old) new ending (All-tail WritesNone command rest none) runs
      ∙ ap (λ (s : Seen). s.files) (unwritten command session old (All-head WritesNone command rest none))

  memory_at : (number : ℕ) (command : C) (session : Session) (old new : Seen) (stop : Stop) (rest : List C) → StopsAt commands number command session old stop new
      → AreUnrefused commands (command ∷ rest) old.files session → (Rose old.faults new.faults → ⊥) → stop ≡ Memory
  memory_at number command session old new stop rest (inl h) unrefused honest =
      stops_by_fault (front number (commands.word command)) (commands.gives command old.files session) old new stop h unrefused.0 honest
  memory_at number command session old new stop rest (inr (inl h)) unrefused honest =
      absurd (honest (rose_by_writing (commands.writes command session) (commands.gives command old.files session) old new stop h))
  memory_at number command session old new stop rest (inr (inr (done, taken, said))) unrefused honest =
      text_by_fault (said_of commands number command done) (left_by commands command session old) new stop said
      (λ rose. honest (subst (λ (count : ℕ). Rose count new.faults) (written_faults (commands.writes command session) old) rose))

  pub done_or_memory : (number : ℕ) (all : List C) (session : Session) (old new : Seen) (ending : Ending) → Runs commands number all session old ending new
      → AreUnrefused commands all old.files session → (Rose old.faults new.faults → ⊥) → (status ending ≡ 0) ⊎ (status ending ≡ 13)
  done_or_memory number [] session old new ending h unrefused honest = inl (ap status h.0)
  done_or_memory number (command ∷ rest) session old new ending (inl (stop, is, h)) unrefused honest =
      inr (ap status is ∙ ap (λ (s : Stop). status (Err s)) (memory_at number command session old new stop rest h unrefused honest))
  done_or_memory number (command ∷ rest) session old new ending (inr (done, taken, runs)) unrefused honest =
      done_or_memory (number + 1) rest done.session (told_of commands number command session done old) new ending runs
      (subst (λ (files : Option Files). AreUnrefused commands rest files done.session) (sym (written_files (commands.writes command session) old)) (unrefused.1 done taken))
      (λ rose. honest (subst (λ (count : ℕ). Rose count new.faults) (written_faults (commands.writes command session) old) rose))

  -- commands that answer one thing each, and are all carried out, aren't refused
  pub unrefused : ((command : C) (files : Files) (session : Session) → IsOne (commands.gives command (Some files) session))
      → ((command : C) (files : Files) (session : Session) → NotBoth (commands.gives command (Some files) session))
      → (all : List C) (files : Files) (session : Session) → AreCarriedOut commands all (Some files) session → AreUnrefused commands all (Some files) session
  unrefused one apart [] files session h = tt
  unrefused one apart (command ∷ rest) files session (done, taken, more) =
      let next = still_told (commands.writes command session) files in
      let all_next = unrefused one apart rest next.0 done.session (subst (λ (told : Option Files). AreCarriedOut commands rest told done.session) next.1 more) in (
        λ refusal refused. apart command files session done refusal taken refused,
        λ other also. subst (λ (d : Carried). AreUnrefused commands rest (files_after (commands.writes command session) (Some files)) d.session) (one command files session done other taken also)
            (subst (λ (told : Option Files). AreUnrefused commands rest told done.session) (sym next.1) all_next),
      )
