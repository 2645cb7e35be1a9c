-- A desk in memory that fails at listed calls.
use Rattle.std.specs.Prelude.{◌≡◌, ℕ, ◌==◌, ◌||◌, List, ◌++◌, take, find, Bool, true, false}
use Rattle.std.specs.Prelude.{Option, Some, None, option_map, is_some, is_none, Result, Ok, Err}
use Rattle.az_desk.specs.Desk.{Seen, next_count}
use Rattle.az_desk.specs.Files.{Contents, file_of, with_file}
use Rattle.az_desk.specs.declared.call.Call.{Call}
use Rattle.az_desk.specs.declared.call.Call.TheVariants.{Read}
use Rattle.az_desk.specs.declared.memory.Failure.{Failure}
use Rattle.az_desk.specs.declared.fault.DeskFault.{DeskFault}
use Rattle.az_desk.specs.declared.fault.DeskFault.TheVariants.{Failed, TooLong, Memory}

-- what it holds, the failures that it was given, the number of the next call, the call that failed last,
-- and its count of faults
pub record FailingDesk : Type 0 where
  pub contents : Contents
  pub failures : List Failure
  pub calls : ℕ
  pub last : Option Call
  pub faults : ℕ

-- it tells everything
abbrev pub seen_of : FailingDesk → Seen
seen_of desk = record { files = Some desk.contents.files; said = Some desk.contents.said; last = Some desk.last; faults = desk.faults }

-- how many bytes the next call keeps, where a failure is listed for it
abbrev pub failure_of : FailingDesk → Option ℕ
failure_of desk = option_map (λ failure. failure.kept) (find (λ failure. failure.call == desk.calls) desk.failures)

-- the desk after a call that left these contents, and after one that also failed
abbrev pub after_call : FailingDesk → Contents → FailingDesk
after_call desk contents = record desk { contents = contents; calls = next_count desk.calls }

abbrev pub told_failure : Call → FailingDesk → FailingDesk
told_failure call desk = record desk { last = Some call; faults = next_count desk.faults }

abbrev pub after_failure : Call → FailingDesk → Contents → FailingDesk
after_failure call desk contents = told_failure call (after_call desk contents)

-- A read fails at a listed call, and on a name that isn't there.
abbrev pub is_to_fail : FailingDesk → List ℕ → Bool
is_to_fail desk name = is_some (failure_of desk) || is_none (file_of desk.contents.files name)

abbrev pub ReadsUnlessListed : FailingDesk → List ℕ → Result (List ℕ) DeskFault → FailingDesk → Type 0
ReadsUnlessListed old name (Ok _) new = (is_to_fail old name ≡ false) × (new ≡ after_call old old.contents)
ReadsUnlessListed old name (Err TooLong) new = (is_to_fail old name ≡ false) × (new ≡ after_call old old.contents)
ReadsUnlessListed old name (Err Failed) new = (is_to_fail old name ≡ true) × (new ≡ after_failure (Read name) old old.contents)
ReadsUnlessListed old name (Err Memory) new = new ≡ after_call old old.contents

-- A write or a say, which brings the contents by some bytes to what `bring` gives for them: at a listed call
-- it fails and brings those that are kept, at another it brings all.
abbrev pub BringsUnlessListed : Call → FailingDesk → (List ℕ → Contents) → List ℕ → Result (Unit {0}) DeskFault → FailingDesk → Type 0
BringsUnlessListed call old bring bytes (Ok _) new = (failure_of old ≡ None) × (new ≡ after_call old (bring bytes))
BringsUnlessListed call old bring bytes (Err Failed) new =
    (kept : ℕ) × (failure_of old ≡ Some kept) × (new ≡ after_failure call old (bring (take kept bytes)))
BringsUnlessListed call old bring bytes (Err TooLong) new = ⊥
BringsUnlessListed call old bring bytes (Err Memory) new = new ≡ after_call old old.contents

abbrev pub contents_with_file : Contents → List ℕ → List ℕ → Contents
contents_with_file contents name bytes = record contents { files = with_file name bytes contents.files }

abbrev pub contents_with_said : Contents → List ℕ → Contents
contents_with_said contents bytes = record contents { said = contents.said ++ bytes }
