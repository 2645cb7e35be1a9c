-- What a desk shows, and what each call on it answers and leaves. A desk may tell its files, the bytes said
-- so far and the call that failed last, or tell nothing of them: each equation between options below also
-- says that what is told before the call is told after it.
use Rattle.std.specs.Prelude.{◌≡◌, ◌⊎◌, ℕ, ◌+◌, ◌-◌, ◌^◌, ◌<◌, ◌≤◌, min, List, ◌++◌, length, take}
use Rattle.std.specs.Prelude.{Option, Some, option_map, Result, Ok, Err}
use Rattle.std.specs.Option.{ForSome}
use Rattle.az_desk.specs.Files.{Files, content_of, with_file}
use Rattle.az_desk.specs.declared.call.Call.{Call}
use Rattle.az_desk.specs.declared.call.Call.TheVariants.{Read, Write, Say}
use Rattle.az_desk.specs.declared.fault.DeskFault.{DeskFault}
use Rattle.az_desk.specs.declared.fault.DeskFault.TheVariants.{Failed, TooLong, Memory}

-- The files, the bytes said so far, the call that failed last, and how many calls failed. The first three
-- are `None` where the desk doesn't tell them; a desk that tells of its failures tells `None` before the
-- first.
pub record Seen : Type 0 where
  pub files : Option Files
  pub said : Option (List ℕ)
  pub last : Option (Option Call)
  pub faults : ℕ

-- one more, up to the last of a u64
abbrev pub next_count : ℕ → ℕ
next_count n = min (n + 1) (2 ^ 64 - 1)

-- the desk after a call failed that left it so
abbrev pub failed : Call → Seen → Seen
failed call left = record left { last = option_map (λ before. Some call) left.last; faults = next_count left.faults }

-- the desk with these bytes under the name, and with these bytes said
abbrev pub written : List ℕ → List ℕ → Seen → Seen
written name bytes old = record old { files = option_map (with_file name bytes) old.files }

abbrev pub said_more : List ℕ → Seen → Seen
said_more bytes old = record old { said = option_map (λ said. said ++ bytes) old.said }

-- A read gives the file's bytes, of which there are at most 2^24, and `TooLong` where there are more.
abbrev pub Reads : List ℕ → Seen → Result (List ℕ) DeskFault → Seen → Type 0
Reads name old (Ok bytes) new = (length bytes ≤ 2 ^ 24) × ForSome old.files (λ told. bytes ≡ content_of told name) × (new ≡ old)
Reads name old (Err TooLong) new = ForSome old.files (λ told. 2 ^ 24 < length (content_of told name)) × (new ≡ old)
Reads name old (Err Failed) new = new ≡ failed (Read name) old
Reads name old (Err Memory) new = new ≡ old

-- A write puts the bytes under the name. After `Failed` the first of them may stand there, or what stood
-- there before.
abbrev pub WritesSome : List ℕ → List ℕ → Seen → Seen → Type 0
WritesSome name bytes old new = (kept : ℕ) × (new ≡ failed (Write name) (written name (take kept bytes) old))

abbrev pub Writes : List ℕ → List ℕ → Seen → Result (Unit {0}) DeskFault → Seen → Type 0
Writes name bytes old (Ok _) new = new ≡ written name bytes old
Writes name bytes old (Err TooLong) new = ⊥
Writes name bytes old (Err Failed) new = WritesSome name bytes old new ⊎ (new ≡ failed (Write name) old)
Writes name bytes old (Err Memory) new = new ≡ old

-- To say bytes is to append them. After `Failed` the first of them may have been.
abbrev pub SaysSome : List ℕ → Seen → Seen → Type 0
SaysSome bytes old new = (kept : ℕ) × (new ≡ failed Say (said_more (take kept bytes) old))

abbrev pub Says : List ℕ → Seen → Result (Unit {0}) DeskFault → Seen → Type 0
Says bytes old (Ok _) new = new ≡ said_more bytes old
Says bytes old (Err TooLong) new = ⊥
Says bytes old (Err Failed) new = SaysSome bytes old new
Says bytes old (Err Memory) new = new ≡ old

-- Over several calls: the count rose, or stands at its type's end.
abbrev pub Rose : ℕ → ℕ → Type 0
Rose before now = next_count before ≤ now

-- Some call failed, and this one last.
pub record Fails (call : Call) (old new : Seen) : Type 0 where
  pub rose : Rose old.faults new.faults
  pub last : new.last ≡ option_map (λ before. Some call) old.last
