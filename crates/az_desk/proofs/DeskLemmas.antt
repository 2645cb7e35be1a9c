-- Several calls on a desk, one after another: what was said, which files changed, and which call failed.
use Rattle.std.proofs.Common.{◌≡◌, ◌≢◌, inl, inr, ℕ, ◌+◌, List, ◌++◌, length, take, min, Option, Some, None, option_map, Result, Ok, Err, refl, ap, sym, subst, ◌∙◌, append_assoc, arith}
use Rattle.std.proofs.Math.Seq.{take-append-add}
use Rattle.std.proofs.lemmas.Grind.{common_steps}
use Rattle.az_desk.proofs.FileLemmas.{file_of_unwritten, file_of_written}
use Rattle.az_desk.specs.Desk.{Seen, Fails, SaysSome, Writes, failed, said_more}
use Rattle.az_desk.specs.Files.{Files, file_of, with_file}
use Rattle.az_desk.specs.declared.call.Call.{Call}
use Rattle.az_desk.specs.declared.call.Call.TheVariants.{Say}
use Rattle.az_desk.specs.declared.fault.DeskFault.{DeskFault}
use Rattle.az_desk.specs.declared.fault.DeskFault.TheVariants.{Failed, TooLong, Memory}

-- a call that fails after others that changed neither the count nor what is told of the last failure
pub fails_after : (call : Call) (old left new : Seen) → left.last ≡ old.last → left.faults ≡ old.faults → new ≡ failed call left → Fails call old new
fails_after call old left new told count is =
    let last : new.last ≡ option_map (λ (before : Option Call). Some call) old.last = ap (λ (s : Seen). s.last) is ∙ ap (option_map (λ (before : Option Call). Some call)) told in
    record {
      rose = rw is (rw count (omega arith));
      last = last;
    }

-- what was said by one call and then by another
says_joined : (old : Option (List ℕ)) (first second : List ℕ) → option_map (λ said. said ++ second) (option_map (λ said. said ++ first) old) ≡ option_map (λ said. said ++ (first ++ second)) old
says_joined None first second = refl
says_joined (Some said) first second = ap Some (append_assoc said first second)

pub said_joined : (old : Seen) (first second : List ℕ) → said_more second (said_more first old) ≡ said_more (first ++ second) old
said_joined old first second = ap (λ (said : Option (List ℕ)). record old { said = said }) (says_joined old.said first second)

take_front : (first second : List ℕ) (kept : ℕ) → take kept first ≡ take (min kept (length first)) (first ++ second)
take_front first second kept = grind (arith, common_steps)

take_joined : (first second : List ℕ) (kept : ℕ) → first ++ take kept second ≡ take (length first + kept) (first ++ second)
take_joined first second kept = sym (take-append-add first second kept)

-- a part of the first is a part of both
pub says_some_front : (old new : Seen) (first second : List ℕ) → SaysSome first old new → SaysSome (first ++ second) old new
says_some_front old new first second some =
    (min some.0 (length first), subst (λ (part : List ℕ). new ≡ failed Say (said_more part old)) (take_front first second some.0) some.1)

-- all of the first and a part of the second are a part of both
pub says_some_joined : (old new : Seen) (first second : List ℕ) → SaysSome second (said_more first old) new → SaysSome (first ++ second) old new
says_some_joined old new first second some =
    let joined : new ≡ failed Say (said_more (first ++ take some.0 second) old) = some.1 ∙ ap (failed Say) (said_joined old first (take some.0 second)) in
    (length first + some.0, subst (λ (part : List ℕ). new ≡ failed Say (said_more part old)) (take_joined first second some.0) joined)

told_unwritten : (old : Option Files) (name bytes other : List ℕ) → other ≢ name → option_map (λ files. file_of files other) (option_map (with_file name bytes) old) ≡ option_map (λ files. file_of files other) old
told_unwritten None name bytes other differs = refl
told_unwritten (Some files) name bytes other differs = ap Some (file_of_unwritten files name bytes other differs)

-- After a write that succeeds the bytes stand under the name.
pub written_stands : (old : Option Files) (name bytes : List ℕ) (files : Files) → option_map (with_file name bytes) old ≡ Some files → file_of files name ≡ Some bytes
written_stands None name bytes files told = absurd (cc)
written_stands (Some before) name bytes files told =
    let files-is : files ≡ with_file name bytes before = cc in
    rw files-is (file_of_written before name bytes)

-- what stands under another name, where the desk tells it
abbrev other_file : List ℕ → Seen → Option (Option (List ℕ))
other_file other seen = option_map (λ files. file_of files other) seen.files

-- A write leaves the files of other names, whatever it answers.
pub writes_leave_others : (old new : Seen) (name bytes : List ℕ) (result : Result (Unit {0}) DeskFault) → Writes name bytes old result new → (other : List ℕ) → other ≢ name → other_file other new ≡ other_file other old
writes_leave_others old new name bytes (Ok _) all other differs = ap (other_file other) all ∙ told_unwritten old.files name bytes other differs
writes_leave_others old new name bytes (Err TooLong) never other differs = absurd never
writes_leave_others old new name bytes (Err Failed) (inl some) other differs = ap (other_file other) some.1 ∙ told_unwritten old.files name (take some.0 bytes) other differs
writes_leave_others old new name bytes (Err Failed) (inr same) other differs = ap (other_file other) same
writes_leave_others old new name bytes (Err Memory) same other differs = ap (other_file other) same
