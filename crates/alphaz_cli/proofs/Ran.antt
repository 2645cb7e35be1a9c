-- How a run ended, from the endings of its parts, and what follows.
use Rattle.std.proofs.Common.{◌≡◌, ◌≢◌, ◌≤◌, ◌⊎◌, ℕ, List, All, inl, inr, refl, sym, subst, ap, ◌∙◌, arith}
use Rattle.std.proofs.lemmas.List.Elements.{All-weaker}
use Rattle.std.specs.Prelude.{Option, Some, None, option_map, Ok, Err}
use Rattle.az_desk.specs.Desk.{Seen, Rose}
use Rattle.az_desk.specs.Files.{Files}
use Rattle.command_listing.specs.Listing.{AreUnrefused}
use Rattle.command_listing.specs.Standing.{stands_under}
use Rattle.command_listing.proofs.Complete.{WritesNone, IsOther, LeavesFile, same_files as same_by_commands, other_stands, done_or_memory as done_by_commands, unrefused}
use Rattle.command_words.proofs.OneRequest.{one_request}
use Rattle.command_words.specs.Requests.{IsWorkers, AsksFor}
use Rattle.command_words.specs.declared.request.Request.{Request}
use Rattle.command_words.specs.declared.request.Request.TheVariants.{Eval, Run, Check, Make}
use Rattle.session_state.proofs.Ended.{same_files as same_by_run, done_or_memory as done_by_run}
use Rattle.session_state.proofs.Stopped.{stops_by, same_by_stop, stops_by_fault}
use Rattle.session_state.specs.Codes.{status}
use Rattle.session_state.specs.Endings.{Ending, Ends}
use Rattle.session_state.specs.Lines.{line, program_front}
use Rattle.session_state.specs.Session.{Session}
use Rattle.session_state.specs.Steps.{Step}
use Rattle.session_state.specs.Stopping.{StopsBy, IsStopSaid}
use Rattle.session_state.specs.declared.refusal.Refusal.{Refusal}
use Rattle.session_state.specs.declared.refusal.Refusal.TheVariants.{Usage}
use Rattle.session_state.specs.declared.stop.Stop.{Stop}
use Rattle.session_state.specs.declared.stop.Stop.TheVariants.{Refused, Fault, Memory}
use Rattle.session_state.specs.declared.verified.Verified.{Verified}
use Rattle.verify_commands.specs.Commands.{file_of as certificate_of}
use Rattle.alphaz_cli.proofs.OneRun.{not_both_evaluation}
use Rattle.alphaz_cli.proofs.OneTask.{one_task, not_both_task, one_script, not_both_script}
use Rattle.alphaz_cli.specs.Evaluation.{evaluation}
use Rattle.alphaz_cli.specs.Runs.{asked, usage, HasWorkers, RunsScript, RunsRequest, RunsWords, EachTask, OfTasks, IsCarriedOut}
use Rattle.alphaz_cli.specs.Scripts.{script}
use Rattle.alphaz_cli.specs.Tasks.{file_of, written_to, tasks}
use Rattle.alphaz_cli.specs.declared.task.Task.{Task}

-- a run of one step that stops
pub ends_stopped : (run : Step (List ℕ)) (old new : Seen) (stop : Stop) → StopsBy program_front run old stop new → Ends run old (Err stop) new
ends_stopped run old new (Refused refusal) h = h
ends_stopped run old new (Fault call) (inl h) = inl h
ends_stopped run old new (Fault call) (inr (is, (refusal, taken, said))) = inr (is, (line program_front refusal, inr (refusal, taken, refl), said))
ends_stopped run old new Memory h = h

-- what asks for nothing stops before anything
pub usage_ends : (old new : Seen) (stop : Stop) → IsStopSaid program_front (Refused Usage) old stop new → Ends usage old (Err stop) new
usage_ends old new stop said = ends_stopped usage old new stop (stops_by program_front usage old old new (Refused Usage) stop refl refl said)

-- a request has some workers
pub has_workers : (words : List (List ℕ)) (request : Request) → AsksFor words request → HasWorkers request
has_workers words (Eval e) asks = tt
has_workers words (Run file workers) asks = counted asks.line.workers workers asks.asks.1
  where
    counted : (text : Option (List ℕ)) (count : ℕ) → IsWorkers text count → (1 ≤ count) × (count ≤ 64)
    counted None count one = (omega (arith, one), omega (arith, one))
    counted (Some text) count is = (is.some, is.few)
has_workers words (Check file certificate) asks = tt
has_workers words (Make number workers) asks = tt

-- a task without a file writes none, and one with a file no other
writes_none : (task : Task) → file_of task ≡ None → WritesNone tasks task
writes_none task none = λ session. ap (λ (file : Option (List ℕ)). written_to file session) none

other_file : (name : List ℕ) (file : Option (List ℕ)) (session : Session) → file ≢ Some name → IsOther name (written_to file session)
other_file name None session other = tt
other_file name (Some file) None other = tt
other_file name (Some file) (Some loaded) other = by_yes loaded.verified
  where
    by_yes : (verified : Option Verified) → IsOther name (option_map (certificate_of file loaded) verified)
    by_yes None = tt
    by_yes (Some verified) = λ same. other (ap Some (sym same))

leaves_file : (name : List ℕ) (task : Task) → file_of task ≢ Some name → LeavesFile tasks name task
leaves_file name task other = λ session. other_file name (file_of task) session other

module _ (old new : Seen) where
  abbrev WithoutFile : Task → Type 0
  WithoutFile task = file_of task ≡ None

  same_by_script : (file : List ℕ) (ending : Ending) → RunsScript file old new ending → ((all : List Task) → script old.files file (Ok all) → All WithoutFile all) → new.files ≡ old.files
  same_by_script file ending (inl (stop, is, h)) none = same_by_stop program_front (script old.files file) old new stop h
  same_by_script file ending (inr (all, read, runs)) none =
      same_by_commands tasks 1 all None old new ending (All-weaker WithoutFile (WritesNone tasks) writes_none all (none all read)) runs

  same_by_request : (request : Request) (ending : Ending) → RunsRequest request old new ending → EachTask WithoutFile request old.files → new.files ≡ old.files
  same_by_request (Eval e) ending h none = same_by_run (evaluation old.files e) old new ending h
  same_by_request (Run file workers) ending h none = same_by_script file ending h none
  same_by_request (Check file certificate) ending h none = same_by_run usage old new ending h
  same_by_request (Make number workers) ending h none = same_by_run usage old new ending h

  -- no file changed
  pub same_files : (words : List (List ℕ)) (ending : Ending) → RunsWords words old new ending → OfTasks WithoutFile words old.files → new.files ≡ old.files
  same_files words ending (inl (stop, is, h)) none = same_by_stop program_front (asked words) old new stop h
  same_files words ending (inr (request, asks, runs)) none = same_by_request request ending runs (none request asks)

  module _ (name : List ℕ) where
    abbrev OfOther : Task → Type 0
    OfOther task = file_of task ≢ Some name

    abbrev Stands : Type 0
    Stands = stands_under name new.files ≡ stands_under name old.files

    still : new.files ≡ old.files → Stands
    still same = ap (stands_under name) same

    stands_by_script : (file : List ℕ) (ending : Ending) → RunsScript file old new ending → ((all : List Task) → script old.files file (Ok all) → All OfOther all) → Stands
    stands_by_script file ending (inl (stop, is, h)) others = still (same_by_stop program_front (script old.files file) old new stop h)
    stands_by_script file ending (inr (all, read, runs)) others =
        other_stands tasks name 1 all None old new ending (All-weaker OfOther (LeavesFile tasks name) (leaves_file name) all (others all read)) runs

    stands_by_request : (request : Request) (ending : Ending) → RunsRequest request old new ending → EachTask OfOther request old.files → Stands
    stands_by_request (Eval e) ending h others = still (same_by_run (evaluation old.files e) old new ending h)
    stands_by_request (Run file workers) ending h others = stands_by_script file ending h others
    stands_by_request (Check file certificate) ending h others = still (same_by_run usage old new ending h)
    stands_by_request (Make number workers) ending h others = still (same_by_run usage old new ending h)

    -- a file that no task writes stands as before
    pub still_stands : (words : List (List ℕ)) (ending : Ending) → RunsWords words old new ending → OfTasks OfOther words old.files → Stands
    still_stands words ending (inl (stop, is, h)) others = still (same_by_stop program_front (asked words) old new stop h)
    still_stands words ending (inr (request, asks, runs)) others = stands_by_request request ending runs (others request asks)

  abbrev IsDone : Ending → Type 0
  IsDone ending = (status ending ≡ 0) ⊎ (status ending ≡ 13)

  module _ (told : Files) (is_told : old.files ≡ Some told) (honest : Rose old.faults new.faults → ⊥) where
    done_by_stop : {A : Type 0} (step : Step A) (ending : Ending) (stop : Stop) → ending ≡ Err stop → StopsBy program_front step old stop new
        → ((refusal : Refusal) → step (Err (Refused refusal)) → ⊥) → IsDone ending
    done_by_stop step ending stop is h none =
        inr (ap status is ∙ ap (λ (s : Stop). status (Err s)) (stops_by_fault program_front step old new stop h none honest))

    done_by_script : (file : List ℕ) (ending : Ending) → RunsScript file old new ending → IsCarriedOut (Run file 1) (Some told) → IsDone ending
    done_by_script file ending (inl (stop, is, h)) (all, read, carried) =
        done_by_stop (script old.files file) ending stop is h (λ refusal refused. not_both_script told file all refusal read (subst (λ files. script files file (Err (Refused refusal))) is_told refused))
    done_by_script file ending (inr (others, also, runs)) (all, read, carried) =
        let same : all ≡ others = one_script told file all others read (subst (λ files. script files file (Ok others)) is_told also) in
        let each = unrefused tasks (λ command files session. one_task command files session) (λ command files session. not_both_task command files session) all told None carried in
        done_by_commands tasks 1 others None old new ending runs
        (subst (λ files. AreUnrefused tasks others files None) (sym is_told) (subst (λ cs. AreUnrefused tasks cs (Some told) None) same each)) honest

    done_by_request : (request : Request) (ending : Ending) → RunsRequest request old new ending → IsCarriedOut request (Some told) → IsDone ending
    done_by_request (Eval e) ending h (rows, gives) =
        done_by_run (evaluation old.files e) old new ending h
        (λ refusal refused. not_both_evaluation told e rows refusal gives (subst (λ files. evaluation files e (Err (Refused refusal))) is_told refused)) honest
    done_by_request (Run file workers) ending h carried = done_by_script file ending h carried
    done_by_request (Check file certificate) ending h carried = absurd carried
    done_by_request (Make number workers) ending h carried = absurd carried

    -- what is asked for and can be carried out is done, or memory ran out
    pub done_or_memory : (words : List (List ℕ)) (request : Request) (ending : Ending) → RunsWords words old new ending → AsksFor words request → IsCarriedOut request (Some told) → IsDone ending
    done_or_memory words request ending (inl (stop, is, h)) asks carried = done_by_stop (asked words) ending stop is h (λ refusal refused. refused.1 request asks)
    done_or_memory words request ending (inr (other, also, runs)) asks carried =
        done_by_request request ending (subst (λ (r : Request). RunsRequest r old new ending) (one_request words other request also asks) runs) carried
