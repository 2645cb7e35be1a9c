-- The parser of command lines reads the line of the words, for all lists of words.
use Rattle.std.proofs.Common.{◌≡◌, ◌∙◌, List, [], ◌∷◌, ◌++◌, Bool, cond, true, false, true≢false, codes, Option, Some, None, refl, sym, ap, subst, option_map, option_and_then, append-nil, append_assoc, bytes_eq, String, string_bytes, IsUtf8, Global}
use Rattle.std.proofs.lemmas.Slice.Eq.{bytes_eq-Decides}
use Rattle.std.proofs.lemmas.Str.{IsUtf8-string_bytes}
use Rattle.clap.specs.Faults.{fault_of, settle_fault, use_fault}
use Rattle.clap.specs.Kinds.{IsAmong, Kinds, or_else}
use Rattle.clap.specs.Simple.{built, matches_of}
use Rattle.clap.specs.Walk.{Row, Text, Waiting, nothing_held, option, positional, settled_rows, used, walk_from}
use Rattle.clap.specs.declared.error.kind.ErrorKind.{ErrorKind}
use Rattle.clap.specs.declared.error.kind.ErrorKind.TheVariants.{ArgumentConflict, InvalidValue, UnknownArgument}
use Rattle.clap.proofs.FaultLemmas.{leaf_fault}
use Rattle.command_words.proofs.LineTurns as turn
use Rattle.command_words.proofs.LineTurns.{Holds, as_line, counted_before, held, holds_count, holds_joined, holds_word, line_read, ready, rows_of_line, standing, waits, workers_arg}
use Rattle.command_words.proofs.Lines.{joins, nothing_joined, word_joins, count_joins, twice_joins}
use Rattle.command_words.proofs.WordClasses.{IsOther, IsPlainWord, by_class, rules}
use Rattle.command_words.specs.Lines.{Line, with_word, with_workers, joined_count, line_from, line_of}
use Rattle.command_words.specs.Parsing.{has_empty, line_app, line_in}
use Rattle.command_words.specs.Words.{texts, is_plain}

-- ---- the line of a word and the words behind it

plain_line : (word : Text) (words : List Text) → IsPlainWord word → line_from false (word ∷ words) ≡ option_map (with_word word) (line_from false words)
plain_line word words is = rw (is.ended, is.plain) refl

count_line : (word : Text) (words : List Text) → IsPlainWord word → line_from true (word ∷ words) ≡ option_and_then (with_workers word) (line_from false words)
count_line word words is = rw is.plain refl

other_line : (word : Text) (words : List Text) → IsOther word → line_from false (word ∷ words) ≡ None
other_line word words is = rw (is.ended, is.plain, is.apart, is.joined) refl

no_count : (word : Text) (words : List Text) → IsOther word → line_from true (word ∷ words) ≡ None
no_count word words is = rw is.plain refl

-- no empty word stands further on
none_behind : (word : Text) (words : List Text) → bytes_eq word (codes "--") ≡ false → bytes_eq word [] ≡ false → has_empty (word ∷ words) ≡ false → has_empty words ≡ false
none_behind word words ended some none = rw (ended, some) at none

-- ---- behind a `--`

behind_reads : (words : List Text) (counted : Bool) (plain : List Text) (workers : Option Text) (rows : List Row) (pending : Option (Text × List Text)) (waiting : Waiting)
    → Holds counted plain workers rows pending → line_read (standing rows pending waiting true) words ≡ Some (record { plain = plain ++ words; workers = workers })
behind_reads [] counted plain workers rows pending waiting h =
    turn.ended counted plain workers rows pending waiting true h ∙ ap (λ ws. Some (record { plain = ws; workers = workers })) (sym (append-nil plain))
behind_reads (word ∷ words) counted plain workers rows pending waiting h =
    turn.goes_on (standing rows pending waiting true) word words _ (turn.behind_turn rows pending waiting word ∙ h.passes) (turn.behind_walked rows pending waiting word)
    ∙ (behind_reads words (counted_before counted plain) (plain ++ word ∷ []) workers (settled_rows rules pending rows) (Some (codes "words", word ∷ [])) positional (holds_word counted plain workers rows pending word h)
    ∙ ap (λ ws. Some (record { plain = ws; workers = workers })) (append_assoc plain (word ∷ []) words))

-- ---- what is pending can't be used

module _ (rows : List Row) (pending : Option (Text × List Text)) (k : ErrorKind) (kinds : Kinds) (e : settle_fault rules false (held rows pending) ≡ k ∷ kinds) where
  behind_refused : (words : List Text) (waiting : Waiting) → line_read (standing rows pending waiting true) words ≡ None
  behind_refused [] waiting = turn.ended_badly rows pending waiting true k kinds e
  behind_refused (word ∷ words) waiting = turn.refused (standing rows pending waiting true) word words k kinds (turn.behind_turn rows pending waiting word ∙ e)

  module _ (behind : List Text) (d : Bool) where
    abbrev Refuses : Text → Type 0
    Refuses word = has_empty (word ∷ behind) ≡ false → line_read (standing rows pending (ready d) false) (word ∷ behind) ≡ None

    refuses_empty : Refuses []
    refuses_empty none = absurd (true≢false none)

    refuses_plain : (word : Text) → IsPlainWord word → Refuses word
    refuses_plain word is none = turn.refused (standing rows pending (ready d) false) word behind k kinds (turn.plain_turn rows pending word is d ∙ e)

    refuses_end : Refuses (codes "--")
    refuses_end none =
        turn.goes_on (standing rows pending (ready d) false) (codes "--") behind _ (turn.end_turn rows pending (ready d)) (turn.end_walked rows pending (ready d))
        ∙ behind_refused behind (ready d)

    refuses_apart : Refuses (codes "--workers")
    refuses_apart none = turn.refused (standing rows pending (ready d) false) (codes "--workers") behind k kinds (turn.apart_turn rows pending d (k ∷ kinds) e)

    refuses_joined : (count : Text) → Refuses (codes "--workers=" ++ count)
    refuses_joined count none =
        turn.refused (standing rows pending (ready d) false) (codes "--workers=" ++ count) behind k _ (turn.joined_turn rows pending d count (k ∷ kinds) e)

    refuses_other : (word : Text) → IsOther word → Refuses word
    refuses_other word is none = turn.refused (standing rows pending (ready d) false) word behind UnknownArgument [] (turn.other_turn rows pending (ready d) word is)

  open_refused : (words : List (String Global)) (d : Bool) → has_empty (texts words) ≡ false → line_read (standing rows pending (ready d) false) (texts words) ≡ None
  open_refused [] d none = turn.ended_badly rows pending (ready d) false k kinds e
  open_refused (s ∷ words) d none =
      by_class (Refuses (texts words) d) (refuses_empty (texts words) d) (refuses_plain (texts words) d) (refuses_end (texts words) d) (refuses_apart (texts words) d)
      (refuses_joined (texts words) d) (refuses_other (texts words) d) (string_bytes s) (IsUtf8-string_bytes s) none

-- ---- one word after the other

-- where nothing waits for a value
abbrev OpenReads : List Text → Type 0
OpenReads words = (counted d : Bool) (plain : List Text) (workers : Option Text) (rows : List Row) (pending : Option (Text × List Text)) → Holds counted plain workers rows pending
    → has_empty words ≡ false → line_read (standing rows pending (ready d) false) words ≡ joins plain workers (line_from false words)

-- where `--workers` waits for its count
abbrev WaitReads : List Text → Type 0
WaitReads words = (counted : Bool) (plain : List Text) (workers : Option Text) (rows : List Row) → rows ≡ rows_of_line counted plain workers
    → has_empty words ≡ false → line_read (waits rows) words ≡ joins plain workers (line_from true words)

module _ (words : List (String Global)) (open_on : OpenReads (texts words)) (wait_on : WaitReads (texts words)) where
  abbrev behind : List Text
  behind = texts words

  open_empty : OpenReads ([] ∷ behind)
  open_empty counted d plain workers rows pending h none = absurd (true≢false none)

  open_plain : (word : Text) → IsPlainWord word → OpenReads (word ∷ behind)
  open_plain word is counted d plain workers rows pending h none =
      turn.goes_on (standing rows pending (ready d) false) word behind _ (turn.plain_turn rows pending word is d ∙ h.passes) (turn.plain_walked rows pending word is d)
      ∙ (open_on (counted_before counted plain) true (plain ++ word ∷ []) workers (settled_rows rules pending rows) (Some (codes "words", word ∷ []))
      (holds_word counted plain workers rows pending word h) (none_behind word behind is.ended is.some none)
      ∙ (sym (word_joins plain workers word (line_from false behind)) ∙ ap (joins plain workers) (sym (plain_line word behind is))))

  open_end : OpenReads (codes "--" ∷ behind)
  open_end counted d plain workers rows pending h none =
      turn.goes_on (standing rows pending (ready d) false) (codes "--") behind _ (turn.end_turn rows pending (ready d)) (turn.end_walked rows pending (ready d))
      ∙ (behind_reads behind counted plain workers rows pending (ready d) h ∙ by workers)
    where
      by : (o : Option Text) → Some (record { plain = plain ++ behind; workers = o }) ≡ joins plain o (line_from false (codes "--" ∷ behind))
      by None = refl
      by (Some count) = refl

  open_apart : OpenReads (codes "--workers" ∷ behind)
  open_apart counted d plain workers rows pending h none =
      turn.goes_on (standing rows pending (ready d) false) (codes "--workers") behind _ (turn.apart_turn rows pending d [] h.passes) (turn.apart_walked rows pending d)
      ∙ wait_on counted plain workers (settled_rows rules pending rows) h.gives none

  open_joined : (count : Text) → OpenReads ((codes "--workers=" ++ count) ∷ behind)
  open_joined count counted d plain None rows pending h none =
      turn.goes_on (standing rows pending (ready d) false) (codes "--workers=" ++ count) behind _
      (turn.joined_turn rows pending d count [] h.passes
      ∙ ap (λ ks. or_else ks []) (ap (use_fault false workers_arg (count ∷ [])) h.gives ∙ turn.no_count_yet counted plain count))
      (turn.joined_walked rows pending d count)
      ∙ (open_on false false plain (Some count) (used workers_arg (count ∷ []) (settled_rows rules pending rows)) None
      (holds_joined counted plain (settled_rows rules pending rows) count h.gives) none
      ∙ sym (count_joins plain count (line_from false behind)))
  open_joined count counted d plain (Some first) rows pending h none =
      turn.refused (standing rows pending (ready d) false) (codes "--workers=" ++ count) behind ArgumentConflict []
      (turn.joined_turn rows pending d count [] h.passes
      ∙ ap (λ ks. or_else ks []) (ap (use_fault false workers_arg (count ∷ [])) h.gives ∙ turn.second_count counted plain first count))
      ∙ sym (twice_joins plain first count (line_from false behind))

  open_other : (word : Text) → IsOther word → OpenReads (word ∷ behind)
  open_other word is counted d plain workers rows pending h none =
      turn.refused (standing rows pending (ready d) false) word behind UnknownArgument [] (turn.other_turn rows pending (ready d) word is)
      ∙ ap (joins plain workers) (sym (other_line word behind is))

  open_more : (word : Text) → IsUtf8 word → OpenReads (word ∷ behind)
  open_more = by_class (λ word. OpenReads (word ∷ behind)) open_empty open_plain open_end open_apart open_joined open_other

  wait_empty : WaitReads ([] ∷ behind)
  wait_empty counted plain workers rows same none = absurd (true≢false none)

  wait_plain : (word : Text) → IsPlainWord word → WaitReads (word ∷ behind)
  wait_plain word is counted plain None rows same none =
      turn.goes_on (waits rows) word behind _ (turn.count_turn rows word is) (turn.count_walked rows word is)
      ∙ (open_on false false plain (Some word) rows (Some (codes "workers", word ∷ [])) (holds_count counted plain rows word same) (none_behind word behind is.ended is.some none)
      ∙ (sym (count_joins plain word (line_from false behind)) ∙ ap (joins plain None) (sym (count_line word behind is))))
  wait_plain word is counted plain (Some first) rows same none =
      turn.goes_on (waits rows) word behind _ (turn.count_turn rows word is) (turn.count_walked rows word is)
      ∙ (open_refused rows (Some (codes "workers", word ∷ [])) ArgumentConflict []
      (ap (use_fault false workers_arg (word ∷ [])) same ∙ turn.second_count counted plain first word) words false (none_behind word behind is.ended is.some none)
      ∙ (sym (twice_joins plain first word (line_from false behind)) ∙ ap (joins plain (Some first)) (sym (count_line word behind is))))

  wait_end : WaitReads (codes "--" ∷ behind)
  wait_end counted plain workers rows same none =
      turn.goes_on (waits rows) (codes "--") behind _ (turn.end_turn rows (Some (codes "workers", [])) (option (codes "workers")))
      (turn.end_walked rows (Some (codes "workers", [])) (option (codes "workers")))
      ∙ behind_refused rows (Some (codes "workers", [])) InvalidValue [] refl behind (option (codes "workers"))

  wait_apart : WaitReads (codes "--workers" ∷ behind)
  wait_apart counted plain workers rows same none = turn.refused (waits rows) (codes "--workers") behind InvalidValue [] (turn.apart_refused rows)

  wait_joined : (count : Text) → WaitReads ((codes "--workers=" ++ count) ∷ behind)
  wait_joined count counted plain workers rows same none = turn.refused (waits rows) (codes "--workers=" ++ count) behind InvalidValue [] (turn.joined_refused rows count)

  wait_other : (word : Text) → IsOther word → WaitReads (word ∷ behind)
  wait_other word is counted plain workers rows same none =
      turn.refused (waits rows) word behind UnknownArgument [] (turn.other_turn rows (Some (codes "workers", [])) (option (codes "workers")) word is)
      ∙ ap (joins plain workers) (sym (no_count word behind is))

  wait_more : (word : Text) → IsUtf8 word → WaitReads (word ∷ behind)
  wait_more = by_class (λ word. WaitReads (word ∷ behind)) wait_empty wait_plain wait_end wait_apart wait_joined wait_other

open_ended : OpenReads []
open_ended counted d plain workers rows pending h none = turn.ended counted plain workers rows pending (ready d) false h ∙ by workers
  where
    by : (o : Option Text) → Some (record { plain = plain; workers = o }) ≡ joins plain o (line_from false [])
    by None = ap (λ ws. Some (record { plain = ws; workers = None })) (sym (append-nil plain))
    by (Some count) = ap (λ ws. Some (record { plain = ws; workers = Some count })) (sym (append-nil plain))

wait_ended : WaitReads []
wait_ended counted plain workers rows same none = turn.ended_badly rows (Some (codes "workers", [])) (option (codes "workers")) false InvalidValue [] refl

reads : (words : List (String Global)) → OpenReads (texts words) × WaitReads (texts words)
reads [] = (open_ended, wait_ended)
reads (s ∷ words) =
    let rest = reads words in
    (open_more words rest.0 rest.1 (string_bytes s) (IsUtf8-string_bytes s), wait_more words rest.0 rest.1 (string_bytes s) (IsUtf8-string_bytes s))

line_reads : (words : List (String Global)) → has_empty (texts words) ≡ false → line_read (walk_from nothing_held) (texts words) ≡ line_of (texts words)
line_reads words none = (reads words).0 true false [] None [] None (record { passes = refl; gives = refl }) none ∙ sym (nothing_joined (texts words))

-- ---- what the parser answers

module _ (words : List (String Global)) (none : has_empty (texts words) ≡ false) where
  answered : as_line (fault_of line_app (texts words)) (matches_of line_app (texts words)) ≡ line_of (texts words)
  answered = ap (λ ks. as_line ks (matches_of line_app (texts words))) (leaf_fault (built line_app) nothing_held (texts words) refl) ∙ line_reads words none

  -- the line that it found
  pub found : fault_of line_app (texts words) ≡ [] → Some (line_in (matches_of line_app (texts words))) ≡ line_of (texts words)
  found passes = ap (λ ks. as_line ks (matches_of line_app (texts words))) (sym passes) ∙ answered

  -- where it refuses the words, they are no line
  pub not_found : (k : ErrorKind) → IsAmong k (fault_of line_app (texts words)) → None ≡ line_of (texts words)
  not_found k among = by (fault_of line_app (texts words)) among answered
    where
      by : (kinds : Kinds) → IsAmong k kinds → as_line kinds (matches_of line_app (texts words)) ≡ line_of (texts words) → None ≡ line_of (texts words)
      by [] among is = absurd among
      by (x ∷ kinds) among is = is

-- ---- an empty word before a `--`

empty_line : (words : List Text) → has_empty words ≡ true → (waiting : Bool) → line_from waiting words ≡ None
empty_line [] e waiting = absurd (true≢false (sym e))
empty_line (word ∷ words) e waiting = by (bytes_eq word (codes "--")) refl (bytes_eq word []) refl (empty_line words)
  where
    either : (b c : Bool) (o : Option Text) → ◌≡◌ {A = Option Line} (cond b None (cond c None (option_and_then (λ (count : Text). None) o))) None
    either true c o = refl
    either false true o = refl
    either false false None = refl
    either false false (Some count) = refl

    here : bytes_eq word [] ≡ true → (w : Bool) → line_from w (word ∷ words) ≡ None
    here is w = subst (λ t. line_from w (t ∷ words) ≡ None) (sym ((bytes_eq-Decides word []).0 is)) (empty w)
      where
        empty : (w : Bool) → line_from w ([] ∷ words) ≡ None
        empty true = refl
        empty false = refl

    by : (s : Bool) → bytes_eq word (codes "--") ≡ s → (t : Bool) → bytes_eq word [] ≡ t → (has_empty words ≡ true → (w : Bool) → line_from w words ≡ None) → line_from waiting (word ∷ words) ≡ None
    by true f t g on = absurd (true≢false (sym (rw f at e)))
    by false f true g on = here g waiting
    by false f false g on = last waiting
      where
        further : has_empty words ≡ true
        further = rw (f, g) at e

        last : (w : Bool) → line_from w (word ∷ words) ≡ None
        last true = rw (on further false) (either (is_plain word) true None)
        last false = rw (f, on further false, on further true) (either (is_plain word) (bytes_eq word (codes "--workers")) (joined_count word))

pub no_line : (words : List Text) → has_empty words ≡ true → None ≡ line_of words
no_line words e = sym (empty_line words e false)
