-- What the parser of command lines makes of each word, and of their end.
use Rattle.std.proofs.Common.{◌≡◌, ◌∙◌, List, [], ◌∷◌, ◌++◌, Bool, cond, true, false, ◌&&◌, codes, fold, Option, Some, None, refl, sym, ap, ap₂, bytes_eq}
use Rattle.std.specs.Option.{option_map_or}
use Rattle.clap.specs.Faults.{bundle_fault, check_fault, defaults_fault, flag_word_fault, settle_fault, step_fault, turn_fault, use_fault, walk_fault, word_fault}
use Rattle.clap.specs.Kinds.{Kinds, or_else}
use Rattle.clap.specs.Lexer.{long_of}
use Rattle.clap.specs.Simple.{filled, with_index}
use Rattle.clap.specs.Walk.{Held, Row, Rule, Text, Waiting, Walk, finished, idle, is_pending, long_or_other, next, option, positional, pushed, reading_by, settled, settled_rows, short_or_plain, trailing, used, value, walked, with_default, word_met}
use Rattle.clap.specs.declared.error.kind.ErrorKind.{ErrorKind}
use Rattle.clap.specs.declared.error.kind.ErrorKind.TheVariants.{ArgumentConflict, InvalidValue, UnknownArgument}
use Rattle.clap.specs.declared.parser.matches.ValueSource.TheVariants.{CommandLine}
use Rattle.clap.proofs.FaultLemmas.{turn_is}
use Rattle.clap.proofs.WalkLemmas.{walked_is}
use Rattle.command_words.proofs.WordClasses.{IsOther, IsPlainWord, rules, shape}
use Rattle.command_words.specs.Lines.{Line}
use Rattle.command_words.specs.Parsing.{line_in, words_rule, workers_rule}

-- the two arguments as the parser completes them
abbrev pub words_arg : Rule
words_arg = with_index 1 (filled words_rule)

abbrev pub workers_arg : Rule
workers_arg = with_index 2 (filled workers_rule)

-- ---- the rows of a line

abbrev plain_rows : List Text → List Row
plain_rows [] = []
plain_rows (word ∷ words) = record { id = codes "words"; values = word ∷ words; count = None; source = Some CommandLine; reading = reading_by words_arg } ∷ []

abbrev count_rows : Option Text → List Row
count_rows None = []
count_rows (Some count) = record { id = codes "workers"; values = count ∷ []; count = None; source = Some CommandLine; reading = reading_by workers_arg } ∷ []

-- `counted` says that the count stands before the first plain word
abbrev pub rows_of_line : Bool → List Text → Option Text → List Row
rows_of_line true plain workers = count_rows workers ++ plain_rows plain
rows_of_line false plain workers = plain_rows plain ++ count_rows workers

abbrev pub counted_before : Bool → List Text → Bool
counted_before counted [] = true
counted_before counted (word ∷ words) = counted

one_word_more : (counted : Bool) (plain : List Text) (workers : Option Text) (word : Text)
    → used words_arg (word ∷ []) (rows_of_line counted plain workers) ≡ rows_of_line (counted_before counted plain) (plain ++ word ∷ []) workers
one_word_more true [] None word = refl
one_word_more true [] (Some count) word = refl
one_word_more true (w ∷ ws) None word = refl
one_word_more true (w ∷ ws) (Some count) word = refl
one_word_more false [] None word = refl
one_word_more false [] (Some count) word = refl
one_word_more false (w ∷ ws) None word = refl
one_word_more false (w ∷ ws) (Some count) word = refl

counted_now : (counted : Bool) (plain : List Text) (count : Text) → used workers_arg (count ∷ []) (rows_of_line counted plain None) ≡ rows_of_line false plain (Some count)
counted_now true [] count = refl
counted_now true (w ∷ ws) count = refl
counted_now false [] count = refl
counted_now false (w ∷ ws) count = refl

pub no_count_yet : (counted : Bool) (plain : List Text) (count : Text) → use_fault false workers_arg (count ∷ []) (rows_of_line counted plain None) ≡ []
no_count_yet true [] count = refl
no_count_yet true (w ∷ ws) count = refl
no_count_yet false [] count = refl
no_count_yet false (w ∷ ws) count = refl

pub second_count : (counted : Bool) (plain : List Text) (first count : Text) → use_fault false workers_arg (count ∷ []) (rows_of_line counted plain (Some first)) ≡ ArgumentConflict ∷ []
second_count true [] first count = refl
second_count true (w ∷ ws) first count = refl
second_count false [] first count = refl
second_count false (w ∷ ws) first count = refl

-- ---- where the walk stands

abbrev pub held : List Row → Option (Text × List Text) → Held
held rows pending = record { rows = rows; pending = pending; skip = 0 }

abbrev pub standing : List Row → Option (Text × List Text) → Waiting → Bool → Walk
standing rows pending waiting behind = record { held = held rows pending; waiting = waiting; position = 1; is_trailing = behind; stopped = None }

-- nothing waits for a value, before the first plain word and behind a count, or behind a plain word
abbrev pub ready : Bool → Waiting
ready true = positional
ready false = idle

-- what is pending is used, and the rows are then those of the line
pub record Holds (counted : Bool) (plain : List Text) (workers : Option Text) (rows : List Row) (pending : Option (Text × List Text)) : Type 0 where
  pub passes : settle_fault rules false (held rows pending) ≡ []
  pub gives : settled_rows rules pending rows ≡ rows_of_line counted plain workers

pub holds_word : (counted : Bool) (plain : List Text) (workers : Option Text) (rows : List Row) (pending : Option (Text × List Text)) (word : Text)
    → Holds counted plain workers rows pending
    → Holds (counted_before counted plain) (plain ++ word ∷ []) workers (settled_rows rules pending rows) (Some (codes "words", word ∷ []))
holds_word counted plain workers rows pending word h =
    record { passes = refl; gives = ap (used words_arg (word ∷ [])) h.gives ∙ one_word_more counted plain workers word }

pub holds_count : (counted : Bool) (plain : List Text) (rows : List Row) (count : Text) → rows ≡ rows_of_line counted plain None
    → Holds false plain (Some count) rows (Some (codes "workers", count ∷ []))
holds_count counted plain rows count is =
    record {
      passes = ap (use_fault false workers_arg (count ∷ [])) is ∙ no_count_yet counted plain count;
      gives = ap (used workers_arg (count ∷ [])) is ∙ counted_now counted plain count;
    }

pub holds_joined : (counted : Bool) (plain : List Text) (rows : List Row) (count : Text) → rows ≡ rows_of_line counted plain None
    → Holds false plain (Some count) (used workers_arg (count ∷ []) rows) None
holds_joined counted plain rows count is = record { passes = refl; gives = ap (used workers_arg (count ∷ [])) is ∙ counted_now counted plain count }

-- ---- the line that is read

abbrev pub as_line : Kinds → List Row → Option Line
as_line [] rows = Some (line_in rows)
as_line (k ∷ kinds) rows = None

abbrev pub end_fault : List Row → Kinds
end_fault rows = or_else (defaults_fault rows rules) (check_fault shape (fold with_default rows rules) false)

abbrev ends : Kinds → Held → Option Line
ends kinds h = as_line (or_else kinds (or_else (settle_fault rules false h) (end_fault (settled rules h).rows))) (finished rules h)

-- the line that the parser reads from here on
abbrev pub line_read : Walk → List Text → Option Line
line_read w words = ends (walk_fault shape [] w words) (fold (walked rules []) w words).held

pub goes_on : (w : Walk) (word : Text) (words : List Text) (after : Walk) → turn_fault shape [] w word ≡ [] → walked rules [] w word ≡ after
    → line_read w (word ∷ words) ≡ line_read after words
unfolding walk_fault
goes_on w word words after none is =
    ap (λ ks. ends (or_else ks (walk_fault shape [] (walked rules [] w word) words)) (fold (walked rules []) (walked rules [] w word) words).held) none
    ∙ ap (λ v. line_read v words) is

pub refused : (w : Walk) (word : Text) (words : List Text) (k : ErrorKind) (kinds : Kinds) → turn_fault shape [] w word ≡ k ∷ kinds → line_read w (word ∷ words) ≡ None
unfolding walk_fault
refused w word words k kinds e =
    ap (λ ks. ends (or_else ks (walk_fault shape [] (walked rules [] w word) words)) (fold (walked rules []) (walked rules [] w word) words).held) e

-- no word is left
pub ended : (counted : Bool) (plain : List Text) (workers : Option Text) (rows : List Row) (pending : Option (Text × List Text)) (waiting : Waiting) (behind : Bool)
    → Holds counted plain workers rows pending → line_read (standing rows pending waiting behind) [] ≡ Some (record { plain = plain; workers = workers })
unfolding walk_fault defaults_fault
ended counted plain workers rows pending waiting behind h =
    ap₂ (λ ks rs. as_line (or_else ks (end_fault rs)) (fold with_default rs rules)) h.passes h.gives ∙ by counted plain workers
  where
    by : (counted : Bool) (plain : List Text) (workers : Option Text)
        → as_line (end_fault (rows_of_line counted plain workers)) (fold with_default (rows_of_line counted plain workers) rules) ≡ Some (record { plain = plain; workers = workers })
    by true [] None = refl
    by true [] (Some count) = refl
    by true (w ∷ ws) None = refl
    by true (w ∷ ws) (Some count) = refl
    by false [] None = refl
    by false [] (Some count) = refl
    by false (w ∷ ws) None = refl
    by false (w ∷ ws) (Some count) = refl

pub ended_badly : (rows : List Row) (pending : Option (Text × List Text)) (waiting : Waiting) (behind : Bool) (k : ErrorKind) (kinds : Kinds)
    → settle_fault rules false (held rows pending) ≡ k ∷ kinds → line_read (standing rows pending waiting behind) [] ≡ None
unfolding walk_fault
ended_badly rows pending waiting behind k kinds e = ap (λ ks. as_line (or_else ks (end_fault (settled_rows rules pending rows))) (finished rules (held rows pending))) e

-- ---- each class of words, where nothing waits for a value

-- a word that goes to the plain ones has no company in what is pending
alone : {X : Type 0} (b : Bool) (x y : X) → cond (b && false) x y ≡ y
alone true x y = refl
alone false x y = refl

module _ (rows : List Row) (pending : Option (Text × List Text)) where
  abbrev now : Held
  now = held rows pending

  module _ (word : Text) (is : IsPlainWord word) where
    plain_met : (d : Bool) → word_met rules [] false (ready d) 1 word now ≡ (now, value)
    plain_met true =
        ap (λ b. cond b (now, trailing 1) (long_or_other rules positional word (long_of word) now)) is.ended
        ∙ (ap (λ o. long_or_other rules positional word o now) is.long ∙ ap (λ o. short_or_plain rules positional word o now) is.short)
    plain_met false =
        ap (λ b. cond b (now, trailing 1) (long_or_other rules idle word (long_of word) now)) is.ended
        ∙ (ap (λ o. long_or_other rules idle word o now) is.long ∙ ap (λ o. short_or_plain rules idle word o now) is.short)

    plain_passes : (waiting : Waiting) → word_fault shape [] false waiting word now ≡ []
    plain_passes waiting = by waiting
      where
        flags : cond (bytes_eq word (codes "--")) [] (flag_word_fault rules false (long_of word) word now) ≡ []
        flags =
            ap (λ b. cond b [] (flag_word_fault rules false (long_of word) word now)) is.ended
            ∙ (ap (λ o. flag_word_fault rules false o word now) is.long ∙ ap (λ o. option_map_or (λ flags. bundle_fault rules false flags now) o []) is.short)

        by : (waiting : Waiting) → word_fault shape [] false waiting word now ≡ []
        by idle = flags
        by (option id) = flags
        by positional = flags

    pub plain_turn : (d : Bool) → turn_fault shape [] (standing rows pending (ready d) false) word ≡ settle_fault rules false now
    plain_turn d =
        sym (turn_is shape [] (standing rows pending (ready d) false) word now value (sym (plain_met d)) (plain_passes (ready d)))
        ∙ alone (is_pending words_arg pending) [] (settle_fault rules false now)

    pub plain_walked : (d : Bool)
        → walked rules [] (standing rows pending (ready d) false) word ≡ standing (settled_rows rules pending rows) (Some (codes "words", word ∷ [])) positional false
    plain_walked d =
        sym (walked_is rules [] (standing rows pending (ready d) false) word now value (sym (plain_met d)))
        ∙ ap (λ (h : Held). record (standing rows pending positional false) { held = pushed (codes "words") word h }) (alone (is_pending words_arg pending) now (settled rules now))

  -- behind a `--`
  pub behind_turn : (waiting : Waiting) (word : Text) → turn_fault shape [] (standing rows pending waiting true) word ≡ settle_fault rules false now
  behind_turn waiting word = alone (is_pending words_arg pending) [] (settle_fault rules false now)

  pub behind_walked : (waiting : Waiting) (word : Text)
      → walked rules [] (standing rows pending waiting true) word ≡ standing (settled_rows rules pending rows) (Some (codes "words", word ∷ [])) positional true
  unfolding walked
  behind_walked waiting word =
      ap (λ (h : Held). record (standing rows pending positional true) { held = pushed (codes "words") word h }) (alone (is_pending words_arg pending) now (settled rules now))

  -- at a `--`
  pub end_turn : (waiting : Waiting) → turn_fault shape [] (standing rows pending waiting false) (codes "--") ≡ []
  end_turn idle = refl
  end_turn (option id) = refl
  end_turn positional = refl

  pub end_walked : (waiting : Waiting) → walked rules [] (standing rows pending waiting false) (codes "--") ≡ standing rows pending waiting true
  unfolding walked
  end_walked idle = refl
  end_walked (option id) = refl
  end_walked positional = refl

  -- at `--workers`
  pub apart_turn : (d : Bool) (kinds : Kinds) → settle_fault rules false now ≡ kinds → turn_fault shape [] (standing rows pending (ready d) false) (codes "--workers") ≡ or_else kinds []
  apart_turn true kinds e = ap (λ ks. or_else ks []) e
  apart_turn false kinds e = ap (λ ks. or_else ks []) e

  pub apart_walked : (d : Bool)
      → walked rules [] (standing rows pending (ready d) false) (codes "--workers") ≡ standing (settled_rows rules pending rows) (Some (codes "workers", [])) (option (codes "workers")) false
  unfolding walked
  apart_walked true = refl
  apart_walked false = refl

  -- at `--workers=`
  pub joined_turn : (d : Bool) (count : Text) (kinds : Kinds) → settle_fault rules false now ≡ kinds
      → turn_fault shape [] (standing rows pending (ready d) false) (codes "--workers=" ++ count) ≡ or_else (or_else kinds (use_fault false workers_arg (count ∷ []) (settled_rows rules pending rows))) []
  joined_turn true count kinds e = ap (λ ks. or_else (or_else ks (use_fault false workers_arg (count ∷ []) (settled_rows rules pending rows))) []) e
  joined_turn false count kinds e = ap (λ ks. or_else (or_else ks (use_fault false workers_arg (count ∷ []) (settled_rows rules pending rows))) []) e

  pub joined_walked : (d : Bool) (count : Text)
      → walked rules [] (standing rows pending (ready d) false) (codes "--workers=" ++ count) ≡ standing (used workers_arg (count ∷ []) (settled_rows rules pending rows)) None idle false
  unfolding walked
  joined_walked true count = refl
  joined_walked false count = refl

  -- at any other option
  pub other_turn : (waiting : Waiting) (word : Text) → IsOther word → turn_fault shape [] (standing rows pending waiting false) word ≡ UnknownArgument ∷ []
  other_turn waiting word is = by waiting
    where
      flags : cond (bytes_eq word (codes "--")) [] (flag_word_fault rules false (long_of word) word now) ≡ UnknownArgument ∷ []
      flags = ap (λ b. cond b [] (flag_word_fault rules false (long_of word) word now)) is.ended ∙ is.refused now refl

      by : (waiting : Waiting) → turn_fault shape [] (standing rows pending waiting false) word ≡ UnknownArgument ∷ []
      by idle = ap (λ ks. or_else ks (step_fault shape 1 (word_met rules [] false idle 1 word now).0 (word_met rules [] false idle 1 word now).1)) flags
      by (option id) = ap (λ ks. or_else ks (step_fault shape 1 (word_met rules [] false (option id) 1 word now).0 (word_met rules [] false (option id) 1 word now).1)) flags
      by positional = ap (λ ks. or_else ks (step_fault shape 1 (word_met rules [] false positional 1 word now).0 (word_met rules [] false positional 1 word now).1)) flags

-- ---- where `--workers` waits for its count

abbrev pub waits : List Row → Walk
waits rows = standing rows (Some (codes "workers", [])) (option (codes "workers")) false

module _ (rows : List Row) where
  abbrev without_count : Held
  without_count = held rows (Some (codes "workers", []))

  count_met : (word : Text) → IsPlainWord word → word_met rules [] false (option (codes "workers")) 1 word without_count ≡ (held rows (Some (codes "workers", word ∷ [])), next idle)
  count_met word is =
      ap (λ b. cond b (without_count, trailing 1) (long_or_other rules (option (codes "workers")) word (long_of word) without_count)) is.ended
      ∙ (ap (λ o. long_or_other rules (option (codes "workers")) word o without_count) is.long ∙ ap (λ o. short_or_plain rules (option (codes "workers")) word o without_count) is.short)

  pub count_turn : (word : Text) → IsPlainWord word → turn_fault shape [] (waits rows) word ≡ []
  count_turn word is =
      sym (turn_is shape [] (waits rows) word (held rows (Some (codes "workers", word ∷ []))) (next idle) (sym (count_met word is))
      (plain_passes rows (Some (codes "workers", [])) word is (option (codes "workers"))))

  pub count_walked : (word : Text) → IsPlainWord word → walked rules [] (waits rows) word ≡ standing rows (Some (codes "workers", word ∷ [])) idle false
  count_walked word is = sym (walked_is rules [] (waits rows) word (held rows (Some (codes "workers", word ∷ []))) (next idle) (sym (count_met word is)))

  pub apart_refused : turn_fault shape [] (waits rows) (codes "--workers") ≡ InvalidValue ∷ []
  apart_refused = refl

  pub joined_refused : (count : Text) → turn_fault shape [] (waits rows) (codes "--workers=" ++ count) ≡ InvalidValue ∷ []
  joined_refused count = refl
