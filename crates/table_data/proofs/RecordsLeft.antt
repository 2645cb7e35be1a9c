-- What a read of a record takes of the records that are left.
use Rattle.std.proofs.Common.{Bor, ◌≡◌, ◌<◌, ◌≤◌, ◌+◌, ◌-◌, ℕ, zero, suc, Bool, true, false, cond, List, [], ◌∷◌, ◌++◌, length, Option, Some, None, refl, sym, ap, subst, arith, ◌∙◌, inl, inr, ⊎_elim}
use Rattle.std.specs.Prelude.{◌==◌, IsSome, ◌⊎◌}
use Rattle.std.proofs.lemmas.Bool.{false≢true}
use Rattle.csv.specs.Machine.{Read, next_record, step, in_field, start_field, start_record, after_end, ends_at_end, fields_after, field_after, is_end}
use Rattle.csv.specs.Reading.{records_from, records_next, Reached, ReadRecord, ReadsOn, default_config, strip_bom, is_bom}
use Rattle.csv.specs.declared.parser.Config.{Config}
use Rattle.csv.specs.declared.parser.State.{State}
use Rattle.csv.specs.declared.parser.State.TheVariants as st
use Rattle.csv.specs.declared.parser.Action.{Action}
use Rattle.csv.specs.declared.parser.Action.TheVariants as act
use Rattle.csv.specs.declared.parser.Terminator.{Terminator}
use Rattle.csv.specs.declared.parser.Terminator.TheVariants as term
use Rattle.csv.proofs.ReadFacts.{rows-more, rows-end}
use Rattle.table_data.specs.Records.{records_of}
use Rattle.table_data.specs.Inner.Reading.{Source, IsStart, known, left, bytes_left, IsReading}

-- what ends a record leaves the machine where a record begins
abbrev EndsAtStart : State × Action → Type 0
EndsAtStart p = is_end p.1 ≡ true → IsStart p.0

by_test : (b : Bool) (p q : State × Action) → EndsAtStart p → EndsAtStart q → EndsAtStart (cond b p q)
by_test true p q f g = f
by_test false p q f g = g

goes_on : (s : State) (a : Action) → is_end a ≡ false → EndsAtStart (s, a)
goes_on s a e h = absurd (false≢true (sym e ∙ h))

after_end-start : (t : Terminator) (c : ℕ) → IsStart (after_end t c)
after_end-start term.CRLF c = by (c == 13)
  where
    by : (b : Bool) → IsStart (cond b st.AfterCr st.StartRecord)
    by true = inr refl
    by false = inl refl
after_end-start (term.Any t) c = inl refl

in_field-ends : (cfg : Config) (c : ℕ) → EndsAtStart (in_field cfg c)
in_field-ends cfg c =
    by_test _ (st.StartField, act.EndField) _ (goes_on st.StartField act.EndField refl)
    (by_test _ (after_end cfg.terminator c, act.EndRecord) (st.InField, act.Copy) (λ _. after_end-start cfg.terminator c) (goes_on st.InField act.Copy refl))

skips : (s : State) → EndsAtStart (s, act.Skip)
skips s = goes_on s act.Skip refl

copies : (s : State) → EndsAtStart (s, act.Copy)
copies s = goes_on s act.Copy refl

start_field-ends : (cfg : Config) (c : ℕ) → EndsAtStart (start_field cfg c)
start_field-ends cfg c = by_test _ (st.InQuoted, act.Skip) (in_field cfg c) (skips st.InQuoted) (in_field-ends cfg c)

start_record-ends : (cfg : Config) (c : ℕ) → EndsAtStart (start_record cfg c)
start_record-ends cfg c =
    by_test _ (st.StartRecord, act.Skip) _ (skips st.StartRecord)
    (by_test _ (st.InComment, act.Skip) (start_field cfg c) (skips st.InComment) (start_field-ends cfg c))

step-ends : (cfg : Config) (s : State) (c : ℕ) → EndsAtStart (step cfg s c)
step-ends cfg st.StartRecord c = start_record-ends cfg c
step-ends cfg st.StartField c = start_field-ends cfg c
step-ends cfg st.InField c = in_field-ends cfg c
step-ends cfg st.InQuoted c =
    by_test _ (st.AfterQuote, act.Skip) _ (skips st.AfterQuote)
    (by_test _ (st.InEscape, act.Skip) (st.InQuoted, act.Copy) (skips st.InEscape) (copies st.InQuoted))
step-ends cfg st.InEscape c = copies st.InQuoted
step-ends cfg st.AfterQuote c = by_test _ (st.InQuoted, act.Copy) (in_field cfg c) (copies st.InQuoted) (in_field-ends cfg c)
step-ends cfg st.InComment c = by_test _ (st.StartRecord, act.Skip) (st.InComment, act.Skip) (skips st.StartRecord) (skips st.InComment)
step-ends cfg st.AfterCr c = by_test _ (st.StartRecord, act.Skip) (start_record cfg c) (skips st.StartRecord) (start_record-ends cfg c)

abbrev IsAfter : Read → ℕ → Type 0
IsAfter r size = IsStart r.1 × (length r.2 ≤ size - 1)

read_is : (p r : Read) (size : ℕ) → Some p ≡ Some r → IsAfter p size → IsAfter r size
read_is p r size e h = let same : p ≡ r = cc in subst (λ (x : Read). IsAfter x size) same h

-- behind a record one begins, and some byte has gone
next-after : (cfg : Config) (s : State) (fields : List (List ℕ)) (field xs : List ℕ) (r : Read) → next_record cfg s fields field xs ≡ Some r → IsAfter r (length xs)
unfolding next_record
next-after cfg s fields field [] r e = by (ends_at_end s) e
  where
    by : (b : Bool) → cond b (Some (fields ++ (field ∷ []), st.StartRecord, [])) None ≡ Some r → IsAfter r 0
    by true e = read_is _ r 0 e (inl refl, omega arith)
    by false e = cc e
next-after cfg s fields field (c ∷ rest) r e = by (is_end (step cfg s c).1) refl e (next-after cfg (step cfg s c).0 _ _ rest r)
  where
    by : (b : Bool) → is_end (step cfg s c).1 ≡ b
        → cond b (Some (fields_after (step cfg s c).1 fields field, (step cfg s c).0, rest)) (next_record cfg (step cfg s c).0 (fields_after (step cfg s c).1 fields field) (field_after (step cfg s c).1 c field) rest) ≡ Some r
        → (next_record cfg (step cfg s c).0 (fields_after (step cfg s c).1 fields field) (field_after (step cfg s c).1 c field) rest ≡ Some r → IsAfter r (length rest))
        → IsAfter r (suc (length rest))
    by true ends e more = read_is _ r (suc (length rest)) e (step-ends cfg s c ends, omega arith)
    by false goes e more = let h = more e in (h.0, omega (arith, h.1))

none_at_end : (cfg : Config) (s : State) (r : Read) → IsStart s → next_record cfg s [] [] [] ≡ Some r → ⊥
unfolding next_record
none_at_end cfg st.StartRecord r start e = cc e
none_at_end cfg st.AfterCr r start e = cc e
none_at_end cfg st.StartField r start e = ⊎_elim (λ a. cc a) (λ a. cc a) start
none_at_end cfg st.InField r start e = ⊎_elim (λ a. cc a) (λ a. cc a) start
none_at_end cfg st.InQuoted r start e = ⊎_elim (λ a. cc a) (λ a. cc a) start
none_at_end cfg st.AfterQuote r start e = ⊎_elim (λ a. cc a) (λ a. cc a) start
none_at_end cfg st.InEscape r start e = ⊎_elim (λ a. cc a) (λ a. cc a) start
none_at_end cfg st.InComment r start e = ⊎_elim (λ a. cc a) (λ a. cc a) start

next-shorter : (cfg : Config) (s : State) (xs : List ℕ) (r : Read) → IsStart s → next_record cfg s [] [] xs ≡ Some r → IsStart r.1 × (length r.2 < length xs)
next-shorter cfg s [] r start e = absurd (none_at_end cfg s r start e)
next-shorter cfg s (c ∷ rest) r start e = let h = next-after cfg s [] [] (c ∷ rest) r e in (h.0, omega (arith, h.1))

-- with more turns than bytes the number of turns doesn't matter
turns : (cfg : Config) (n m : ℕ) (s : State) (xs : List ℕ) → IsStart s → length xs < n → length xs < m → records_from cfg n s xs ≡ records_from cfg m s xs
unfolding records_from
turns cfg zero m s xs start h k = absurd (omega arith)
turns cfg (suc n) zero s xs start h k = absurd (omega arith)
turns cfg (suc n) (suc m) s xs start h k = by (next_record cfg s [] [] xs) refl (turns cfg n m)
  where
    by : (o : Option Read) → next_record cfg s [] [] xs ≡ o
        → ((t : State) (ys : List ℕ) → IsStart t → length ys < n → length ys < m → records_from cfg n t ys ≡ records_from cfg m t ys)
        → records_next (records_from cfg n) o ≡ records_next (records_from cfg m) o
    by None e more = refl
    by (Some r) e more =
        let after = next-shorter cfg s xs r start e in
        ap (λ (rs : List (List (List ℕ))). r.0 ∷ rs) (more r.1 r.2 after.0 (omega (arith, after.1)) (omega (arith, after.1)))

-- the first of the records that are left, or none
left-next : (s : State) (xs : List ℕ) (r : Read) → IsStart s → next_record default_config s [] [] xs ≡ Some r
    → records_from default_config (length xs + 1) s xs ≡ r.0 ∷ records_from default_config (length r.2 + 1) r.1 r.2
unfolding records_from
left-next s xs r start e =
    let after = next-shorter default_config s xs r start e in
    let turn : length xs + 1 ≡ suc (length xs) = omega arith in
    ap (λ n. records_from default_config n s xs) turn
    ∙ ap (records_next (records_from default_config (length xs))) e
    ∙ ap (λ (rs : List (List (List ℕ))). r.0 ∷ rs) (turns default_config (length xs) (length r.2 + 1) r.1 r.2 after.0 after.1 (omega arith))

left-none : (s : State) (xs : List ℕ) → next_record default_config s [] [] xs ≡ None → records_from default_config (length xs + 1) s xs ≡ []
unfolding records_from
left-none s xs e =
    let turn : length xs + 1 ≡ suc (length xs) = omega arith in
    ap (λ n. records_from default_config n s xs) turn ∙ ap (records_next (records_from default_config (length xs))) e

few : (n : ℕ) (s : State) (xs : List ℕ) → IsStart s → length (records_from default_config n s xs) ≤ length xs
unfolding records_from
few zero s xs start = omega arith
few (suc n) s xs start = by (next_record default_config s [] [] xs) refl (few n)
  where
    by : (o : Option Read) → next_record default_config s [] [] xs ≡ o
        → ((t : State) (ys : List ℕ) → IsStart t → length (records_from default_config n t ys) ≤ length ys)
        → length (records_next (records_from default_config n) o) ≤ length xs
    by None e more = omega arith
    by (Some r) e more =
        let after = next-shorter default_config s xs r start e in
        let rest = more r.1 r.2 after.0 in
        omega (arith, after.1, rest)

stripped : (xs : List ℕ) → length (strip_bom xs) ≤ length xs
unfolding strip_bom
stripped [] = omega arith
stripped (a ∷ []) = omega arith
stripped (a ∷ b ∷ []) = omega arith
stripped (a ∷ b ∷ c ∷ rest) = by (is_bom a b c)
  where
    by : (t : Bool) → length (cond t rest (a ∷ b ∷ c ∷ rest)) ≤ suc (suc (suc (length rest)))
    by true = omega arith
    by false = omega arith

-- each record takes a byte or more
pub few-records : (text : List ℕ) → length (records_of text) ≤ length text
few-records text = let n = few (length (strip_bom text) + 1) st.StartRecord (strip_bom text) (inl refl) in omega (arith, n, stripped text)

abbrev pub text_of : Bor (List ℕ) → Option (List ℕ)
text_of s = Some s.now

is_known : (o : Option (List ℕ)) → IsSome o → o ≡ Some (known o)
is_known None h = absurd (false≢true h)
is_known (Some xs) h = refl

-- a read that found a record
pub read-found : (old new : Source) (fields : List (List ℕ)) → IsReading old → ReadRecord text_of old new true fields → ReadsOn old new
    → IsReading new × (left old ≡ fields ∷ left new)
unfolding Reached
read-found old new fields reading read on =
    let xs = known (bytes_left old) in
    let at_xs = is_known (bytes_left old) reading.known in
    let (z, at_z, (p, next, is, (state, rest))) = rows-more text_of old new fields default_config old.state xs xs [] reading.config at_xs (refl, refl) read in
    let after = next-shorter default_config old.state xs p reading.start next in (
      record {
        config = on.0 ∙ reading.config;
        flexible = on.2 ∙ reading.flexible;
        trim = on.1 ∙ reading.trim;
        ready = (on.4 reading.ready).0;
        known = subst (λ (o : Option (List ℕ)). IsSome o) (sym at_z) refl;
        start = subst IsStart state after.0;
      },
      left-next old.state xs p reading.start next
          ∙ ap (λ (r : List (List ℕ)). r ∷ records_from default_config (length p.2 + 1) p.1 p.2) (sym is)
          ∙ ap (λ (t : State). fields ∷ records_from default_config (length p.2 + 1) t p.2) state
          ∙ ap (λ (ys : List ℕ). fields ∷ records_from default_config (length ys + 1) new.state ys) (rest ∙ sym (ap known at_z)),
    )

-- a read that found none
pub read-none : (old new : Source) (fields : List (List ℕ)) → IsReading old → ReadRecord text_of old new false fields → left old ≡ []
read-none old new fields reading read =
    let xs = known (bytes_left old) in
    left-none old.state xs (rows-end text_of old new fields default_config xs reading.config (is_known (bytes_left old) reading.known) read)
