-- A line is split at its first space, in one way.
use Rattle.std.proofs.Common.{◌≡◌, ℕ, ◌+◌, ◌<◌, List, [], ◌∷◌, ◌++◌, take, drop, length, get_or, refl, sym, ap, subst, ◌∙◌, add-one, drop-cons}
use Rattle.std.proofs.lemmas.Bool.{eqb-true, not-false, false≢true}
use Rattle.std.proofs.lemmas.List.{append_cancel_left, take-append-drop}
use Rattle.std.proofs.Math.Seq.{take-length}
use Rattle.std.specs.Prelude.{◌==◌}
use Rattle.std.specs.List.{prefix_len}
use Rattle.az_text.proofs.Runs.{Stops, run_passes, run_stops, run_only}
use Rattle.line_fields.specs.Fields.{IsWord, is_in_word, spaced, FieldsAreOne}

at_space : (b : ℕ) (rest : List ℕ) → Stops is_in_word (b ∷ rest) → b ≡ 32
at_space b rest stops = eqb-true b 32 (not-false (b == 32) stops)

pub split_at_space : (line : List ℕ) (n : ℕ) → n ≡ prefix_len is_in_word line → n < length line → line ≡ spaced (take n line) (drop (n + 1) line)
split_at_space line n is short =
    let parts : take n line ++ drop n line ≡ line = take-append-drop n line in
    let front : drop n line ≡ get_or line n 0 ∷ drop (n + 1) line = rw (add-one, drop-cons line n 0 short) refl in
    let stops : Stops is_in_word (drop n line) = subst (λ (k : ℕ). Stops is_in_word (drop k line)) (sym is) (run_stops is_in_word line) in
    let space : get_or line n 0 ≡ 32 = at_space (get_or line n 0) (drop (n + 1) line) (subst (Stops is_in_word) front stops) in
    sym parts ∙ ap (take n line ++◌) (front ∙ ap (λ (b : ℕ). b ∷ drop (n + 1) line) space)

pub front_is_word : (line : List ℕ) (n : ℕ) → n ≡ prefix_len is_in_word line → IsWord (take n line)
front_is_word line n is = subst (λ (k : ℕ). IsWord (take k line)) (sym is) (run_passes is_in_word line)

no_space : (word rest : List ℕ) → IsWord (spaced word rest) → ⊥
no_space [] rest h = false≢true h.0
no_space (b ∷ word) rest h = no_space word rest h.1

-- a line without a space has no field in front
pub unsplit : (line : List ℕ) (n : ℕ) → n ≡ prefix_len is_in_word line → n ≡ length line → (word rest : List ℕ) → line ≡ spaced word rest → ⊥
unsplit line n is long word rest same =
    let whole : take n line ≡ line = ap (λ (k : ℕ). take k line) long ∙ take-length line in
    no_space word rest (subst IsWord (whole ∙ same) (front_is_word line n is))

tail_of : (a b : ℕ) (xs ys : List ℕ) → a ∷ xs ≡ b ∷ ys → xs ≡ ys
tail_of a b xs ys same = cc

pub fields_are_one : FieldsAreOne
fields_are_one first other rest later is is' same =
    let one : first ≡ other = run_only is_in_word other (32 ∷ later) first (32 ∷ rest) is' refl is refl same in
    let tails : 32 ∷ rest ≡ 32 ∷ later = append_cancel_left other (32 ∷ rest) (32 ∷ later) (ap (λ (field : List ℕ). spaced field rest) (sym one) ∙ same) in
    (one, tail_of 32 32 rest later tails)
