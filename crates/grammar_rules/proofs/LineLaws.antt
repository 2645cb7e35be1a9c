-- How a text is cut into lines, and that there is one way.
use Rattle.std.proofs.Common.{◌≡◌, ℕ, suc, ◌+◌, ◌<◌, Bool, true, false, not, List, [], ◌∷◌, ◌++◌, take, drop, length, get_or, refl, sym, ap, subst, ◌∙◌, append_assoc, append-nil, length-append, length-drop, drop-cons, add-one, arith}
use Rattle.std.proofs.lemmas.Bool.{eqb-true, not-false}
use Rattle.std.proofs.lemmas.List.{append_cancel_left, take-append-drop}
use Rattle.std.specs.Prelude.{◌==◌}
use Rattle.std.specs.List.{prefix_len, AllByRecursion}
use Rattle.az_lin.proofs.AllLists.{all_snoc}
use Rattle.az_text.specs.Tokens.{is_before_line_feed, AllAre}
use Rattle.az_text.proofs.Runs.{Stops, run_passes, run_stops, run_only}
use Rattle.grammar_rules.specs.Lines.{IsLine, joined, IsCut, LinesAreOne}

-- behind a line stands its end
at_end : (b : ℕ) (rest : List ℕ) → Stops is_before_line_feed (b ∷ rest) → b ≡ 10
at_end b rest stops = eqb-true b 10 (not-false (b == 10) stops)

split_at_end : (rest : List ℕ) (n : ℕ) → n ≡ prefix_len is_before_line_feed rest → n < length rest → rest ≡ take n rest ++ (10 ∷ drop (n + 1) rest)
split_at_end rest n is short =
    let parts : take n rest ++ drop n rest ≡ rest = take-append-drop n rest in
    let front : drop n rest ≡ get_or rest n 0 ∷ drop (n + 1) rest = rw (add-one, drop-cons rest n 0 short) refl in
    let stops : Stops is_before_line_feed (drop n rest) = subst (λ (k : ℕ). Stops is_before_line_feed (drop k rest)) (sym is) (run_stops is_before_line_feed rest) in
    let end : get_or rest n 0 ≡ 10 = at_end (get_or rest n 0) (drop (n + 1) rest) (subst (Stops is_before_line_feed) front stops) in
    sym parts ∙ ap (take n rest ++◌) (front ∙ ap (λ (b : ℕ). b ∷ drop (n + 1) rest) end)

joined_snoc : (lines : List (List ℕ)) (line rest : List ℕ) → joined (lines ++ line ∷ []) ++ rest ≡ joined lines ++ (line ++ (10 ∷ rest))
joined_snoc [] line rest = append_assoc line (10 ∷ []) rest
joined_snoc (l ∷ lines) line rest =
    append_assoc l (10 ∷ joined (lines ++ line ∷ [])) rest ∙ ap (λ tail. l ++ (10 ∷ tail)) (joined_snoc lines line rest)
    ∙ sym (append_assoc l (10 ∷ joined lines) (line ++ (10 ∷ rest)))

-- a turn of the cut: one more line
pub record IsCutSoFar (text : List ℕ) (lines : List (List ℕ)) (rest : List ℕ) : Type 0 where
  pub whole : text ≡ joined lines ++ rest
  pub ended : AllByRecursion IsLine lines

pub cut_turn : (text rest : List ℕ) (lines : List (List ℕ)) (n : ℕ) → n ≡ prefix_len is_before_line_feed rest → n < length rest → IsCutSoFar text lines rest
    → IsCutSoFar text (lines ++ take n rest ∷ []) (drop (n + 1) rest)
cut_turn text rest lines n is short so_far = record {
  whole = so_far.whole ∙ (ap (joined lines ++◌) (split_at_end rest n is short) ∙ sym (joined_snoc lines (take n rest) (drop (n + 1) rest)));
  ended = all_snoc IsLine lines (take n rest) so_far.ended (subst (λ (k : ℕ). IsLine (take k rest)) (sym is) (run_passes is_before_line_feed rest));
}

whole_run : (rest : List ℕ) (n : ℕ) → n ≡ length rest → take n rest ≡ rest
whole_run [] n is = rw is refl
whole_run (b ∷ rest) n is = rw is (ap (λ bytes. b ∷ bytes) (whole_run rest (length rest) refl))

pub cut_end : (text rest : List ℕ) (lines : List (List ℕ)) (n : ℕ) → n ≡ prefix_len is_before_line_feed rest → n ≡ length rest → IsCutSoFar text lines rest → IsCut text lines rest
cut_end text rest lines n is long so_far = record {
  whole = so_far.whole;
  ended = so_far.ended;
  unended = subst IsLine (whole_run rest n long) (subst (λ (k : ℕ). IsLine (take k rest)) (sym is) (run_passes is_before_line_feed rest));
}

-- no line feed on one side
no_end : (rest line later : List ℕ) → IsLine rest → IsLine line → rest ≡ line ++ (10 ∷ later) → ⊥
no_end rest line later r l same =
    let alike : line ≡ rest = run_only is_before_line_feed rest [] line (10 ∷ later) r tt l refl (sym same ∙ sym (append-nil rest)) in
    let longer : length rest ≡ length line + length (10 ∷ later) = ap length same ∙ length-append line (10 ∷ later) in
    let equal : length line ≡ length rest = ap length alike in
    omega arith

one_cut : (lines others : List (List ℕ)) (rest later : List ℕ) → joined lines ++ rest ≡ joined others ++ later
    → AllByRecursion IsLine lines → AllByRecursion IsLine others → IsLine rest → IsLine later → (lines ≡ others) × (rest ≡ later)
one_cut [] [] rest later same one two r l = (refl, same)
one_cut [] (m ∷ ms) rest later same one two r l = absurd (no_end rest m (joined ms ++ later) r two.0 (same ∙ append_assoc m (10 ∷ joined ms) later))
one_cut (k ∷ ks) [] rest later same one two r l = absurd (no_end later k (joined ks ++ rest) l one.0 (sym same ∙ append_assoc k (10 ∷ joined ks) rest))
one_cut (k ∷ ks) (m ∷ ms) rest later same one two r l =
    let both : k ++ (10 ∷ (joined ks ++ rest)) ≡ m ++ (10 ∷ (joined ms ++ later)) = sym (append_assoc k (10 ∷ joined ks) rest) ∙ (same ∙ append_assoc m (10 ∷ joined ms) later) in
    let first : k ≡ m = run_only is_before_line_feed m (10 ∷ (joined ms ++ later)) k (10 ∷ (joined ks ++ rest)) two.0 refl one.0 refl both in
    let tails : 10 ∷ (joined ks ++ rest) ≡ 10 ∷ (joined ms ++ later) =
    append_cancel_left m (10 ∷ (joined ks ++ rest)) (10 ∷ (joined ms ++ later)) (ap (λ (line : List ℕ). line ++ (10 ∷ (joined ks ++ rest))) (sym first) ∙ both) in
    let further = one_cut ks ms rest later (cc) one.1 two.1 r l in
    let others : ks ≡ ms = further.0 in
    (cc, further.1)

pub lines_are_one : LinesAreOne
lines_are_one text lines others rest later one two = one_cut lines others rest later (sym one.whole ∙ two.whole) one.ended two.ended one.unended two.unended
