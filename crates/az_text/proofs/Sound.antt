-- What `front_of` gives is what the text begins with.
use Rattle.std.proofs.Common.{◌≡◌, ℕ, suc, ◌+◌, ◌^◌, ◌<◌, ◌≤◌, Bool, true, false, cond, eqb, ltb, List, [], ◌∷◌, ◌++◌, take, drop, get_or, length, Option, Some, None, refl, sym, ap, ◌∙◌, subst, arith, append_assoc, take-append-drop, length-take-le, ⊎_elim}
use Rattle.std.proofs.lemmas.Bool.Decides.{nat_tests}
use Rattle.std.proofs.lemmas.Bool.{eqb-true, eqb-false, ltb-true, ltb-false, cond-true, cond-false, cases_lt}
use Rattle.std.proofs.lemmas.List.{drop_more, get_or_at, get_or_past, length_push}
use Rattle.std.proofs.lemmas.List.Sums.{prefix_len-le-length}
use Rattle.std.proofs.Math.Numerals.{one-add}
use Rattle.std.specs.Char.{is_ascii_alphabetic, is_ascii_digit}
use Rattle.std.specs.List.{prefix_len}
use Rattle.std.specs.Str.Parse.{digits_value}
use Rattle.az_text.specs.declared.front.Front.{Front}
use Rattle.az_text.specs.declared.front.Front.TheVariants.{Between, Cut, Wide, Nothing}
use Rattle.az_text.specs.declared.mark.MarkKind.{MarkKind}
use Rattle.az_text.specs.declared.token.TokenKind.{TokenKind}
use Rattle.az_text.specs.declared.token.TokenKind.TheVariants.{Word, Number, Quoted, Mark}
use Rattle.az_text.specs.Fronts.{lookup, lookup_two, single_marks, double_marks, mark_or_nothing, single_front, mark_front, word_front, number_front, value_below, number_or_wide, quoted_front, comment_front, front_of}
use Rattle.az_text.specs.Pieces.{EndsAt}
use Rattle.az_text.specs.Reading.{IsNarrow}
use Rattle.az_text.specs.Tokens.{is_blank, is_word_byte, is_inner, is_before_line_feed, AllAre, EndsComment, quoted, Spells, BeginsWith, NothingBegins}
use Rattle.az_text.proofs.Longest.{spelled_token_is_cut, NoDouble, single_longest, double_longest}
use Rattle.az_text.proofs.Marks.{mark_of, mark_of-spelling, single_spelled, double_spelled}
use Rattle.az_text.proofs.Runs.{Stops, run_passes, run_stops, run_only}
use Rattle.az_text.proofs.Sorts.{sort_of, is_solid, sort, starts, same_sort}

-- the text begins so
pub data Sound : List ℕ → Front → Type 0 where
  a_blank : {b : ℕ} {rest : List ℕ} → is_blank b ≡ true → Sound (b ∷ rest) (Between 1)
  a_comment : (body rest : List ℕ) → AllAre is_before_line_feed body → EndsComment rest → Sound (47 ∷ 47 ∷ (body ++ rest)) (Between (length (47 ∷ 47 ∷ body)))
  a_token : {kind : TokenKind} (b : ℕ) (bytes rest : List ℕ) → BeginsWith kind (b ∷ bytes) rest → IsNarrow kind → Sound (b ∷ (bytes ++ rest)) (Cut kind (length (b ∷ bytes)))
  a_wide_number : (n b : ℕ) (bytes rest : List ℕ) → BeginsWith (Number n) (b ∷ bytes) rest → 2 ^ 127 ≤ n → Sound (b ∷ (bytes ++ rest)) Wide
  nothing : {text : List ℕ} → NothingBegins text → Sound text Nothing

-- a cut after n bytes, written as such
sound_cut : (kind : TokenKind) (n b : ℕ) (text : List ℕ) → n ≤ length text → BeginsWith kind (take (suc n) (b ∷ text)) (drop (suc n) (b ∷ text)) → IsNarrow kind → Sound (b ∷ text) (Cut kind (suc n))
sound_cut kind n b text within begins narrow =
    let cut : Sound (b ∷ (take n text ++ drop n text)) (Cut kind (suc (length (take n text)))) = a_token b (take n text) (drop n text) begins narrow in
    let AtText : List ℕ → Type 0 = λ t. Sound (b ∷ t) (Cut kind (suc (length (take n text)))) in
    let AtLength : ℕ → Type 0 = λ k. Sound (b ∷ text) (Cut kind (suc k)) in
    subst AtLength (length-take-le n text within) (subst AtText (take-append-drop n text) cut)

sound_wide : (n value b : ℕ) (text : List ℕ) → BeginsWith (Number value) (take (suc n) (b ∷ text)) (drop (suc n) (b ∷ text)) → 2 ^ 127 ≤ value → Sound (b ∷ text) Wide
sound_wide n value b text begins wide =
    let cut : Sound (b ∷ (take n text ++ drop n text)) Wide = a_wide_number value b (take n text) (drop n text) begins wide in
    let AtText : List ℕ → Type 0 = λ t. Sound (b ∷ t) Wide in
    subst AtText (take-append-drop n text) cut

ends_from_stop : (kind : TokenKind) (p : ℕ → Bool) (rest : List ℕ) → ((b : ℕ) (more : List ℕ) → p b ≡ false → EndsAt kind (b ∷ more)) → Stops p rest → EndsAt kind rest
ends_from_stop kind p [] ends stops = tt
ends_from_stop kind p (b ∷ rest) ends stops = ends b rest stops

-- the run of a byte that passes
prefix_len-first : (p : ℕ → Bool) (b : ℕ) (text : List ℕ) → p b ≡ true → prefix_len p (b ∷ text) ≡ suc (prefix_len p text)
prefix_len-first p b text passes = cond-true (p b) _ _ passes ∙ one-add (prefix_len p text)

word_byte : (b : ℕ) → is_ascii_alphabetic b ≡ true → is_word_byte b ≡ true
word_byte b h = grind (arith, nat_tests)

sound_word : (b : ℕ) (text : List ℕ) → is_ascii_alphabetic b ≡ true → Sound (b ∷ text) (word_front (b ∷ text))
unfolding word_front
sound_word b text letter =
    let n = prefix_len is_word_byte text in
    let len = prefix_len-first is_word_byte b text (word_byte b letter) in
    let name = take (suc n) (b ∷ text) in
    let rest = drop (suc n) (b ∷ text) in
    let spelled : Spells (Word name) name = ((letter, run_passes is_word_byte text), refl) in
    let ends : EndsAt (Word name) rest = ends_from_stop (Word name) is_word_byte rest (λ _ _ stop. stop) (run_stops is_word_byte text) in
    let begins = spelled_token_is_cut (Word name) name rest spelled ends in
    let P : ℕ → Type 0 = λ k. Sound (b ∷ text) (Cut (Word (take k (b ∷ text))) k) in
    subst P (sym len) (sound_cut (Word name) n b text (prefix_len-le-length is_word_byte text) begins tt)

sound_number : (b : ℕ) (text : List ℕ) → is_ascii_digit b ≡ true → Sound (b ∷ text) (number_front (b ∷ text))
unfolding number_front
sound_number b text digit =
    let n = prefix_len is_ascii_digit text in
    let len = prefix_len-first is_ascii_digit b text digit in
    let digits = take (suc n) (b ∷ text) in
    let value = digits_value 10 digits in
    let rest = drop (suc n) (b ∷ text) in
    let spelled : Spells (Number value) digits = ((digit, run_passes is_ascii_digit text), refl) in
    let ends : EndsAt (Number value) rest = ends_from_stop (Number value) is_ascii_digit rest (λ _ _ stop. stop) (run_stops is_ascii_digit text) in
    let begins = spelled_token_is_cut (Number value) digits rest spelled ends in
    let P : ℕ → Type 0 = λ k. Sound (b ∷ text) (number_or_wide (value_below (2 ^ 127) (take k (b ∷ text))) k) in
    let by : (t : Bool) → ltb value (2 ^ 127) ≡ t → Sound (b ∷ text) (number_or_wide (cond t (Some value) None) (suc n))
    = λ t. elim t as (λ t. ltb value (2 ^ 127) ≡ t → Sound (b ∷ text) (number_or_wide (cond t (Some value) None) (suc n))) [
      | true ↦ λ below. sound_cut (Number value) n b text (prefix_len-le-length is_ascii_digit text) begins (ltb-true value (2 ^ 127) below)
      | false ↦ λ above. sound_wide n value b text begins (ltb-false value (2 ^ 127) above)
    ] in
    subst P (sym len) (by (ltb value (2 ^ 127)) refl)

-- neither a blank nor a slash
pub solid_parts : (b : ℕ) → is_solid b ≡ true → (is_blank b ≡ false) × (b ≡ 47 → ⊥)
solid_parts b h = (grind (arith, nat_tests), λ e. grind (arith, nat_tests))

-- nothing begins at a byte of a sort of which no token stands there
nothing_at : (b : ℕ) (text : List ℕ) → is_blank b ≡ false → (b ≡ 47 → (rest : List ℕ) → text ≡ 47 ∷ rest → ⊥) → ((kind : TokenKind) (bytes rest : List ℕ) → sort kind ≡ sort_of b → Spells kind bytes → b ∷ text ≡ bytes ++ rest → ⊥) → NothingBegins (b ∷ text)
nothing_at b text blank comment token = record {
  some_byte = λ e. cc;
  no_blank = λ c rest same. let first : b ≡ c = cc in ap is_blank (sym first) ∙ blank;
  no_comment = λ rest same. let first : b ≡ 47 = cc in let others : text ≡ 47 ∷ rest = cc in comment first rest others;
  no_token = λ kind bytes rest spelled same.
      let s = starts kind bytes spelled in
      let same' : b ∷ text ≡ s.first ∷ (s.others ++ rest) = same ∙ ap (λ l. l ++ rest) s.whole in
      let first : b ≡ s.first = cc in
      token kind bytes rest (sym s.sorted ∙ ap sort_of (sym first)) spelled same;
}

nothing_at_slash : (text : List ℕ) → ((rest : List ℕ) → text ≡ 47 ∷ rest → ⊥) → NothingBegins (47 ∷ text)
nothing_at_slash text comment = nothing_at 47 text refl (λ _. comment) (λ kind bytes rest sorted spelled same.
    let s = starts kind bytes spelled in
    let same' : 47 ∷ text ≡ s.first ∷ (s.others ++ rest) = same ∙ ap (λ l. l ++ rest) s.whole in
    let first : s.first ≡ 47 = cc in
    (solid_parts s.first s.solid).1 first)

ends_comment : (rest : List ℕ) → Stops is_before_line_feed rest → EndsComment rest
ends_comment [] stops = tt
ends_comment (b ∷ rest) stops = grind (arith, nat_tests)

sound_comment : (text : List ℕ) → Sound (47 ∷ text) (comment_front text)
unfolding comment_front
sound_comment [] = nothing (nothing_at_slash [] (λ rest same. cc))
sound_comment (b ∷ text) =
    let n = prefix_len is_before_line_feed text in
    let body = take n text in
    let cut : Sound (47 ∷ 47 ∷ (body ++ drop n text)) (Between (suc (suc (length body)))) = a_comment body (drop n text) (run_passes is_before_line_feed text) (ends_comment (drop n text) (run_stops is_before_line_feed text)) in
    let AtText : List ℕ → Type 0 = λ t. Sound (47 ∷ 47 ∷ t) (Between (suc (suc (length body)))) in
    let AtLength : ℕ → Type 0 = λ k. Sound (47 ∷ 47 ∷ text) (Between k) in
    let body_len = length-take-le n text (prefix_len-le-length is_before_line_feed text) in
    let len : suc (suc (length body)) ≡ 2 + n = omega (arith, body_len) in
    let whole : Sound (47 ∷ 47 ∷ text) (Between (2 + n)) = subst AtLength len (subst AtText (take-append-drop n text) cut) in
    let by : (t : Bool) → eqb b 47 ≡ t → Sound (47 ∷ b ∷ text) (cond t (Between (2 + n)) Nothing)
    = λ t. elim t as (λ t. eqb b 47 ≡ t → Sound (47 ∷ b ∷ text) (cond t (Between (2 + n)) Nothing)) [
      | true ↦ λ is.
          let AtByte : ℕ → Type 0 = λ x. Sound (47 ∷ x ∷ text) (Between (2 + n)) in
          subst AtByte (sym (eqb-true b 47 is)) whole
      | false ↦ λ other. nothing (nothing_at_slash (b ∷ text) (λ rest same. let first : b ≡ 47 = cc in eqb-false b 47 other first))
    ] in
    by (eqb b 47) refl

inside : (text : List ℕ) (n : ℕ) → get_or text n 0 ≡ 34 → n < length text
inside text n quote = ⊎_elim (λ below. below) (λ past. absurd (omega (arith, quote, get_or_past text n 0 past))) (cases_lt n (length text))

quoted_ends : (inner after : List ℕ) → EndsAt (Quoted inner) after
quoted_ends inner [] = tt
quoted_ends inner (b ∷ after) = refl

-- where no quote ends the run of inner bytes, no quoted text stands there
no_quoted : (text : List ℕ) → (get_or text (prefix_len is_inner text) 0 ≡ 34 → ⊥) → (kind : TokenKind) (bytes rest : List ℕ) → sort kind ≡ 2 → Spells kind bytes → 34 ∷ text ≡ bytes ++ rest → ⊥
no_quoted text open' (Word _) bytes rest sorted spelled same = absurd (omega (arith, sorted))
no_quoted text open' (Number _) bytes rest sorted spelled same = absurd (omega (arith, sorted))
no_quoted text open' (Mark _) bytes rest sorted spelled same = absurd (omega (arith, sorted))
no_quoted text open' (Quoted inner) bytes rest sorted spelled same =
    let n = prefix_len is_inner text in
    let whole : 34 ∷ text ≡ 34 ∷ ((inner ++ 34 ∷ []) ++ rest) = same ∙ ap (λ l. l ++ rest) spelled.1 in
    let tails : text ≡ (inner ++ 34 ∷ []) ++ rest = cc in
    let tails' : text ≡ inner ++ (34 ∷ rest) = tails ∙ append_assoc inner (34 ∷ []) rest in
    let cut : take n text ++ drop n text ≡ inner ++ (34 ∷ rest) = take-append-drop n text ∙ tails' in
    let front = run_only is_inner inner (34 ∷ rest) (take n text) (drop n text) spelled.0 refl (run_passes is_inner text) (run_stops is_inner text) cut in
    let len : length inner ≡ n = ap length (sym front) ∙ length-take-le n text (prefix_len-le-length is_inner text) in
    open' (ap (λ l. get_or l n 0) tails' ∙ get_or_at inner 34 rest 0 n len)

-- a quote at the end of a run of inner bytes
closed_by : (text : List ℕ) → get_or text (prefix_len is_inner text) 0 ≡ 34 → (after : List ℕ) × (text ≡ take (prefix_len is_inner text) text ++ 34 ∷ after)
closed_by text quote =
    let n = prefix_len is_inner text in
    let within : n < length text = inside text n quote in
    let tail : drop n text ≡ 34 ∷ drop (n + 1) text = drop_more text n 0 within ∙ ap (λ b. b ∷ drop (n + 1) text) quote in
    (drop (n + 1) text, sym (take-append-drop n text) ∙ ap (λ l. take n text ++ l) tail)

quoted_open : (text : List ℕ) → (get_or text (prefix_len is_inner text) 0 ≡ 34 → ⊥) → NothingBegins (34 ∷ text)
quoted_open text open' = nothing_at 34 text refl (λ e. absurd (omega arith)) (λ kind bytes rest sorted spelled same. no_quoted text open' kind bytes rest sorted spelled same)

sound_quoted : (text : List ℕ) → Sound (34 ∷ text) (quoted_front text)
unfolding quoted_front
sound_quoted text =
    let n = prefix_len is_inner text in
    let inner = take n text in
    let by : (t : Bool) → eqb (get_or text n 0) 34 ≡ t → Sound (34 ∷ text) (cond t (Cut (Quoted inner) (n + 2)) Nothing)
    = λ t. elim t as (λ t. eqb (get_or text n 0) 34 ≡ t → Sound (34 ∷ text) (cond t (Cut (Quoted inner) (n + 2)) Nothing)) [
      | true ↦ λ is.
          let closed = closed_by text (eqb-true _ 34 is) in
          let after = closed.0 in
          let spelled : Spells (Quoted inner) (quoted inner) = (run_passes is_inner text, refl) in
          let begins = spelled_token_is_cut (Quoted inner) (quoted inner) after spelled (quoted_ends inner after) in
          let cut : Sound (34 ∷ ((inner ++ 34 ∷ []) ++ after)) (Cut (Quoted inner) (suc (length (inner ++ 34 ∷ [])))) = a_token 34 (inner ++ 34 ∷ []) after begins tt in
          let AtText : List ℕ → Type 0 = λ t. Sound (34 ∷ t) (Cut (Quoted inner) (suc (length (inner ++ 34 ∷ [])))) in
          let AtLength : ℕ → Type 0 = λ k. Sound (34 ∷ text) (Cut (Quoted inner) k) in
          let inner_len = length-take-le n text (prefix_len-le-length is_inner text) in
          let len : suc (length (inner ++ 34 ∷ [])) ≡ n + 2 = omega (arith, inner_len, length_push inner 34) in
          subst AtLength len (subst AtText (append_assoc inner (34 ∷ []) after ∙ sym closed.1) cut)
      | false ↦ λ other. nothing (quoted_open text (eqb-false _ 34 other))
    ] in
    by (eqb (get_or text n 0) 34) refl

-- a mark begins where no longer mark does
longest_of_mark : (kind : MarkKind) (bytes rest : List ℕ) → Spells (Mark kind) bytes → ((mark : MarkKind) (more after : List ℕ) → Spells (Mark mark) more → more ++ after ≡ bytes ++ rest → length more ≤ length bytes) → (other : TokenKind) → sort other ≡ 3 → (more after : List ℕ) → Spells other more → more ++ after ≡ bytes ++ rest → length more ≤ length bytes
longest_of_mark kind bytes rest spelled marks (Mark mark) one more after other_spelled same = marks mark more after other_spelled same
longest_of_mark kind bytes rest spelled marks (Word _) one more after other_spelled same = absurd (omega (arith, one))
longest_of_mark kind bytes rest spelled marks (Number _) one more after other_spelled same = absurd (omega (arith, one))
longest_of_mark kind bytes rest spelled marks (Quoted _) one more after other_spelled same = absurd (omega (arith, one))

mark_begins : (kind : MarkKind) (bytes rest : List ℕ) → Spells (Mark kind) bytes → ((mark : MarkKind) (more after : List ℕ) → Spells (Mark mark) more → more ++ after ≡ bytes ++ rest → length more ≤ length bytes) → BeginsWith (Mark kind) bytes rest
mark_begins kind bytes rest spelled marks = record {
  spelled = spelled;
  longest = λ other more after other_spelled same. longest_of_mark kind bytes rest spelled marks other (same_sort (Mark kind) other bytes rest more after spelled other_spelled same) more after other_spelled same;
}

-- no bytes at the front spell a mark where the table has none
unmarked : (b : ℕ) (rest : List ℕ) → lookup single_marks b ≡ None → NoDouble b rest → (mark : MarkKind) (bytes more : List ℕ) → mark_of bytes ≡ Some mark → b ∷ rest ≡ bytes ++ more → ⊥
unmarked b rest single double mark [] more found same = cc
unmarked b rest single double mark (x ∷ []) more found same =
    let first : b ≡ x = cc in
    let none : lookup single_marks x ≡ None = ap (lookup single_marks) (sym first) ∙ single in
    cc
unmarked b [] single double mark (x ∷ y ∷ []) more found same = cc
unmarked b (c ∷ rest) single double mark (x ∷ y ∷ []) more found same =
    let first : b ≡ x = cc in
    let second : c ≡ y = cc in
    let none : lookup_two double_marks x y ≡ None = ap (λ v. lookup_two double_marks v y) (sym first) ∙ ap (λ v. lookup_two double_marks b v) (sym second) ∙ double in
    cc
unmarked b rest single double mark (x ∷ y ∷ z ∷ bytes) more found same = cc

no_mark : (b : ℕ) (rest : List ℕ) → lookup single_marks b ≡ None → NoDouble b rest → (kind : TokenKind) (bytes more : List ℕ) → sort kind ≡ 3 → Spells kind bytes → b ∷ rest ≡ bytes ++ more → ⊥
no_mark b rest single double (Mark mark) bytes more sorted spelled same = unmarked b rest single double mark bytes more (ap mark_of spelled ∙ mark_of-spelling mark) same
no_mark b rest single double (Word _) bytes more sorted spelled same = absurd (omega (arith, sorted))
no_mark b rest single double (Number _) bytes more sorted spelled same = absurd (omega (arith, sorted))
no_mark b rest single double (Quoted _) bytes more sorted spelled same = absurd (omega (arith, sorted))

-- a byte that begins no blank, comment, word, number or quoted text
record MarkByte (b : ℕ) : Type 0 where
  sorted : sort_of b ≡ 3
  blank : is_blank b ≡ false
  slash : b ≡ 47 → ⊥

sound_single : (b : ℕ) (rest : List ℕ) → MarkByte b → NoDouble b rest → Sound (b ∷ rest) (single_front b)
sound_single b rest byte double =
    let by : (o : Option MarkKind) → lookup single_marks b ≡ o → Sound (b ∷ rest) (mark_or_nothing o 1 Nothing)
    = λ o. elim o as (λ o. lookup single_marks b ≡ o → Sound (b ∷ rest) (mark_or_nothing o 1 Nothing)) [
      | Some kind ↦ λ found. a_token b [] rest (mark_begins kind (b ∷ []) rest (sym (single_spelled b kind found)) (λ mark. single_longest b rest double mark)) tt
      | None ↦ λ none. nothing (nothing_at b rest byte.blank (λ e _ _. byte.slash e) (λ kind bytes more sorted. no_mark b rest none double kind bytes more (sorted ∙ byte.sorted)))
    ] in
    by (lookup single_marks b) refl

sound_mark : (b : ℕ) (rest : List ℕ) → MarkByte b → Sound (b ∷ rest) (mark_front (b ∷ rest))
unfolding mark_front
sound_mark b [] byte = sound_single b [] byte tt
sound_mark b (c ∷ rest) byte =
    let by : (o : Option MarkKind) → lookup_two double_marks b c ≡ o → Sound (b ∷ c ∷ rest) (mark_or_nothing o 2 (single_front b))
    = λ o. elim o as (λ o. lookup_two double_marks b c ≡ o → Sound (b ∷ c ∷ rest) (mark_or_nothing o 2 (single_front b))) [
      | Some kind ↦ λ found. a_token b (c ∷ []) rest (mark_begins kind (b ∷ c ∷ []) rest (sym (double_spelled b c kind found)) (λ mark. double_longest b c rest mark)) tt
      | None ↦ λ none. sound_single b (c ∷ rest) byte none
    ] in
    by (lookup_two double_marks b c) refl

mark_byte : (b : ℕ) → is_blank b ≡ false → is_ascii_alphabetic b ≡ false → is_ascii_digit b ≡ false → eqb b 34 ≡ false → eqb b 47 ≡ false → MarkByte b
mark_byte b blank letter digit quote slash = record {
  sorted = cond-false _ _ _ letter ∙ cond-false _ _ _ digit ∙ cond-false _ _ _ quote;
  blank = blank;
  slash = eqb-false b 47 slash;
}

-- the one way that a test goes
branch : (t : Bool) (x y : Front) (text : List ℕ) → (t ≡ true → Sound text x) → (t ≡ false → Sound text y) → Sound text (cond t x y)
branch true x y text passed failed = passed refl
branch false x y text passed failed = failed refl

pub sound_front : (b : ℕ) (rest : List ℕ) → Sound (b ∷ rest) (front_of (b ∷ rest))
unfolding front_of
sound_front b rest =
    branch (is_blank b) _ _ _ (λ blank. a_blank blank) (λ blank.
    branch (is_ascii_alphabetic b) _ _ _ (λ letter. sound_word b rest letter) (λ letter.
    branch (is_ascii_digit b) _ _ _ (λ digit. sound_number b rest digit) (λ digit.
    branch (eqb b 34) _ _ _ (λ quote. let At : ℕ → Type 0 = λ x. Sound (x ∷ rest) (quoted_front rest) in subst At (sym (eqb-true b 34 quote)) (sound_quoted rest)) (λ quote.
    branch (eqb b 47) _ _ _ (λ slash. let At : ℕ → Type 0 = λ x. Sound (x ∷ rest) (comment_front rest) in subst At (sym (eqb-true b 47 slash)) (sound_comment rest)) (λ slash.
    sound_mark b rest (mark_byte b blank letter digit quote slash))))))
