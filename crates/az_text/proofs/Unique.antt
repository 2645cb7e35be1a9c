-- What a text begins with is one thing, so `front_of` gives it.
use Rattle.std.proofs.Common.{◌≡◌, ℕ, ◌+◌, ◌^◌, ◌<◌, ◌≤◌, true, false, List, [], ◌∷◌, ◌++◌, take, length, refl, sym, ap, ◌∙◌, subst, arith}
use Rattle.std.proofs.lemmas.Bool.{false≢true, cond-true}
use Rattle.std.proofs.lemmas.List.{take_at}
use Rattle.std.specs.List.{prefix_len}
use Rattle.az_text.specs.declared.front.Front.{Front}
use Rattle.az_text.specs.declared.front.Front.TheVariants.{Between, Cut, Wide, Nothing}
use Rattle.az_text.specs.declared.token.TokenKind.{TokenKind}
use Rattle.az_text.specs.declared.token.TokenKind.TheVariants.{Number}
use Rattle.az_text.specs.Fronts.{front_of, comment_front}
use Rattle.az_text.specs.Reading.{IsNarrow}
use Rattle.az_text.specs.Tokens.{is_blank, is_before_line_feed, AllAre, EndsComment, BeginsWith, NothingBegins}
use Rattle.az_text.proofs.Longest.{spelled_only}
use Rattle.az_text.proofs.Runs.{Stops, run_len}
use Rattle.az_text.proofs.Sorts.{starts}
use Rattle.az_text.proofs.Sound.{Sound, solid_parts, sound_front}
use Rattle.az_text.proofs.Sound.Sound.{a_blank, a_comment, a_token, a_wide_number, nothing}

same_length : (kind other : TokenKind) (bytes rest more after : List ℕ) → BeginsWith kind bytes rest → BeginsWith other more after → more ++ after ≡ bytes ++ rest → length more ≡ length bytes
same_length kind other bytes rest more after begins other_begins same =
    omega (arith, begins.longest other more after other_begins.spelled same, other_begins.longest kind bytes rest begins.spelled (sym same))

-- a text begins with one token at most
record OneToken (kind other : TokenKind) (bytes more : List ℕ) : Type 0 where
  kinds : other ≡ kind
  spellings : more ≡ bytes

one_token : (kind other : TokenKind) (bytes rest more after : List ℕ) → BeginsWith kind bytes rest → BeginsWith other more after → more ++ after ≡ bytes ++ rest → OneToken kind other bytes more
one_token kind other bytes rest more after begins other_begins same =
    let len = same_length kind other bytes rest more after begins other_begins same in
    let spellings : more ≡ bytes = sym (take_at more after (length more) refl) ∙ ap (take (length more)) same ∙ take_at bytes rest (length more) (sym len) in
    let Spelled : List ℕ → Type 0 = λ l. BeginsWith other l after in
    record {
      kinds = spelled_only other kind bytes (subst Spelled spellings other_begins).spelled begins.spelled;
      spellings = spellings;
    }

-- a token begins neither with a blank nor with a slash
no_blank_token : (kind : TokenKind) (b : ℕ) (text bytes rest : List ℕ) → BeginsWith kind bytes rest → b ∷ text ≡ bytes ++ rest → (is_blank b ≡ false) × (b ≡ 47 → ⊥)
no_blank_token kind b text bytes rest begins same =
    let s = starts kind bytes begins.spelled in
    let same' : b ∷ text ≡ s.first ∷ (s.others ++ rest) = same ∙ ap (λ l. l ++ rest) s.whole in
    let first : b ≡ s.first = cc in
    let parts = solid_parts s.first s.solid in
    (ap is_blank first ∙ parts.0, λ e. parts.1 (sym first ∙ e))

token_front : {text : List ℕ} {front : Front} → Sound text front → (kind : TokenKind) (bytes rest : List ℕ) → text ≡ bytes ++ rest → BeginsWith kind bytes rest → IsNarrow kind → front ≡ Cut kind (length bytes)
token_front (a_blank {b} {rest = text} blank) kind bytes rest same begins narrow =
    let none = no_blank_token kind b text bytes rest begins same in
    absurd (false≢true (sym none.0 ∙ blank))
token_front (a_comment body text passes ends) kind bytes rest same begins narrow =
    absurd ((no_blank_token kind 47 (47 ∷ (body ++ text)) bytes rest begins same).1 refl)
token_front (a_token {kind = other} b more after other_begins other_narrow) kind bytes rest same begins narrow =
    let one = one_token kind other bytes rest (b ∷ more) after begins other_begins same in
    ap (λ k. Cut k (length (b ∷ more))) one.kinds ∙ ap (λ l. Cut kind (length l)) one.spellings
token_front (a_wide_number n b more after other_begins wide) kind bytes rest same begins narrow =
    let one = one_token kind (Number n) bytes rest (b ∷ more) after begins other_begins same in
    let small : n < 2 ^ 127 = subst IsNarrow (sym one.kinds) narrow in
    absurd (omega arith)
token_front (nothing none) kind bytes rest same begins narrow = absurd (none.no_token kind bytes rest begins.spelled same)

wide_front : {text : List ℕ} {front : Front} → Sound text front → (n : ℕ) (bytes rest : List ℕ) → text ≡ bytes ++ rest → BeginsWith (Number n) bytes rest → 2 ^ 127 ≤ n → front ≡ Wide
wide_front (a_blank {b} {rest = text} blank) n bytes rest same begins wide =
    let none = no_blank_token (Number n) b text bytes rest begins same in
    absurd (false≢true (sym none.0 ∙ blank))
wide_front (a_comment body text passes ends) n bytes rest same begins wide =
    absurd ((no_blank_token (Number n) 47 (47 ∷ (body ++ text)) bytes rest begins same).1 refl)
wide_front (a_token {kind = other} b more after other_begins other_narrow) n bytes rest same begins wide =
    let one = one_token (Number n) other bytes rest (b ∷ more) after begins other_begins same in
    let small : n < 2 ^ 127 = subst IsNarrow one.kinds other_narrow in
    absurd (omega arith)
wide_front (a_wide_number m b more after other_begins other_wide) n bytes rest same begins wide = refl
wide_front (nothing none) n bytes rest same begins wide = absurd (none.no_token (Number n) bytes rest begins.spelled same)

bad_front : {text : List ℕ} {front : Front} → Sound text front → NothingBegins text → front ≡ Nothing
bad_front (a_blank {b} {rest = text} blank) none = absurd (false≢true (sym (none.no_blank b text refl) ∙ blank))
bad_front (a_comment body text passes ends) none = absurd (none.no_comment (body ++ text) refl)
bad_front (a_token {kind} b more after begins narrow) none = absurd (none.no_token kind (b ∷ more) after begins.spelled refl)
bad_front (a_wide_number n b more after begins wide) none = absurd (none.no_token (Number n) (b ∷ more) after begins.spelled refl)
bad_front (nothing _) none = refl

pub front_of-token : (kind : TokenKind) (b : ℕ) (bytes rest : List ℕ) → BeginsWith kind (b ∷ bytes) rest → IsNarrow kind → front_of (b ∷ (bytes ++ rest)) ≡ Cut kind (length (b ∷ bytes))
front_of-token kind b bytes rest begins narrow = token_front (sound_front b (bytes ++ rest)) kind (b ∷ bytes) rest refl begins narrow

pub front_of-wide : (n b : ℕ) (bytes rest : List ℕ) → BeginsWith (Number n) (b ∷ bytes) rest → 2 ^ 127 ≤ n → front_of (b ∷ (bytes ++ rest)) ≡ Wide
front_of-wide n b bytes rest begins wide = wide_front (sound_front b (bytes ++ rest)) n (b ∷ bytes) rest refl begins wide

pub front_of-bad : (b : ℕ) (rest : List ℕ) → NothingBegins (b ∷ rest) → front_of (b ∷ rest) ≡ Nothing
front_of-bad b rest none = bad_front (sound_front b rest) none

pub front_of-blank : (b : ℕ) (rest : List ℕ) → is_blank b ≡ true → front_of (b ∷ rest) ≡ Between 1
unfolding front_of
front_of-blank b rest blank = cond-true (is_blank b) _ _ blank

stops_at_line_feed : (rest : List ℕ) → EndsComment rest → Stops is_before_line_feed rest
stops_at_line_feed [] ends = tt
stops_at_line_feed (b ∷ rest) ends = ap is_before_line_feed ends

pub front_of-comment : (body rest : List ℕ) → AllAre is_before_line_feed body → EndsComment rest → front_of (47 ∷ 47 ∷ (body ++ rest)) ≡ Between (length (47 ∷ 47 ∷ body))
unfolding front_of comment_front
front_of-comment body rest passes ends =
    let run = run_len is_before_line_feed body rest passes (stops_at_line_feed rest ends) in
    let len : 2 + prefix_len is_before_line_feed (body ++ rest) ≡ length (47 ∷ 47 ∷ body) = omega (arith, run) in
    ap Between len
