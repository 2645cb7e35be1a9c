-- Spelling a token, and then something at which it ends, begins with that token.
use Rattle.std.proofs.Common.{◌≡◌, ℕ, ◌≤◌, List, [], ◌∷◌, ◌++◌, length, Some, None, refl, sym, ap, ◌∙◌, arith, append_assoc}
use Rattle.std.proofs.lemmas.List.{append_cancel_right}
use Rattle.std.specs.Char.{is_ascii_digit}
use Rattle.az_text.specs.declared.mark.MarkKind.{MarkKind}
use Rattle.az_text.specs.declared.token.TokenKind.{TokenKind}
use Rattle.az_text.specs.declared.token.TokenKind.TheVariants.{Word, Number, Quoted, Mark}
use Rattle.az_text.specs.Fronts.{lookup_two, double_marks}
use Rattle.az_text.specs.Pieces.{goes_on, EndsAt, SpelledTokenIsCut}
use Rattle.az_text.specs.Tokens.{is_word_byte, is_inner, AllAre, IsWord, IsNumber, quoted, mark_spelling, Spells}
use Rattle.az_text.proofs.Marks.{mark_of, mark_of-spelling, mark_spelling_injective, length-mark_spelling, no_double_after}
use Rattle.az_text.proofs.Runs.{Stops, run_longest, run_only}
use Rattle.az_text.proofs.Sorts.{sort, same_sort, word_byte_from_alphabetic}

-- a token has a byte and something after it that doesn't make it longer
abbrev pub IsLongest : List ℕ → List ℕ → TokenKind → Type 0
IsLongest bytes rest other = (more after : List ℕ) → Spells other more → more ++ after ≡ bytes ++ rest → length more ≤ length bytes

pub word_bytes : (bytes : List ℕ) → IsWord bytes → AllAre is_word_byte bytes
word_bytes [] h = tt
word_bytes (b ∷ bytes) h = (word_byte_from_alphabetic b h.0, h.1)

pub digits_of_number : (bytes : List ℕ) → IsNumber bytes → AllAre is_ascii_digit bytes
digits_of_number [] h = tt
digits_of_number (b ∷ bytes) h = h

-- both quotes stand where the other text has them
pub quoted_only : (inner rest other after : List ℕ) → AllAre is_inner inner → AllAre is_inner other → quoted other ++ after ≡ quoted inner ++ rest → other ≡ inner
quoted_only inner rest other after passes other_passes same =
    let tails : (other ++ 34 ∷ []) ++ after ≡ (inner ++ 34 ∷ []) ++ rest = cc in
    run_only is_inner inner (34 ∷ rest) other (34 ∷ after) passes refl other_passes refl
    (sym (append_assoc other (34 ∷ []) after) ∙ tails ∙ append_assoc inner (34 ∷ []) rest)

-- no mark of two bytes stands at the front of the text
abbrev pub NoDouble : ℕ → List ℕ → Type 0
NoDouble b [] = Unit {0}
NoDouble b (c ∷ rest) = lookup_two double_marks b c ≡ None

-- a mark at the front of a text where no mark of two bytes stands has one byte
single_only : (b : ℕ) (rest : List ℕ) → NoDouble b rest → (other : MarkKind) (more after : List ℕ) → mark_of more ≡ Some other → more ++ after ≡ b ∷ rest → length more ≤ 1
single_only b rest none other [] after found same = omega arith
single_only b rest none other (x ∷ []) after found same = omega arith
single_only b [] none other (x ∷ y ∷ []) after found same = absurd (cc)
single_only b (c ∷ rest) none other (x ∷ y ∷ []) after found same =
    let first : x ≡ b = cc in
    let second : y ≡ c = cc in
    let found' : lookup_two double_marks b c ≡ Some other = ap (λ v. lookup_two double_marks v c) (sym first) ∙ ap (λ v. lookup_two double_marks x v) (sym second) ∙ found in
    absurd (cc)
single_only b rest none other (x ∷ y ∷ z ∷ more) after found same = absurd (cc)

spelled_of : (other : MarkKind) (more : List ℕ) → more ≡ mark_spelling other → mark_of more ≡ Some other
spelled_of other more spelled = ap mark_of spelled ∙ mark_of-spelling other

pub single_longest : (b : ℕ) (rest : List ℕ) → NoDouble b rest → (other : MarkKind) → IsLongest (b ∷ []) rest (Mark other)
single_longest b rest none other more after spelled same = single_only b rest none other more after (spelled_of other more spelled) same

pub double_longest : (b c : ℕ) (rest : List ℕ) (other : MarkKind) → IsLongest (b ∷ c ∷ []) rest (Mark other)
double_longest b c rest other more after spelled same = omega (arith, ap length spelled, length-mark_spelling other)

ends_no_double : (kind : MarkKind) (b : ℕ) (rest : List ℕ) → mark_spelling kind ≡ b ∷ [] → EndsAt (Mark kind) rest → NoDouble b rest
ends_no_double kind b [] spelled ends = tt
ends_no_double kind b (c ∷ rest) spelled ends = no_double_after kind b c spelled ends

mark_longest : (kind : MarkKind) (bytes rest : List ℕ) → bytes ≡ mark_spelling kind → EndsAt (Mark kind) rest → (other : MarkKind) → IsLongest bytes rest (Mark other)
mark_longest kind [] rest spelled ends other more after other_spelled same =
    let found = spelled_of kind [] spelled in absurd (cc)
mark_longest kind (b ∷ []) rest spelled ends other more after other_spelled same =
    single_longest b rest (ends_no_double kind b rest (sym spelled) ends) other more after other_spelled same
mark_longest kind (b ∷ c ∷ []) rest spelled ends other more after other_spelled same =
    double_longest b c rest other more after other_spelled same
mark_longest kind (b ∷ c ∷ d ∷ bytes) rest spelled ends other more after other_spelled same =
    let found = spelled_of kind (b ∷ c ∷ d ∷ bytes) spelled in absurd (cc)

ends_stop : (kind : TokenKind) (rest : List ℕ) → EndsAt kind rest → Stops (goes_on kind) rest
ends_stop kind [] ends = tt
ends_stop kind (b ∷ rest) ends = ends

longest : (kind other : TokenKind) (bytes rest : List ℕ) → Spells kind bytes → EndsAt kind rest → sort other ≡ sort kind → IsLongest bytes rest other
longest (Word name) (Word other) bytes rest spelled ends one more after other_spelled same =
    run_longest is_word_byte bytes rest more after (ends_stop (Word name) rest ends) (word_bytes more other_spelled.0) same
longest (Number n) (Number m) bytes rest spelled ends one more after other_spelled same =
    run_longest is_ascii_digit bytes rest more after (ends_stop (Number n) rest ends) (digits_of_number more other_spelled.0) same
longest (Quoted inner) (Quoted other) bytes rest spelled ends one more after other_spelled same =
    let quotes : quoted other ++ after ≡ quoted inner ++ rest = ap (λ l. l ++ after) (sym other_spelled.1) ∙ same ∙ ap (λ l. l ++ rest) spelled.1 in
    let inner_is = quoted_only inner rest other after spelled.0 other_spelled.0 quotes in
    let lengths : length more ≡ length bytes = ap length (other_spelled.1 ∙ ap quoted inner_is ∙ sym spelled.1) in
    omega arith
longest (Mark kind) (Mark other) bytes rest spelled ends one more after other_spelled same =
    mark_longest kind bytes rest spelled ends other more after other_spelled same
longest (Word _) (Number _) bytes rest spelled ends one more after other_spelled same = absurd (omega (arith, one))
longest (Word _) (Quoted _) bytes rest spelled ends one more after other_spelled same = absurd (omega (arith, one))
longest (Word _) (Mark _) bytes rest spelled ends one more after other_spelled same = absurd (omega (arith, one))
longest (Number _) (Word _) bytes rest spelled ends one more after other_spelled same = absurd (omega (arith, one))
longest (Number _) (Quoted _) bytes rest spelled ends one more after other_spelled same = absurd (omega (arith, one))
longest (Number _) (Mark _) bytes rest spelled ends one more after other_spelled same = absurd (omega (arith, one))
longest (Quoted _) (Word _) bytes rest spelled ends one more after other_spelled same = absurd (omega (arith, one))
longest (Quoted _) (Number _) bytes rest spelled ends one more after other_spelled same = absurd (omega (arith, one))
longest (Quoted _) (Mark _) bytes rest spelled ends one more after other_spelled same = absurd (omega (arith, one))
longest (Mark _) (Word _) bytes rest spelled ends one more after other_spelled same = absurd (omega (arith, one))
longest (Mark _) (Number _) bytes rest spelled ends one more after other_spelled same = absurd (omega (arith, one))
longest (Mark _) (Quoted _) bytes rest spelled ends one more after other_spelled same = absurd (omega (arith, one))

pub spelled_token_is_cut : SpelledTokenIsCut
spelled_token_is_cut kind bytes rest spelled ends = record {
  spelled = spelled;
  longest = λ other more after other_spelled same. longest kind other bytes rest spelled ends (same_sort kind other bytes rest more after spelled other_spelled same) more after other_spelled same;
}

-- bytes spell one token at most
only_of_sort : (kind other : TokenKind) (bytes : List ℕ) → Spells kind bytes → Spells other bytes → sort other ≡ sort kind → kind ≡ other
only_of_sort (Word name) (Word other) bytes spelled other_spelled one = ap Word (spelled.1 ∙ sym other_spelled.1)
only_of_sort (Number n) (Number m) bytes spelled other_spelled one = ap Number (spelled.1 ∙ sym other_spelled.1)
only_of_sort (Quoted inner) (Quoted other) bytes spelled other_spelled one =
    let quotes : 34 ∷ (inner ++ 34 ∷ []) ≡ 34 ∷ (other ++ 34 ∷ []) = sym spelled.1 ∙ other_spelled.1 in
    let tails : inner ++ 34 ∷ [] ≡ other ++ 34 ∷ [] = cc in
    ap Quoted (append_cancel_right inner other (34 ∷ []) tails)
only_of_sort (Mark kind) (Mark other) bytes spelled other_spelled one =
    ap Mark (mark_spelling_injective kind other (sym spelled ∙ other_spelled))
only_of_sort (Word _) (Number _) bytes spelled other_spelled one = absurd (omega (arith, one))
only_of_sort (Word _) (Quoted _) bytes spelled other_spelled one = absurd (omega (arith, one))
only_of_sort (Word _) (Mark _) bytes spelled other_spelled one = absurd (omega (arith, one))
only_of_sort (Number _) (Word _) bytes spelled other_spelled one = absurd (omega (arith, one))
only_of_sort (Number _) (Quoted _) bytes spelled other_spelled one = absurd (omega (arith, one))
only_of_sort (Number _) (Mark _) bytes spelled other_spelled one = absurd (omega (arith, one))
only_of_sort (Quoted _) (Word _) bytes spelled other_spelled one = absurd (omega (arith, one))
only_of_sort (Quoted _) (Number _) bytes spelled other_spelled one = absurd (omega (arith, one))
only_of_sort (Quoted _) (Mark _) bytes spelled other_spelled one = absurd (omega (arith, one))
only_of_sort (Mark _) (Word _) bytes spelled other_spelled one = absurd (omega (arith, one))
only_of_sort (Mark _) (Number _) bytes spelled other_spelled one = absurd (omega (arith, one))
only_of_sort (Mark _) (Quoted _) bytes spelled other_spelled one = absurd (omega (arith, one))

pub spelled_only : (kind other : TokenKind) (bytes : List ℕ) → Spells kind bytes → Spells other bytes → kind ≡ other
spelled_only kind other bytes spelled other_spelled =
    only_of_sort kind other bytes spelled other_spelled (same_sort kind other bytes [] bytes [] spelled other_spelled refl)
