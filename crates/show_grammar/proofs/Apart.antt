-- Lumps that stand apart before each text that doesn't go on in a word.
use Rattle.std.proofs.Common.{◌≡◌, ℕ, zero, suc, ◌+◌, ◌<◌, ◌≤◌, ◌^◌, Bool, true, false, ◌||◌, List, [], ◌∷◌, ◌++◌, length, refl, sym, ap, subst, ◌∙◌, append_assoc, arith}
use Rattle.std.specs.Prelude.{◌==◌, flat_map, IsTrue, decimal}
use Rattle.std.specs.Char.{is_ascii_digit, is_ascii_alphabetic, digit_value}
use Rattle.std.specs.List.{AllByRecursion}
use Rattle.std.specs.Str.Parse.{IsNumeral}
use Rattle.std.proofs.lemmas.Bool.Decides.{nat_tests}
use Rattle.std.proofs.lemmas.Fmt.{decimal_is_IsNumeral_wide}
use Rattle.az_text.specs.Lumps.{Lump, bytes_of, AreApart}
use Rattle.az_text.specs.Lumps.Lump.{ink, blank}
use Rattle.az_text.specs.Pieces.{EndsAt, IsSpellable, spelling, goes_on, mark_goes_on}
use Rattle.az_text.specs.Tokens.{is_blank, is_word_byte, IsWord}
use Rattle.az_text.specs.declared.mark.MarkKind.{MarkKind}
use Rattle.az_text.specs.declared.mark.MarkKind.TheVariants.{Minus, OpenBracket, CloseBracket, OpenParen, CloseParen, Comma}
use Rattle.az_text.specs.declared.token.TokenKind.{TokenKind}
use Rattle.az_text.specs.declared.token.TokenKind.TheVariants.{Word, Number, Mark}
use Rattle.az_text.proofs.LumpLaws.{bytes_of-append}
use Rattle.alphabets_show.specs.Pieces.{mark, word, number, space, line_end, spaced, comma, comma_space, in_parentheses, in_brackets, joined}

abbrev pub IsOpen : List ℕ → Type 0
IsOpen [] = Unit {0}
IsOpen (b ∷ rest) = is_word_byte b ≡ false

abbrev pub Spelled : List Lump → Type 0
Spelled lumps = (after : List ℕ) → IsOpen after → AreApart lumps after

-- lumps that opened where what follows does
abbrev pub Opens : List Lump → Type 0
Opens lumps = (after : List ℕ) → IsOpen after → IsOpen (bytes_of lumps ++ after)

pub nothing_spelled : Spelled []
nothing_spelled after opened = tt

pub nothing_opens : Opens []
nothing_opens after opened = opened

apart_append : (first second : List Lump) (after : List ℕ) → AreApart first (bytes_of second ++ after) → AreApart second after → AreApart (first ++ second) after
apart_append [] second after one two = two
apart_append (ink kind ∷ lumps) second after one two =
    let regroup : bytes_of lumps ++ (bytes_of second ++ after) ≡ bytes_of (lumps ++ second) ++ after =
    sym (append_assoc (bytes_of lumps) (bytes_of second) after) ∙ ap (λ bytes. bytes ++ after) (sym (bytes_of-append lumps second)) in
    (one.0, subst (EndsAt kind) regroup one.1, apart_append lumps second after one.2 two)
apart_append (blank b ∷ lumps) second after one two = (one.0, apart_append lumps second after one.1 two)

pub spelled_append : (first second : List Lump) → Spelled first → Opens second → Spelled second → Spelled (first ++ second)
spelled_append first second one opens two = λ after opened. apart_append first second after (one (bytes_of second ++ after) (opens after opened)) (two after opened)

-- tokens before lumps
word_ends : (x bytes : List ℕ) → IsOpen bytes → EndsAt (Word x) bytes
word_ends x [] opened = tt
word_ends x (b ∷ bytes) opened = opened

no_digit : (b : ℕ) → is_word_byte b ≡ false → is_ascii_digit b ≡ false
no_digit b h = grind (arith, nat_tests)

number_ends : (n : ℕ) (bytes : List ℕ) → IsOpen bytes → EndsAt (Number n) bytes
number_ends n [] opened = tt
number_ends n (b ∷ bytes) opened = no_digit b opened

mark_ends : (kind : MarkKind) → ((b : ℕ) → mark_goes_on kind b ≡ false) → (bytes : List ℕ) → EndsAt (Mark kind) bytes
mark_ends kind never [] = tt
mark_ends kind never (b ∷ bytes) = never b

pub word_spelled : (x : List ℕ) (rest : List Lump) → IsWord x → Opens rest → Spelled rest → Spelled (word x ∷ rest)
word_spelled x rest is opens spelled = λ after opened. (is, word_ends x (bytes_of rest ++ after) (opens after opened), spelled after opened)

pub number_spelled : (n : ℕ) (rest : List Lump) → n < 2 ^ 127 → Opens rest → Spelled rest → Spelled (number n ∷ rest)
number_spelled n rest is opens spelled = λ after opened. (is, number_ends n (bytes_of rest ++ after) (opens after opened), spelled after opened)

pub mark_spelled : (kind : MarkKind) (rest : List Lump) → ((b : ℕ) → mark_goes_on kind b ≡ false) → Spelled rest → Spelled (mark kind ∷ rest)
mark_spelled kind rest never spelled = λ after opened. (tt, mark_ends kind never (bytes_of rest ++ after), spelled after opened)

pub blank_spelled : (b : ℕ) (rest : List Lump) → IsTrue (is_blank b) → Spelled rest → Spelled (blank b ∷ rest)
blank_spelled b rest is spelled = λ after opened. (is, spelled after opened)

-- a minus before a number or a word
numeral_no_arrow : (ds more after : List ℕ) → IsNumeral 10 ds → EndsAt (Mark Minus) ((ds ++ more) ++ after)
numeral_no_arrow [] more after is = absurd (omega (arith, is.0))
numeral_no_arrow (d ∷ ds) more after is = by d is.1.0
  where
    by : (d : ℕ) → digit_value d < 10 → (d == 62) ≡ false
    by d h = grind (arith, nat_tests)

pub number_no_arrow : (n : ℕ) (rest : List Lump) (after : List ℕ) → n < 2 ^ 127 → EndsAt (Mark Minus) (bytes_of (number n ∷ rest) ++ after)
number_no_arrow n rest after is = numeral_no_arrow (decimal n) (bytes_of rest) after (decimal_is_IsNumeral_wide n (omega (arith, is))).0

pub word_no_arrow : (x : List ℕ) (rest : List Lump) (after : List ℕ) → IsWord x → EndsAt (Mark Minus) (bytes_of (word x ∷ rest) ++ after)
word_no_arrow [] rest after is = absurd is
word_no_arrow (b ∷ x) rest after is = by b is.0
  where
    by : (b : ℕ) → IsTrue (is_ascii_alphabetic b) → (b == 62) ≡ false
    by b h = grind (arith, nat_tests)

pub minus_spelled : (rest : List Lump) → ((after : List ℕ) → IsOpen after → EndsAt (Mark Minus) (bytes_of rest ++ after)) → Spelled rest → Spelled (mark Minus ∷ rest)
minus_spelled rest ends spelled = λ after opened. (tt, ends after opened, spelled after opened)

-- what stands around and between
pub spaced_spelled : (kind : MarkKind) (rest : List Lump) → mark_goes_on kind 32 ≡ false → Spelled rest → Spelled (spaced kind rest)
spaced_spelled kind rest ends spelled = λ after opened. (refl, (tt, ends, (refl, spelled after opened)))

pub comma_spelled : (rest : List Lump) → Spelled rest → Spelled (comma rest)
comma_spelled rest spelled = mark_spelled Comma rest (λ b. refl) spelled

pub comma_space_spelled : (rest : List Lump) → Spelled rest → Spelled (comma_space rest)
comma_space_spelled rest spelled = mark_spelled Comma (space ∷ rest) (λ b. refl) (blank_spelled 32 rest refl spelled)

pub parentheses_spelled : (inner : List Lump) → Spelled inner → Spelled (in_parentheses inner)
parentheses_spelled inner spelled =
    mark_spelled OpenParen (inner ++ mark CloseParen ∷ []) (λ b. refl)
    (spelled_append inner (mark CloseParen ∷ []) spelled (λ after opened. refl) (mark_spelled CloseParen [] (λ b. refl) nothing_spelled))

pub brackets_spelled : (inner : List Lump) → Spelled inner → Spelled (in_brackets inner)
brackets_spelled inner spelled =
    mark_spelled OpenBracket (inner ++ mark CloseBracket ∷ []) (λ b. refl)
    (spelled_append inner (mark CloseBracket ∷ []) spelled (λ after opened. refl) (mark_spelled CloseBracket [] (λ b. refl) nothing_spelled))

-- lists of items, each behind something that opens
module _ {A : Type 0} (Ok : A → Type 0) (shown : A → List Lump) where
  abbrev pub AlwaysOpens : Type 0
  AlwaysOpens = (a : A) (rest : List Lump) (after : List ℕ) → IsOpen (bytes_of (shown a ++ rest) ++ after)

  pub many_open : AlwaysOpens → (items : List A) → Opens (flat_map shown items)
  many_open always [] = nothing_opens
  many_open always (a ∷ items) = λ after opened. always a (flat_map shown items) after

  pub many_spelled : AlwaysOpens → ((a : A) → Ok a → Spelled (shown a)) → (items : List A) → AllByRecursion Ok items → Spelled (flat_map shown items)
  many_spelled always each [] ok = nothing_spelled
  many_spelled always each (a ∷ items) ok = spelled_append (shown a) (flat_map shown items) (each a ok.0) (many_open always items) (many_spelled always each items ok.1)

pub joined_spelled : {A : Type 0} (Ok : A → Type 0) (shown : A → List Lump) (before : List Lump → List Lump) → AlwaysOpens Ok (λ a. before (shown a))
    → ((a : A) → Ok a → Spelled (shown a)) → ((rest : List Lump) → Spelled rest → Spelled (before rest)) → (items : List A) → AllByRecursion Ok items → Spelled (joined shown before items)
joined_spelled Ok shown before always each behind [] ok = nothing_spelled
joined_spelled Ok shown before always each behind (a ∷ items) ok =
    spelled_append (shown a) (flat_map (λ next. before (shown next)) items) (each a ok.0) (many_open Ok (λ next. before (shown next)) always items)
    (many_spelled Ok (λ next. before (shown next)) always (λ b is. behind (shown b) (each b is)) items ok.1)
