-- Lumps that stand apart are read as their tokens, and how lumps are joined.
use Rattle.std.proofs.Common.{◌≡◌, ℕ, suc, ◌+◌, Bool, true, false, not, ◌||◌, ◌==◌, List, [], ◌∷◌, ◌++◌, length, Ok, refl, sym, ap, subst, ◌∙◌, append_assoc, append-nil, length-append, arith}
use Rattle.std.proofs.lemmas.Bool.Decides.{nat_tests}
use Rattle.std.specs.Prelude.{IsTrue}
use Rattle.std.specs.Char.{is_ascii_digit}
use Rattle.az_text.specs.declared.mark.MarkKind.{MarkKind}
use Rattle.az_text.specs.declared.mark.MarkKind.TheVariants.{Bar, Equal, Less, Greater, Minus}
use Rattle.az_text.specs.declared.token.Token.{Token}
use Rattle.az_text.specs.declared.token.TokenKind.{TokenKind}
use Rattle.az_text.specs.declared.token.TokenKind.TheVariants.{Word, Number, Quoted, Mark}
use Rattle.az_text.specs.Lumps.{Lump, bytes_of, tokens_at, end_of, AreApart, is_closing, IsClosed, AreTight, AreClosing, LumpsAreRead}
use Rattle.az_text.specs.Lumps.Lump.{ink, blank}
use Rattle.az_text.specs.Pieces.{EndsAt, IsSpellable, spelling, goes_on, mark_goes_on}
use Rattle.az_text.specs.Reading.{token_at, Reads}
use Rattle.az_text.specs.Reading.Reads.{ended, token as one_token, blank as one_blank}
use Rattle.az_text.specs.Tokens.{is_blank, is_word_byte}
use Rattle.az_text.proofs.Longest.{spelled_token_is_cut}
use Rattle.az_text.proofs.Pieces.{spells_spelling, narrow_spelling}

pub apart_read : (at : ℕ) (lumps : List Lump) → AreApart lumps [] → Reads at (bytes_of lumps) (Ok (tokens_at at lumps))
apart_read at [] apart = ended
apart_read at (ink kind ∷ lumps) apart =
    let ends : EndsAt kind (bytes_of lumps) = subst (EndsAt kind) (append-nil (bytes_of lumps)) apart.1 in
    one_token kind (spelling kind) (bytes_of lumps) (spelled_token_is_cut kind (spelling kind) (bytes_of lumps) (spells_spelling kind apart.0) ends) (narrow_spelling kind apart.0)
    (apart_read (at + length (spelling kind)) lumps apart.2)
apart_read at (blank b ∷ lumps) apart = one_blank apart.0 (apart_read (suc at) lumps apart.1)

pub bytes_of-append : (first second : List Lump) → bytes_of (first ++ second) ≡ bytes_of first ++ bytes_of second
bytes_of-append [] second = refl
bytes_of-append (ink kind ∷ lumps) second = ap (spelling kind ++◌) (bytes_of-append lumps second) ∙ sym (append_assoc (spelling kind) (bytes_of lumps) (bytes_of second))
bytes_of-append (blank b ∷ lumps) second = ap (λ bytes. b ∷ bytes) (bytes_of-append lumps second)

-- both parts, where the second and what follows stand behind the first
apart_joined : (first second : List Lump) (after : List ℕ) → AreApart first (bytes_of second ++ after) → AreApart second after → AreApart (first ++ second) after
apart_joined [] second after one two = two
apart_joined (ink kind ∷ lumps) second after one two =
    let regroup : bytes_of lumps ++ (bytes_of second ++ after) ≡ bytes_of (lumps ++ second) ++ after =
    sym (append_assoc (bytes_of lumps) (bytes_of second) after) ∙ ap (λ bytes. bytes ++ after) (sym (bytes_of-append lumps second)) in
    (one.0, subst (EndsAt kind) regroup one.1, apart_joined lumps second after one.2 two)
apart_joined (blank b ∷ lumps) second after one two = (one.0, apart_joined lumps second after one.1 two)

pub tight_joined : (first second : List Lump) → AreTight first → AreTight second → AreClosing second → AreTight (first ++ second)
tight_joined first second one two closing = λ after closed. apart_joined first second after (one (bytes_of second ++ after) (closing after closed)) (two after closed)

pub tokens_joined : (at : ℕ) (first second : List Lump) → tokens_at at (first ++ second) ≡ tokens_at at first ++ tokens_at (end_of at first) second
tokens_joined at [] second = let same : at ≡ at + 0 = omega arith in ap (λ (n : ℕ). tokens_at n second) same
tokens_joined at (ink kind ∷ lumps) second =
    let next = at + length (spelling kind) in
    let place : end_of next lumps ≡ end_of at (ink kind ∷ lumps) = let whole = length-append (spelling kind) (bytes_of lumps) in omega arith in
    ap (λ tokens. token_at at kind (length (spelling kind)) ∷ tokens)
    (tokens_joined next lumps second ∙ ap (λ (n : ℕ). tokens_at next lumps ++ tokens_at n second) place)
tokens_joined at (blank b ∷ lumps) second =
    let place : end_of (suc at) lumps ≡ end_of at (blank b ∷ lumps) = omega arith in
    tokens_joined (suc at) lumps second ∙ ap (λ (n : ℕ). tokens_at (suc at) lumps ++ tokens_at n second) place

pub lumps_are_read : LumpsAreRead
lumps_are_read = record { read = apart_read 0; joined = tight_joined; tokens = tokens_joined }

-- Each token ends at a closing byte, so one that has a spelling is tight.
or_none : (a b : Bool) → not (a || b) ≡ true → (a ≡ false) × (b ≡ false)
or_none true b h = absurd (cc)
or_none false true h = absurd (cc)
or_none false false h = (refl, refl)

none_or_none : (a b : Bool) → (a || b) ≡ false → (a ≡ false) × (b ≡ false)
none_or_none true b h = absurd (cc)
none_or_none false b h = (refl, h)

record Closes (b : ℕ) : Type 0 where
  no_word : is_word_byte b ≡ false
  no_bar : (b == 124) ≡ false
  no_equal : (b == 61) ≡ false
  no_greater : (b == 62) ≡ false

closes : (b : ℕ) → IsTrue (is_closing b) → Closes b
closes b h =
    let last = or_none (is_word_byte b || b == 124 || b == 61) (b == 62) h in
    let third = none_or_none (is_word_byte b || b == 124) (b == 61) last.0 in
    let second = none_or_none (is_word_byte b) (b == 124) third.0 in
    record { no_word = second.0; no_bar = second.1; no_equal = third.1; no_greater = last.1 }

no_digit : (b : ℕ) → is_word_byte b ≡ false → is_ascii_digit b ≡ false
no_digit b h = grind (arith, nat_tests)

mark_closed : (kind : MarkKind) (b : ℕ) → Closes b → mark_goes_on kind b ≡ false
mark_closed Bar b closed = closed.no_bar
mark_closed Equal b closed = closed.no_equal
mark_closed Less b closed = closed.no_equal
mark_closed Greater b closed = closed.no_equal
mark_closed Minus b closed = closed.no_greater
mark_closed _ b closed = refl

kind_closed : (kind : TokenKind) (b : ℕ) → Closes b → goes_on kind b ≡ false
kind_closed (Word name) b closed = closed.no_word
kind_closed (Number n) b closed = no_digit b closed.no_word
kind_closed (Quoted inner) b closed = refl
kind_closed (Mark kind) b closed = mark_closed kind b closed

ends_closed : (kind : TokenKind) (after : List ℕ) → IsClosed after → EndsAt kind after
ends_closed kind [] closed = tt
ends_closed kind (b ∷ rest) closed = kind_closed kind b (closes b closed)

pub ink_tight : (kind : TokenKind) → IsSpellable kind → AreTight (ink kind ∷ [])
ink_tight kind spellable = λ after closed. (spellable, ends_closed kind after closed, tt)

pub blank_tight : (b : ℕ) → IsTrue (is_blank b) → AreTight (blank b ∷ [])
blank_tight b is = λ after closed. (is, tt)
