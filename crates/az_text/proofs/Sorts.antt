-- The first byte of a token says of which sort it is.
use Rattle.std.proofs.Common.{◌≡◌, ℕ, Bool, true, cond, not, ◌&&◌, eqb, List, [], ◌∷◌, ◌++◌, drop, refl, sym, ap, ◌∙◌, subst, arith}
use Rattle.std.proofs.lemmas.Bool.Decides.{nat_tests}
use Rattle.std.specs.Char.{is_ascii_alphabetic, is_ascii_digit}
use Rattle.az_text.specs.declared.mark.MarkKind.{MarkKind}
use Rattle.az_text.specs.declared.mark.MarkKind.TheVariants.{OpenBrace}
use Rattle.az_text.specs.declared.token.TokenKind.{TokenKind}
use Rattle.az_text.specs.declared.token.TokenKind.TheVariants.{Word, Number, Quoted, Mark}
use Rattle.az_text.specs.Tokens.{is_blank, is_word_byte, IsWord, IsNumber, mark_spelling, Spells}
use Rattle.az_text.proofs.Marks.{first_of}

abbrev pub sort_of : ℕ → ℕ
sort_of b = cond (is_ascii_alphabetic b) 0 (cond (is_ascii_digit b) 1 (cond (eqb b 34) 2 3))

abbrev pub sort : TokenKind → ℕ
sort (Word name) = 0
sort (Number n) = 1
sort (Quoted inner) = 2
sort (Mark kind) = 3

-- no blank and no slash
abbrev pub is_solid : ℕ → Bool
is_solid b = not (is_blank b) && not (eqb b 47)

-- a token has a first byte, of its sort
pub record Starts (kind : TokenKind) (bytes : List ℕ) : Type 0 where
  pub first : ℕ
  pub others : List ℕ
  pub whole : bytes ≡ first ∷ others
  pub sorted : sort_of first ≡ sort kind
  pub solid : is_solid first ≡ true

alphabetic_sort : (b : ℕ) → is_ascii_alphabetic b ≡ true → (sort_of b ≡ 0) × (is_solid b ≡ true)
alphabetic_sort b h = (grind (arith, nat_tests), grind (arith, nat_tests))

digit_sort : (b : ℕ) → is_ascii_digit b ≡ true → (sort_of b ≡ 1) × (is_solid b ≡ true)
digit_sort b h = (grind (arith, nat_tests), grind (arith, nat_tests))

pub word_byte_from_alphabetic : (b : ℕ) → is_ascii_alphabetic b ≡ true → is_word_byte b ≡ true
word_byte_from_alphabetic b h = grind (arith, nat_tests)

starts_word : (name bytes : List ℕ) → IsWord bytes → Starts (Word name) bytes
starts_word name [] h = absurd h
starts_word name (b ∷ bytes) h = let s = alphabetic_sort b h.0 in record { first = b; others = bytes; whole = refl; sorted = s.0; solid = s.1 }

starts_number : (n : ℕ) (bytes : List ℕ) → IsNumber bytes → Starts (Number n) bytes
starts_number n [] h = absurd h
starts_number n (b ∷ bytes) h = let s = digit_sort b h.0 in record { first = b; others = bytes; whole = refl; sorted = s.0; solid = s.1 }

starts_mark : (kind : MarkKind) → Starts (Mark kind) (mark_spelling kind)
starts_mark OpenBrace = record { first = 123; others = []; whole = refl; sorted = refl; solid = refl }
starts_mark kind = record { first = first_of (mark_spelling kind); others = drop 1 (mark_spelling kind); whole = refl; sorted = refl; solid = refl }

pub starts : (kind : TokenKind) (bytes : List ℕ) → Spells kind bytes → Starts kind bytes
starts (Word name) bytes h = starts_word name bytes h.0
starts (Number n) bytes h = starts_number n bytes h.0
starts (Quoted inner) bytes h = record { first = 34; others = inner ++ 34 ∷ []; whole = h.1; sorted = refl; solid = refl }
starts (Mark kind) bytes h = let P : List ℕ → Type 0 = λ s. Starts (Mark kind) s in subst P (sym h) (starts_mark kind)

-- two tokens at the front of one text are of one sort
pub same_sort : (kind other : TokenKind) (bytes rest more after : List ℕ) → Spells kind bytes → Spells other more → more ++ after ≡ bytes ++ rest → sort other ≡ sort kind
same_sort kind other bytes rest more after spelled other_spelled same =
    let s = starts kind bytes spelled in
    let o = starts other more other_spelled in
    let same' : o.first ∷ (o.others ++ after) ≡ s.first ∷ (s.others ++ rest)
    = ap (λ l. l ++ after) (sym o.whole) ∙ same ∙ ap (λ l. l ++ rest) s.whole in
    let first : o.first ≡ s.first = cc in
    sym o.sorted ∙ ap sort_of first ∙ s.sorted
