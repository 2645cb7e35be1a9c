-- The answers of a text: from what was read of its tokens, and that at most one fits.
use Rattle.std.proofs.Common.{◌≡◌, ℕ, ◌+◌, List, [], ◌∷◌, ◌++◌, length, drop, Result, Ok, Err, refl, sym, ap, subst, ◌∙◌, arith, length-append}
use Rattle.std.proofs.Math.Seq.{drop-append_seam}
use Rattle.az_text.specs.declared.fault.LexFault.{LexFault}
use Rattle.az_text.specs.declared.fault.LexFault.TheVariants as lex
use Rattle.az_text.specs.declared.token.Token.{Token}
use Rattle.az_text.specs.Reading.{Reads}
use Rattle.az_text.proofs.Walk.{lexed_only}
use Rattle.grammar_rules.specs.Rules.{Rule}
use Rattle.grammar_rules.specs.Gives.{IsReadBy}
use Rattle.grammar_rules.specs.Whole.{IsSentence, IsMisplaced, IsTooHeavy}
use Rattle.grammar_rules.specs.TextReadings.{place_of, StopsAt, IsReadingOf, Places}
use Rattle.grammar_rules.specs.declared.fault.ReadError.{ReadError}
use Rattle.grammar_rules.specs.declared.fault.ReadError.TheVariants as error
use Rattle.grammar_rules.specs.declared.fault.TextFault.{TextFault}
use Rattle.grammar_rules.specs.declared.fault.TextFault.TheVariants.{Lex, Syntax, Size, Memory}
use Rattle.grammar_rules.proofs.Whole.{one_place, not_heavy, not_sentence}

-- From the tokens to the text.
pub reading_of_tokens : {A : Type 0} (rule : Rule Token A) (limit : ℕ) (text : List ℕ) (tokens : List Token) (read : Result A ReadError) (result : Result A TextFault)
    → Reads 0 text (Ok tokens) → IsReadBy rule limit tokens read → Places text tokens read result → IsReadingOf rule limit text result
reading_of_tokens rule limit text tokens (Ok a) result reads is places = subst (IsReadingOf rule limit text) (sym places) (tokens, reads, is)
reading_of_tokens rule limit text tokens (Err (error.Syntax n)) (Err (Syntax place)) reads is places =
    (tokens, reads, (is.0, is.1, places is.0 is.1 is.3.split is.2, is.3))
reading_of_tokens rule limit text tokens (Err (error.Syntax n)) (Ok a) reads is places = absurd places
reading_of_tokens rule limit text tokens (Err (error.Syntax n)) (Err (Lex fault)) reads is places = absurd places
reading_of_tokens rule limit text tokens (Err (error.Syntax n)) (Err Size) reads is places = absurd places
reading_of_tokens rule limit text tokens (Err (error.Syntax n)) (Err Memory) reads is places = absurd places
reading_of_tokens rule limit text tokens (Err error.Size) result reads is places = subst (IsReadingOf rule limit text) (sym places) (tokens, reads, is)
reading_of_tokens rule limit text tokens (Err error.Memory) result reads is places = subst (IsReadingOf rule limit text) (sym places) tt

one_lexing : {text : List ℕ} {a b : Result (List Token) LexFault} → Reads 0 text a → Reads 0 text b → a ≡ b
one_lexing r s = lexed_only r ∙ sym (lexed_only s)

same_tokens : {text : List ℕ} {us vs : List Token} → Reads 0 text (Ok us) → Reads 0 text (Ok vs) → us ≡ vs
same_tokens {us = us} {vs = vs} r s = let e = one_lexing r s in cc

-- tokens are left from one place on
same_rest : {T : Type 0} (before rest before' rest' ts : List T) → ts ≡ before ++ rest → ts ≡ before' ++ rest' → length rest ≡ length rest' → rest ≡ rest'
same_rest before rest before' rest' ts split split' same =
    let whole : length before + length rest ≡ length before' + length rest' = sym (length-append before rest) ∙ (ap length (sym split ∙ split') ∙ length-append before' rest') in
    let front : length before ≡ length before' = omega arith in
    sym (drop-append_seam before rest) ∙ (ap (drop (length before)) (sym split ∙ split') ∙ (ap (λ (n : ℕ). drop n (before' ++ rest')) front ∙ drop-append_seam before' rest'))

module _ {A : Type 0} (rule : Rule Token A) (limit : ℕ) (text : List ℕ) where
  one_stop : (tokens : List Token) (p q : ℕ) → StopsAt rule limit text tokens p → StopsAt rule limit text tokens q → p ≡ q
  one_stop tokens p q is is' =
      is.2 ∙ (ap (place_of text) (same_rest is.0 is.1 is'.0 is'.1 tokens is.3.split is'.3.split (one_place is.3 is'.3)) ∙ sym is'.2)

  -- tokens, and no tokens
  no_tokens : {B : Type 0} (tokens : List Token) (fault : LexFault) → Reads 0 text (Ok tokens) → IsReadingOf rule limit text (Err (Lex fault)) → B
  no_tokens tokens (lex.BadByte p) reads is = let e = one_lexing reads is in absurd (cc)
  no_tokens tokens (lex.WideNumber p) reads is = let e = one_lexing reads is in absurd (cc)
  no_tokens tokens lex.Memory reads is = absurd is

  one_fault : (f g : LexFault) → IsReadingOf rule limit text (Err (Lex f)) → IsReadingOf rule limit text (Err (Lex g)) → f ≡ g
  one_fault (lex.BadByte p) (lex.BadByte q) is is' = let e = one_lexing is is' in cc
  one_fault (lex.BadByte p) (lex.WideNumber q) is is' = let e = one_lexing is is' in absurd (cc)
  one_fault (lex.WideNumber p) (lex.BadByte q) is is' = let e = one_lexing is is' in absurd (cc)
  one_fault (lex.WideNumber p) (lex.WideNumber q) is is' = let e = one_lexing is is' in cc
  one_fault (lex.BadByte p) lex.Memory is is' = absurd is'
  one_fault (lex.WideNumber p) lex.Memory is is' = absurd is'
  one_fault lex.Memory g is is' = absurd is

  sentence_stops : {B : Type 0} (a : A) (place : ℕ) → IsReadingOf rule limit text (Ok a) → IsReadingOf rule limit text (Err (Syntax place)) → B
  sentence_stops a place is is' =
      let same = same_tokens is.1 is'.1 in
      absurd (is'.2.3.no_sentence is.2.taken.0 a (subst (λ (ts : List Token). rule.takes ts is.2.taken.0 a) same is.2.taken.2))

  sentence_heavy : {B : Type 0} (a : A) → IsReadingOf rule limit text (Ok a) → IsReadingOf rule limit text (Err Size) → B
  sentence_heavy a is is' = absurd (not_sentence (subst (λ (ts : List Token). IsSentence rule limit ts a) (same_tokens is.1 is'.1) is.2) is'.2)

  stop_heavy : {B : Type 0} (place : ℕ) → IsReadingOf rule limit text (Err (Syntax place)) → IsReadingOf rule limit text (Err Size) → B
  stop_heavy place is is' = absurd (not_heavy is.2.3 (subst (IsTooHeavy rule limit) (sym (same_tokens is.1 is'.1)) is'.2))

  -- At most one answer fits a text, but that memory ran out.
  pub one_reading : (one other : Result A TextFault) → IsReadingOf rule limit text one → IsReadingOf rule limit text other → (one ≡ Err Memory → ⊥) → (other ≡ Err Memory → ⊥) → one ≡ other
  one_reading (Ok a) (Ok b) is is' m n =
      ap Ok (is'.2.alone is.2.taken.0 a (subst (λ (ts : List Token). rule.takes ts is.2.taken.0 a) (same_tokens is.1 is'.1) is.2.taken.2))
  one_reading (Ok a) (Err (Lex f)) is is' m n = no_tokens is.0 f is.1 is'
  one_reading (Ok a) (Err (Syntax q)) is is' m n = sentence_stops a q is is'
  one_reading (Ok a) (Err Size) is is' m n = sentence_heavy a is is'
  one_reading (Err (Lex f)) (Ok b) is is' m n = no_tokens is'.0 f is'.1 is
  one_reading (Err (Lex f)) (Err (Lex g)) is is' m n = ap (λ (l : LexFault). Err (Lex l)) (one_fault f g is is')
  one_reading (Err (Lex f)) (Err (Syntax q)) is is' m n = no_tokens is'.0 f is'.1 is
  one_reading (Err (Lex f)) (Err Size) is is' m n = no_tokens is'.0 f is'.1 is
  one_reading (Err (Syntax p)) (Ok b) is is' m n = sentence_stops b p is' is
  one_reading (Err (Syntax p)) (Err (Lex g)) is is' m n = no_tokens is.0 g is.1 is'
  one_reading (Err (Syntax p)) (Err (Syntax q)) is is' m n =
      ap (λ (r : ℕ). Err (Syntax r)) (one_stop is'.0 p q (subst (λ (ts : List Token). StopsAt rule limit text ts p) (same_tokens is.1 is'.1) is.2) is'.2)
  one_reading (Err (Syntax p)) (Err Size) is is' m n = stop_heavy p is is'
  one_reading (Err Size) (Ok b) is is' m n = sentence_heavy b is' is
  one_reading (Err Size) (Err (Lex g)) is is' m n = no_tokens is.0 g is.1 is'
  one_reading (Err Size) (Err (Syntax q)) is is' m n = stop_heavy q is' is
  one_reading (Err Size) (Err Size) is is' m n = refl
  one_reading (Err Memory) other is is' m n = absurd (m refl)
  one_reading (Ok a) (Err Memory) is is' m n = absurd (n refl)
  one_reading (Err (Lex f)) (Err Memory) is is' m n = absurd (n refl)
  one_reading (Err (Syntax p)) (Err Memory) is is' m n = absurd (n refl)
  one_reading (Err Size) (Err Memory) is is' m n = absurd (n refl)
