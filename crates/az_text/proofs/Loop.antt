-- One turn of the lexer's loop: what the text begins with at the place `at`, and the answer further on.
use Rattle.std.proofs.Common.{◌≡◌, ℕ, zero, suc, ◌+◌, ◌-◌, ◌<◌, ◌≤◌, List, [], ◌∷◌, ◌++◌, take, drop, length, Result, Ok, Err, refl, sym, ap, ◌∙◌, subst, arith, append_assoc, length-append, length-drop, length-take-le, take-append-drop}
use Rattle.std.proofs.lemmas.List.{drop_all, drop-drop, take_rest, append-nil}
use Rattle.az_text.specs.declared.fault.LexFault.{LexFault}
use Rattle.az_text.specs.declared.fault.LexFault.TheVariants.{BadByte, WideNumber}
use Rattle.az_text.specs.declared.front.Front.{Front}
use Rattle.az_text.specs.declared.front.Front.TheVariants.{Between, Cut, Wide, Nothing}
use Rattle.az_text.specs.declared.token.Token.{Token}
use Rattle.az_text.specs.declared.token.TokenKind.{TokenKind}
use Rattle.az_text.specs.Fronts.{lexed_from, front_of, step_at}
use Rattle.az_text.specs.Reading.{and_then, token_at}
use Rattle.az_text.proofs.Sound.{Sound, sound_front}
use Rattle.az_text.proofs.Sound.Sound.{a_blank, a_comment, a_token, a_wide_number, nothing}
use Rattle.az_text.proofs.Walk.{and_all, lexed_at, lexed_past}

pub and_all-and_then : (tokens : List Token) (token : Token) (answer : Result (List Token) LexFault) → and_all tokens (and_then token answer) ≡ and_all (tokens ++ token ∷ []) answer
and_all-and_then tokens token (Ok more) = ap Ok (sym (append_assoc tokens (token ∷ []) more))
and_all-and_then tokens token (Err fault) = refl

pub and_all-nil : (answer : Result (List Token) LexFault) → and_all [] answer ≡ answer
and_all-nil (Ok more) = refl
and_all-nil (Err fault) = refl

pub and_all-end : (tokens : List Token) → and_all tokens (Ok []) ≡ Ok tokens
and_all-end tokens = ap Ok (append-nil tokens)

-- a front has a byte and lies in the text
abbrev IsLen : ℕ → ℕ → Type 0
IsLen len most = (0 < len) × (len ≤ most)

abbrev IsFront : Front → ℕ → Type 0
IsFront (Between len) most = IsLen len most
IsFront (Cut kind len) most = IsLen len most
IsFront Wide most = Unit {0}
IsFront Nothing most = Unit {0}

is_front : {text : List ℕ} {front : Front} → Sound text front → IsFront front (length text)
is_front (a_blank {b} {rest} blank) = (omega arith, omega arith)
is_front (a_comment body rest passes ends) = let len = length-append body rest in (omega arith, omega (arith, len))
is_front (a_token {kind} b bytes rest begins narrow) = let len = length-append bytes rest in (omega arith, omega (arith, len))
is_front (a_wide_number n b bytes rest begins wide) = tt
is_front (nothing none) = tt

past : (at len b : ℕ) (rest : List ℕ) → IsLen len (length (b ∷ rest)) → lexed_from (suc at) (len - 1) rest ≡ lexed_from (at + len) 0 (drop len (b ∷ rest))
past at zero b rest fits = absurd (omega (arith, fits.0))
past at (suc n) b rest fits =
    let cut_len : length (take n rest) ≡ n = length-take-le n rest (omega (arith, fits.1)) in
    let minus : suc n - 1 ≡ length (take n rest) = omega arith in
    let place : suc at + length (take n rest) ≡ at + suc n = omega arith in
    ap (λ k. lexed_from (suc at) k rest) minus
    ∙ ap (λ l. lexed_from (suc at) (length (take n rest)) l) (sym (take-append-drop n rest))
    ∙ lexed_past (suc at) (take n rest) (drop n rest)
    ∙ ap (λ k. lexed_from k 0 (drop n rest)) place

-- what the turn gives
abbrev pub Turn : ℕ → List ℕ → Front → Type 0
Turn at text (Between len) = (0 < len) × (len ≤ length text) × (lexed_from at 0 text ≡ lexed_from (at + len) 0 (drop len text))
Turn at text (Cut kind len) = (0 < len) × (len ≤ length text) × (lexed_from at 0 text ≡ and_then (token_at at kind len) (lexed_from (at + len) 0 (drop len text)))
Turn at text Wide = lexed_from at 0 text ≡ Err (WideNumber at)
Turn at text Nothing = lexed_from at 0 text ≡ Err (BadByte at)

turn_of : (at b : ℕ) (rest : List ℕ) (front : Front) → IsFront front (length (b ∷ rest)) → lexed_from at 0 (b ∷ rest) ≡ step_at at front (λ len. lexed_from (suc at) len rest) → Turn at (b ∷ rest) front
turn_of at b rest (Between len) fits is = (fits.0, fits.1, is ∙ past at len b rest fits)
turn_of at b rest (Cut kind len) fits is = (fits.0, fits.1, is ∙ ap (and_then (token_at at kind len)) (past at len b rest fits))
turn_of at b rest Wide fits is = is
turn_of at b rest Nothing fits is = is

turn_here : (at : ℕ) (text : List ℕ) → 0 < length text → Turn at text (front_of text)
turn_here at [] short = absurd (omega arith)
turn_here at (b ∷ rest) short = turn_of at b rest (front_of (b ∷ rest)) (is_front (sound_front b rest)) (lexed_at at b rest)

-- by what was read of the rest of the text
turn : (at : ℕ) (text : List ℕ) (read front : Front) → at < length text → read ≡ front_of (take (length text - at) (drop at text)) → read ≡ front → Turn at (drop at text) front
turn at text read front inside by is =
    let some : 0 < length (drop at text) = omega (arith, length-drop at text) in
    let AtFront : Front → Type 0 = λ f. Turn at (drop at text) f in
    subst AtFront (sym (ap front_of (take_rest text at)) ∙ sym by ∙ is) (turn_here at (drop at text) some)

pub lexed-past_end : (at : ℕ) (text : List ℕ) → length text ≤ at → lexed_from at 0 (drop at text) ≡ Ok []
unfolding lexed_from
lexed-past_end at text over = ap (lexed_from at 0) (drop_all at text over)

-- the loop goes on with the tokens so far
module _ (at : ℕ) (text : List ℕ) (tokens : List Token) (answer : Result (List Token) LexFault) (read : Front)
    (inside : at < length text)
    (by : read ≡ front_of (take (length text - at) (drop at text)))
    (so_far : and_all tokens (lexed_from at 0 (drop at text)) ≡ answer) where
  pub between_on : (len : ℕ) → read ≡ Between len → (0 < len) × (at + len ≤ length text) × (and_all tokens (lexed_from (at + len) 0 (drop (at + len) text)) ≡ answer)
  between_on len is =
      let turned = turn at text read (Between len) inside by is in (
        turned.0,
        omega (arith, turned.1, length-drop at text),
        ap (λ l. and_all tokens (lexed_from (at + len) 0 l)) (sym (drop-drop len at text)) ∙ ap (and_all tokens) (sym turned.2) ∙ so_far,
      )

  pub cut_on : (kind : TokenKind) (len : ℕ) → read ≡ Cut kind len → (0 < len) × (at + len ≤ length text) × (and_all (tokens ++ token_at at kind len ∷ []) (lexed_from (at + len) 0 (drop (at + len) text)) ≡ answer)
  cut_on kind len is =
      let turned = turn at text read (Cut kind len) inside by is in (
        turned.0,
        omega (arith, turned.1, length-drop at text),
        ap (λ l. and_all (tokens ++ token_at at kind len ∷ []) (lexed_from (at + len) 0 l)) (sym (drop-drop len at text))
            ∙ sym (and_all-and_then tokens (token_at at kind len) (lexed_from (at + len) 0 (drop len (drop at text))))
            ∙ ap (and_all tokens) (sym turned.2) ∙ so_far,
      )

  pub wide_here : read ≡ Wide → Err (WideNumber at) ≡ answer
  wide_here is = sym (ap (and_all tokens) (turn at text read Wide inside by is)) ∙ so_far

  pub nothing_here : read ≡ Nothing → Err (BadByte at) ≡ answer
  nothing_here is = sym (ap (and_all tokens) (turn at text read Nothing inside by is)) ∙ so_far
