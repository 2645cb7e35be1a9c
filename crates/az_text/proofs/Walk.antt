-- How the answer of a text goes on after its first token, blank or comment.
use Rattle.std.proofs.Common.{◌≡◌, ℕ, zero, suc, ◌+◌, ◌-◌, ◌^◌, ◌≤◌, List, [], ◌∷◌, ◌++◌, drop, length, Result, Ok, Err, refl, sym, ap, ◌∙◌, subst, arith, add-zero, length-append}
use Rattle.az_text.specs.declared.fault.LexFault.{LexFault}
use Rattle.az_text.specs.declared.fault.LexFault.TheVariants.{BadByte, WideNumber}
use Rattle.az_text.specs.declared.front.Front.{Front}
use Rattle.az_text.specs.declared.token.Token.{Token}
use Rattle.az_text.specs.declared.token.TokenKind.{TokenKind}
use Rattle.az_text.specs.declared.token.TokenKind.TheVariants.{Number}
use Rattle.az_text.specs.Fronts.{lexed, lexed_from, front_of, step_at}
use Rattle.az_text.specs.Reading.{IsNarrow, and_then, token_at, Reads}
use Rattle.az_text.specs.Reading.Reads.{ended, blank, comment, token, wide, bad}
use Rattle.az_text.specs.Tokens.{BeginsWith, NothingBegins}
use Rattle.az_text.proofs.Sorts.{starts}
use Rattle.az_text.proofs.Sound.{Sound, sound_front}
use Rattle.az_text.proofs.Sound.Sound.{a_blank, a_comment, a_token, a_wide_number, nothing}
use Rattle.az_text.proofs.Unique.{front_of-token, front_of-wide, front_of-bad, front_of-blank, front_of-comment}

-- tokens before those of an answer
abbrev pub and_all : List Token → Result (List Token) LexFault → Result (List Token) LexFault
and_all tokens (Ok more) = Ok (tokens ++ more)
and_all tokens (Err fault) = Err fault

-- bytes that are read already are passed over
pub lexed_past : (at : ℕ) (bytes rest : List ℕ) → lexed_from at (length bytes) (bytes ++ rest) ≡ lexed_from (at + length bytes) 0 rest
unfolding lexed_from
lexed_past at [] rest = ap (λ n. lexed_from n 0 rest) (sym (add-zero at))
lexed_past at (b ∷ bytes) rest =
    lexed_past (suc at) bytes rest ∙ ap (λ n. lexed_from n 0 rest) (let e : suc at + length bytes ≡ at + suc (length bytes) = omega arith in e)

-- a front of at least one byte and the answer further on
pub lexed_on : (at : ℕ) (b : ℕ) (bytes rest : List ℕ) → lexed_from (suc at) (length (b ∷ bytes) - 1) (bytes ++ rest) ≡ lexed_from (at + length (b ∷ bytes)) 0 rest
lexed_on at b bytes rest =
    let len : length (b ∷ bytes) - 1 ≡ length bytes = omega arith in
    let place : suc at + length bytes ≡ at + length (b ∷ bytes) = omega arith in
    ap (λ n. lexed_from (suc at) n (bytes ++ rest)) len ∙ lexed_past (suc at) bytes rest ∙ ap (λ n. lexed_from n 0 rest) place

-- the answer at a byte, by what begins there
pub lexed_at : (at b : ℕ) (rest : List ℕ) → lexed_from at 0 (b ∷ rest) ≡ step_at at (front_of (b ∷ rest)) (λ len. lexed_from (suc at) len rest)
unfolding lexed_from
lexed_at at b rest = refl

-- a text has the answer that is computed
step_reads : {text : List ℕ} {front : Front} → Sound text front → (n : ℕ) → ((at : ℕ) (rest : List ℕ) → length rest ≤ n → Reads at rest (lexed_from at 0 rest)) → length text ≤ suc n → (at : ℕ) → Reads at text (step_at at front (λ len. lexed_from (suc at) len (drop 1 text)))
step_reads (a_blank {b} {rest} is) n on short at = blank is (on (suc at) rest (omega arith))
step_reads (a_comment body rest passes ends) n on short at =
    let P : Result (List Token) LexFault → Type 0 = λ answer. Reads at (47 ∷ 47 ∷ (body ++ rest)) answer in
    let len = length-append body rest in
    subst P (sym (lexed_on at 47 (47 ∷ body) rest)) (comment body rest passes ends (on (at + length (47 ∷ 47 ∷ body)) rest (omega (arith, len))))
step_reads (a_token {kind} b bytes rest begins narrow) n on short at =
    let P : Result (List Token) LexFault → Type 0 = λ answer. Reads at (b ∷ (bytes ++ rest)) (and_then (token_at at kind (length (b ∷ bytes))) answer) in
    let len = length-append bytes rest in
    subst P (sym (lexed_on at b bytes rest)) (token kind (b ∷ bytes) rest begins narrow (on (at + length (b ∷ bytes)) rest (omega (arith, len))))
step_reads (a_wide_number m b bytes rest begins wide_value) n on short at = wide m (b ∷ bytes) rest begins wide_value
step_reads (nothing {text} none) n on short at = bad text none

reads_up_to : (n at : ℕ) (text : List ℕ) → length text ≤ n → Reads at text (lexed_from at 0 text)
unfolding lexed_from
reads_up_to n at [] short = ended
reads_up_to zero at (b ∷ rest) short = absurd (omega arith)
reads_up_to (suc n) at (b ∷ rest) short = step_reads (sound_front b rest) n (λ place more. reads_up_to n place more) short at

pub reads_lexed : (text : List ℕ) → Reads 0 text (lexed text)
unfolding lexed
reads_lexed text = reads_up_to (length text) 0 text (omega arith)

-- and no other
next_token : (at : ℕ) (answer : Result (List Token) LexFault) (kind : TokenKind) (bytes rest : List ℕ) → BeginsWith kind bytes rest → IsNarrow kind → answer ≡ lexed_from (at + length bytes) 0 rest → and_then (token_at at kind (length bytes)) answer ≡ lexed_from at 0 (bytes ++ rest)
next_token at answer kind [] rest begins narrow same = let s = starts kind [] begins.spelled in let none = s.whole in absurd (cc)
next_token at answer kind (b ∷ bytes) rest begins narrow same =
    let front = front_of-token kind b bytes rest begins narrow in
    ap (and_then (token_at at kind (length (b ∷ bytes)))) (same ∙ sym (lexed_on at b bytes rest))
    ∙ sym (ap (λ f. step_at at f (λ len. lexed_from (suc at) len (bytes ++ rest))) front)
    ∙ sym (lexed_at at b (bytes ++ rest))

next_wide : (at n : ℕ) (bytes rest : List ℕ) → BeginsWith (Number n) bytes rest → 2 ^ 127 ≤ n → Err (WideNumber at) ≡ lexed_from at 0 (bytes ++ rest)
next_wide at n [] rest begins wide_value = let s = starts (Number n) [] begins.spelled in let none = s.whole in absurd (cc)
next_wide at n (b ∷ bytes) rest begins wide_value =
    let front = front_of-wide n b bytes rest begins wide_value in
    sym (ap (λ f. step_at at f (λ len. lexed_from (suc at) len (bytes ++ rest))) front) ∙ sym (lexed_at at b (bytes ++ rest))

next_bad : (at : ℕ) (text : List ℕ) → NothingBegins text → Err (BadByte at) ≡ lexed_from at 0 text
next_bad at [] none = absurd (none.some_byte refl)
next_bad at (b ∷ rest) none =
    let front = front_of-bad b rest none in
    sym (ap (λ f. step_at at f (λ len. lexed_from (suc at) len rest)) front) ∙ sym (lexed_at at b rest)

pub lexed_only : {at : ℕ} {text : List ℕ} {answer : Result (List Token) LexFault} → Reads at text answer → answer ≡ lexed_from at 0 text
unfolding lexed_from
lexed_only ended = refl
lexed_only (blank {at} {b} {rest} {answer} is reads) =
    lexed_only reads ∙ sym (ap (λ f. step_at at f (λ len. lexed_from (suc at) len rest)) (front_of-blank b rest is)) ∙ sym (lexed_at at b rest)
lexed_only (comment {at} {answer} body rest passes ends reads) =
    lexed_only reads ∙ sym (lexed_on at 47 (47 ∷ body) rest)
    ∙ sym (ap (λ f. step_at at f (λ len. lexed_from (suc at) len (47 ∷ (body ++ rest)))) (front_of-comment body rest passes ends))
    ∙ sym (lexed_at at 47 (47 ∷ (body ++ rest)))
lexed_only (token {at} {answer} kind bytes rest begins narrow reads) = next_token at answer kind bytes rest begins narrow (lexed_only reads)
lexed_only (wide {at} n bytes rest begins wide_value) = next_wide at n bytes rest begins wide_value
lexed_only (bad {at} text none) = next_bad at text none
