-- From the computed answer to the readings of a text.
use Rattle.std.proofs.Common.{◌≡◌, ℕ, List, Result, Ok, Err, IfOk, sym, ◌∙◌, subst}
use Rattle.az_text.specs.declared.fault.LexFault.{LexFault}
use Rattle.az_text.specs.declared.fault.LexFault.TheVariants.{BadByte, WideNumber, Memory}
use Rattle.az_text.specs.declared.token.Token.{Token}
use Rattle.az_text.specs.Fronts.{lexed, LexedIsTheReading}
use Rattle.az_text.specs.Reading.{Reads, Answers, IsReadOf, AreIn}
use Rattle.az_text.proofs.Spans.{tokens_in}
use Rattle.az_text.proofs.Walk.{reads_lexed, lexed_only}

read_of : (text : List ℕ) (answer : Result (List Token) LexFault) → answer ≡ lexed text → Reads 0 text answer
read_of text answer is =
    let P : Result (List Token) LexFault → Type 0 = λ a. Reads 0 text a in
    subst P (sym is) (reads_lexed text)

pub answers_read : (text : List ℕ) (got : Result (List Token) LexFault) → Answers got (lexed text) → IsReadOf text got
answers_read text (Ok tokens) is = read_of text _ is
answers_read text (Err (BadByte place)) is = read_of text _ is
answers_read text (Err (WideNumber place)) is = read_of text _ is
answers_read text (Err Memory) is = tt

computed : (text : List ℕ) (answer : Result (List Token) LexFault) → Reads 0 text answer → answer ≡ lexed text
unfolding lexed
computed text answer reads = lexed_only reads

pub answers_only : (text : List ℕ) (got answer : Result (List Token) LexFault) → Answers got (lexed text) → Reads 0 text answer → Answers got answer
answers_only text (Ok tokens) answer is reads = is ∙ sym (computed text answer reads)
answers_only text (Err (BadByte place)) answer is reads = is ∙ sym (computed text answer reads)
answers_only text (Err (WideNumber place)) answer is reads = is ∙ sym (computed text answer reads)
answers_only text (Err Memory) answer is reads = tt

pub answers_in : (text : List ℕ) (got : Result (List Token) LexFault) → Answers got (lexed text) → IfOk got (λ tokens. AreIn text 0 tokens)
answers_in text (Ok tokens) is = tokens_in text tokens (read_of text _ is)
answers_in text (Err fault) is = tt

pub lexed_is_the_reading : LexedIsTheReading
lexed_is_the_reading text = (reads_lexed text, λ answer reads. computed text answer reads)
