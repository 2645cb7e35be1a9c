-- At most one answer fits a text, but that memory ran out: what is answered is found from the reading of the
-- text, and there is one.
use Rattle.std.proofs.Common.{◌≡◌, ℕ, List, Ok, Err, refl, sym, ap, subst, ◌∙◌, inl, inr}
use Rattle.std.specs.Prelude.{Option, Some, None, Result}
use Rattle.az_ast.specs.System.{System}
use Rattle.az_ast.specs.declared.fault.ShapeFault.{ShapeFault}
use Rattle.az_ast.specs.declared.fault.ShapeFault.TheVariants as shape
use Rattle.az_lin.specs.declared.limit.Limit.{Limit as LimitName}
use Rattle.az_lin.specs.declared.limit.Limit.TheVariants.{Size as OfSize}
use Rattle.grammar_rules.proofs.TextReadings.{one_reading}
use Rattle.grammar_rules.specs.declared.fault.TextFault.{TextFault}
use Rattle.grammar_rules.specs.declared.fault.TextFault.TheVariants as text
use Rattle.program_grammar.specs.Grammar.{program}
use Rattle.program_grammar.specs.Readings.{IsReadingOf}
use Rattle.program_grammar.specs.declared.tree.ProgramText.{ProgramText}
use Rattle.program_names.specs.ProgramOf.{IsProgramOf}
use Rattle.program_names.specs.Refusals.{refusal_of}
use Rattle.program_names.specs.Resolved.{system_of}
use Rattle.alphabets_read.specs.Answers.{IsRefused, IsFaultOf, IsAnswerOf}
use Rattle.alphabets_read.specs.Faults.{of_text, of_shape}
use Rattle.alphabets_read.specs.declared.fault.ReadFault.{ReadFault}
use Rattle.alphabets_read.specs.declared.fault.ReadFault.TheVariants.{Lex, Syntax, Shape, Limit, Memory}

-- the answer of a reading
abbrev resolved : Option ShapeFault → System → Result System ReadFault
resolved None p = Ok p
resolved (Some fault) p = Err (of_shape fault)

abbrev outcome : Result ProgramText TextFault → Result System ReadFault
outcome (Ok written) = resolved (refusal_of written) (system_of written)
outcome (Err fault) = Err (of_text fault)

record HasReading (bytes : List ℕ) (answer : Result System ReadFault) : Type 0 where
  reading : Result ProgramText TextFault
  is : IsReadingOf bytes reading
  no_memory : reading ≡ Err text.Memory → ⊥
  gives : answer ≡ outcome reading

of_refused : (bytes : List ℕ) (fault : ShapeFault) → IsRefused bytes fault → HasReading bytes (Err (of_shape fault))
of_refused bytes fault refused = record {
  reading = Ok refused.written;
  is = refused.read;
  no_memory = λ e. cc;
  gives = subst (λ (o : Option ShapeFault). Err (of_shape fault) ≡ resolved o (system_of refused.written)) (sym refused.refused) refl;
}

has_reading : (bytes : List ℕ) (answer : Result System ReadFault) → IsAnswerOf bytes answer → (answer ≡ Err Memory → ⊥) → HasReading bytes answer
has_reading bytes (Ok p) is differs = record {
  reading = Ok is.written;
  is = is.read;
  no_memory = λ e. cc;
  gives = subst (λ (o : Option ShapeFault). Ok p ≡ resolved o (system_of is.written)) (sym is.means.accepted) (ap Ok is.means.meant);
}
has_reading bytes (Err (Lex fault)) is differs = record { reading = Err (text.Lex fault); is = is; no_memory = λ e. cc; gives = refl }
has_reading bytes (Err (Syntax place)) is differs = record { reading = Err (text.Syntax place); is = is; no_memory = λ e. cc; gives = refl }
has_reading bytes (Err (Shape kind item)) is differs = of_refused bytes (shape.Shape kind item) is
has_reading bytes (Err (Limit limit)) (inl is) differs = record {
  reading = Err text.Size;
  is = is.1;
  no_memory = λ e. cc;
  gives = ap (λ (l : LimitName). Err (Limit l)) is.0;
}
has_reading bytes (Err (Limit limit)) (inr is) differs = of_refused bytes (shape.Limit limit) is
has_reading bytes (Err Memory) is differs = absurd (differs refl)

pub one_answer : (bytes : List ℕ) (one other : Result System ReadFault) → IsAnswerOf bytes one → IsAnswerOf bytes other → (one ≡ Err Memory → ⊥) → (other ≡ Err Memory → ⊥) → one ≡ other
one_answer bytes one other is is' m n =
    let first = has_reading bytes one is m in
    let second = has_reading bytes other is' n in
    first.gives ∙ (ap outcome (one_reading program 0 bytes first.reading second.reading first.is second.is first.no_memory second.no_memory) ∙ sym second.gives)

pub no_fault : (bytes : List ℕ) (p : System) → IsProgramOf bytes p → (fault : ReadFault) → IsFaultOf bytes fault → (fault ≡ Memory → ⊥) → ⊥
no_fault bytes p is fault refused differs =
    let same : Ok p ≡ Err fault = one_answer bytes (Ok p) (Err fault) is refused (λ e. cc) (λ e. differs (cc)) in
    cc

pub one_program : (bytes : List ℕ) (p q : System) → IsProgramOf bytes p → IsProgramOf bytes q → q ≡ p
one_program bytes p q is is' =
    let same : Ok q ≡ Ok p = one_answer bytes (Ok q) (Ok p) is' is (λ e. cc) (λ e. cc) in
    cc
