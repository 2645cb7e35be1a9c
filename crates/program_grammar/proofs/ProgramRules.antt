-- The readers of equations and of whole programs follow their rules.
use Rattle.std.proofs.Common.{◌≡◌, ℕ, ◌+◌, true, false, List, [], ◌∷◌, refl, arith, ap, subst, Err}
use Rattle.std.specs.Prelude.{codes}
use Rattle.az_text.specs.declared.mark.MarkKind.TheVariants.{Semicolon, Dot, Equal}
use Rattle.az_text.specs.declared.token.Token.{Token}
use Rattle.grammar_rules.specs.Rules.{Rule}
use Rattle.std.proofs.Math.Nat.{zero-min}
use Rattle.grammar_rules.specs.declared.fault.ReadError.{ReadError}
use Rattle.grammar_rules.specs.declared.fault.ReadError.TheVariants.{Syntax, Size, Memory}
use Rattle.grammar_rules.specs.Gives.{Gives, Passes}
use Rattle.grammar_rules.specs.Readers.{Answer, Reader, after, read_nothing}
use Rattle.grammar_rules.specs.Readers.Answer.{got}
use Rattle.grammar_rules.specs.Exactness.{Shape, Says, token_shape}
use Rattle.program_grammar.specs.declared.tree.Equation.{Equation}
use Rattle.grammar_rules.specs.Whole.{IsVerdict, verdict}
use Rattle.program_grammar.specs.Words.{read_mark}
use Rattle.grammar_rules.proofs.Fresh.{fresh_exact}
use Rattle.grammar_rules.proofs.Many.{many_exact}
use Rattle.grammar_rules.proofs.Sequence.{sequence_exact, followed_exact}
use Rattle.grammar_rules.proofs.Turns.{Advances, exact_advances}
use Rattle.grammar_rules.proofs.Whole.{verdict_exact}
use Rattle.program_grammar.specs.Values as value
use Rattle.program_grammar.specs.Values.{behind, before, pair}
use Rattle.program_grammar.specs.Grammar.{nodes_and_parentheses, weight_of_end, equation_body, equation, equations, sections, header, program}
use Rattle.program_grammar.specs.Readers.{read_equation_body, read_equation, read_equations, read_sections, read_header, read_program}
use Rattle.program_grammar.proofs.SideRules.{Follows, mark_exact, name_exact, keyword_exact, indices_exact}
use Rattle.program_grammar.proofs.DomainRules.{domain_rows_exact, input_exact, output_exact, local_exact}
use Rattle.program_grammar.proofs.ExprRules.{expr_exact, expr_shape}

abbrev equation_body_shape : Shape
equation_body_shape = record { first = 25 ∷ []; empty = false; more = expr_shape.more }

equation_body_exact : (depth : ℕ) → Follows equation_body_shape depth equation_body (read_equation_body depth)
equation_body_exact depth =
    sequence_exact value.equation (name_exact 0 depth) (sequence_exact pair (indices_exact depth) (sequence_exact behind (mark_exact Equal 0 depth) (expr_exact depth) refl) refl) refl

pub equation_exact : Follows (token_shape (25 ∷ [])) 1 equation read_equation
equation_exact =
    followed_exact before (fresh_exact nodes_and_parentheses 1 (equation_body_exact (1 + nodes_and_parentheses))) (λ e. mark_exact Semicolon (weight_of_end e.body) 1) refl

equations_exact : Follows (token_shape (30 ∷ [])) 1 equations read_equations
equations_exact = sequence_exact behind (keyword_exact (codes "let") 0 1) (sequence_exact before (many_exact (25 ∷ []) equation_exact refl refl refl) (mark_exact Dot 0 1) refl) refl

abbrev sections_shape : Shape
sections_shape = record { first = 27 ∷ 28 ∷ 29 ∷ []; empty = true; more = 27 ∷ 25 ∷ 31 ∷ 32 ∷ 28 ∷ 25 ∷ 31 ∷ 32 ∷ 29 ∷ 25 ∷ 31 ∷ 32 ∷ [] }

sections_exact : Follows sections_shape 1 sections read_sections
sections_exact = sequence_exact pair (input_exact 1) (sequence_exact pair (output_exact 1) (local_exact 1) refl) refl

abbrev header_shape : Shape
header_shape = record { first = 26 ∷ []; empty = false; more = sections_shape.more }

pub header_exact : Follows header_shape 1 header read_header
header_exact =
    sequence_exact behind (keyword_exact (codes "affine") 0 1)
    (sequence_exact pair (name_exact 0 1) (sequence_exact pair (domain_rows_exact 1) sections_exact refl) refl) refl

program_exact : Follows (token_shape (26 ∷ [])) 1 program read_program
program_exact = sequence_exact value.program header_exact equations_exact refl

pub program_verdict : (ts : List Token) → IsVerdict program 0 ts (verdict (read_program 0 ts))
program_verdict ts = verdict_exact program_exact 0 ts (omega arith)

-- what the loop over equations needs
pub equation_advances : Advances read_equation
equation_advances = exact_advances equation_exact refl

-- what is read without a budget leaves none
spends_none : {A : Type 0} {shape : Shape} {rule : Rule Token A} {reader : Reader Token A} → Follows shape 1 rule reader
    → (ts : List Token) (a : A) (rest : List Token) (r : ℕ) → reader 0 ts ≡ got a rest r → r ≡ 0
spends_none {rule = rule} exact ts a rest r is = let says : Says rule 0 ts (got a rest r) = subst (Says rule 0 ts) is (exact.says 0 ts) in let paid = says.3 in omega arith

pub equation_spends_none : (ts : List Token) (e : Equation) (rest : List Token) (r : ℕ) → read_equation 0 ts ≡ got e rest r → r ≡ 0
equation_spends_none = spends_none equation_exact

pub header_spends_none : (ts : List Token) (h : value.Header) (rest : List Token) (r : ℕ) → read_header 0 ts ≡ got h rest r → r ≡ 0
header_spends_none = spends_none header_exact

-- how an equation goes on behind its body, and a program behind its header
pub equation_after : (ts rest : List Token) (e : Equation) (r : ℕ) → read_equation_body 1025 1024 ts ≡ got e rest r
    → read_equation 0 ts ≡ after (read_mark Semicolon (weight_of_end e.body) 0 rest) (λ x. read_nothing e)
equation_after ts rest e r is = rw is (ap (λ (b : ℕ). after (read_mark Semicolon (weight_of_end e.body) b rest) (λ x. read_nothing e)) (zero-min r))

pub program_after : (b : ℕ) (ts rest : List Token) (h : value.Header) (r : ℕ) → b ≡ 0 → read_header b ts ≡ got h rest r
    → read_program b ts ≡ after (read_equations 0 rest) (λ es. read_nothing (value.program h es))
program_after b ts rest h r zero is =
    let none : r ≡ 0 = header_spends_none ts h rest r (subst (λ (n : ℕ). read_header n ts ≡ got h rest r) zero is) in
    rw is (rw none refl)

-- a fault stays
pub fault_passes : {A : Type 0} (fault : ReadError) (answer : Answer Token (Unit {0})) (go_on : Unit {0} → Reader Token A) → Passes (Err fault) answer → Gives {A = A} (Err fault) (after answer go_on)
fault_passes (Syntax n) answer go_on is = ap (λ a. after a go_on) is
fault_passes Size answer go_on is = ap (λ a. after a go_on) is
fault_passes Memory answer go_on is = tt

pub fault_gives : {A B : Type 0} (fault : ReadError) (answer : Answer Token A) (go_on : A → Reader Token B) → Gives {A = A} (Err fault) answer → Gives {A = B} (Err fault) (after answer go_on)
fault_gives (Syntax n) answer go_on is = ap (λ a. after a go_on) is
fault_gives Size answer go_on is = ap (λ a. after a go_on) is
fault_gives Memory answer go_on is = tt
