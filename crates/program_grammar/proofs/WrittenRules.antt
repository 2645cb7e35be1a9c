-- What is read is written.
use Rattle.std.proofs.Common.{◌≡◌, ℕ, suc, ◌<◌, Bool, true, false, List, [], ◌∷◌, Some, None, Ok, Err, refl, subst, ◌∙◌, ap, arith}
use Rattle.std.specs.Prelude.{◌==◌, if◌then◌else◌, ◌||◌, bytes_eq, Result, IfOk}
use Rattle.std.specs.List.{list_any, AllByRecursion}
use Rattle.std.proofs.lemmas.List.Elements.{All-from_recursion}
use Rattle.az_text.specs.declared.token.Token.{Token}
use Rattle.az_text.specs.declared.token.TokenKind.{TokenKind}
use Rattle.az_text.specs.declared.token.TokenKind.TheVariants.{Word, Number, Quoted, Mark}
use Rattle.az_text.specs.Reading.{Reads}
use Rattle.az_text.proofs.WordTokens.{IsSpelledKind, IsSpelled, all_spelled}
use Rattle.grammar_rules.specs.Rules.{Rule, sequence}
use Rattle.grammar_rules.specs.Tokens.{name_class, word_class, kind_name}
use Rattle.grammar_rules.specs.Whole.{IsSentence}
use Rattle.grammar_rules.specs.declared.fault.TextFault.{TextFault}
use Rattle.grammar_rules.proofs.Yields.{Yields, any_yields, weaker_yields, token_yields, give_yields, mapped_yields, followed_yields, sequence_yields, choice_yields, many_yields, left_yields, list_of_yields, fresh_yields, recursive_yields}
use Rattle.program_grammar.specs.declared.tree.Declaration.{Declaration}
use Rattle.program_grammar.specs.declared.tree.Equation.{Equation}
use Rattle.program_grammar.specs.declared.tree.Expr.{Expr}
use Rattle.program_grammar.specs.declared.tree.Operator.TheVariants.{Multiply}
use Rattle.program_grammar.specs.declared.tree.ProgramText.{ProgramText}
use Rattle.program_grammar.specs.Readings.{IsReadingOf}
use Rattle.program_grammar.specs.Grammar.{names, domain, access, index, call, branch, cases, reduction, operand, primary, negated, unary, product, sum, expr_body, expr, declaration, section, equation_body, equation, equations, sections, header, program}
use Rattle.program_grammar.specs.Values as value
use Rattle.program_grammar.specs.Words.{reserved, name}
use Rattle.program_grammar.specs.Written.{IsName, IsWritten}
use Rattle.program_grammar.proofs.WrittenForms.{IsWrittenExpr, IsWrittenBranch, written-Constant, written-Index, access_written, negation_written, binary_written, cases_written, reduction_written}

-- a name is a word that is none of the reserved ones
unlisted : (words : List (List ℕ)) (n : ℕ) (x : List ℕ) → name_class < n → (word_class words n x == name_class) ≡ true → list_any (bytes_eq x) words ≡ false
unlisted [] n x above h = refl
unlisted (word ∷ words) n x above h = by (bytes_eq x word) refl h (λ g. unlisted words (suc n) x (omega (arith, above)) g)
  where
    by : (b : Bool) → bytes_eq x word ≡ b → ((if b then n else word_class words (suc n) x) == name_class) ≡ true → ((word_class words (suc n) x == name_class) ≡ true → list_any (bytes_eq x) words ≡ false)
        → list_any (bytes_eq x) (word ∷ words) ≡ false
    by true same g rest = absurd (grind (arith, g, above))
    by false same g rest = ap (λ b. b || list_any (bytes_eq x) words) same ∙ rest g

kind_named : (kind : TokenKind) (x : List ℕ) → kind_name reserved kind ≡ Some x → IsSpelledKind kind → IsName x
kind_named (Word word) x is spelled = by (word_class reserved 26 word == name_class) refl is
  where
    by : (b : Bool) → (word_class reserved 26 word == name_class) ≡ b → (if b then Some word else None) ≡ Some x → IsName x
    by true unreserved is = let same : word ≡ x = cc in subst IsName same (spelled, unlisted reserved 26 word (omega arith) unreserved)
    by false unreserved is = absurd (cc)
kind_named (Number n) x is spelled = absurd (cc)
kind_named (Quoted inner) x is spelled = absurd (cc)
kind_named (Mark kind) x is spelled = absurd (cc)

-- a rule whose values are written
abbrev pub Writes : {A : Type 0} → (A → Type 0) → Rule Token A → Type 0
Writes P rule = Yields IsSpelled P rule

name_writes : (weight : ℕ) → Writes IsName (name weight)
name_writes weight = token_yields (λ t x is spelled. kind_named t.kind x is spelled)

-- the values of parts that stand behind a mark, before one, or beside each other
behind_writes : {A B : Type 0} {P : B → Type 0} {p : Rule Token A} {q : Rule Token B} → Writes P q → Writes P (sequence value.behind p q)
behind_writes second = sequence_yields (λ a b _ h. h) any_yields second

before_writes : {A B : Type 0} {P : A → Type 0} {p : Rule Token A} {q : Rule Token B} → Writes P p → Writes P (sequence value.before p q)
before_writes first = sequence_yields (λ a b h _. h) first any_yields

second_writes : {A B : Type 0} {P : B → Type 0} {p : Rule Token A} {q : Rule Token B} → Writes P q → Writes (λ ab. P ab.1) (sequence value.pair p q)
second_writes second = sequence_yields (λ a b _ h. h) any_yields second

pair_writes : {A B : Type 0} {P : A → Type 0} {R : B → Type 0} {p : Rule Token A} {q : Rule Token B} → Writes P p → Writes R q → Writes (λ ab. P ab.0 × R ab.1) (sequence value.pair p q)
pair_writes first second = sequence_yields (λ a b h k. (h, k)) first second

-- names and declarations
names_write : Writes (AllByRecursion IsName) names
names_write = choice_yields (weaker_yields (λ xs h. h.1) (list_of_yields (name_writes 0) (behind_writes (name_writes 0)))) (give_yields tt)

domain_writes : {A : Type 0} (rule : Rule Token A) → Writes (λ d. AllByRecursion IsName d.0) (domain rule)
domain_writes rule = behind_writes (sequence_yields (λ xs a h _. h) names_write any_yields)

abbrev IsNamed : Declaration → Type 0
IsNamed declaration = IsName declaration.name

declaration_writes : Writes IsNamed declaration
declaration_writes = behind_writes (sequence_yields (λ x d h _. h) (name_writes 0) any_yields)

section_writes : (word : List ℕ) → Writes (AllByRecursion IsNamed) (section word)
section_writes word = choice_yields (behind_writes (weaker_yields (λ xs h. h.1) (list_of_yields declaration_writes declaration_writes))) (give_yields tt)

-- expressions
access_writes : Writes IsWrittenExpr access
access_writes = sequence_yields (λ x rows _ _. access_written x rows) any_yields any_yields

index_writes : Writes IsWrittenExpr index
index_writes = behind_writes (before_writes (mapped_yields (λ side _. written-Index side) any_yields))

-- the others, over expressions of one level less
module _ (rule : Rule Token Expr) (inner : Writes IsWrittenExpr rule) where
  call_writes : Writes IsWrittenExpr (call rule)
  call_writes = sequence_yields (λ op operands _ h. binary_written op operands.0 operands.1 h.0 h.1) any_yields (behind_writes (pair_writes inner (behind_writes (before_writes inner))))

  branch_writes : Writes IsWrittenBranch (branch rule)
  branch_writes = sequence_yields (λ disjuncts e _ h. h) any_yields (behind_writes (before_writes inner))

  cases_writes : Writes IsWrittenExpr (cases rule)
  cases_writes = behind_writes (before_writes (mapped_yields cases_written (list_of_yields branch_writes branch_writes)))

  reduction_writes : Writes IsWrittenExpr (reduction rule)
  reduction_writes =
      behind_writes (behind_writes
      (sequence_yields (λ op rest _ h. reduction_written op rest.0 rest.1.0 rest.1.1 h) any_yields
      (behind_writes (second_writes (behind_writes (second_writes (behind_writes (before_writes inner))))))))

  operand_writes : Writes IsWrittenExpr (operand rule)
  operand_writes =
      choice_yields access_writes (choice_yields index_writes (choice_yields (behind_writes (before_writes inner)) (choice_yields call_writes (choice_yields cases_writes reduction_writes))))

  primary_writes : Writes IsWrittenExpr (primary rule)
  primary_writes = choice_yields (mapped_yields (λ n _. written-Constant false n) any_yields) operand_writes

  negated_writes : Writes IsWrittenExpr (negated rule)
  negated_writes = choice_yields (mapped_yields (λ n _. written-Constant true n) any_yields) (mapped_yields negation_written operand_writes)

  unary_writes : Writes IsWrittenExpr (unary rule)
  unary_writes = choice_yields (behind_writes negated_writes) primary_writes

  product_writes : Writes IsWrittenExpr (product rule)
  product_writes = left_yields (binary_written Multiply) unary_writes (behind_writes unary_writes)

  sum_writes : Writes IsWrittenExpr (sum rule)
  sum_writes = left_yields (λ a b h k. binary_written (value.operator_of b.0) a b.1 h k) product_writes (second_writes product_writes)

  expr_body_writes : Writes IsWrittenExpr (expr_body rule)
  expr_body_writes =
      choice_yields (sequence_yields (λ disjuncts e _ h. cases_written (value.branch disjuncts e ∷ []) (omega arith, (h, tt))) any_yields (behind_writes sum_writes)) sum_writes

expr_writes : Writes IsWrittenExpr expr
expr_writes = recursive_yields expr_body_writes

-- equations and the program
abbrev HasWrittenBody : Equation → Type 0
HasWrittenBody equation = IsWrittenExpr equation.body

equation_body_writes : Writes HasWrittenBody equation_body
equation_body_writes = sequence_yields (λ x rest _ h. h) any_yields (second_writes (behind_writes expr_writes))

equation_writes : Writes HasWrittenBody equation
equation_writes = followed_yields (λ e end h _. h) (fresh_yields equation_body_writes) (λ e. any_yields)

equations_writes : Writes (AllByRecursion HasWrittenBody) equations
equations_writes = behind_writes (before_writes (many_yields equation_writes))

abbrev AreAllNamed : List Declaration → Type 0
AreAllNamed = AllByRecursion IsNamed

sections_write : Writes (λ s. AreAllNamed s.0 × (AreAllNamed s.1.0 × AreAllNamed s.1.1)) sections
sections_write = pair_writes (section_writes _) (pair_writes (section_writes _) (section_writes _))

header_writes : Writes (λ h. IsName h.0 × (AllByRecursion IsName h.1.0.0 × (AreAllNamed h.1.1.0 × (AreAllNamed h.1.1.1.0 × AreAllNamed h.1.1.1.1)))) header
header_writes = behind_writes (pair_writes (name_writes 0) (pair_writes (domain_writes _) sections_write))

program_writes : Writes IsWritten program
program_writes =
    sequence_yields
    (λ header equations h bodies. record {
      name = h.0;
      parameters = All-from_recursion IsName header.1.0.0 h.1.0;
      inputs = All-from_recursion IsNamed header.1.1.0 h.1.1.0;
      outputs = All-from_recursion IsNamed header.1.1.1.0 h.1.1.1.0;
      locals = All-from_recursion IsNamed header.1.1.1.1 h.1.1.1.1;
      bodies = All-from_recursion HasWrittenBody equations bodies;
    })
    header_writes equations_writes

pub read_is_written : (text : List ℕ) (tokens : List Token) (read : ProgramText) → Reads 0 text (Ok tokens) → IsSentence program 0 tokens read → IsWritten read
read_is_written text tokens read reads sentence = program_writes.value tokens sentence.taken.0 read sentence.taken.2 (all_spelled text tokens reads)

pub reading_is_written : (text : List ℕ) (result : Result ProgramText TextFault) → IsReadingOf text result → IfOk result IsWritten
reading_is_written text (Ok read) is = read_is_written text is.0 read is.1 is.2
reading_is_written text (Err fault) is = tt
