-- The rules that are written so that one token decides, beside the same ones as they are printed. They
-- take the same lists with the same values, and have the same fronts.
--   term    = NUMBER | NUMBER "*" NAME | NUMBER NAME | NAME          without its sign
--   unary   = "-" NUMBER | "-" operand | primary                     where an operand is no number
--   access  = NAME | NAME "[" affines "]"
use Rattle.std.specs.Prelude.{ℕ, List, Some, None, true, ◌↔◌}
use Rattle.az_text.specs.declared.mark.MarkKind.TheVariants.{Minus, Star}
use Rattle.az_text.specs.declared.token.Token.{Token}
use Rattle.grammar_rules.specs.Rules.{Rule, mapped_to, sequence, choice}
use Rattle.program_grammar.specs.declared.tree.Expr.{Expr}
use Rattle.program_grammar.specs.declared.tree.Expr.TheVariants as form
use Rattle.program_grammar.specs.Grammar.{scaled, access, unary, operand, primary, rows_in_brackets, expr}
use Rattle.program_grammar.specs.Values as value
use Rattle.program_grammar.specs.Values.{behind, Scaled}
use Rattle.program_grammar.specs.Words.{mark, name, number}

-- as printed
abbrev pub alone : ℕ → Scaled
alone n = (n, None)

abbrev pub times : ℕ → List ℕ → Scaled
times n name = (n, Some name)

abbrev pub printed_term : Rule Token Scaled
printed_term =
    choice (mapped_to alone (number 0)) (choice (sequence times (number 0) (sequence behind (mark Star 0) (name 0)))
    (choice (sequence times (number 0) (name 0)) (mapped_to value.once (name 0))))

abbrev pub index_of : List ℕ → Expr
index_of name = value.read_at name None

abbrev pub printed_access : Rule Token Expr
printed_access = choice (mapped_to index_of (name 1)) (sequence form.Access (name 1) rows_in_brackets)

abbrev pub negative : Unit {0} → ℕ → Expr
negative minus n = value.constant true n

abbrev pub opposite : Unit {0} → Expr → Expr
opposite minus e = form.Negation e

abbrev pub printed_unary : Rule Token Expr → Rule Token Expr
printed_unary expr = choice (sequence negative (mark Minus 1) (number 0)) (choice (sequence opposite (mark Minus 1) (operand expr)) (primary expr))

pub record IsSame {A : Type 0} (p q : Rule Token A) : Type 0 where
  pub takes : (us : List Token) (w : ℕ) (a : A) → p.takes us w a ↔ q.takes us w a
  pub front : (us : List Token) (w : ℕ) → p.front us w ↔ q.front us w

pub record PrintedRulesAreSame : Type 0 where
  pub term : IsSame scaled printed_term
  pub access : IsSame access printed_access
  pub unary : IsSame (unary expr) (printed_unary expr)
