-- The readers of expressions follow their rules.
use Rattle.std.proofs.Common.{◌≡◌, ℕ, suc, true, false, List, [], ◌∷◌, refl, ap, length}
use Rattle.std.specs.Prelude.{codes}
use Rattle.az_text.specs.declared.mark.MarkKind.TheVariants.{OpenBracket, CloseBracket, OpenParen, CloseParen, Comma, Colon, Semicolon, Minus, Star}
use Rattle.az_text.specs.declared.token.Token.{Token}
use Rattle.grammar_rules.specs.Rules.{Rule, sequence}
use Rattle.grammar_rules.specs.Readers.{Reader, read_level}
use Rattle.grammar_rules.specs.Readers.Answer.{wrong}
use Rattle.grammar_rules.specs.Exactness.{Shape, Exact, token_shape, sequence_shape, choice_shape, many_shape}
use Rattle.grammar_rules.specs.Tokens.{mark_of, keyword_of, chosen_of, classes}
use Rattle.grammar_rules.proofs.Choice.{choice_exact, optional_exact}
use Rattle.grammar_rules.proofs.Many.{left_exact, list_of_exact}
use Rattle.grammar_rules.proofs.Mapped.{mapped_exact}
use Rattle.grammar_rules.proofs.Recursive.{recursive_exact}
use Rattle.grammar_rules.proofs.Sequence.{sequence_exact, guarded_exact}
use Rattle.grammar_rules.proofs.Turns.{Advances, exact_advances}
use Rattle.grammar_rules.proofs.Tokens.{mark_within, keyword_within, chosen_within}
use Rattle.program_grammar.specs.declared.tree.Expr.{Expr}
use Rattle.program_grammar.specs.declared.tree.Expr.TheVariants as form
use Rattle.program_grammar.specs.Words.{reserved, class, signs, functions, folds, mark, one_of}
use Rattle.program_grammar.specs.Values as value
use Rattle.program_grammar.specs.Values.{behind, before, pair}
use Rattle.program_grammar.specs.Grammar.{access, index, in_parentheses, call, branch, cases, reduction, operand, primary, negated, unary, product, sum, expr_body, expr}
use Rattle.program_grammar.specs.Readers.{read_access, read_index, read_in_parentheses, read_call, read_branch, read_cases, read_reduction, read_operand, read_primary, read_negated, read_unary, read_factor, read_product, read_summand, read_sum, read_expr_body, read_expr}
use Rattle.program_grammar.proofs.SideRules.{Follows, mark_exact, name_exact, number_exact, keyword_exact, one_of_exact, indices_exact, affine_exact, rows_in_brackets_exact}
use Rattle.program_grammar.proofs.DomainRules.{restricted_rows_exact, restricted_disjuncts_exact}

-- the shapes
abbrev access_shape : Shape
access_shape = record { first = 25 ∷ []; empty = false; more = 2 ∷ [] }

abbrev operand_shape : Shape
operand_shape = record { first = 25 ∷ 2 ∷ 4 ∷ 36 ∷ 37 ∷ 38 ∷ 39 ∷ 40 ∷ 33 ∷ 35 ∷ []; empty = false; more = 2 ∷ [] }

abbrev primary_shape : Shape
primary_shape = record { first = 23 ∷ 25 ∷ 2 ∷ 4 ∷ 36 ∷ 37 ∷ 38 ∷ 39 ∷ 40 ∷ 33 ∷ 35 ∷ []; empty = false; more = 2 ∷ [] }

abbrev unary_shape : Shape
unary_shape = record { first = 20 ∷ 23 ∷ 25 ∷ 2 ∷ 4 ∷ 36 ∷ 37 ∷ 38 ∷ 39 ∷ 40 ∷ 33 ∷ 35 ∷ []; empty = false; more = 2 ∷ 2 ∷ [] }

abbrev factor_shape : Shape
factor_shape = record { first = 21 ∷ []; empty = false; more = 2 ∷ 2 ∷ [] }

abbrev product_shape : Shape
product_shape = sequence_shape unary_shape (many_shape (21 ∷ []) factor_shape)

abbrev summand_shape : Shape
summand_shape = record { first = 19 ∷ 20 ∷ []; empty = false; more = product_shape.more }

abbrev sum_shape : Shape
sum_shape = sequence_shape product_shape (many_shape (19 ∷ 20 ∷ []) summand_shape)

abbrev restricted_shape : Shape
restricted_shape = record { first = 0 ∷ []; empty = false; more = sum_shape.more }

abbrev pub expr_shape : Shape
expr_shape = choice_shape (0 ∷ []) restricted_shape sum_shape

-- the operands that hold no expression
pub access_exact : (depth : ℕ) → Follows access_shape depth access read_access
access_exact depth = sequence_exact value.read_at (name_exact 1 depth) (optional_exact (2 ∷ []) (rows_in_brackets_exact depth) refl refl) refl

pub index_exact : (depth : ℕ) → Follows (token_shape (2 ∷ [])) depth index read_index
index_exact depth = sequence_exact behind (mark_exact OpenBracket 1 depth) (sequence_exact before (mapped_exact form.Index (affine_exact depth)) (mark_exact CloseBracket 0 depth) refl) refl

-- the others, over expressions of one level less
abbrev Inner : ℕ → Rule Token Expr → Rule Token Expr → Reader Token Expr → Type 0
Inner depth sure rule reader = Exact class expr_shape depth sure rule reader

in_parentheses_exact : (depth : ℕ) (sure rule : Rule Token Expr) (reader : Reader Token Expr) → Inner depth sure rule reader
    → Exact class (token_shape (4 ∷ [])) (suc depth) (in_parentheses sure) (in_parentheses rule) (read_in_parentheses reader)
in_parentheses_exact depth sure rule reader inner =
    guarded_exact (4 ∷ []) (mark_of OpenParen) 1 (mark_within reserved OpenParen) refl behind (sequence_exact before inner (mark_exact CloseParen 0 depth) refl)

call_exact : (depth : ℕ) (sure rule : Rule Token Expr) (reader : Reader Token Expr) → Inner depth sure rule reader
    → Exact class (token_shape (36 ∷ 37 ∷ 38 ∷ 39 ∷ 40 ∷ [])) (suc depth) (call sure) (call rule) (read_call reader)
call_exact depth sure rule reader inner =
    guarded_exact (classes functions) (chosen_of reserved functions) 1 (chosen_within reserved functions) refl value.call
    (sequence_exact behind (mark_exact OpenParen 1 depth)
    (sequence_exact pair inner (sequence_exact behind (mark_exact Comma 0 depth) (sequence_exact before inner (mark_exact CloseParen 0 depth) refl) refl) refl) refl)

pub branch_exact : (depth : ℕ) (sure rule : Rule Token Expr) (reader : Reader Token Expr) → Inner depth sure rule reader
    → Exact class (token_shape (0 ∷ [])) depth (branch sure) (branch rule) (read_branch reader)
branch_exact depth sure rule reader inner =
    sequence_exact value.branch (restricted_disjuncts_exact 0 depth) (sequence_exact behind (mark_exact Colon 0 depth) (sequence_exact before inner (mark_exact Semicolon 0 depth) refl) refl) refl

cases_exact : (depth : ℕ) (sure rule : Rule Token Expr) (reader : Reader Token Expr) → Inner depth sure rule reader
    → Exact class (token_shape (33 ∷ [])) (suc depth) (cases sure) (cases rule) (read_cases reader)
cases_exact depth sure rule reader inner =
    guarded_exact (33 ∷ []) (keyword_of (codes "case")) 1 (keyword_within reserved (codes "case")) refl behind
    (sequence_exact before
    (mapped_exact form.Cases (list_of_exact (0 ∷ []) (branch_exact depth sure rule reader inner) (branch_exact depth sure rule reader inner) refl refl refl refl))
    (keyword_exact (codes "esac") 0 depth) refl)

reduction_exact : (depth : ℕ) (sure rule : Rule Token Expr) (reader : Reader Token Expr) → Inner depth sure rule reader
    → Exact class (token_shape (35 ∷ [])) (suc depth) (reduction sure) (reduction rule) (read_reduction reader)
reduction_exact depth sure rule reader inner =
    guarded_exact (35 ∷ []) (keyword_of (codes "reduce")) 1 (keyword_within reserved (codes "reduce")) refl behind
    (sequence_exact behind (mark_exact OpenParen 1 depth)
    (sequence_exact value.reduction (one_of_exact folds 0 depth) (sequence_exact behind (mark_exact Comma 0 depth)
    (sequence_exact pair (indices_exact depth) (sequence_exact behind (mark_exact Comma 0 depth)
    (sequence_exact pair (restricted_rows_exact 0 depth) (sequence_exact behind (mark_exact Colon 0 depth)
    (sequence_exact before inner (mark_exact CloseParen 0 depth) refl) refl) refl) refl) refl) refl) refl) refl)

operand_exact : (depth : ℕ) (sure rule : Rule Token Expr) (reader : Reader Token Expr) → Inner depth sure rule reader
    → Exact class operand_shape (suc depth) (operand sure) (operand rule) (read_operand reader)
operand_exact depth sure rule reader inner =
    choice_exact (25 ∷ []) (access_exact (suc depth))
    (choice_exact (2 ∷ []) (index_exact (suc depth))
    (choice_exact (4 ∷ []) (in_parentheses_exact depth sure rule reader inner)
    (choice_exact (36 ∷ 37 ∷ 38 ∷ 39 ∷ 40 ∷ []) (call_exact depth sure rule reader inner)
    (choice_exact (33 ∷ []) (cases_exact depth sure rule reader inner) (reduction_exact depth sure rule reader inner)
    refl refl refl) refl refl refl) refl refl refl) refl refl refl) refl refl refl

primary_exact : (depth : ℕ) (sure rule : Rule Token Expr) (reader : Reader Token Expr) → Inner depth sure rule reader
    → Exact class primary_shape (suc depth) (primary sure) (primary rule) (read_primary reader)
primary_exact depth sure rule reader inner =
    choice_exact (23 ∷ []) (mapped_exact (value.constant false) (number_exact 1 (suc depth))) (operand_exact depth sure rule reader inner) refl refl refl

negated_exact : (depth : ℕ) (sure rule : Rule Token Expr) (reader : Reader Token Expr) → Inner depth sure rule reader
    → Exact class primary_shape (suc depth) (negated sure) (negated rule) (read_negated reader)
negated_exact depth sure rule reader inner =
    choice_exact (23 ∷ []) (mapped_exact (value.constant true) (number_exact 0 (suc depth))) (mapped_exact form.Negation (operand_exact depth sure rule reader inner)) refl refl refl

unary_exact : (depth : ℕ) (sure rule : Rule Token Expr) (reader : Reader Token Expr) → Inner depth sure rule reader
    → Exact class unary_shape (suc depth) (unary sure) (unary rule) (read_unary reader)
unary_exact depth sure rule reader inner =
    choice_exact (20 ∷ []) (sequence_exact behind (mark_exact Minus 1 (suc depth)) (negated_exact depth sure rule reader inner) refl) (primary_exact depth sure rule reader inner) refl refl refl

factor_exact : (depth : ℕ) (sure rule : Rule Token Expr) (reader : Reader Token Expr) → Inner depth sure rule reader
    → Exact class factor_shape (suc depth) (sequence behind (mark Star 1) (unary sure)) (sequence behind (mark Star 1) (unary rule)) (read_factor reader)
factor_exact depth sure rule reader inner = sequence_exact behind (mark_exact Star 1 (suc depth)) (unary_exact depth sure rule reader inner) refl

product_exact : (depth : ℕ) (sure rule : Rule Token Expr) (reader : Reader Token Expr) → Inner depth sure rule reader
    → Exact class product_shape (suc depth) (product sure) (product rule) (read_product reader)
product_exact depth sure rule reader inner =
    left_exact (21 ∷ []) value.product (unary_exact depth sure rule reader inner) (factor_exact depth sure rule reader inner) refl refl refl refl

summand_exact : (depth : ℕ) (sure rule : Rule Token Expr) (reader : Reader Token Expr) → Inner depth sure rule reader
    → Exact class summand_shape (suc depth) (sequence pair (one_of signs 1) (product sure)) (sequence pair (one_of signs 1) (product rule)) (read_summand reader)
summand_exact depth sure rule reader inner = sequence_exact pair (one_of_exact signs 1 (suc depth)) (product_exact depth sure rule reader inner) refl

sum_exact : (depth : ℕ) (sure rule : Rule Token Expr) (reader : Reader Token Expr) → Inner depth sure rule reader
    → Exact class sum_shape (suc depth) (sum sure) (sum rule) (read_sum reader)
sum_exact depth sure rule reader inner =
    left_exact (19 ∷ 20 ∷ []) value.sum (product_exact depth sure rule reader inner) (summand_exact depth sure rule reader inner) refl refl refl refl

expr_body_exact : (depth : ℕ) (sure rule : Rule Token Expr) (reader : Reader Token Expr) → Inner depth sure rule reader
    → Exact class expr_shape (suc depth) (expr_body sure) (expr_body rule) (read_expr_body reader)
expr_body_exact depth sure rule reader inner =
    choice_exact (0 ∷ [])
    (sequence_exact value.restricted (restricted_disjuncts_exact 1 (suc depth)) (sequence_exact behind (mark_exact Colon 0 (suc depth)) (sum_exact depth sure rule reader inner) refl) refl)
    (sum_exact depth sure rule reader inner) refl refl refl

pub expr_exact : (depth : ℕ) → Follows expr_shape depth expr (read_expr depth)
unfolding read_expr
expr_exact depth = recursive_exact class expr_shape expr_body read_expr_body expr_body_exact depth

-- what the loops need: each member takes a token, and the depths
pub factor_advances : (depth : ℕ) → Advances (read_factor (read_expr depth))
factor_advances depth = exact_advances (factor_exact depth expr expr (read_expr depth) (expr_exact depth)) refl

pub summand_advances : (depth : ℕ) → Advances (read_summand (read_expr depth))
summand_advances depth = exact_advances (summand_exact depth expr expr (read_expr depth) (expr_exact depth)) refl

pub branch_advances : (depth : ℕ) → Advances (read_branch (read_expr depth))
branch_advances depth = exact_advances (branch_exact depth expr expr (read_expr depth) (expr_exact depth)) refl

pub at_ground : (b : ℕ) (ts : List Token) → read_expr 0 b ts ≡ wrong (length ts)
unfolding read_expr
at_ground b ts = refl

pub deeper : (depth below b : ℕ) (ts : List Token) → depth ≡ suc below → read_expr depth b ts ≡ read_expr_body (read_expr below) b ts
unfolding read_expr
deeper depth below b ts is = ap (λ (n : ℕ). read_level read_expr_body n b ts) is
