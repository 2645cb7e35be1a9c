-- The readers of sums follow their rules: a few lines for each rule.
use Rattle.std.proofs.Common.{◌≡◌, ℕ, suc, ◌==◌, ◌||◌, true, false, if◌then◌else◌, List, [], ◌∷◌, Some, None, refl, ap, length, arith, ◌+◌}
use Rattle.az_text.specs.declared.mark.MarkKind.TheVariants.{OpenParen, CloseParen, Minus, Star, Semicolon}
use Rattle.az_text.specs.declared.token.Token.{Token}
use Rattle.az_text.specs.declared.token.TokenKind.{TokenKind}
use Rattle.az_text.specs.declared.token.TokenKind.TheVariants.{Word, Number, Quoted, Mark}
use Rattle.grammar_rules_tests.specs.declared.sums.Sign.{Sign}
use Rattle.grammar_rules_tests.specs.declared.sums.Sign.TheVariants.{Add, Subtract}
use Rattle.grammar_rules.specs.Rules.{Rule}
use Rattle.grammar_rules.specs.Readers.{Reader, has, read_level}
use Rattle.grammar_rules.specs.Readers.Answer.{wrong}
use Rattle.grammar_rules.specs.Exactness.{Shape, Exact, IsWithin}
use Rattle.grammar_rules.specs.Tokens.{mark_class, kind_class, mark_of, number_of}
use Rattle.grammar_rules.specs.Whole.{IsVerdict, verdict}
use Rattle.grammar_rules_tests.specs.Sums.{class, kind_sign, sign_of, signed, times, pair, behind_mark, before_mark, negated_behind, primary, unary, factor, product, term, sum_body, sum, read_primary, read_unary, read_factor, read_product, read_term, read_sum_body, read_sum, line, lines, read_line, read_lines, LinesAreRead}
use Rattle.grammar_rules.proofs.Token.{token_exact}
use Rattle.grammar_rules.proofs.Sequence.{sequence_exact, guarded_exact}
use Rattle.grammar_rules.proofs.Choice.{choice_exact}
use Rattle.grammar_rules.proofs.Fresh.{fresh_exact}
use Rattle.grammar_rules.proofs.Many.{left_exact, many_exact}
use Rattle.grammar_rules.proofs.Recursive.{recursive_exact}
use Rattle.grammar_rules.proofs.Turns.{Advances, exact_advances}
use Rattle.grammar_rules.proofs.Whole.{verdict_exact}
use Rattle.grammar_rules.proofs.Tokens.{mark_within, number_within}

sign_classes : (c : ℕ) (a : Sign) → (if c == 19 then Some Add else (if c == 20 then Some Subtract else None)) ≡ Some a → has (19 ∷ 20 ∷ []) c ≡ true
sign_classes c a =
    elim (c == 19) as (λ x. (if x then Some Add else (if c == 20 then Some Subtract else None)) ≡ Some a → (x || (c == 20 || false)) ≡ true) [
      | true ↦ λ is. refl
      | false ↦ elim (c == 20) as (λ y. (if y then Some Subtract else None) ≡ Some a → (y || false) ≡ true) [ true ↦ λ is. refl | false ↦ λ is. absurd (cc) ]
    ]

kind_sign_within : (kind : TokenKind) (a : Sign) → kind_sign kind ≡ Some a → has (19 ∷ 20 ∷ []) (kind_class [] kind) ≡ true
kind_sign_within (Mark kind) a is = sign_classes (mark_class kind) a is
kind_sign_within (Word word) a is = absurd (cc)
kind_sign_within (Number n) a is = absurd (cc)
kind_sign_within (Quoted text) a is = absurd (cc)

sign_within : IsWithin class (19 ∷ 20 ∷ []) sign_of
sign_within t a is = kind_sign_within t.kind a is

-- the shapes
abbrev primary_shape : Shape
primary_shape = record { first = 23 ∷ 4 ∷ []; empty = false; more = [] }

abbrev unary_shape : Shape
unary_shape = record { first = 20 ∷ 23 ∷ 4 ∷ []; empty = false; more = [] }

abbrev product_shape : Shape
product_shape = record { first = 20 ∷ 23 ∷ 4 ∷ []; empty = false; more = 21 ∷ [] }

abbrev sum_shape : Shape
sum_shape = record { first = 20 ∷ 23 ∷ 4 ∷ []; empty = false; more = 21 ∷ 19 ∷ 20 ∷ 21 ∷ [] }

-- the rules
primary_exact : (depth : ℕ) (sure rule : Rule Token ℕ) (reader : Reader Token ℕ) → Exact class sum_shape depth sure rule reader → Exact class primary_shape (suc depth) (primary sure) (primary rule) (read_primary reader)
primary_exact depth sure rule reader inner =
    choice_exact (23 ∷ []) (token_exact class (23 ∷ []) number_of 1 (number_within []) (suc depth))
    (guarded_exact (4 ∷ []) (mark_of OpenParen) 1 (mark_within [] OpenParen) refl behind_mark (sequence_exact before_mark inner (token_exact class (5 ∷ []) (mark_of CloseParen) 0 (mark_within [] CloseParen) depth) refl))
    refl refl refl

unary_exact : (depth : ℕ) (sure rule : Rule Token ℕ) (reader : Reader Token ℕ) → Exact class sum_shape depth sure rule reader → Exact class unary_shape (suc depth) (unary sure) (unary rule) (read_unary reader)
unary_exact depth sure rule reader inner =
    choice_exact (20 ∷ [])
    (sequence_exact negated_behind (token_exact class (20 ∷ []) (mark_of Minus) 1 (mark_within [] Minus) (suc depth)) (primary_exact depth sure rule reader inner) refl)
    (primary_exact depth sure rule reader inner) refl refl refl

abbrev factor_shape : Shape
factor_shape = record { first = 21 ∷ []; empty = false; more = [] }

factor_exact : (depth : ℕ) (sure rule : Rule Token ℕ) (reader : Reader Token ℕ) → Exact class sum_shape depth sure rule reader → Exact class factor_shape (suc depth) (factor sure) (factor rule) (read_factor reader)
factor_exact depth sure rule reader inner =
    sequence_exact behind_mark (token_exact class (21 ∷ []) (mark_of Star) 1 (mark_within [] Star) (suc depth)) (unary_exact depth sure rule reader inner) refl

product_exact : (depth : ℕ) (sure rule : Rule Token ℕ) (reader : Reader Token ℕ) → Exact class sum_shape depth sure rule reader → Exact class product_shape (suc depth) (product sure) (product rule) (read_product reader)
product_exact depth sure rule reader inner =
    left_exact (21 ∷ []) times (unary_exact depth sure rule reader inner) (factor_exact depth sure rule reader inner) refl refl refl refl

abbrev term_shape : Shape
term_shape = record { first = 19 ∷ 20 ∷ []; empty = false; more = 21 ∷ [] }

term_exact : (depth : ℕ) (sure rule : Rule Token ℕ) (reader : Reader Token ℕ) → Exact class sum_shape depth sure rule reader → Exact class term_shape (suc depth) (term sure) (term rule) (read_term reader)
term_exact depth sure rule reader inner =
    sequence_exact pair (token_exact class (19 ∷ 20 ∷ []) sign_of 1 sign_within (suc depth)) (product_exact depth sure rule reader inner) refl

sum_body_exact : (depth : ℕ) (sure rule : Rule Token ℕ) (reader : Reader Token ℕ) → Exact class sum_shape depth sure rule reader → Exact class sum_shape (suc depth) (sum_body sure) (sum_body rule) (read_sum_body reader)
sum_body_exact depth sure rule reader inner =
    left_exact (19 ∷ 20 ∷ []) signed (product_exact depth sure rule reader inner) (term_exact depth sure rule reader inner) refl refl refl refl

pub sum_exact : (depth : ℕ) → Exact class sum_shape depth sum sum (read_sum depth)
unfolding read_sum
sum_exact depth = recursive_exact class sum_shape sum_body read_sum_body sum_body_exact depth

pub sum_verdict : (limit depth : ℕ) (ts : List Token) → depth ≡ suc limit → IsVerdict sum limit ts (verdict (read_sum depth limit ts))
sum_verdict limit depth ts is = verdict_exact (sum_exact depth) limit ts (omega arith)

-- what the code needs: each factor and each term takes a token, and the depths
pub factor_advances : (depth : ℕ) → Advances (read_factor (read_sum depth))
factor_advances depth = exact_advances (factor_exact depth sum sum (read_sum depth) (sum_exact depth)) refl

pub term_advances : (depth : ℕ) → Advances (read_term (read_sum depth))
term_advances depth = exact_advances (term_exact depth sum sum (read_sum depth) (sum_exact depth)) refl

pub at_ground : (b : ℕ) (ts : List Token) → read_sum 0 b ts ≡ wrong (length ts)
unfolding read_sum
at_ground b ts = refl

pub deeper : (depth below b : ℕ) (ts : List Token) → depth ≡ suc below → read_sum depth b ts ≡ read_sum_body (read_sum below) b ts
unfolding read_sum
deeper depth below b ts is = ap (λ (n : ℕ). read_level read_sum_body n b ts) is

-- lines, each with a limit of its own
abbrev line_shape : Shape
line_shape = record { first = 20 ∷ 23 ∷ 4 ∷ []; empty = false; more = [] }

abbrev lines_shape : Shape
lines_shape = record { first = 20 ∷ 23 ∷ 4 ∷ []; empty = true; more = 20 ∷ 23 ∷ 4 ∷ [] }

line_exact : (depth : ℕ) → Exact class line_shape depth line line (read_line depth)
line_exact depth = sequence_exact before_mark (sum_exact depth) (token_exact class (10 ∷ []) (mark_of Semicolon) 0 (mark_within [] Semicolon) depth) refl

lines_exact : (limit : ℕ) → Exact class lines_shape 1 (lines limit) (lines limit) (read_lines limit)
lines_exact limit = many_exact (20 ∷ 23 ∷ 4 ∷ []) (fresh_exact limit 1 (line_exact (1 + limit))) refl refl refl

pub lines_are_read : LinesAreRead
lines_are_read limit ts = verdict_exact (lines_exact limit) 0 ts (omega arith)
