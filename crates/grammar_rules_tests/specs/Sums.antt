-- A small grammar, as an example: sums of whole numbers, with values modulo 2^128.
--   sum     = product { ( "+" | "-" ) product }
--   product = unary { "*" unary }
--   unary   = "-" primary | primary
--   primary = NUMBER | "(" sum ")"
-- Each number, operator and opened parenthesis weighs 1. A mark that asks for nothing more weighs 0.
use Rattle.std.specs.Prelude.{ℕ, ◌+◌, ◌-◌, ◌*◌, ◌%◌, ◌^◌, ◌==◌, if◌then◌else◌, List, [], ◌∷◌, Option, Some, None}
use Rattle.az_text.specs.declared.mark.MarkKind.TheVariants.{OpenParen, CloseParen, Semicolon, Minus, Star}
use Rattle.az_text.specs.declared.token.Token.{Token}
use Rattle.az_text.specs.declared.token.TokenKind.{TokenKind}
use Rattle.az_text.specs.declared.token.TokenKind.TheVariants.{Word, Number, Quoted, Mark}
use Rattle.grammar_rules_tests.specs.declared.sums.Sign.{Sign}
use Rattle.grammar_rules_tests.specs.declared.sums.Sign.TheVariants.{Add, Subtract}
use Rattle.grammar_rules.specs.Rules.{Rule, token, sequence, choice, left, many, fresh, recursive}
use Rattle.grammar_rules.specs.Readers.{Reader, read_token, read_sequence, read_choice, read_left, read_many, read_fresh, read_level}
use Rattle.grammar_rules.specs.Whole.{IsVerdict, verdict}
use Rattle.grammar_rules.specs.Tokens.{mark_class, class_of, mark_of, number_of}

abbrev pub class : Token → ℕ
class = class_of []

abbrev pub kind_sign : TokenKind → Option Sign
kind_sign (Mark kind) = if mark_class kind == 19 then Some Add else (if mark_class kind == 20 then Some Subtract else None)
kind_sign (Word word) = None
kind_sign (Number n) = None
kind_sign (Quoted text) = None

abbrev pub sign_of : Token → Option Sign
sign_of t = kind_sign t.kind

-- the values
abbrev pub signed : ℕ → Sign × ℕ → ℕ
signed a (Add, b) = (a + b) % 2 ^ 128
signed a (Subtract, b) = (a + (2 ^ 128 - b)) % 2 ^ 128

abbrev pub times : ℕ → ℕ → ℕ
times a b = (a * b) % 2 ^ 128

abbrev pub negated : ℕ → ℕ
negated a = (0 + (2 ^ 128 - a)) % 2 ^ 128

abbrev pub pair : Sign → ℕ → Sign × ℕ
pair sign a = (sign, a)

abbrev pub behind_mark : Unit {0} → ℕ → ℕ
behind_mark mark a = a

abbrev pub before_mark : ℕ → Unit {0} → ℕ
before_mark a mark = a

abbrev pub negated_behind : Unit {0} → ℕ → ℕ
negated_behind mark a = negated a

-- the rules
abbrev pub primary : Rule Token ℕ → Rule Token ℕ
primary sum = choice (token number_of 1) (sequence behind_mark (token (mark_of OpenParen) 1) (sequence before_mark sum (token (mark_of CloseParen) 0)))

abbrev pub unary : Rule Token ℕ → Rule Token ℕ
unary sum = choice (sequence negated_behind (token (mark_of Minus) 1) (primary sum)) (primary sum)

abbrev pub factor : Rule Token ℕ → Rule Token ℕ
factor sum = sequence behind_mark (token (mark_of Star) 1) (unary sum)

abbrev pub product : Rule Token ℕ → Rule Token ℕ
product sum = left times (unary sum) (factor sum)

abbrev pub term : Rule Token ℕ → Rule Token (Sign × ℕ)
term sum = sequence pair (token sign_of 1) (product sum)

abbrev pub sum_body : Rule Token ℕ → Rule Token ℕ
sum_body sum = left signed (product sum) (term sum)

abbrev pub sum : Rule Token ℕ
sum = recursive sum_body

-- the readers, rule by rule, with their look-ahead sets: a number, "-", "*", and "+" or "-"
abbrev pub read_primary : Reader Token ℕ → Reader Token ℕ
read_primary sum = read_choice class (23 ∷ []) (read_token number_of 1) (read_sequence behind_mark (read_token (mark_of OpenParen) 1) (read_sequence before_mark sum (read_token (mark_of CloseParen) 0)))

abbrev pub read_unary : Reader Token ℕ → Reader Token ℕ
read_unary sum = read_choice class (20 ∷ []) (read_sequence negated_behind (read_token (mark_of Minus) 1) (read_primary sum)) (read_primary sum)

abbrev pub read_factor : Reader Token ℕ → Reader Token ℕ
read_factor sum = read_sequence behind_mark (read_token (mark_of Star) 1) (read_unary sum)

abbrev pub read_product : Reader Token ℕ → Reader Token ℕ
read_product sum = read_left class (21 ∷ []) times (read_unary sum) (read_factor sum)

abbrev pub read_term : Reader Token ℕ → Reader Token (Sign × ℕ)
read_term sum = read_sequence pair (read_token sign_of 1) (read_product sum)

abbrev pub read_sum_body : Reader Token ℕ → Reader Token ℕ
read_sum_body sum = read_left class (19 ∷ 20 ∷ []) signed (read_product sum) (read_term sum)

unfoldable pub read_sum : ℕ → Reader Token ℕ
read_sum = read_level read_sum_body

-- Lines of sums, each with a limit of its own: what a line weighs below the limit counts nowhere else.
--   lines = { sum ";" }
abbrev pub line : Rule Token ℕ
line = sequence before_mark sum (token (mark_of Semicolon) 0)

abbrev pub lines : ℕ → Rule Token (List ℕ)
lines limit = many (fresh limit line)

abbrev pub read_line : ℕ → Reader Token ℕ
read_line depth = read_sequence before_mark (read_sum depth) (read_token (mark_of Semicolon) 0)

abbrev pub read_lines : ℕ → Reader Token (List ℕ)
read_lines limit = read_many class (20 ∷ 23 ∷ 4 ∷ []) (read_fresh limit (read_line (1 + limit)))

-- Lines are read exactly, with no weight above the limit of a line.
abbrev pub LinesAreRead : Type 0
LinesAreRead = (limit : ℕ) (ts : List Token) → IsVerdict (lines limit) 0 ts (verdict (read_lines limit 0 ts))
