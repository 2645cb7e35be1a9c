-- The grammar of programs. A token weighs 1 where a node of an expression counts, which is at its first
-- token or at its infix mark, and where a parenthesis is opened in an expression; all others weigh 0.
--
-- The rules scaled, access and unary are written so that one token decides. Printed.antt has the printed
-- ones beside them; they are the same by printed_rules_are_same.
use Rattle.std.specs.Prelude.{ℕ, if◌then◌else◌, nat_le, List, [], true, false, codes}
use Rattle.az_text.specs.declared.mark.MarkKind.TheVariants.{OpenBrace, CloseBrace, OpenBracket, CloseBracket, OpenParen, CloseParen, Bar, BarBar, Comma, Colon, Semicolon, Dot, Equal, AndAnd, Minus, Star}
use Rattle.az_text.specs.declared.token.Token.{Token}
use Rattle.grammar_rules.specs.Sides as sides
use Rattle.grammar_rules.specs.Rules.{Rule, give, mapped_to, sequence, followed, choice, optional, many, left, list_of, fresh, recursive}
use Rattle.program_grammar.specs.declared.tree.Branch.{Branch}
use Rattle.program_grammar.specs.declared.tree.Chain.{Chain}
use Rattle.program_grammar.specs.declared.tree.Declaration.{Declaration}
use Rattle.program_grammar.specs.declared.tree.Equation.{Equation}
use Rattle.program_grammar.specs.declared.tree.Expr.{Expr}
use Rattle.program_grammar.specs.declared.tree.Expr.TheVariants as form
use Rattle.program_grammar.specs.declared.tree.Link.{Link}
use Rattle.program_grammar.specs.declared.tree.ProgramText.{ProgramText}
use Rattle.grammar_rules.specs.declared.term.Term.{Term}
use Rattle.program_grammar.specs.Nodes.{nodes}
use Rattle.program_grammar.specs.Values as value
use Rattle.program_grammar.specs.Values.{behind, before, pair, Scaled}
use Rattle.program_grammar.specs.Words.{reserved, signs, relations, functions, folds, mark, keyword, name, number, one_of}

-- names and affine sides
abbrev pub names : Rule Token (List (List ℕ))
names = sides.names reserved

abbrev pub indices : Rule Token (List (List ℕ))
indices = sides.indices reserved

abbrev pub scaled : Rule Token Scaled
scaled = sides.scaled reserved

abbrev pub affine : Rule Token (List Term)
affine = sides.affine reserved

abbrev pub rows_in_brackets : Rule Token (List (List Term))
rows_in_brackets = sides.rows_in_brackets reserved

-- domains
abbrev pub link : Rule Token Link
link = sequence value.linked (one_of relations 0) affine

abbrev pub chain : Rule Token Chain
chain = sequence value.chained affine (list_of link link)

abbrev pub rows : Rule Token (List Chain)
rows = choice (list_of chain (sequence behind (mark AndAnd 0) chain)) (give [])

abbrev pub disjuncts : Rule Token (List (List Chain))
disjuncts = list_of rows (sequence behind (mark BarBar 0) rows)

abbrev pub behind_bar : {A : Type 0} → Rule Token A → Rule Token A
behind_bar p = sequence behind (mark Bar 0) (sequence before p (mark CloseBrace 0))

abbrev pub domain : {A : Type 0} → Rule Token A → Rule Token (List (List ℕ) × A)
domain p = sequence behind (mark OpenBrace 0) (sequence pair names (behind_bar p))

abbrev pub restriction : {A : Type 0} → ℕ → Rule Token A → Rule Token A
restriction weight p = sequence behind (mark OpenBrace weight) (behind_bar p)

-- `int` and `long` say nothing more
abbrev pub width_word : Rule Token (Unit {0})
width_word = choice (choice (keyword (codes "int") 0) (keyword (codes "long") 0)) (give tt)

abbrev pub declaration : Rule Token Declaration
declaration = sequence behind width_word (sequence value.declared (name 0) (sequence before (domain disjuncts) (mark Semicolon 0)))

abbrev pub section : List ℕ → Rule Token (List Declaration)
section word = choice (sequence behind (keyword word 0) (list_of declaration declaration)) (give [])

-- expressions
abbrev pub access : Rule Token Expr
access = sequence value.read_at (name 1) (optional rows_in_brackets)

abbrev pub index : Rule Token Expr
index = sequence behind (mark OpenBracket 1) (sequence before (mapped_to form.Index affine) (mark CloseBracket 0))

abbrev pub in_parentheses : Rule Token Expr → Rule Token Expr
in_parentheses expr = sequence behind (mark OpenParen 1) (sequence before expr (mark CloseParen 0))

abbrev pub call : Rule Token Expr → Rule Token Expr
call expr =
    sequence value.call (one_of functions 1)
    (sequence behind (mark OpenParen 1) (sequence pair expr (sequence behind (mark Comma 0) (sequence before expr (mark CloseParen 0)))))

abbrev pub branch : Rule Token Expr → Rule Token Branch
branch expr = sequence value.branch (restriction 0 disjuncts) (sequence behind (mark Colon 0) (sequence before expr (mark Semicolon 0)))

abbrev pub cases : Rule Token Expr → Rule Token Expr
cases expr = sequence behind (keyword (codes "case") 1) (sequence before (mapped_to form.Cases (list_of (branch expr) (branch expr))) (keyword (codes "esac") 0))

abbrev pub reduction : Rule Token Expr → Rule Token Expr
reduction expr =
    sequence behind (keyword (codes "reduce") 1) (sequence behind (mark OpenParen 1)
    (sequence value.reduction (one_of folds 0) (sequence behind (mark Comma 0)
    (sequence pair indices (sequence behind (mark Comma 0)
    (sequence pair (restriction 0 rows) (sequence behind (mark Colon 0) (sequence before expr (mark CloseParen 0)))))))))

abbrev pub operand : Rule Token Expr → Rule Token Expr
operand expr = choice access (choice index (choice (in_parentheses expr) (choice (call expr) (choice (cases expr) (reduction expr)))))

abbrev pub primary : Rule Token Expr → Rule Token Expr
primary expr = choice (mapped_to (value.constant false) (number 1)) (operand expr)

abbrev pub negated : Rule Token Expr → Rule Token Expr
negated expr = choice (mapped_to (value.constant true) (number 0)) (mapped_to form.Negation (operand expr))

abbrev pub unary : Rule Token Expr → Rule Token Expr
unary expr = choice (sequence behind (mark Minus 1) (negated expr)) (primary expr)

abbrev pub product : Rule Token Expr → Rule Token Expr
product expr = left value.product (unary expr) (sequence behind (mark Star 1) (unary expr))

abbrev pub sum : Rule Token Expr → Rule Token Expr
sum expr = left value.sum (product expr) (sequence pair (one_of signs 1) (product expr))

abbrev pub expr_body : Rule Token Expr → Rule Token Expr
expr_body expr = choice (sequence value.restricted (restriction 1 disjuncts) (sequence behind (mark Colon 0) (sum expr))) (sum expr)

abbrev pub expr : Rule Token Expr
expr = recursive expr_body

-- Equations. Each has a limit of its own on nodes and opened parentheses together, and only what it
-- weighs above it counts. Its semicolon weighs 1 behind more nodes than the limit on nodes.
abbrev pub nodes_and_parentheses : ℕ
nodes_and_parentheses = 1024

abbrev pub nodes_at_most : ℕ
nodes_at_most = 512

abbrev pub equation_body : Rule Token Equation
equation_body = sequence value.equation (name 0) (sequence pair indices (sequence behind (mark Equal 0) expr))

abbrev pub weight_of_end : Expr → ℕ
weight_of_end e = if nat_le (nodes e) nodes_at_most then 0 else 1

abbrev pub equation : Rule Token Equation
equation = followed before (fresh nodes_and_parentheses equation_body) (λ e. mark Semicolon (weight_of_end e.body))

-- the whole program, whose limit of weight is 0
abbrev pub equations : Rule Token (List Equation)
equations = sequence behind (keyword (codes "let") 0) (sequence before (many equation) (mark Dot 0))

abbrev pub sections : Rule Token value.Sections
sections = sequence pair (section (codes "input")) (sequence pair (section (codes "output")) (section (codes "local")))

abbrev pub header : Rule Token value.Header
header = sequence behind (keyword (codes "affine") 0) (sequence pair (name 0) (sequence pair (domain rows) sections))

abbrev pub program : Rule Token ProgramText
program = sequence value.program header equations
