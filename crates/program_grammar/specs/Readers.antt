-- The readers of the rules, with their look-ahead sets.
use Rattle.std.specs.Prelude.{ℕ, ◌+◌, List, [], ◌∷◌, Bool, true, false, codes}
use Rattle.az_text.specs.declared.mark.MarkKind.TheVariants.{OpenBrace, CloseBrace, OpenBracket, CloseBracket, OpenParen, CloseParen, Bar, BarBar, Comma, Colon, Semicolon, Dot, Equal, AndAnd, Minus, Star}
use Rattle.az_text.specs.declared.token.Token.{Token}
use Rattle.grammar_rules.specs.SideReaders as sides
use Rattle.grammar_rules.specs.SideReaders.{side_classes, sign_classes}
use Rattle.grammar_rules.specs.Tokens.{mark_class, number_class, name_class}
use Rattle.grammar_rules.specs.Readers.{Reader, read_nothing, read_mapped, read_followed, read_sequence, read_choice, read_optional, read_many, read_left, read_list_of, read_fresh, read_level}
use Rattle.program_grammar.specs.declared.tree.Branch.{Branch}
use Rattle.program_grammar.specs.declared.tree.Chain.{Chain}
use Rattle.program_grammar.specs.declared.tree.Declaration.{Declaration}
use Rattle.program_grammar.specs.declared.tree.Equation.{Equation}
use Rattle.program_grammar.specs.declared.tree.Expr.{Expr}
use Rattle.program_grammar.specs.declared.tree.Expr.TheVariants as form
use Rattle.program_grammar.specs.declared.tree.Link.{Link}
use Rattle.program_grammar.specs.declared.tree.ProgramText.{ProgramText}
use Rattle.grammar_rules.specs.declared.term.Term.{Term}
use Rattle.program_grammar.specs.Values as value
use Rattle.program_grammar.specs.Values.{behind, before, pair, Scaled}
use Rattle.program_grammar.specs.Words.{reserved, class, signs, relations, relation_classes, function_classes, input_class, output_class, local_class, int_class, long_class, case_class, functions, folds, read_mark, read_keyword, read_name, read_number, read_one_of}
use Rattle.program_grammar.specs.Grammar.{nodes_and_parentheses, weight_of_end}

-- names and affine sides
abbrev pub read_names : Reader Token (List (List ℕ))
read_names = sides.read_names reserved

abbrev pub read_indices : Reader Token (List (List ℕ))
read_indices = sides.read_indices reserved

abbrev pub read_scaled : Reader Token Scaled
read_scaled = sides.read_scaled reserved

abbrev pub read_affine : Reader Token (List Term)
read_affine = sides.read_affine reserved

abbrev pub read_rows_in_brackets : Reader Token (List (List Term))
read_rows_in_brackets = sides.read_rows_in_brackets reserved

-- domains
abbrev pub read_link : Reader Token Link
read_link = read_sequence value.linked (read_one_of relations 0) read_affine

abbrev pub read_chain : Reader Token Chain
read_chain = read_sequence value.chained read_affine (read_list_of class relation_classes read_link read_link)

abbrev pub read_next_chain : Reader Token Chain
read_next_chain = read_sequence behind (read_mark AndAnd 0) read_chain

abbrev pub read_rows : Reader Token (List Chain)
read_rows = read_choice class side_classes (read_list_of class (mark_class AndAnd ∷ []) read_chain read_next_chain) (read_nothing [])

abbrev pub read_next_rows : Reader Token (List Chain)
read_next_rows = read_sequence behind (read_mark BarBar 0) read_rows

abbrev pub read_disjuncts : Reader Token (List (List Chain))
read_disjuncts = read_list_of class (mark_class BarBar ∷ []) read_rows read_next_rows

abbrev pub read_behind_bar : {A : Type 0} → Reader Token A → Reader Token A
read_behind_bar p = read_sequence behind (read_mark Bar 0) (read_sequence before p (read_mark CloseBrace 0))

abbrev pub read_domain : {A : Type 0} → Reader Token A → Reader Token (List (List ℕ) × A)
read_domain p = read_sequence behind (read_mark OpenBrace 0) (read_sequence pair read_names (read_behind_bar p))

abbrev pub read_restriction : {A : Type 0} → ℕ → Reader Token A → Reader Token A
read_restriction weight p = read_sequence behind (read_mark OpenBrace weight) (read_behind_bar p)

abbrev pub read_width_word : Reader Token (Unit {0})
read_width_word = read_choice class (int_class ∷ long_class ∷ []) (read_choice class (int_class ∷ []) (read_keyword (codes "int") 0) (read_keyword (codes "long") 0)) (read_nothing tt)

abbrev pub read_declaration : Reader Token Declaration
read_declaration =
    read_sequence behind read_width_word
    (read_sequence value.declared (read_name 0) (read_sequence before (read_domain read_disjuncts) (read_mark Semicolon 0)))

abbrev pub read_declarations : Reader Token (List Declaration)
read_declarations = read_list_of class (name_class ∷ int_class ∷ long_class ∷ []) read_declaration read_declaration

abbrev pub read_section : ℕ → List ℕ → Reader Token (List Declaration)
read_section c word = read_choice class (c ∷ []) (read_sequence behind (read_keyword word 0) read_declarations) (read_nothing [])

-- expressions
abbrev pub read_access : Reader Token Expr
read_access = read_sequence value.read_at (read_name 1) (read_optional class (mark_class OpenBracket ∷ []) read_rows_in_brackets)

abbrev pub read_index : Reader Token Expr
read_index = read_sequence behind (read_mark OpenBracket 1) (read_sequence before (read_mapped form.Index read_affine) (read_mark CloseBracket 0))

abbrev pub read_in_parentheses : Reader Token Expr → Reader Token Expr
read_in_parentheses expr = read_sequence behind (read_mark OpenParen 1) (read_sequence before expr (read_mark CloseParen 0))

abbrev pub read_call : Reader Token Expr → Reader Token Expr
read_call expr =
    read_sequence value.call (read_one_of functions 1)
    (read_sequence behind (read_mark OpenParen 1) (read_sequence pair expr (read_sequence behind (read_mark Comma 0) (read_sequence before expr (read_mark CloseParen 0)))))

abbrev pub read_branch : Reader Token Expr → Reader Token Branch
read_branch expr =
    read_sequence value.branch (read_restriction 0 read_disjuncts) (read_sequence behind (read_mark Colon 0) (read_sequence before expr (read_mark Semicolon 0)))

abbrev pub read_branches : Reader Token Expr → Reader Token (List Branch)
read_branches expr = read_list_of class (mark_class OpenBrace ∷ []) (read_branch expr) (read_branch expr)

abbrev pub read_cases : Reader Token Expr → Reader Token Expr
read_cases expr = read_sequence behind (read_keyword (codes "case") 1) (read_sequence before (read_mapped form.Cases (read_branches expr)) (read_keyword (codes "esac") 0))

abbrev pub read_reduction : Reader Token Expr → Reader Token Expr
read_reduction expr =
    read_sequence behind (read_keyword (codes "reduce") 1) (read_sequence behind (read_mark OpenParen 1)
    (read_sequence value.reduction (read_one_of folds 0) (read_sequence behind (read_mark Comma 0)
    (read_sequence pair read_indices (read_sequence behind (read_mark Comma 0)
    (read_sequence pair (read_restriction 0 read_rows) (read_sequence behind (read_mark Colon 0) (read_sequence before expr (read_mark CloseParen 0)))))))))

abbrev pub read_operand : Reader Token Expr → Reader Token Expr
read_operand expr =
    read_choice class (name_class ∷ []) read_access
    (read_choice class (mark_class OpenBracket ∷ []) read_index
    (read_choice class (mark_class OpenParen ∷ []) (read_in_parentheses expr)
    (read_choice class function_classes (read_call expr)
    (read_choice class (case_class ∷ []) (read_cases expr) (read_reduction expr)))))

abbrev pub read_primary : Reader Token Expr → Reader Token Expr
read_primary expr = read_choice class (number_class ∷ []) (read_mapped (value.constant false) (read_number 1)) (read_operand expr)

abbrev pub read_negated : Reader Token Expr → Reader Token Expr
read_negated expr = read_choice class (number_class ∷ []) (read_mapped (value.constant true) (read_number 0)) (read_mapped form.Negation (read_operand expr))

abbrev pub read_unary : Reader Token Expr → Reader Token Expr
read_unary expr = read_choice class (mark_class Minus ∷ []) (read_sequence behind (read_mark Minus 1) (read_negated expr)) (read_primary expr)

abbrev pub read_factor : Reader Token Expr → Reader Token Expr
read_factor expr = read_sequence behind (read_mark Star 1) (read_unary expr)

abbrev pub read_product : Reader Token Expr → Reader Token Expr
read_product expr = read_left class (mark_class Star ∷ []) value.product (read_unary expr) (read_factor expr)

abbrev pub read_summand : Reader Token Expr → Reader Token (Bool × Expr)
read_summand expr = read_sequence pair (read_one_of signs 1) (read_product expr)

abbrev pub read_sum : Reader Token Expr → Reader Token Expr
read_sum expr = read_left class sign_classes value.sum (read_product expr) (read_summand expr)

abbrev pub read_restricted : Reader Token Expr → Reader Token Expr
read_restricted expr = read_sequence value.restricted (read_restriction 1 read_disjuncts) (read_sequence behind (read_mark Colon 0) (read_sum expr))

abbrev pub read_expr_body : Reader Token Expr → Reader Token Expr
read_expr_body expr = read_choice class (mark_class OpenBrace ∷ []) (read_restricted expr) (read_sum expr)

unfoldable pub read_expr : ℕ → Reader Token Expr
read_expr = read_level read_expr_body

-- equations and the program
abbrev pub read_equation_body : ℕ → Reader Token Equation
read_equation_body depth = read_sequence value.equation (read_name 0) (read_sequence pair read_indices (read_sequence behind (read_mark Equal 0) (read_expr depth)))

abbrev pub read_equation : Reader Token Equation
read_equation =
    read_followed before (read_fresh nodes_and_parentheses (read_equation_body (1 + nodes_and_parentheses))) (λ e. read_mark Semicolon (weight_of_end e.body))

abbrev pub read_equations : Reader Token (List Equation)
read_equations = read_sequence behind (read_keyword (codes "let") 0) (read_sequence before (read_many class (name_class ∷ []) read_equation) (read_mark Dot 0))

abbrev pub read_sections : Reader Token value.Sections
read_sections = read_sequence pair (read_section input_class (codes "input")) (read_sequence pair (read_section output_class (codes "output")) (read_section local_class (codes "local")))

abbrev pub read_header : Reader Token value.Header
read_header = read_sequence behind (read_keyword (codes "affine") 0) (read_sequence pair (read_name 0) (read_sequence pair (read_domain read_rows) read_sections))

abbrev pub read_program : Reader Token ProgramText
read_program = read_sequence value.program read_header read_equations
