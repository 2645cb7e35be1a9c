-- Expressions as they are shown, by the grammar: each is taken at the rule unary, at every level that its nodes
-- allow, and weighs at most twice as much as it has nodes.
use Rattle.std.proofs.Common.{◌≡◌, ℕ, zero, suc, ◌+◌, ◌*◌, ◌<◌, ◌≤◌, Bool, true, false, List, [], ◌∷◌, ◌++◌, length, refl, sym, ap, subst, ◌∙◌, append-nil, append_assoc, arith}
use Rattle.std.specs.Prelude.{map, codes, ℤ, pos, negsuc, unsigned_abs}
use Rattle.std.specs.List.{AllByRecursion}
use Rattle.az_lin.specs.Affine.{Union}
use Rattle.az_ast.specs.declared.op.Op.{Op}
use Rattle.az_ast.specs.declared.op.Op.TheVariants as op
use Rattle.az_ast.specs.declared.program.Variable.{Variable}
use Rattle.az_ast.specs.Nodes.{nodes, nodes_below}
use Rattle.az_ast.specs.Term.{Term, constant, index, access, negation, binary, cases, reduction, Choices, none, choice}
use Rattle.az_text.specs.Lumps.{Lump}
use Rattle.az_text.specs.declared.mark.MarkKind.{MarkKind}
use Rattle.az_text.specs.declared.mark.MarkKind.TheVariants.{OpenBrace, OpenBracket, CloseBracket, OpenParen, CloseParen, Comma, Colon, Semicolon, Plus, Minus, Star}
use Rattle.az_text.specs.declared.token.Token.{Token}
use Rattle.az_text.specs.declared.token.TokenKind.TheVariants.{Word, Mark}
use Rattle.alphabets_show.specs.Pieces.{mark, word, number, space, spaced, comma_space, in_parentheses, in_brackets, names}
use Rattle.alphabets_show.specs.Sides.{Names, indices, affine, affines, restriction}
use Rattle.alphabets_show.specs.Expressions.{literal, infix_form, call_form, operation, operator, name_of, expression, branch_list}
use Rattle.grammar_rules.specs.Rules.{Rule, level, many, list_of, sequence}
use Rattle.grammar_rules.specs.Tokens.{chosen_of}
use Rattle.grammar_rules.proofs.Within.{Within, one_token, with_value, in_sequence, first_choice, second_choice, in_option, none_of_many, one_of_many, in_list, in_left}
use Rattle.grammar_rules.proofs.Within as within
use Rattle.program_grammar.specs.declared.tree.Branch.{Branch}
use Rattle.program_grammar.specs.declared.tree.Expr.{Expr}
use Rattle.program_grammar.specs.declared.tree.Expr.TheVariants as form
use Rattle.program_grammar.specs.declared.tree.Operator.{Operator}
use Rattle.program_grammar.specs.declared.tree.Operator.TheVariants as operators
use Rattle.program_grammar.specs.Grammar as grammar
use Rattle.program_grammar.specs.Grammar.{expr_body, unary, operand}
use Rattle.program_grammar.specs.Values as value
use Rattle.program_grammar.specs.Values.{behind, before, pair}
use Rattle.program_grammar.specs.Words as words
use Rattle.program_grammar.specs.Words.{reserved, signs, functions, folds}
use Rattle.program_grammar.specs.Written.{IsName}
use Rattle.show_grammar.specs.Showable.{IsShowable, AreShowable, HasBranches}
use Rattle.show_grammar.specs.WrittenOf.{is_negative, row_of, operator_of, expression_of, branches_of, only_chains, disjuncts_of}
use Rattle.show_grammar.proofs.NameWithin.{name_within, number_within, mark_within, keyword_within, same_lumps, at_most, only_one, alone}
use Rattle.show_grammar.proofs.SideWithin.{AreNames, affine_within, rows_in_brackets_within, indices_within}
use Rattle.show_grammar.proofs.DomainWithin.{restriction_within, several_within, one_within}

-- the rules at a level
abbrev inner : ℕ → Rule Token Expr
inner n = level expr_body n

-- an operand, and an expression that is a unary one, alone
as_operand : (n : ℕ) {xs : List Lump} {bound : ℕ} {a : Expr} → Within (operand (inner n)) xs bound a → Within (unary (inner n)) xs bound a
as_operand n w = second_choice (second_choice w)

as_product : (n : ℕ) {xs : List Lump} {bound : ℕ} {a : Expr} → Within (unary (inner n)) xs bound a → Within (grammar.product (inner n)) xs bound a
as_product n w = alone value.product w

pub as_expression : (n : ℕ) {xs : List Lump} {bound : ℕ} {a : Expr} → Within (unary (inner n)) xs bound a → Within (inner (suc n)) xs bound a
as_expression n w = second_choice (alone value.sum (as_product n w))

parenthesised : (n : ℕ) {xs : List Lump} {bound : ℕ} {a : Expr} → Within (inner n) xs bound a → Within (grammar.in_parentheses (inner n)) (in_parentheses xs) (1 + (bound + 0)) a
parenthesised n w = in_sequence behind (mark_within OpenParen 1) (in_sequence before w (mark_within CloseParen 0))

in_parens : (n : ℕ) {xs : List Lump} {bound : ℕ} {a : Expr} → Within (inner n) xs bound a → Within (unary (inner n)) (in_parentheses xs) (1 + (bound + 0)) a
in_parens n w = as_operand n (second_choice (second_choice (first_choice (parenthesised n w))))

-- forms of one part
literal_within : (n : ℕ) (c : ℤ) → Within (unary (inner n)) (literal c) 1 (form.Constant (is_negative c) (unsigned_abs c))
literal_within n (pos k) = second_choice (first_choice (with_value (value.constant false) (number_within 1 k)))
literal_within n (negsuc k) = first_choice (in_sequence behind (mark_within Minus 1) (first_choice (with_value (value.constant true) (number_within 0 (suc k)))))

negation_within : (n : ℕ) {xs : List Lump} {bound : ℕ} {a : Expr} → Within (inner n) xs bound a → Within (unary (inner n)) (mark Minus ∷ in_parentheses xs) (1 + (1 + (bound + 0))) (form.Negation a)
negation_within n w = first_choice (in_sequence behind (mark_within Minus 1) (second_choice (with_value form.Negation (second_choice (second_choice (first_choice (parenthesised n w)))))))

-- forms of two operands
summand : (n : ℕ) {xs ys : List Lump} {b c : ℕ} {a e : Expr} (kind : MarkKind) (negative : Bool) → Within (words.one_of signs 1) (mark kind ∷ []) 1 negative
    → Within (unary (inner n)) xs b a → Within (unary (inner n)) ys c e → Within (unary (inner (suc n))) (infix_form kind xs ys) (1 + ((b + (1 + c)) + 0)) (form.Binary (value.operator_of negative) a e)
summand n kind negative sign left right =
    in_parens (suc n) (second_choice (in_left value.sum (as_product n left) (only_one (within.spaced 32 (in_sequence pair sign (within.spaced 32 (as_product n right)))))))

factor : (n : ℕ) {xs ys : List Lump} {b c : ℕ} {a e : Expr}
    → Within (unary (inner n)) xs b a → Within (unary (inner n)) ys c e → Within (unary (inner (suc n))) (infix_form Star xs ys) (1 + ((b + (1 + c)) + 0)) (form.Binary operators.Multiply a e)
factor n left right =
    in_parens (suc n) (second_choice (alone value.sum (in_left value.product left (only_one (within.spaced 32 (in_sequence behind (mark_within Star 1) (within.spaced 32 right)))))))

called : (n : ℕ) {xs ys : List Lump} {b c : ℕ} {a e : Expr} (function : List ℕ) (o : Operator) → Within (words.one_of functions 1) (word function ∷ []) 1 o
    → Within (inner n) xs b a → Within (inner n) ys c e → Within (unary (inner n)) (call_form function xs ys) (1 + (1 + (b + (0 + (c + 0))))) (form.Binary o a e)
called n {xs = xs} {ys = ys} function o name left right =
    as_operand n (second_choice (second_choice (second_choice (first_choice
    (in_sequence value.call name (in_sequence behind (mark_within OpenParen 1)
    (same_lumps (sym (append_assoc xs (comma_space ys) (mark CloseParen ∷ [])))
    (in_sequence pair left (in_sequence behind (mark_within Comma 0) (within.spaced 32 (in_sequence before right (mark_within CloseParen 0))))))))))))

operation_within : (n : ℕ) {xs ys : List Lump} {b c : ℕ} {a e : Expr} (o : Op) → Within (unary (inner n)) xs b a → Within (unary (inner n)) ys c e
    → Within (unary (inner (suc n))) (operation o xs ys) (2 + (b + c)) (form.Binary (operator_of o) a e)
operation_within n {b = b} {c = c} op.Add left right = at_most (2 + (b + c)) (summand n Plus false (one_token (chosen_of reserved signs) 1 (Mark Plus) false (λ at. refl)) left right) (omega arith)
operation_within n {b = b} {c = c} op.Sub left right = at_most (2 + (b + c)) (summand n Minus true (one_token (chosen_of reserved signs) 1 (Mark Minus) true (λ at. refl)) left right) (omega arith)
operation_within n {b = b} {c = c} op.Mul left right = at_most (2 + (b + c)) (factor n left right) (omega arith)
operation_within n {b = b} {c = c} op.And left right = at_most (2 + (b + c)) (called (suc n) (codes "and") operators.And (one_token (chosen_of reserved functions) 1 (Word (codes "and")) operators.And (λ at. refl)) (as_expression n left) (as_expression n right)) (omega arith)
operation_within n {b = b} {c = c} op.Or left right = at_most (2 + (b + c)) (called (suc n) (codes "or") operators.Or (one_token (chosen_of reserved functions) 1 (Word (codes "or")) operators.Or (λ at. refl)) (as_expression n left) (as_expression n right)) (omega arith)
operation_within n {b = b} {c = c} op.Xor left right = at_most (2 + (b + c)) (called (suc n) (codes "xor") operators.Xor (one_token (chosen_of reserved functions) 1 (Word (codes "xor")) operators.Xor (λ at. refl)) (as_expression n left) (as_expression n right)) (omega arith)
operation_within n {b = b} {c = c} op.Max left right = at_most (2 + (b + c)) (called (suc n) (codes "max") operators.Max (one_token (chosen_of reserved functions) 1 (Word (codes "max")) operators.Max (λ at. refl)) (as_expression n left) (as_expression n right)) (omega arith)
operation_within n {b = b} {c = c} op.Min left right = at_most (2 + (b + c)) (called (suc n) (codes "min") operators.Min (one_token (chosen_of reserved functions) 1 (Word (codes "min")) operators.Min (λ at. refl)) (as_expression n left) (as_expression n right)) (omega arith)

fold_within : (o : Op) → (o ≡ op.Sub → ⊥) → Within (words.one_of folds 0) (operator o ∷ []) 0 (operator_of o)
fold_within op.Add is = one_token (chosen_of reserved folds) 0 (Mark Plus) operators.Add (λ at. refl)
fold_within op.Sub is = absurd (is refl)
fold_within op.Mul is = one_token (chosen_of reserved folds) 0 (Mark Star) operators.Multiply (λ at. refl)
fold_within op.And is = one_token (chosen_of reserved folds) 0 (Word (codes "and")) operators.And (λ at. refl)
fold_within op.Or is = one_token (chosen_of reserved folds) 0 (Word (codes "or")) operators.Or (λ at. refl)
fold_within op.Xor is = one_token (chosen_of reserved folds) 0 (Word (codes "xor")) operators.Xor (λ at. refl)
fold_within op.Max is = one_token (chosen_of reserved folds) 0 (Word (codes "max")) operators.Max (λ at. refl)
fold_within op.Min is = one_token (chosen_of reserved folds) 0 (Word (codes "min")) operators.Min (λ at. refl)

module _ (params : Names) (variables : List Variable) (ok : AreNames params) (index_names : (from count : ℕ) → AllByRecursion IsName (indices from count)) where
  abbrev lumps : Term → ℕ → List Lump
  lumps t count = expression params variables t count

  abbrev value_of : Term → ℕ → Expr
  value_of t count = expression_of params variables t count

  branch_within : (n : ℕ) (d : Union) {xs : List Lump} {b : ℕ} {a : Expr} → 0 < length d.disjuncts → Within (inner n) xs b a
      → Within (grammar.branch (inner n)) (restriction params d ++ spaced Colon (xs ++ mark Semicolon ∷ space ∷ [])) (0 + (0 + (b + 0))) (record { disjuncts = disjuncts_of params d; body = a })
  branch_within n d some w =
      in_sequence value.branch (restriction_within params ok 0 grammar.disjuncts d (disjuncts_of params d) (several_within params ok d some))
      (within.spaced 32 (in_sequence behind (mark_within Colon 0) (within.spaced 32 (in_sequence before w (within.spaced_behind 32 (mark_within Semicolon 0))))))

  mutual
    pub expression_within : (t : Term) (count n : ℕ) → IsShowable variables t → nodes t ≤ n → Within (unary (inner n)) (lumps t count) (2 * nodes t) (value_of t count)
    expression_within (constant c) count n is enough = at_most 2 (literal_within n c) (omega arith)
    expression_within (index row) count n is enough =
        at_most 2 (as_operand n (second_choice (first_choice (in_sequence behind (mark_within OpenBracket 1) (in_sequence before (with_value form.Index (affine_within params ok row)) (mark_within CloseBracket 0)))))) (omega arith)
    expression_within (access x f) count n is enough =
        at_most 2 (as_operand n (first_choice (in_sequence value.read_at (name_within 1 (name_of variables x) is.0) (in_option (rows_in_brackets_within params ok f.rows))))) (omega arith)
    expression_within (negation e) count zero is enough = absurd (omega arith)
    expression_within (negation e) count (suc n) is enough =
        at_most (2 * nodes (negation e)) (negation_within (suc n) (as_expression n (expression_within e count n is (omega arith)))) (omega arith)
    expression_within (binary o a b) count zero is enough = absurd (omega arith)
    expression_within (binary o a b) count (suc n) is enough =
        at_most (2 * nodes (binary o a b)) (operation_within n o (expression_within a count n is.0 (omega arith)) (expression_within b count n is.1 (omega arith))) (omega arith)
    expression_within (cases none) count n is enough = absurd is.0
    expression_within (cases (choice d e rest)) count zero is enough = absurd (omega arith)
    expression_within (cases (choice d e rest)) count (suc n) is enough =
        at_most (2 * nodes (cases (choice d e rest)))
        (as_operand (suc n) (second_choice (second_choice (second_choice (second_choice (first_choice
        (in_sequence behind (keyword_within (codes "case") 1) (within.spaced 32
        (in_sequence before (with_value form.Cases (in_list (branch_within (suc n) d is.1.0.0 (as_expression n (expression_within e count n is.1.1 (omega arith)))) (branches_within rest count n is.1.2 (omega arith)))) (keyword_within (codes "esac") 0)))))))))) (omega arith)
    expression_within (reduction o extra d e) count zero is enough = absurd (omega arith)
    expression_within (reduction o extra d e) count (suc n) is enough =
        let close = mark CloseParen ∷ [] in
        let brought = in_brackets (names (indices count extra)) in
        let limits = restriction params d in
        let body = spaced Colon (lumps e (count + extra)) in
        let regrouped : (brought ++ comma_space (limits ++ body)) ++ close ≡ brought ++ comma_space (limits ++ (body ++ close)) =
        append_assoc brought (comma_space (limits ++ body)) close ∙ ap (λ (r : List Lump). brought ++ comma_space r) (append_assoc limits body close) in
        at_most (2 * nodes (reduction o extra d e))
        (as_operand (suc n) (second_choice (second_choice (second_choice (second_choice (second_choice
        (in_sequence behind (keyword_within (codes "reduce") 1) (in_sequence behind (mark_within OpenParen 1)
        (in_sequence value.reduction (fold_within o is.0) (in_sequence behind (mark_within Comma 0) (within.spaced 32
        (same_lumps (sym regrouped)
        (in_sequence pair (indices_within (indices count extra) (index_names count extra)) (in_sequence behind (mark_within Comma 0) (within.spaced 32
        (in_sequence pair (restriction_within params ok 0 grammar.rows d (only_chains params d.disjuncts) (one_within params ok d is.1.0))
        (within.spaced 32 (in_sequence behind (mark_within Colon 0) (within.spaced 32
        (in_sequence before (as_expression n (expression_within e (count + extra) n is.2 (omega arith))) (mark_within CloseParen 0))))))))))))))))))))) (omega arith)

    branches_within : (branches : Choices) (count n : ℕ) → AreShowable variables branches → nodes_below branches ≤ n
        → Within (many (grammar.branch (inner (suc n)))) (branch_list params variables branches count) (2 * nodes_below branches) (branches_of params variables branches count)
    branches_within none count n is enough = none_of_many
    branches_within (choice d e rest) count n is enough =
        at_most (2 * nodes_below (choice d e rest))
        (one_of_many (branch_within (suc n) d is.0.0 (as_expression n (expression_within e count n is.1 (omega arith)))) (branches_within rest count n is.2 (omega arith))) (omega arith)
