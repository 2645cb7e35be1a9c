use Rattle.std.proofs.Common.{◌≡◌, ◌+◌, ◌*◌, [], ◌∷◌, length}
use Rattle.grammar_rules.specs.Rules.{put_last}
use Rattle.grammar_rules.specs.Readers.{read_onto}
use Rattle.program_grammar.specs.Values.{product, sum}
use Rattle.program_grammar.specs.Words.{class}
use Rattle.program_grammar.specs.Readers.{read_branch, read_expr, read_factor, read_summand}
use Rattle.program_grammar.proofs.expressions.+expressions.Given as goal

-- each function calls those that stand lower at its depth, and `expr` one of the depth below
abbrev pub decreases-expr : goal.decreases-expr
decreases-expr l = 16 * l.depth

abbrev pub decreases-in_parentheses : goal.decreases-in_parentheses
decreases-in_parentheses l = 16 * l.depth + 1

abbrev pub decreases-call : goal.decreases-call
decreases-call l = 16 * l.depth + 1

abbrev pub decreases-branch : goal.decreases-branch
decreases-branch l = 16 * l.depth + 1

abbrev pub decreases-reduction : goal.decreases-reduction
decreases-reduction l = 16 * l.depth + 1

abbrev pub decreases-branches : goal.decreases-branches
decreases-branches l = 16 * l.depth + 2

abbrev pub decreases-cases : goal.decreases-cases
decreases-cases l = 16 * l.depth + 3

abbrev pub decreases-operand : goal.decreases-operand
decreases-operand l = 16 * l.depth + 4

abbrev pub decreases-primary : goal.decreases-primary
decreases-primary l = 16 * l.depth + 5

abbrev pub decreases-negated : goal.decreases-negated
decreases-negated l = 16 * l.depth + 5

abbrev pub decreases-unary : goal.decreases-unary
decreases-unary l = 16 * l.depth + 6

abbrev pub decreases-factor : goal.decreases-factor
decreases-factor l = 16 * l.depth + 7

abbrev pub decreases-product : goal.decreases-product
decreases-product l = 16 * l.depth + 8

abbrev pub decreases-summand : goal.decreases-summand
decreases-summand l = 16 * l.depth + 9

abbrev pub decreases-sum : goal.decreases-sum
decreases-sum l = 16 * l.depth + 10

abbrev pub decreases-expr_body : goal.decreases-expr_body
decreases-expr_body l = 16 * l.depth + 11

-- what is left to read gives the answer of the whole
abbrev pub invariant-branches-members : goal.invariant-branches-members
invariant-branches-members l =
    read_onto class (0 ∷ []) put_last (read_branch (read_expr l.depth)) l.items.items l.place.budget l.place.rest.now
    ≡ read_onto class (0 ∷ []) put_last (read_branch (read_expr l.depth)) l.initial.items.items l.initial.place.budget l.initial.place.rest.now

abbrev pub decreases-branches-members : goal.decreases-branches-members
decreases-branches-members l = length l.place.rest.now

abbrev pub invariant-product-factors : goal.invariant-product-factors
invariant-product-factors l =
    read_onto class (21 ∷ []) product (read_factor (read_expr l.depth)) l.value l.place.budget l.place.rest.now
    ≡ read_onto class (21 ∷ []) product (read_factor (read_expr l.depth)) l.initial.value l.initial.place.budget l.initial.place.rest.now

abbrev pub decreases-product-factors : goal.decreases-product-factors
decreases-product-factors l = length l.place.rest.now

abbrev pub invariant-sum-summands : goal.invariant-sum-summands
invariant-sum-summands l =
    read_onto class (19 ∷ 20 ∷ []) sum (read_summand (read_expr l.depth)) l.value l.place.budget l.place.rest.now
    ≡ read_onto class (19 ∷ 20 ∷ []) sum (read_summand (read_expr l.depth)) l.initial.value l.initial.place.budget l.initial.place.rest.now

abbrev pub decreases-sum-summands : goal.decreases-sum-summands
decreases-sum-summands l = length l.place.rest.now
