-- The nodes of an expression: constants, index expressions, accesses, negations, operators, cases and
-- reductions.
use Rattle.std.specs.Prelude.{ℕ, ◌+◌, List, [], ◌∷◌, map}
use Rattle.program_grammar.specs.declared.tree.Branch.{Branch}
use Rattle.program_grammar.specs.declared.tree.Expr.{Expr}
use Rattle.program_grammar.specs.declared.tree.Expr.TheFolds.{fold-Expr}
use Rattle.program_grammar.specs.declared.tree.Expr.TheOpen.{Expr-F, Branch-F}

abbrev pub total : List ℕ → ℕ
total [] = 0
total (n ∷ ns) = n + total ns

-- one layer, whose parts are counted already
abbrev pub nodes_of_layer : Expr-F ℕ ℕ → ℕ
nodes_of_layer (Expr-F.Constant negative n) = 1
nodes_of_layer (Expr-F.Index terms) = 1
nodes_of_layer (Expr-F.Access name rows) = 1
nodes_of_layer (Expr-F.Negation e) = e + 1
nodes_of_layer (Expr-F.Binary op a b) = (a + b) + 1
nodes_of_layer (Expr-F.Cases branches) = total branches + 1
nodes_of_layer (Expr-F.Reduction op indices domain e) = e + 1

abbrev pub nodes_of_branch : Branch-F ℕ ℕ → ℕ
nodes_of_branch branch = branch.body

abbrev pub nodes : Expr → ℕ
nodes = fold-Expr ℕ ℕ nodes_of_layer nodes_of_branch

abbrev pub nodes_of_bodies : List Branch → ℕ
nodes_of_bodies branches = total (map (λ (b : Branch). nodes b.body) branches)
