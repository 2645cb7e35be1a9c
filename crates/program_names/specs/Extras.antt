-- The most extra indices, of all reductions around it together, that a part of an expression stands under.
use Rattle.std.specs.Prelude.{ℕ, ◌+◌, max, List, [], ◌∷◌, length, map}
use Rattle.program_grammar.specs.declared.tree.Branch.{Branch}
use Rattle.program_grammar.specs.declared.tree.Expr.{Expr}
use Rattle.program_grammar.specs.declared.tree.Expr.TheFolds.{fold-Expr}
use Rattle.program_grammar.specs.declared.tree.Expr.TheOpen.{Expr-F, Branch-F}

abbrev pub greatest : List ℕ → ℕ
greatest [] = 0
greatest (n ∷ ns) = max n (greatest ns)

-- one layer, whose parts are known already
abbrev pub extra_of_layer : Expr-F ℕ ℕ → ℕ
extra_of_layer (Expr-F.Constant negative n) = 0
extra_of_layer (Expr-F.Index side) = 0
extra_of_layer (Expr-F.Access name sides) = 0
extra_of_layer (Expr-F.Negation e) = e
extra_of_layer (Expr-F.Binary op a b) = max a b
extra_of_layer (Expr-F.Cases branches) = greatest branches
extra_of_layer (Expr-F.Reduction op extra chains e) = length extra + e

abbrev pub extra_of_branch : Branch-F ℕ ℕ → ℕ
extra_of_branch branch = branch.body

abbrev pub extra_under : Expr → ℕ
extra_under = fold-Expr ℕ ℕ extra_of_layer extra_of_branch

abbrev pub extra_below : List Branch → ℕ
extra_below branches = greatest (map (λ (b : Branch). extra_under b.body) branches)
