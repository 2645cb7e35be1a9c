-- The nodes of each form of expression.
use Rattle.std.proofs.Common.{◌≡◌, ℕ, ◌+◌, ◌<◌, List, Bool, Option, Some, None, rules, arith}
use Rattle.std.specs.Prelude.{MatchOption}
use Rattle.program_grammar.specs.declared.tree.Branch.{Branch}
use Rattle.program_grammar.specs.declared.tree.Chain.{Chain}
use Rattle.program_grammar.specs.declared.tree.Expr.{Expr}
use Rattle.program_grammar.specs.declared.tree.Expr.TheVariants.{Constant, Index, Access, Negation, Binary, Cases, Reduction}
use Rattle.program_grammar.specs.declared.tree.Expr.TheFolds.{the_lemmas}
use Rattle.program_grammar.specs.declared.tree.Operator.{Operator}
use Rattle.grammar_rules.specs.declared.term.Term.{Term}
use Rattle.program_grammar.specs.Nodes.{nodes, nodes_of_bodies}

pub nodes-Constant : (negative : Bool) (n : ℕ) → nodes (Constant negative n) ≡ 1
nodes-Constant negative n = search (rules, the_lemmas)

pub nodes-Index : (terms : List Term) → nodes (Index terms) ≡ 1
nodes-Index terms = search (rules, the_lemmas)

pub nodes-Access : (name : List ℕ) (rows : List (List Term)) → nodes (Access name rows) ≡ 1
nodes-Access name rows = search (rules, the_lemmas)

pub nodes-Negation : (e : Expr) → nodes (Negation e) ≡ nodes e + 1
nodes-Negation e = search (rules, the_lemmas)

pub nodes-Binary : (op : Operator) (a b : Expr) → nodes (Binary op a b) ≡ (nodes a + nodes b) + 1
nodes-Binary op a b = search (rules, the_lemmas)

pub nodes-Cases : (branches : List Branch) → nodes (Cases branches) ≡ nodes_of_bodies branches + 1
nodes-Cases branches = search (rules, the_lemmas)

pub nodes-Reduction : (op : Operator) (names : List (List ℕ)) (domain : List Chain) (e : Expr) → nodes (Reduction op names domain e) ≡ nodes e + 1
nodes-Reduction op names domain e = search (rules, the_lemmas)

-- the nodes of a case, spent from what its own node leaves
pub cases_spend : (before left : ℕ) (e : Expr) (branches : List Branch) (rest : Option ℕ) → e ≡ Cases branches → left + 1 ≡ before
    → MatchOption rest (left < nodes_of_bodies branches) (λ r. r + nodes_of_bodies branches ≡ left) → MatchOption rest (before < nodes e) (λ r. r + nodes e ≡ before)
cases_spend before left e branches (Some r) is one spent = let n = nodes-Cases branches in rw (is, n) (omega arith)
cases_spend before left e branches None is one spent = let n = nodes-Cases branches in rw (is, n) (omega arith)
