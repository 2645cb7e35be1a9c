-- What is written has the nodes of what it shows.
use Rattle.std.proofs.Common.{◌≡◌, ℕ, ◌+◌, List, [], ◌∷◌, refl, sym, ap, ◌∙◌}
use Rattle.std.specs.Prelude.{ℤ, unsigned_abs, map}
use Rattle.az_ast.specs.declared.program.Variable.{Variable}
use Rattle.az_ast.specs.Nodes.{nodes, nodes_below}
use Rattle.az_ast.specs.Term.{Term, constant, index, access, negation, binary, cases, reduction, Choices, none, choice}
use Rattle.alphabets_show.specs.Expressions.{name_of}
use Rattle.alphabets_show.specs.Sides.{Names, indices}
use Rattle.program_grammar.specs.Nodes as tree
use Rattle.program_grammar.proofs.NodeLemmas.{nodes-Constant, nodes-Index, nodes-Access, nodes-Negation, nodes-Binary, nodes-Cases, nodes-Reduction}
use Rattle.show_grammar.specs.WrittenOf.{is_negative, row_of, operator_of, only_chains, expression_of, branches_of}

module _ (params : Names) (variables : List Variable) where
  mutual
    pub nodes_written : (t : Term) (count : ℕ) → tree.nodes (expression_of params variables t count) ≡ nodes t
    nodes_written (constant c) count = nodes-Constant (is_negative c) (unsigned_abs c)
    nodes_written (index row) count = nodes-Index (row_of params row)
    nodes_written (access x f) count = nodes-Access (name_of variables x) (map (row_of params) f.rows)
    nodes_written (negation e) count = nodes-Negation (expression_of params variables e count) ∙ ap (λ (n : ℕ). n + 1) (nodes_written e count)
    nodes_written (binary op a b) count =
        nodes-Binary (operator_of op) (expression_of params variables a count) (expression_of params variables b count)
        ∙ (λ i. (nodes_written a count i + nodes_written b count i) + 1)
    nodes_written (cases branches) count = nodes-Cases (branches_of params variables branches count) ∙ ap (λ (n : ℕ). n + 1) (bodies_written branches count)
    nodes_written (reduction op extra domain e) count =
        nodes-Reduction (operator_of op) (indices count extra) (only_chains params domain.disjuncts) (expression_of params variables e (count + extra))
        ∙ ap (λ (n : ℕ). n + 1) (nodes_written e (count + extra))

    bodies_written : (branches : Choices) (count : ℕ) → tree.nodes_of_bodies (branches_of params variables branches count) ≡ nodes_below branches
    bodies_written none count = refl
    bodies_written (choice domain e rest) count = (λ i. nodes_written e count i + bodies_written rest count i)
