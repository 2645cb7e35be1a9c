-- The nodes of an expression: constants, index expressions, accesses, negations, operators, cases and
-- reductions.
use Rattle.std.specs.Prelude.{ℕ, ◌+◌}
use Rattle.az_ast.specs.Term.{Term, constant, index, access, negation, binary, cases, reduction, Choices, none, choice}

abbrev mutual
  pub nodes : Term → ℕ
  nodes (constant c) = 1
  nodes (index row) = 1
  nodes (access x f) = 1
  nodes (negation e) = nodes e + 1
  nodes (binary op a b) = nodes a + nodes b + 1
  nodes (cases branches) = nodes_below branches + 1
  nodes (reduction op extra domain e) = nodes e + 1

  pub nodes_below : Choices → ℕ
  nodes_below none = 0
  nodes_below (choice domain e rest) = nodes e + nodes_below rest
