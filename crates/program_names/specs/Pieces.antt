-- What stands in a program where a rule on its shape looks: each piece with its scope. The scope of a
-- place is the parameters, then the indices of the declaration or equation, then the extra indices of
-- the enclosing reductions from outside to inside; a reduction's domain has its own extra indices too.
use Rattle.std.specs.Prelude.{ℕ, Bool, List, [], ◌∷◌, ◌++◌, length, map, flat_map}
use Rattle.program_grammar.specs.declared.tree.Branch.{Branch}
use Rattle.program_grammar.specs.declared.tree.Chain.{Chain}
use Rattle.program_grammar.specs.declared.tree.Declaration.{Declaration}
use Rattle.program_grammar.specs.declared.tree.Equation.{Equation}
use Rattle.program_grammar.specs.declared.tree.Expr.{Expr}
use Rattle.program_grammar.specs.declared.tree.Expr.TheFolds.{fold-Expr}
use Rattle.program_grammar.specs.declared.tree.Expr.TheOpen.{Expr-F, Branch-F}
use Rattle.program_grammar.specs.declared.tree.Operator.{Operator}
use Rattle.program_grammar.specs.declared.tree.ProgramText.{ProgramText}
use Rattle.program_names.specs.Sides.{Scope, Difference, alone, of_chain}

pub data Piece : Type 0 where
  -- a constant: whether a minus stands before it, and its number
  number : Bool → ℕ → Piece
  -- a row
  row : Scope → Difference → Piece
  -- the variable of this name, at so many indices
  place : List ℕ → ℕ → Piece
  -- names that come into this scope
  names : Scope → List (List ℕ) → Piece
  -- a domain of so many disjuncts
  domain : ℕ → Piece
  -- the operator of a reduction
  operator : Operator → Piece

abbrev pub rows : Scope → List Chain → List Piece
rows scope chains = flat_map (λ chain. map (row scope) (of_chain chain)) chains

abbrev pub domain_pieces : Scope → List (List Chain) → List Piece
domain_pieces scope disjuncts = domain (length disjuncts) ∷ flat_map (rows scope) disjuncts

-- one layer of an expression, whose parts give their pieces in each scope
abbrev pub pieces_of_layer : Expr-F (Scope → List Piece) (Scope → List Piece) → Scope → List Piece
pieces_of_layer (Expr-F.Constant negative n) scope = number negative n ∷ []
pieces_of_layer (Expr-F.Index side) scope = row scope (alone side) ∷ []
pieces_of_layer (Expr-F.Access name sides) scope = place name (length sides) ∷ map (λ side. row scope (alone side)) sides
pieces_of_layer (Expr-F.Negation e) scope = e scope
pieces_of_layer (Expr-F.Binary op a b) scope = a scope ++ b scope
pieces_of_layer (Expr-F.Cases branches) scope = flat_map (λ branch. branch scope) branches
pieces_of_layer (Expr-F.Reduction op extra chains e) scope =
    operator op ∷ names scope extra ∷ (rows (scope ++ extra) chains ++ e (scope ++ extra))

abbrev pub pieces_of_branch : Branch-F (Scope → List Piece) (Scope → List Piece) → Scope → List Piece
pieces_of_branch branch scope = domain_pieces scope branch.disjuncts ++ branch.body scope

abbrev pub pieces : Expr → Scope → List Piece
pieces = fold-Expr (Scope → List Piece) (Scope → List Piece) pieces_of_layer pieces_of_branch

abbrev pub pieces_of_branches : List Branch → Scope → List Piece
pieces_of_branches branches scope = flat_map (λ (branch : Branch). domain_pieces scope branch.disjuncts ++ pieces branch.body scope) branches

-- the pieces of the items
abbrev pub header_pieces : ProgramText → List Piece
header_pieces text = names [] text.params ∷ rows text.params text.domain

abbrev pub declaration_pieces : Scope → Declaration → List Piece
declaration_pieces params declaration =
    names params declaration.indices ∷ domain_pieces (params ++ declaration.indices) declaration.disjuncts

abbrev pub equation_pieces : Scope → Equation → List Piece
equation_pieces params equation =
    place equation.variable (length equation.indices) ∷ names params equation.indices ∷ pieces equation.body (params ++ equation.indices)
