-- An expression in pieces, without a case: each piece has the rows that say where it counts, and what the expression
-- is there.
--
-- A reduction is one piece, which counts everywhere: it is split over the pieces of its body, each of which counts
-- at the points where its own rows hold beside those of the reduction, and the parts are joined by its operator.
-- Without a piece in its body it is what its operator gives of no point.
use Rattle.std.specs.Prelude.{ℕ, List, [], ◌∷◌, ◌++◌, map, flat_map}
use Rattle.az_lin.specs.Affine.{Affine, Union}
use Rattle.az_ast.specs.Operators.{identity}
use Rattle.az_ast.specs.Term.{Term, constant, index, access, negation, binary, cases, reduction, Choices, none, choice, choices}
use Rattle.az_ast.specs.declared.op.Op.{Op}

pub record Piece : Type 0 where
  pub rows : List Affine
  pub value : Term

abbrev pub everywhere : Term → Piece
everywhere e = record { rows = []; value = e }

abbrev pub negated : Piece → Piece
negated piece = record { rows = piece.rows; value = negation piece.value }

abbrev pub within : List Affine → Piece → Piece
within rows piece = record { rows = rows ++ piece.rows; value = piece.value }

abbrev pub both : Op → Piece → Piece → Piece
both op a b = record { rows = a.rows ++ b.rows; value = binary op a.value b.value }

-- each of the left pieces with each of the right ones, the right ones faster
abbrev pub pairs : Op → List Piece → List Piece → List Piece
pairs op lefts rights = flat_map (λ a. map (both op a) rights) lefts

-- the rows of a domain with one disjunct, and the domain with these rows
abbrev pub rows_of : Union → List Affine
rows_of domain = flat_map (λ conj. conj.rows) domain.disjuncts

abbrev pub region : ℕ → List Affine → Union
region width rows = record { width = width; disjuncts = record { width = width; rows = rows } ∷ [] }

-- a reduction over those of its points at which a piece of its body counts
abbrev pub over_piece : Op → ℕ → Union → Piece → Term
over_piece op extra domain piece = reduction op extra (region domain.width (rows_of domain ++ piece.rows)) piece.value

-- the operator between expressions, from the left
abbrev pub joined : Op → Term → List Term → Term
joined op e [] = e
joined op e (next ∷ rest) = joined op (binary op e next) rest

abbrev pub all_joined : Op → List Term → Term
all_joined op [] = constant (identity op)
all_joined op (e ∷ rest) = joined op e rest

abbrev mutual
  pub pieces : Term → List Piece
  pieces (constant c) = everywhere (constant c) ∷ []
  pieces (index row) = everywhere (index row) ∷ []
  pieces (access x f) = everywhere (access x f) ∷ []
  pieces (negation e) = map negated (pieces e)
  pieces (binary op a b) = pairs op (pieces a) (pieces b)
  pieces (cases branches) = pieces_below branches
  pieces (reduction op extra domain e) = everywhere (all_joined op (map (over_piece op extra domain) (pieces e))) ∷ []

  pub pieces_below : Choices → List Piece
  pieces_below none = []
  pieces_below (choice domain e rest) = map (within (rows_of domain)) (pieces e) ++ pieces_below rest

-- the expression of the pieces: the one that counts everywhere alone, else a case with a branch for each
abbrev pub branch_of : ℕ → Piece → Union × Term
branch_of width piece = (region width piece.rows, piece.value)

abbrev pub case_of : ℕ → List Piece → Term
case_of width ps = cases (choices (map (branch_of width) ps))

abbrev pub alone_or_case : ℕ → Piece → List Affine → Term
alone_or_case width piece [] = piece.value
alone_or_case width piece (row ∷ rows) = case_of width (piece ∷ [])

abbrev pub put_together : ℕ → List Piece → Term
put_together width [] = case_of width []
put_together width (piece ∷ []) = alone_or_case width piece piece.rows
put_together width (piece ∷ other ∷ rest) = case_of width (piece ∷ other ∷ rest)
