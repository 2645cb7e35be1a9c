-- Reductions taken out of pieces: each one that isn't the whole value of its piece becomes the access, at all indices
-- in scope, to a variable of its own, and that variable's equation is the reduction.
--
-- They are numbered in the order in which they begin, the outer one before those inside it.
use Rattle.std.specs.Prelude.{ℕ, suc, ◌+◌, ◌-◌, List, [], ◌∷◌, ◌++◌, length, map}
use Rattle.az_lin.specs.Affine.{Affine, Union}
use Rattle.az_lin.specs.Columns.{widened, unit_rows}
use Rattle.az_ast.specs.Term.{Term, constant, index, access, negation, binary, cases, reduction}
use Rattle.normalize_eqs.specs.Pieces.{Piece, rows_of, region}

-- what is in scope: so many columns, and the rows that hold
pub record Scope : Type 0 where
  pub width : ℕ
  pub rows : List Affine

abbrev pub inside : Scope → ℕ → Union → Scope
inside s extra domain = record { width = s.width + extra; rows = map (λ row. widened s.width extra row) s.rows ++ rows_of domain }

abbrev pub holding : Scope → List Affine → Scope
holding s rows = record { width = s.width; rows = s.rows ++ rows }

-- a reduction that was taken out, with the domain of its variable
pub record Fresh : Type 0 where
  pub domain : Union
  pub body : Term

-- what is left, and what was taken out
pub record Outlined : Type 0 where
  pub value : Term
  pub fresh : List Fresh

pub record OutlinedPieces : Type 0 where
  pub pieces : List Piece
  pub fresh : List Fresh

abbrev pub as_it_is : Term → Outlined
as_it_is e = record { value = e; fresh = [] }

-- in a program of so many parameters
module _ (params : ℕ) where
  abbrev pub at_all_indices : ℕ → ℕ → Term
  at_all_indices x width = access x (record { width = width; rows = unit_rows width params (width - params) })

  -- the next reduction gets the number `next`; the values of pieces have no case
  abbrev pub outline : ℕ → Scope → Term → Outlined
  outline next s (constant c) = as_it_is (constant c)
  outline next s (index row) = as_it_is (index row)
  outline next s (access x f) = as_it_is (access x f)
  outline next s (negation e) = let inner = outline next s e in record { value = negation inner.value; fresh = inner.fresh }
  outline next s (binary op a b) =
      let left = outline next s a in
      let right = outline (next + length left.fresh) s b in
      record { value = binary op left.value right.value; fresh = left.fresh ++ right.fresh }
  outline next s (cases branches) = as_it_is (cases branches)
  outline next s (reduction op extra domain e) =
      let inner = outline (suc next) (inside s extra domain) e in
      record { value = at_all_indices next s.width; fresh = record { domain = region s.width s.rows; body = reduction op extra domain inner.value } ∷ inner.fresh }

  -- a value that is a reduction stays, and those inside it are taken out
  abbrev pub outline_inside : ℕ → Scope → Term → Outlined
  outline_inside next s (constant c) = outline next s (constant c)
  outline_inside next s (index row) = outline next s (index row)
  outline_inside next s (access x f) = outline next s (access x f)
  outline_inside next s (negation e) = outline next s (negation e)
  outline_inside next s (binary op a b) = outline next s (binary op a b)
  outline_inside next s (cases branches) = outline next s (cases branches)
  outline_inside next s (reduction op extra domain e) =
      let inner = outline next (inside s extra domain) e in record { value = reduction op extra domain inner.value; fresh = inner.fresh }

  abbrev pub outline_all : ℕ → Scope → List Piece → OutlinedPieces
  outline_all next s [] = record { pieces = []; fresh = [] }
  outline_all next s (piece ∷ rest) =
      let first = outline_inside next (holding s piece.rows) piece.value in
      let others = outline_all (next + length first.fresh) s rest in
      record { pieces = record { rows = piece.rows; value = first.value } ∷ others.pieces; fresh = first.fresh ++ others.fresh }
