-- An expression whose accesses are replaced, each by an expression for its variable and map.
use Rattle.std.specs.Prelude.{ℕ}
use Rattle.az_lin.specs.Affine.{AffineMap}
use Rattle.az_ast.specs.Term.{Term, constant, index, access, negation, binary, cases, reduction, Choices, none, choice}

module _ (at : ℕ → AffineMap → Term) where
  abbrev mutual
    pub replaced : Term → Term
    replaced (constant c) = constant c
    replaced (index row) = index row
    replaced (access x f) = at x f
    replaced (negation e) = negation (replaced e)
    replaced (binary op a b) = binary op (replaced a) (replaced b)
    replaced (cases branches) = cases (replaced_below branches)
    replaced (reduction op extra domain e) = reduction op extra domain (replaced e)

    pub replaced_below : Choices → Choices
    replaced_below none = none
    replaced_below (choice domain e rest) = choice domain (replaced e) (replaced_below rest)
