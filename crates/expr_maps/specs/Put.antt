-- An expression with a map put in for the columns of its place: at a point it has the value that the
-- expression has at the point's image. The extra indices of its reductions stay, behind the map's columns.
use Rattle.std.specs.Prelude.{◌≡◌, ℕ, ◌≤◌, ℤ, List, length, take, All}
use Rattle.az_lin.specs.Affine.{AffineMap, HasWidth, image_of}
use Rattle.az_lin.specs.Substitution.{composed, composed_map}
use Rattle.az_ast.specs.Term.{Term, constant, index, access, negation, binary, cases, reduction, Choices, none, choice}
use Rattle.az_poly.specs.Operations.{domain_before}
use Rattle.az_lin.specs.Columns.{extended}

abbrev mutual
  pub put : AffineMap → Term → Term
  put f (constant c) = constant c
  put f (index row) = index (composed row f)
  put f (access x g) = access x (composed_map g f)
  put f (negation e) = negation (put f e)
  put f (binary op a b) = binary op (put f a) (put f b)
  put f (cases branches) = cases (put_below f branches)
  put f (reduction op extra domain e) = reduction op extra (domain_before (extended extra f) domain) (put (extended extra f) e)

  pub put_below : AffineMap → Choices → Choices
  put_below f none = none
  put_below f (choice domain e rest) = choice (domain_before f domain) (put f e) (put_below f rest)

-- the map takes the one point to the other, and leaves the parameters as they are
pub record Carries (params : ℕ) (f : AffineMap) (z y : List ℤ) : Type 0 where
  pub rows : All (HasWidth f.width) f.rows
  pub long : length z ≡ f.width
  pub image : image_of f z ≡ y
  pub wide : params ≤ length y
  pub kept : take params y ≡ take params z
