-- Walks over an expression: its parts, itself first and then in order of evaluation; the accesses among
-- them; the domains of branches and reductions; and how many indices of reductions a part stands under.
use Rattle.std.specs.Prelude.{ℕ, ◌+◌, max, nat_lt, Bool, ◌||◌, List, [], ◌∷◌, ◌++◌, length, flat_map}
use Rattle.az_lin.specs.Affine.{AffineMap, Union}
use Rattle.az_ast.specs.Term.{Term, constant, index, access, negation, binary, cases, reduction, Choices, none, choice}

abbrev mutual
  pub parts : Term → List Term
  parts (constant c) = constant c ∷ []
  parts (index row) = index row ∷ []
  parts (access x f) = access x f ∷ []
  parts (negation e) = negation e ∷ parts e
  parts (binary op a b) = binary op a b ∷ (parts a ++ parts b)
  parts (cases branches) = cases branches ∷ parts_below branches
  parts (reduction op extra domain e) = reduction op extra domain e ∷ parts e

  pub parts_below : Choices → List Term
  parts_below none = []
  parts_below (choice domain e rest) = parts e ++ parts_below rest

-- the accesses, as the numbers of the variables and the maps to the points read
abbrev pub own_accesses : Term → List (ℕ × AffineMap)
own_accesses (constant c) = []
own_accesses (index row) = []
own_accesses (access x f) = (x, f) ∷ []
own_accesses (negation e) = []
own_accesses (binary op a b) = []
own_accesses (cases branches) = []
own_accesses (reduction op extra domain e) = []

abbrev pub accesses : Term → List (ℕ × AffineMap)
accesses t = flat_map own_accesses (parts t)

-- the domains
abbrev pub branch_domains : Choices → List Union
branch_domains none = []
branch_domains (choice domain e rest) = domain ∷ branch_domains rest

abbrev pub own_domains : Term → List Union
own_domains (constant c) = []
own_domains (index row) = []
own_domains (access x f) = []
own_domains (negation e) = []
own_domains (binary op a b) = []
own_domains (cases branches) = branch_domains branches
own_domains (reduction op extra domain e) = domain ∷ []

abbrev pub domains : Term → List Union
domains t = flat_map own_domains (parts t)

-- a number of disjuncts outside these bounds
abbrev pub is_outside : ℕ → ℕ → Union → Bool
is_outside least most domain = nat_lt (length domain.disjuncts) least || nat_lt most (length domain.disjuncts)

-- the most extra indices, of all reductions around it together, that a part stands under
abbrev mutual
  pub extra_under : Term → ℕ
  extra_under (constant c) = 0
  extra_under (index row) = 0
  extra_under (access x f) = 0
  extra_under (negation e) = extra_under e
  extra_under (binary op a b) = max (extra_under a) (extra_under b)
  extra_under (cases branches) = extra_below branches
  extra_under (reduction op extra domain e) = extra + extra_under e

  pub extra_below : Choices → ℕ
  extra_below none = 0
  extra_below (choice domain e rest) = max (extra_under e) (extra_below rest)
