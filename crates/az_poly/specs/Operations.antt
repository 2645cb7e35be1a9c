-- The rows of each result, in order.
use Rattle.std.specs.Prelude.{ℕ, ℤ, List, [], ◌∷◌, ◌++◌, map}
use Rattle.std.specs.List.{flat_map}
use Rattle.az_lin.specs.Affine.{Affine, AffineMap, Polyhedron, Union}
use Rattle.az_lin.specs.Substitution.{shifted, composed}
use Rattle.az_lin.specs.Negation.{negated}

-- the rows of both
abbrev pub both : Polyhedron → Polyhedron → Polyhedron
both first second = record { width = first.width; rows = first.rows ++ second.rows }

-- each disjunct of the one with each of the other
abbrev pub intersection : Union → Union → Union
intersection a b = record { width = a.width; disjuncts = flat_map (λ first. map (λ second. both first second) b.disjuncts) a.disjuncts }

-- each row after the map
abbrev pub conj_before : AffineMap → Polyhedron → Polyhedron
conj_before f conj = record { width = f.width; rows = map (λ row. composed row f) conj.rows }

abbrev pub domain_before : AffineMap → Union → Union
domain_before f d = record { width = f.width; disjuncts = map (λ conj. conj_before f conj) d.disjuncts }

-- each row moved by the vector
abbrev pub conj_moved : List ℤ → Polyhedron → Polyhedron
conj_moved v conj = record { width = conj.width; rows = map (λ row. shifted row v) conj.rows }

abbrev pub domain_moved : List ℤ → Union → Union
domain_moved v d = record { width = d.width; disjuncts = map (λ conj. conj_moved v conj) d.disjuncts }

-- what is left of some rows where one more is not at least 0
abbrev pub piece : ℕ → List Affine → Affine → Polyhedron
piece width kept row = record { width = width; rows = kept ++ negated row ∷ [] }

-- row by row: those already passed are kept, the next is negated
abbrev pub pieces_from : ℕ → List Affine → List Affine → List Polyhedron
pieces_from width kept [] = []
pieces_from width kept (row ∷ rows) = piece width kept row ∷ pieces_from width (kept ++ row ∷ []) rows

abbrev pub pieces : Polyhedron → Polyhedron → List Polyhedron
pieces a b = pieces_from a.width a.rows b.rows
