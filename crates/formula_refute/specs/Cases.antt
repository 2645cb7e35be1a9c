-- The cases of a formula, in order: lists of rows such that the formula is true at a whole point exactly where all
-- rows of some case are at least 0. `all_of` takes every choice of one case from each member, the last member fastest.
use Rattle.std.specs.Prelude.{ℕ, List, [], ◌∷◌, ◌++◌, map}
use Rattle.std.specs.List.{flat_map}
use Rattle.az_lin.specs.Affine.{Affine, Polyhedron}
use Rattle.formula_refute.specs.Claims.{Claim, atom, all_of, any_of, Claims, none, more}

-- each of the first with each of the second, rows joined
abbrev pub choices : List (List Affine) → List (List Affine) → List (List Affine)
choices firsts seconds = flat_map (λ first. map (λ second. first ++ second) seconds) firsts

abbrev mutual
  pub cases : Claim → List (List Affine)
  cases (atom row) = (row ∷ []) ∷ []
  cases (all_of cs) = cases_of_all cs
  cases (any_of cs) = cases_of_any cs

  pub cases_of_all : Claims → List (List Affine)
  cases_of_all none = [] ∷ []
  cases_of_all (more c cs) = choices (cases c) (cases_of_all cs)

  pub cases_of_any : Claims → List (List Affine)
  cases_of_any none = []
  cases_of_any (more c cs) = cases c ++ cases_of_any cs

abbrev pub system_of : ℕ → List Affine → Polyhedron
system_of width rows = record { width = width; rows = rows }

abbrev pub systems : ℕ → Claim → List Polyhedron
systems width c = map (system_of width) (cases c)

-- the most cases that a formula may have
abbrev pub most_systems : ℕ
most_systems = 131072
