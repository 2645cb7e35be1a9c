-- Why a domain is finite over its own indices: along no index, neither up nor down, can a direction go on
-- for ever.
--
-- The rows of a domain change along a direction of its own indices by their coefficients there. A
-- direction goes on for ever if no row falls along it. The system over directions says that none falls and
-- that the index moves; multipliers that balance it bound the index at fixed outer coordinates.
use Rattle.std.specs.Prelude.{◌+◌, ◌<◌, ◌≤◌, ℕ, List, [], ◌∷◌, ◌++◌, length, map, replicate, slice_set, All, ℤ, pos, negsuc}
use Rattle.std.specs.List.{range_with_len}
use Rattle.az_lin.specs.Affine.{Affine, Union}
use Rattle.farkas_check.specs.Directions.{coef_at, BalancingMultipliers}

-- how a row changes along a direction of the columns from `outer` on
abbrev pub slope : ℕ → ℕ → Affine → Affine
slope outer extra row = record { coefs = map (λ j. coef_at row (outer + j)) (range_with_len 0 extra); konst = pos 0 }

-- the index moves by at least one: up for the sign 1, down for -1
abbrev pub moves : ℕ → ℕ → ℤ → Affine
moves extra j sign = record { coefs = slice_set (replicate extra (pos 0)) j sign; konst = negsuc 0 }

abbrev pub directions : ℕ → ℕ → List Affine → ℕ → ℤ → List Affine
directions outer extra rows j sign = map (slope outer extra) rows ++ moves extra j sign ∷ []

abbrev pub HasNoDirection : ℕ → ℕ → List Affine → Type 0
HasNoDirection outer extra rows =
    (j : ℕ) → j < extra → BalancingMultipliers (directions outer extra rows j (pos 1)) × BalancingMultipliers (directions outer extra rows j (negsuc 0))

-- `around` are rows over the outer columns alone, as those of the enclosing domains
pub record IsBalanced (around : List Affine) (domain : Union) (outer extra : ℕ) : Type 0 where
  pub outside : All (λ row. length row.coefs ≤ outer) around
  pub disjuncts : All (λ conj. HasNoDirection outer extra (around ++ conj.rows)) domain.disjuncts
