-- The formulas that are true where two instances may be kept in one cell, and where they are two.
use Rattle.std.specs.Prelude.{ℕ, zero, suc, ◌==◌, if◌then◌else◌, List, [], ◌∷◌, length, drop, pos}
use Rattle.az_lin.specs.Affine.{Affine, AffineMap}
use Rattle.az_lin.specs.Difference.{apart_by}
use Rattle.az_lin.specs.Substitution.{composed_map}
use Rattle.az_ast.specs.System.{System}
use Rattle.formula_refute.specs.Claims.{Claim, atom, all_of, any_of, claims, none}
use Rattle.order_sets.specs.NotBefore.{both_ways, apart, each_pair}
use Rattle.order_sets.specs.declared.visit.Visit.{Visit}
use Rattle.target_map.specs.Settings.{TargetMapping}
use Rattle.target_map.specs.Times.{storage_of}

-- equal, or at least the factor apart
abbrev pub meets : ℕ → Affine → Affine → Claim
meets zero u v = all_of (claims (both_ways u v))
meets (suc less) u v = any_of (claims (all_of (claims (both_ways u v)) ∷ atom (apart_by (pos (suc less)) u v) ∷ atom (apart_by (pos (suc less)) v u) ∷ []))

abbrev pub same_cell : List ℕ → List Affine → List Affine → List Claim
same_cell [] us vs = []
same_cell (factor ∷ factors) [] vs = []
same_cell (factor ∷ factors) (u ∷ us) [] = []
same_cell (factor ∷ factors) (u ∷ us) (v ∷ vs) = meets factor u v ∷ same_cell factors us vs

-- the coordinates of the cell
abbrev pub cell_map : TargetMapping → Visit → AffineMap
cell_map m visit = composed_map (storage_of m visit.variable).map visit.at

abbrev pub shared : TargetMapping → Visit → Visit → Claim
shared m u v = all_of (claims (same_cell (storage_of m v.variable).factors (cell_map m u).rows (cell_map m v).rows))

-- another variable, or another index somewhere
abbrev pub other : System → Visit → Visit → Claim
other p u v =
    if u.variable == v.variable
    then any_of (claims (each_pair apart (drop (length p.params) v.at.rows) (drop (length p.params) u.at.rows)))
    else all_of none
