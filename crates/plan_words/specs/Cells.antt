-- Which instances are kept in one cell: those of one memory space whose coordinates agree modulo the factors.
use Rattle.std.specs.Prelude.{◌≡◌, ℕ, zero, suc, ℤ, pos, List, [], ◌∷◌, ◌++◌, true}
use Rattle.std.specs.Int.{int_rem_euclid}
use Rattle.execution.specs.declared.instance.Instance.{Instance}
use Rattle.target_map.specs.Settings.{TargetMapping}
use Rattle.target_map.specs.Storage.{shares_space}
use Rattle.target_map.specs.Times.{storage_of, cell_at}

-- a coordinate stands for itself without a factor, which is 0, and for its remainder else
abbrev pub reduced : ℕ → ℤ → ℤ
reduced zero a = a
reduced (suc less) a = int_rem_euclid a (pos (suc less))

abbrev pub all_reduced : List ℕ → List ℤ → List ℤ
all_reduced [] xs = []
all_reduced (factor ∷ factors) [] = []
all_reduced (factor ∷ factors) (x ∷ xs) = reduced factor x ∷ all_reduced factors xs

-- the coordinates of an instance's cell in its memory space
abbrev pub coordinates_of : TargetMapping → List ℤ → Instance → List ℤ
coordinates_of m params u = all_reduced (storage_of m u.variable).factors (cell_at m u.variable (params ++ u.point))

pub record AreOneCell (m : TargetMapping) (params : List ℤ) (u v : Instance) : Type 0 where
  pub space : shares_space m u.variable v.variable ≡ true
  pub coordinates : coordinates_of m params u ≡ coordinates_of m params v
