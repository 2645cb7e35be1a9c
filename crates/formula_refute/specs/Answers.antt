-- What the other calls answer. Want of memory may stand for any answer.
use Rattle.std.specs.Prelude.{◌≡◌, ◌≤◌, ◌<◌, ℕ, List, length, Result, Ok, Err}
use Rattle.az_lin.specs.Affine.{Polyhedron}
use Rattle.az_lin.specs.declared.limit.Limit.TheVariants.{Systems}
use Rattle.formula_refute.specs.Claims.{Claim, claim, IsInRange}
use Rattle.formula_refute.specs.Opposite.{opposite}
use Rattle.formula_refute.specs.Cases.{systems, most_systems}
use Rattle.formula_refute.specs.Fronts.{IsFront}
use Rattle.formula_refute.specs.declared.formula.Formula.{Formula}
use Rattle.formula_refute.specs.declared.front.Front.{Front}
use Rattle.formula_refute.specs.declared.fault.RefuteFault.{RefuteFault}
use Rattle.formula_refute.specs.declared.fault.RefuteFault.TheVariants.{Overflow, Entry, Limit, Memory}

-- the opposite where its entries are in range, and else `Entry`
abbrev pub Negates : Claim → Result Formula RefuteFault → Type 0
Negates c (Ok formula) = (claim formula ≡ opposite c) × IsInRange (opposite c)
Negates c (Err Entry) = IsInRange (opposite c) → ⊥
Negates c (Err (Overflow number)) = ⊥
Negates c (Err (Limit limit)) = ⊥
Negates c (Err Memory) = Unit {0}

-- the systems in order where they are few enough, and else the limit
abbrev pub GivesCases : ℕ → Claim → Result (List Polyhedron) RefuteFault → Type 0
GivesCases width c (Ok list) = (list ≡ systems width c) × (length (systems width c) ≤ most_systems)
GivesCases width c (Err (Limit limit)) = (limit ≡ Systems) × (most_systems < length (systems width c))
GivesCases width c (Err (Overflow number)) = ⊥
GivesCases width c (Err Entry) = ⊥
GivesCases width c (Err Memory) = Unit {0}

abbrev pub GivesFront : List Polyhedron → Result Front RefuteFault → Type 0
GivesFront systems (Ok front) = IsFront systems front
GivesFront systems (Err fault) = fault ≡ Memory

-- the front of a formula's cases where they are few enough, and else the limit
abbrev pub GivesCaseFront : List Polyhedron → Result Front RefuteFault → Type 0
GivesCaseFront systems (Ok front) = (length systems ≤ most_systems) × IsFront systems front
GivesCaseFront systems (Err (Limit limit)) = (limit ≡ Systems) × (most_systems < length systems)
GivesCaseFront systems (Err (Overflow number)) = ⊥
GivesCaseFront systems (Err Entry) = ⊥
GivesCaseFront systems (Err Memory) = Unit {0}
