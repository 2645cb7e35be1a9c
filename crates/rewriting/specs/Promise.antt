-- The promise of a rewriting: whatever the tables, at parameters of the parameter domain each variable that stays
-- means at each of its points what it means afterwards where that point went, and nothing else.
--
-- A point has as many indices as its variable. Where it went is given by the variable's number there and by its
-- indices; a variable that is left out went nowhere. Outputs stay, at their points.
use Rattle.std.specs.Prelude.{◌≡◌, ◌↔◌, ℕ, ℤ, List, length, slice_get, MatchOption, Option, Some}
use Rattle.az_lin.specs.Affine.{HoldsSome}
use Rattle.az_ast.specs.Meaning.{Means}
use Rattle.az_ast.specs.Shapes.{indices}
use Rattle.az_ast.specs.System.{System}
use Rattle.az_ast.specs.Tables.{Tables}

-- at a variable's number, the parameters and the indices
abbrev pub Moves : Type 0
Moves = ℕ → List ℤ → List ℤ → Option (ℕ × List ℤ)

abbrev pub stays : Moves
stays x params k = Some (x, k)

abbrev pub HasIndices : System → ℕ → List ℤ → Type 0
HasIndices p x k = MatchOption (slice_get p.variables x) ⊥ (λ variable. length k ≡ indices (length p.params) variable)

abbrev pub KeepsMeaning : System → System → Moves → Type 0
KeepsMeaning p q moved =
    (tables : Tables) (params : List ℤ) (x : ℕ) (k : List ℤ) (v : ℤ) → HoldsSome p.pdom params → HasIndices p x k →
    MatchOption (moved x params k) (Unit {0}) (λ there. Means p tables params x k v ↔ Means q tables params there.0 there.1 v)
