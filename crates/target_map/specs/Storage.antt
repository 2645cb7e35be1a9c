-- Which instances may be kept in one word.
use Rattle.std.specs.Prelude.{◌≡◌, ℕ, zero, suc, ℤ, pos, ◌+ℤ◌, ◌≤ℤ◌, ◌⊎◌, List, [], ◌∷◌, Bool, false, filter, length}
use Rattle.std.specs.FinMap.{get}
use Rattle.std.specs.List.{range_with_len}
use Rattle.std.specs.Option.{option_map_or}
use Rattle.std.specs.Str.{bytes_eq}
use Rattle.az_ast.specs.System.{System}
use Rattle.target_map.specs.Settings.{TargetMapping}

-- Two coordinates of cells that are the same modulo the factor are equal or at least the factor apart; without a
-- factor, which is 0, they are equal.
abbrev pub MayMeet : ℕ → ℤ → ℤ → Type 0
MayMeet zero a b = a ≡ b
MayMeet (suc less) a b = (a ≡ b) ⊎ (((b +ℤ pos (suc less)) ≤ℤ a) ⊎ ((a +ℤ pos (suc less)) ≤ℤ b))

-- each coordinate of two cells of one space
abbrev pub MayShare : List ℕ → List ℤ → List ℤ → Type 0
MayShare [] xs ys = Unit {0}
MayShare (factor ∷ factors) [] ys = Unit {0}
MayShare (factor ∷ factors) (a ∷ xs) [] = Unit {0}
MayShare (factor ∷ factors) (a ∷ xs) (b ∷ ys) = MayMeet factor a b × MayShare factors xs ys

-- the variables of a variable's space, in order of declaration
abbrev pub shares_space : TargetMapping → ℕ → ℕ → Bool
shares_space m x y =
    option_map_or (λ first. option_map_or (λ second. bytes_eq first.space second.space) (get m.storages y) false) (get m.storages x) false

abbrev pub writers_of : System → TargetMapping → ℕ → List ℕ
writers_of p m x = filter (shares_space m x) (range_with_len 0 (length p.variables))
