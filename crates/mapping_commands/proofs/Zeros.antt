-- Zeros are entries in range.
use Rattle.std.proofs.Common.{List, [], ◌∷◌, pos, arith}
use Rattle.std.specs.Prelude.{map, All}
use Rattle.std.proofs.lemmas.List.Elements.{All-nil, All-cons}
use Rattle.az_lin.specs.Affine.{IsEntry}

pub zeros_fit : {A : Type 0} (xs : List A) → All IsEntry (map (λ (x : A). pos 0) xs)
zeros_fit [] = All-nil IsEntry
zeros_fit {A} (x ∷ xs) = All-cons IsEntry (pos 0) (map (λ (y : A). pos 0) xs) (omega arith) (zeros_fit xs)
