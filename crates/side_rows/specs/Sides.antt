-- Affine sides as rows. A scope is the list of the names of the columns, in their order. The entry of a
-- column is the sum of the factors of the terms with its name, over unbounded whole numbers, and the
-- constant that of the terms without a name.
use Rattle.std.specs.Prelude.{ℕ, Bool, true, false, if◌then◌else◌, List, [], ◌∷◌, length, map, ℤ, pos, ◌+ℤ◌, ◌-ℤ◌, neg_ℤ, Option, Some, None}
use Rattle.std.specs.Option.{option_map_or}
use Rattle.std.specs.Str.{bytes_eq}
use Rattle.az_lin.specs.Affine.{Affine, AffineMap}
use Rattle.grammar_rules.specs.declared.term.Term.{Term}

abbrev pub Scope : Type 0
Scope = List (List ℕ)

-- whether a term belongs to the column of this name, or to the constant
abbrev pub is_of : Option (List ℕ) → Term → Bool
is_of (Some name) term = option_map_or (bytes_eq name) term.name false
is_of None term = option_map_or (λ name. false) term.name true

abbrev pub signed : Bool → ℕ → ℤ
signed negative n = if negative then neg_ℤ (pos n) else pos n

abbrev pub sum_of : Option (List ℕ) → List Term → ℤ
sum_of column [] = pos 0
sum_of column (term ∷ terms) = (if is_of column term then signed term.negative term.factor else pos 0) +ℤ sum_of column terms

-- what a row is made of: one side less another, and less 1 where it is strict
pub record Difference : Type 0 where
  pub left : List Term
  pub right : List Term
  pub strict : Bool

abbrev pub gap_of : Option (List ℕ) → Bool → ℤ
gap_of (Some name) strict = pos 0
gap_of None strict = if strict then pos 1 else pos 0

abbrev pub entry_of : Difference → Option (List ℕ) → ℤ
entry_of d column = (sum_of column d.left -ℤ sum_of column d.right) -ℤ gap_of column d.strict

abbrev pub row_of : Scope → Difference → Affine
row_of scope d = record { coefs = map (λ name. entry_of d (Some name)) scope; konst = entry_of d None }

abbrev pub less : List Term → List Term → Bool → Difference
less left right strict = record { left = left; right = right; strict = strict }

abbrev pub alone : List Term → Difference
alone side = less side [] false

-- a map over a scope
abbrev pub map_of : Scope → List (List Term) → AffineMap
map_of scope sides = record { width = length scope; rows = map (λ side. row_of scope (alone side)) sides }
