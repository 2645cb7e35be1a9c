-- What a chain says at a point. A name stands for the coordinate in its column, and each two neighbours
-- compare as the sign between them says.
use Rattle.std.specs.Prelude.{◌≡◌, ◌↔◌, ◌≢◌, ℤ, pos, ◌+ℤ◌, ◌*ℤ◌, ◌≤ℤ◌, ◌<ℤ◌, List, [], ◌∷◌, ℕ, if◌then◌else◌, bytes_eq, All}
use Rattle.std.specs.Option.{option_map_or}
use Rattle.std.specs.List.{AllByRecursion}
use Rattle.az_lin.specs.Affine.{Holds}
use Rattle.az_lin.specs.Substitution.{Point}
use Rattle.grammar_rules.specs.declared.term.Term.{Term}
use Rattle.program_grammar.specs.declared.tree.Chain.{Chain}
use Rattle.program_grammar.specs.declared.tree.Link.{Link}
use Rattle.program_grammar.specs.declared.tree.Relation.{Relation}
use Rattle.program_grammar.specs.declared.tree.Relation.TheVariants.{AtMost, Below, AtLeast, Above, Equal}
use Rattle.program_names.specs.Sides.{Scope, signed, conjunction_of}

-- no name stands twice
abbrev pub AreDifferent : Scope → Type 0
AreDifferent [] = Unit {0}
AreDifferent (name ∷ names) = AllByRecursion (λ other. other ≢ name) names × AreDifferent names

-- the coordinate in the column of a name, and 0 where there is none
abbrev pub coordinate : Scope → Point → List ℕ → ℤ
coordinate [] z name = pos 0
coordinate (column ∷ scope) [] name = pos 0
coordinate (column ∷ scope) (x ∷ z) name = if bytes_eq column name then x else coordinate scope z name

-- the values of a term and of a side
abbrev pub term_at : Scope → Point → Term → ℤ
term_at scope z term = signed term.negative term.factor *ℤ option_map_or (coordinate scope z) term.name (pos 1)

abbrev pub side_at : Scope → Point → List Term → ℤ
side_at scope z [] = pos 0
side_at scope z (term ∷ terms) = term_at scope z term +ℤ side_at scope z terms

abbrev pub Compare : Relation → ℤ → ℤ → Type 0
Compare AtMost a b = a ≤ℤ b
Compare Below a b = a <ℤ b
Compare AtLeast a b = b ≤ℤ a
Compare Above a b = b <ℤ a
Compare Equal a b = a ≡ b

-- the comparisons of a side with the one behind it, and on from there
abbrev pub LinksHold : Scope → Point → List Term → List Link → Type 0
LinksHold scope z side [] = Unit {0}
LinksHold scope z side (link ∷ links) =
    Compare link.relation (side_at scope z side) (side_at scope z link.side) × LinksHold scope z link.side links

abbrev pub ChainHolds : Scope → Point → Chain → Type 0
ChainHolds scope z chain = LinksHold scope z chain.first chain.links

-- the rows that are read of chains are at least 0 exactly where all comparisons hold
abbrev pub ChainsHold : Type 0
ChainsHold = (scope : Scope) (chains : List Chain) (z : Point) → AreDifferent scope →
    Holds (conjunction_of scope chains) z ↔ All (ChainHolds scope z) chains
