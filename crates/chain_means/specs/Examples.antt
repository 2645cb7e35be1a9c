-- A chain by hand.
use Rattle.std.specs.Prelude.{◌↔◌, ℤ, pos, ◌≤ℤ◌, ◌<ℤ◌, List, [], ◌∷◌, ℕ, true, false, Some, None, codes}
use Rattle.az_lin.specs.Affine.{Holds}
use Rattle.grammar_rules.specs.declared.term.Term.{Term}
use Rattle.program_grammar.specs.declared.tree.Chain.{Chain}
use Rattle.program_grammar.specs.declared.tree.Relation.TheVariants.{AtMost, Below}
use Rattle.program_names.specs.Sides.{Scope, conjunction_of}

abbrev pub columns : Scope
columns = codes "N" ∷ codes "i" ∷ []

abbrev pub number : ℕ → List Term
number n = record { negative = false; factor = n; name = None } ∷ []

abbrev pub named : List ℕ → List Term
named name = record { negative = false; factor = 1; name = Some name } ∷ []

-- `0<=i<N`
abbrev pub interval : Chain
interval = record {
  first = number 0;
  links = record { relation = AtMost; side = named (codes "i") } ∷ record { relation = Below; side = named (codes "N") } ∷ [];
}

abbrev pub IntervalHolds : Type 0
IntervalHolds = (n i : ℤ) → Holds (conjunction_of columns (interval ∷ [])) (n ∷ i ∷ []) ↔ ((pos 0 ≤ℤ i) × (i <ℤ n))
