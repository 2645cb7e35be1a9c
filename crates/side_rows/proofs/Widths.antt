-- The rows of sides have the scope's width.
use Rattle.std.proofs.Common.{ℕ, List, length, get_or, Some}
use Rattle.std.specs.Prelude.{map, All}
use Rattle.std.proofs.lemmas.List.{length-map}
use Rattle.std.proofs.lemmas.List.Elements.{All-map}
use Rattle.az_lin.specs.Affine.{HasWidth}
use Rattle.grammar_rules.specs.declared.term.Term.{Term}
use Rattle.side_rows.specs.Sides.{Scope, alone, row_of, entry_of}

pub sides-wide : (scope : Scope) (sides : List (List Term)) → All (HasWidth (length scope)) (map (λ (side : List Term). row_of scope (alone side)) sides)
sides-wide scope sides = All-map (HasWidth (length scope)) (λ (side : List Term). row_of scope (alone side)) sides (λ k d h. length-map scope (λ name. entry_of (alone (get_or sides k d)) (Some name)))
