use Rattle.std.proofs.Common.{◌≡◌, ◌∷◌, ◌++◌, drop, map}
use Rattle.az_ast.proofs.Walks.{below}
use Rattle.expr_places.specs.Lent.{place_of}
use Rattle.expr_places.specs.Places.{case_over, places_below}
use Rattle.expr_places.proofs.walk.+push_places.Given as goal

-- what was found, with what is left to be found
abbrev pub invariant-loop-branch : goal.invariant-loop-branch
invariant-loop-branch l =
    map place_of l.found.items ++ places_below (below (drop l.branch-index l.branches)) l.scope
    ≡ map place_of l.fn.found.items ++ record { part = case_over (map (λ branch. branch.domain) l.branches); scope = l.scope } ∷ places_below (below l.branches) l.scope
