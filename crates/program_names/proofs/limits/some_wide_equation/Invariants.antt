use Rattle.std.proofs.Common.{◌≡◌, drop}
use Rattle.std.specs.List.{list_any}
use Rattle.program_names.specs.Pieces.{equation_pieces}
use Rattle.program_names.specs.Refusals.{has_many_disjuncts}
use Rattle.program_names.proofs.limits.some_wide_equation.Given as goal

-- the items that are left decide
abbrev pub invariant-items : goal.invariant-items
invariant-items l =
    list_any (λ item. list_any has_many_disjuncts (equation_pieces l.params item)) (drop l.equation-index l.equations)
    ≡ list_any (λ item. list_any has_many_disjuncts (equation_pieces l.params item)) l.equations
