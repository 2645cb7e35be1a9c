use Rattle.std.proofs.Common.{◌≡◌, drop}
use Rattle.std.specs.List.{list_any}
use Rattle.program_names.specs.Pieces.{declaration_pieces}
use Rattle.program_names.specs.Refusals.{has_many_disjuncts}
use Rattle.program_names.proofs.limits.some_wide_declaration.Given as goal

-- the items that are left decide
abbrev pub invariant-items : goal.invariant-items
invariant-items l =
    list_any (λ item. list_any has_many_disjuncts (declaration_pieces l.params item)) (drop l.declaration-index l.declarations)
    ≡ list_any (λ item. list_any has_many_disjuncts (declaration_pieces l.params item)) l.declarations
