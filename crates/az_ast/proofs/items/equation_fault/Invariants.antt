use Rattle.std.proofs.Common.{◌≡◌, ◌+◌, [], length, take}
use Rattle.std.specs.Prelude.{◌==◌}
use Rattle.std.specs.List.{IsDistinct}
use Rattle.az_ast.proofs.DistinctNumbers.{numbers}
use Rattle.az_ast.specs.Shapes.{equation_kind, kinds_after, first_kind}
use Rattle.az_ast.proofs.ItemSteps.{kinds_from}
use Rattle.az_ast.proofs.items.equation_fault.Given as goal

-- the variables so far differ, so that there are no more than are declared
abbrev pub invariant-items : goal.invariant-items
invariant-items l = record {
  rest : first_kind ((1 + length l.variables) + l.place) (kinds_from (equation_kind l.params l.variables) l.equations l.place)
      ≡ first_kind (1 + length l.variables) (kinds_after (equation_kind l.params l.variables) [] l.equations);
  distinct : IsDistinct ◌==◌ (numbers (take l.place l.equations));
}
