use Rattle.std.proofs.Common.{◌≡◌, ◌+◌, [], take}
use Rattle.std.specs.List.{IsDistinct}
use Rattle.std.specs.Str.{bytes_eq}
use Rattle.az_ast.specs.Shapes.{kinds_after, first_kind}
use Rattle.az_ast.proofs.ItemSteps.{kinds_from}
use Rattle.program_names.specs.Refusals.{equation_kind}
use Rattle.program_names.proofs.ItemLaws.{equated, AreDeclared}
use Rattle.program_names.proofs.faults.equation_fault.Given as goal

-- the variables so far differ and are declared, so that there are no more than are declared
abbrev pub invariant-items : goal.invariant-items
invariant-items l = record {
  rest : first_kind (l.item + l.place) (kinds_from (equation_kind l.text) l.text.equations l.place)
      ≡ first_kind l.item (kinds_after (equation_kind l.text) [] l.text.equations);
  distinct : IsDistinct bytes_eq (equated (take l.place l.text.equations));
  declared : AreDeclared l.text (take l.place l.text.equations);
}
