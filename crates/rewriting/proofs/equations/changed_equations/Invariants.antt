use Rattle.std.proofs.Common.{◌≡◌, map, take, All}
use Rattle.std.specs.Prelude.{filter_map}
use Rattle.rewriting.specs.Definitions.{definition_of}
use Rattle.rewriting.proofs.equations.changed_equations.Given as goal

-- what was made of those before
abbrev pub invariant-loop-equation : goal.invariant-loop-equation
invariant-loop-equation g l = record {
  made : map definition_of l.changed.items ≡ filter_map (g.C.EquationChange.gives l.change) (map definition_of (take l.equation-index l.equations));
  fit : All (λ equation. g.C.EquationChange.fits l.change (definition_of equation)) (take l.equation-index l.equations);
}
