use Rattle.std.proofs.Common.{subst}
use Rattle.std.proofs.lemmas.List.Elements.{All-more}
use Rattle.az_ast.specs.declared.program.Equation.{Equation}
use Rattle.rewriting.specs.Definitions.{definition_of}
use Rattle.rewriting.proofs.Made.{made-more}
use Rattle.rewriting.proofs.equations.changed_equations.Goals as goal

pub loop-equation-preserved : goal.loop-equation-preserved
loop-equation-preserved g c =
    let change = c.args.change.now in
    let equations = c.args.equations.now in
    let i = c.loop-equation.equation-index in
    let Fits : Equation → Type 0 = λ (e : Equation). g.C.EquationChange.fits change (definition_of e) in
    record {
      made = made-more (g.C.EquationChange.gives change) equations c.loop-equation.changed.items c.push_made.new.changed.items i c.equation-item.result c.in_ok-made.made c.loop-equation-test.true c.equation-item.is
          c.in_ok-made.ensures.0 c.in_ok-push_made.ensures c.loop-equation.invariant.made;
      fit = All-more Fits equations i c.equation-item.result c.loop-equation-test.true c.loop-equation.invariant.fit (subst Fits c.equation-item.is c.in_ok-made.ensures.1);
    }
