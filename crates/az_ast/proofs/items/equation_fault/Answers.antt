use Rattle.std.proofs.Common.{rules, ◌≡◌, ◌+◌, ◌≤◌, length, take, refl, sym, ◌∙◌, arith, None, add-zero, add-one, add-suc}
use Rattle.std.specs.Prelude.{◌==◌}
use Rattle.az_ast.specs.Shapes.{equation_kind}
use Rattle.az_ast.proofs.ItemSteps.{passed}
use Rattle.az_ast.proofs.DistinctNumbers.{distinct_none, distinct_more, few_so_far}
use Rattle.az_ast.proofs.items.equation_fault.Goals as goal

few : (c : goal.In-Some) → c.items.place ≤ length c.args.variables.now
few c = few_so_far c.args.params c.args.variables.now c.args.equations.now c.items.place (omega arith) c.requires.declared c.items.invariant.distinct

pub items-init : goal.items-init
items-init c = record { rest = rw add-zero refl; distinct = distinct_none ◌==◌ }

pub overflow_cast-item-in-Some : goal.overflow_cast-item-in-Some
overflow_cast-item-in-Some c = let b = few c in let r = c.requires.few in omega (arith, b, r)

pub overflow_add-item-in-Some : goal.overflow_add-item-in-Some
overflow_add-item-in-Some c = let b = few c in let r = c.requires.few in omega (arith, b, r)

pub items-preserved : goal.items-preserved
items-preserved c =
    let kind = equation_kind c.args.params c.args.variables.now in
    let e = c.index-equations-place.result in
    let none : kind (take c.items.place c.args.equations.now) e ≡ None = search rules in
    let step = passed kind c.args.equations.now c.items.place e c.items-test.true c.index-equations-place.is (1 + length c.args.variables.now + c.items.place) none in
    record {
      rest = rw (add-one, add-suc) (sym step ∙ c.items.invariant.rest);
      distinct = distinct_more c.args.params c.args.variables.now c.args.equations.now c.items.place e c.items-test.true c.index-equations-place.is none c.items.invariant.distinct;
    }
