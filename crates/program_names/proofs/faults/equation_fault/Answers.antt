use Rattle.std.proofs.Common.{rules, get_or, ◌<◌, ◌≡◌, ◌+◌, length, take, refl, sym, ◌∙◌, arith, None, add-zero, add-one, add-suc, length-take-le}
use Rattle.std.specs.Str.{bytes_eq}
use Rattle.az_ast.proofs.DistinctNumbers.{distinct_none}
use Rattle.az_ast.proofs.ItemSteps.{passed}
use Rattle.program_names.specs.Refusals.{equation_kind}
use Rattle.program_names.proofs.ItemLaws.{distinct_more, declared_more, few_so_far}
use Rattle.program_names.proofs.faults.equation_fault.Goals as goal

pub items-init : goal.items-init
items-init c = record { rest = rw add-zero refl; distinct = distinct_none bytes_eq; declared = tt }

pub overflow_cast-item : goal.overflow_cast-item
overflow_cast-item c =
    let text = c.args.text.now in
    let bound = few_so_far text (take c.items.place text.equations) c.items.invariant.declared c.items.invariant.distinct in
    let within : c.items.place < length text.equations = search rules in
    let count = length-take-le c.items.place text.equations (omega (arith, within)) in
    let few = c.requires.few in
    omega (arith, bound, count, few)

pub overflow_add-item : goal.overflow_add-item
overflow_add-item c =
    let text = c.args.text.now in
    let bound = few_so_far text (take c.items.place text.equations) c.items.invariant.declared c.items.invariant.distinct in
    let within : c.items.place < length text.equations = search rules in
    let count = length-take-le c.items.place text.equations (omega (arith, within)) in
    let few = c.requires.few in
    let item = c.requires.item in
    omega (arith, bound, count, few, item)

pub items-preserved : goal.items-preserved
items-preserved c =
    let text = c.args.text.now in
    let kind = equation_kind text in
    let e = c.index-equations-place.result in
    let none : kind (take c.items.place text.equations) e ≡ None = search rules in
    let within : c.items.place < length text.equations = search rules in
    let here : e ≡ get_or text.equations c.items.place e = search rules in
    let step = passed kind text.equations c.items.place e within here (c.args.item + c.items.place) none in
    record {
      rest = rw (add-one, add-suc) (sym step ∙ c.items.invariant.rest);
      distinct = distinct_more text text.equations c.items.place e within here none c.items.invariant.distinct;
      declared = declared_more text text.equations c.items.place e within here none c.items.invariant.declared;
    }
