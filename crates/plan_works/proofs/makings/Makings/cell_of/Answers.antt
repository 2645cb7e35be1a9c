use Rattle.std.proofs.Common.{◌≡◌, ◌++◌, ap, sym, subst, ◌∙◌, arith}
use Rattle.plan_cells.proofs.Apart.{kept-apart}
use Rattle.plan_cells.specs.Numbering.{HasCell, number_in}
use Rattle.plan_words.specs.Cells.{all_reduced}
use Rattle.target_map.specs.Times.{storage_of, cell_at}
use Rattle.plan_works.proofs.makings.Makings.cell_of.Goals as goal

pub cell_of-cell-requires-clause-cell : goal.cell_of-cell-requires-clause-cell
cell_of-cell-requires-clause-cell c =
    let can = c.requires.can in
    let params = c.args.self.now.given.params.now in
    let m = c.args.self.now.mapping.now in
    let u = c.args.u.now in
    let same : c.deref.result.now ≡ params ++ u.point = c.deref.ensures.value ∙ (c.in_ok-extend_from_slice.ensures.items ∙ (λ i. c.in_ok-z.ensures.items i ++ c.as_slice.ensures i)) in
    let apart = kept-apart m can.certified.mapping params c.args.self.now.given.program.now can.certified.map.complete c.args.self.now.instances.now can.keepable c.args.self.now.cells.now can.are in
    subst (λ z. HasCell c.args.self.now.cells.now u.variable (all_reduced (storage_of m u.variable).factors (cell_at m u.variable z))) (sym same) (apart.within u c.requires.listed)

pub overflow_cast-result : goal.overflow_cast-result
overflow_cast-result c =
    let can = c.requires.can in
    let params = c.args.self.now.given.params.now in
    let m = c.args.self.now.mapping.now in
    let u = c.args.u.now in
    let numbers = c.args.self.now.cells.now in
    let same : c.deref.result.now ≡ params ++ u.point = c.deref.ensures.value ∙ (c.in_ok-extend_from_slice.ensures.items ∙ (λ i. c.in_ok-z.ensures.items i ++ c.as_slice.ensures i)) in
    let apart = kept-apart m can.certified.mapping params c.args.self.now.given.program.now can.certified.map.complete c.args.self.now.instances.now can.keepable numbers can.are in
    let value = c.cell_of-cell.ensures ∙ ap (λ z. number_in numbers u.variable (all_reduced (storage_of m u.variable).factors (cell_at m u.variable z))) same in
    omega (arith, value, apart.below u c.requires.listed, can.are.few)
