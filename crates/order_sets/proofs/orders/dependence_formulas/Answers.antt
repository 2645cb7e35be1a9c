use Rattle.std.proofs.Common.{◌≡◌, ◌∙◌, ◌+◌, List, ◌++◌, length, map, take, ap, sym, subst, All, arith}
use Rattle.std.specs.List.{flat_map}
use Rattle.az_ast.specs.System.{System}
use Rattle.az_ast.specs.declared.program.Equation.{Equation}
use Rattle.domain_check.proofs.Grown.{flat_next, taken_all}
use Rattle.expr_places.specs.Reads.{reads_of}
use Rattle.order_sets.specs.Orders.{StatedClaim, orders_from, dependences}
use Rattle.order_sets.specs.Reading.{HasReads}
use Rattle.order_sets.specs.Stated.{stated_claim, FitsOrder, FitsOrders, IsRefutable}
use Rattle.order_sets.proofs.Listing.{item_has, all_more, stopped}
use Rattle.order_sets.proofs.Places.{taken_next}
use Rattle.order_sets.proofs.ReadFacts.{ready_reads}
use Rattle.order_sets.proofs.Widths.{dependences_refutable}
use Rattle.order_sets.proofs.orders.dependence_formulas.Goals as goal

pub push_orders-requires-clause-reads : goal.push_orders-requires-clause-reads
push_orders-requires-clause-reads c =
    let p = c.program-program.result.now in
    let ready : Equation → Type 0 = λ e. HasReads p e.variable (reads_of p e) in
    item_has ready c.equations-equation-items.result.now c.equations.equation-index c.equation-item.result c.equations-test.true c.equation-item.is
    (subst (λ (es : List Equation). All ready es) (sym c.equations-equation-items.ensures.value) (ready_reads p c.equations-equation-items.ensures.rules))

pub returns-in-Err-clause-answer : goal.returns-in-Err-clause-answer
returns-in-Err-clause-answer c =
    let p = c.program-program.result.now in
    let m = c.args.mapping.now in
    let e = c.equation-item.result in
    let fits : Equation → Type 0 = λ e. All (FitsOrder p m e.variable) (reads_of p e) in
    stopped (fits e) (FitsOrders c.args.checked.now m) (orders_from p m e.variable 0 (reads_of p e)) (dependences c.args.checked.now m) c.equations.list.items c.push_orders.new.list.items c.in-Err.fault c.in-Err.ensures
    (λ all.
    item_has fits c.equations-equation-items.result.now c.equations.equation-index e c.equations-test.true c.equation-item.is
    (subst (λ (es : List Equation). All fits es) (sym c.equations-equation-items.ensures.value) (subst (λ (q : System). FitsOrders q m) (sym c.program-program.ensures.value) all)))

pub equations-preserved : goal.equations-preserved
equations-preserved c =
    let p = c.program-program.result.now in
    let m = c.args.mapping.now in
    let e = c.equation-item.result in
    let items = c.equations-equation-items.result.now in
    let i = c.equations.equation-index in
    let orders : Equation → List StatedClaim = λ e. orders_from p m e.variable 0 (reads_of p e) in
    let fits : Equation → Type 0 = λ e. All (FitsOrder p m e.variable) (reads_of p e) in
    record {
      so_far = c.in-Ok.ensures.0 ∙ ap (λ (cs : List StatedClaim). cs ++ orders e) c.equations.invariant.so_far ∙ sym (flat_next orders items i e c.equations-test.true c.equation-item.is);
      fits = all_more fits (take i items) (take (i + 1) items) e (taken_next items i e c.equations-test.true c.equation-item.is) c.equations.invariant.fits c.in-Ok.ensures.1;
    }

pub returns-clause-refutable : goal.returns-clause-refutable
returns-clause-refutable c =
    let p = c.program-program.result.now in
    let m = c.args.mapping.now in
    let items = c.equations-equation-items.result.now in
    let orders : Equation → List StatedClaim = λ e. orders_from p m e.variable 0 (reads_of p e) in
    let end : c.equations.equation-index ≡ length items = omega arith in
    let whole : map stated_claim c.from_vec.result ≡ dependences p m =
    ap (map stated_claim) c.from_vec.ensures ∙ c.equations.invariant.so_far ∙ ap (flat_map orders) (taken_all items c.equations.equation-index end ∙ c.equations-equation-items.ensures.value) in
    subst (λ (cs : List StatedClaim). All IsRefutable cs) (sym whole) (dependences_refutable p m c.equations-equation-items.ensures.rules)
