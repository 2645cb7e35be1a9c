use Rattle.std.proofs.Common.{◌≡◌, ◌∙◌, ◌+◌, ◌<◌, List, [], ◌∷◌, ◌++◌, length, map, take, ap, sym, subst, All, arith}
use Rattle.std.proofs.lemmas.List.{length-map, length-take-le}
use Rattle.domain_check.proofs.Grown.{mapped_at, taken_all}
use Rattle.expr_places.specs.Lent.{place_of, read_of}
use Rattle.expr_places.specs.Reads.{ReadPlace, reads_of}
use Rattle.formula_refute.specs.Claims.{Claim, claim}
use Rattle.formula_refute.specs.declared.formula.Formula.{Formula}
use Rattle.order_sets.specs.Orders.{StatedClaim, order_claim, order_of, orders_from}
use Rattle.order_sets.specs.Reading.{IsReadOf}
use Rattle.order_sets.specs.Stated.{stated_claim, FitsOrder}
use Rattle.order_sets.specs.declared.stated.Stated.{Stated}
use Rattle.order_sets.proofs.Formulas.{lacks, has}
use Rattle.order_sets.proofs.Listing.{mapped_next, all_more, stated_more, orders_next}
use Rattle.order_sets.proofs.ReadLists.{reads_are}
use Rattle.target_map.specs.declared.which.Which.TheVariants.{Order}
use Rattle.order_sets.proofs.orders.push_orders.Goals as goal

pub order_formula-requires-clause-read : goal.order_formula-requires-clause-read
order_formula-requires-clause-read c =
    let p = c.args.program.now in
    let e = c.args.equation.now in
    let items = c.in_ok-reads.reads.items in
    let list : map read_of items ≡ reads_of p e =
    reads_are p e c.variables.result.now (map place_of c.as_slice.result.now) (map read_of items) c.in_ok-reads.ensures c.variables.ensures.value (ap (map place_of) c.as_slice.ensures.value ∙ c.in_ok-places.ensures.list) in
    let here : c.reads.number < length items = omega (arith, c.in_ok-reads.reads.ok.0) in
    mapped_at (IsReadOf p e.variable) read_of items c.reads.number c.index-read.result.now here c.index-read.ensures (subst (All (IsReadOf p e.variable)) (sym list) c.requires.reads.each)

pub returns-in_default : goal.returns-in_default
returns-in_default c = λ all.
    let p = c.args.program.now in
    let m = c.args.mapping.now in
    let e = c.args.equation.now in
    let items = c.in_ok-reads.reads.items in
    let read = read_of c.index-read.result.now in
    let list : map read_of items ≡ reads_of p e =
    reads_are p e c.variables.result.now (map place_of c.as_slice.result.now) (map read_of items) c.in_ok-reads.ensures c.variables.ensures.value (ap (map place_of) c.as_slice.ensures.value ∙ c.in_ok-places.ensures.list) in
    let here : c.reads.number < length items = omega (arith, c.in_ok-reads.reads.ok.0) in
    lacks (FitsOrder p m e.variable read) (λ (formula : Formula). claim formula ≡ order_claim p m e.variable read) c.in_ok-formula.field-0 c.in_ok-formula.ensures c.in_default.not-Some
    (mapped_at (FitsOrder p m e.variable) read_of items c.reads.number c.index-read.result.now here c.index-read.ensures (subst (All (FitsOrder p m e.variable)) (sym list) all))

pub reads-preserved : goal.reads-preserved
reads-preserved c =
    let p = c.args.program.now in
    let m = c.args.mapping.now in
    let x = c.args.equation.now.variable in
    let i = c.reads.number in
    let items = c.in_ok-reads.reads.items in
    let read = read_of c.index-read.result.now in
    let formula = c.in-Some.formula in
    let here : i < length items = omega (arith, c.in_ok-reads.reads.ok.0) in
    let done : List ReadPlace = map read_of (take i items) in
    let made = has (FitsOrder p m x read) (λ (f : Formula). claim f ≡ order_claim p m x read) c.in_ok-formula.field-0 formula c.in_ok-formula.ensures c.in-Some.is in
    let next : map read_of (take (i + 1) items) ≡ done ++ read ∷ [] = mapped_next read_of items i c.index-read.result.now here c.index-read.ensures in
    let stated : Stated = record { which = Order x i; width = read.scope.width; formula = formula } in
    let named : Claim → StatedClaim = λ cl. record { which = Order x i; width = read.scope.width; claim = cl } in
    let count : i ≡ length done = omega (arith, length-map (take i items) read_of, length-take-le i items (omega (arith, here))) in
    record {
      so_far = stated_more c.args.list.now.items c.reads.list.items c.push.new.self.items (orders_from p m x 0 done) stated (order_of p m x i read) c.reads.invariant.so_far c.in_ok-push.ensures.items (ap named made.0)
          ∙ ap (λ (cs : List StatedClaim). map stated_claim c.args.list.now.items ++ cs) (sym (orders_next p m x done (map read_of (take (i + 1) items)) i read count next));
      fits = all_more (FitsOrder p m x) done (map read_of (take (i + 1) items)) read next c.reads.invariant.fits made.1;
    }

pub returns : goal.returns
returns c =
    let p = c.args.program.now in
    let m = c.args.mapping.now in
    let e = c.args.equation.now in
    let items = c.in_ok-reads.reads.items in
    let list : map read_of items ≡ reads_of p e =
    reads_are p e c.variables.result.now (map place_of c.as_slice.result.now) (map read_of items) c.in_ok-reads.ensures c.variables.ensures.value (ap (map place_of) c.as_slice.ensures.value ∙ c.in_ok-places.ensures.list) in
    let end : c.reads.number ≡ length items = omega (arith, c.in_ok-reads.reads.ok.0) in
    let whole : map read_of (take c.reads.number items) ≡ reads_of p e = ap (map read_of) (taken_all items c.reads.number end) ∙ list in (
      c.reads.invariant.so_far ∙ ap (λ (reads : List ReadPlace). map stated_claim c.args.list.now.items ++ orders_from p m e.variable 0 reads) whole,
      subst (All (FitsOrder p m e.variable)) whole c.reads.invariant.fits,
    )
