use Rattle.std.proofs.Common.{◌≡◌, ◌∙◌, ℕ, ◌+◌, ◌<◌, List, ◌++◌, length, map, take, ap, ap₂, sym, subst, All, arith}
use Rattle.domain_check.proofs.Grown.{taken_all}
use Rattle.expr_places.specs.Lent.{read_of}
use Rattle.formula_refute.specs.Claims.{Claim, claim}
use Rattle.formula_refute.specs.declared.formula.Formula.{Formula}
use Rattle.life_sets.specs.Fits.{FitsLife}
use Rattle.life_sets.specs.Lifetimes.{life_claim, life_of}
use Rattle.life_sets.specs.Ready.{IsOwn}
use Rattle.life_sets.proofs.Instances.{is_writer}
use Rattle.order_sets.specs.Orders.{StatedClaim}
use Rattle.order_sets.specs.Stated.{stated_claim}
use Rattle.order_sets.specs.declared.stated.Stated.{Stated}
use Rattle.order_sets.proofs.Formulas.{lacks, has}
use Rattle.order_sets.proofs.Listing.{mapped_next, all_more, stated_more, item_has}
use Rattle.order_sets.proofs.Places.{taken_next}
use Rattle.target_map.specs.Storage.{writers_of}
use Rattle.target_map.specs.declared.which.Which.TheVariants.{Life}
use Rattle.life_sets.proofs.lifetimes.push_writers.Goals as goal

pub life_formula-requires-clause-writer : goal.life_formula-requires-clause-writer
life_formula-requires-clause-writer c =
    let p = c.args.target.now.program.now in
    let items = c.in_ok-writers.writers.items in
    let here : c.writers.place < length items = omega (arith, c.in_ok-writers.writers.ok.0) in
    item_has (IsOwn p) items c.writers.place c.index-y.result.now here c.index-y.ensures (subst (All (IsOwn p)) (sym c.in_ok-writers.ensures) c.requires.writers)

pub returns-in_default : goal.returns-in_default
returns-in_default c = λ all.
    let p = c.args.target.now.program.now in
    let m = c.args.target.now.mapping.now in
    let read = read_of c.args.read.now in
    let y = c.index-y.result.now in
    let items = c.in_ok-writers.writers.items in
    let here : c.writers.place < length items = omega (arith, c.in_ok-writers.writers.ok.0) in
    lacks (FitsLife p m c.args.x read y) (λ (formula : Formula). claim formula ≡ life_claim p m c.args.x read y) c.in_ok-formula.field-0 c.in_ok-formula.ensures c.in_default.not-Some
    (item_has (FitsLife p m c.args.x read) items c.writers.place y here c.index-y.ensures (subst (All (FitsLife p m c.args.x read)) (sym c.in_ok-writers.ensures) all))

pub width_beside-requires : goal.width_beside-requires
width_beside-requires c =
    let p = c.args.target.now.program.now in
    let items = c.in_ok-writers.writers.items in
    let here : c.writers.place < length items = omega (arith, c.in_ok-writers.writers.ok.0) in
    is_writer p c.index-y.result.now c.args.read.now.scope.width
    (item_has (IsOwn p) items c.writers.place c.index-y.result.now here c.index-y.ensures (subst (All (IsOwn p)) (sym c.in_ok-writers.ensures) c.requires.writers)) c.requires.read.at.params c.requires.read.narrow

pub writers-preserved : goal.writers-preserved
writers-preserved c =
    let p = c.args.target.now.program.now in
    let m = c.args.target.now.mapping.now in
    let x = c.args.x in
    let read = read_of c.args.read.now in
    let y = c.index-y.result.now in
    let i = c.writers.place in
    let items = c.in_ok-writers.writers.items in
    let formula = c.in-Some.formula in
    let here : i < length items = omega (arith, c.in_ok-writers.writers.ok.0) in
    let made = has (FitsLife p m x read y) (λ (f : Formula). claim f ≡ life_claim p m x read y) c.in_ok-formula.field-0 formula c.in_ok-formula.ensures c.in-Some.is in
    let of : ℕ → StatedClaim = life_of p m x c.args.number read in
    let stated : Stated = record { which = Life x c.args.number y; width = c.width_beside.result; formula = formula } in
    let named : ℕ → Claim → StatedClaim = λ n cl. record { which = Life x c.args.number y; width = n; claim = cl } in
    record {
      so_far = stated_more c.args.list.now.items c.writers.list.items c.push.new.self.items (map of (take i items)) stated (of y) c.writers.invariant.so_far c.in_ok-push.ensures.items (ap₂ named c.width_beside.ensures made.0)
          ∙ ap (λ (cs : List StatedClaim). map stated_claim c.args.list.now.items ++ cs) (sym (mapped_next of items i y here c.index-y.ensures));
      fits = all_more (FitsLife p m x read) (take i items) (take (i + 1) items) y (taken_next items i y here c.index-y.ensures) c.writers.invariant.fits made.1;
    }

pub returns : goal.returns
returns c =
    let p = c.args.target.now.program.now in
    let m = c.args.target.now.mapping.now in
    let read = read_of c.args.read.now in
    let items = c.in_ok-writers.writers.items in
    let of : ℕ → StatedClaim = life_of p m c.args.x c.args.number read in
    let end : c.writers.place ≡ length items = omega (arith, c.in_ok-writers.writers.ok.0) in
    let whole : take c.writers.place items ≡ writers_of p m read.variable = taken_all items c.writers.place end ∙ c.in_ok-writers.ensures in (
      c.writers.invariant.so_far ∙ ap (λ (ys : List ℕ). map stated_claim c.args.list.now.items ++ map of ys) whole,
      subst (All (FitsLife p m c.args.x read)) whole c.writers.invariant.fits,
    )
