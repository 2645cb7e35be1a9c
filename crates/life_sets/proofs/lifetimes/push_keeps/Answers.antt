use Rattle.std.proofs.Common.{◌≡◌, ◌∙◌, ℕ, ◌+◌, ◌<◌, List, ◌++◌, length, map, take, ap, ap₂, sym, subst, All, arith}
use Rattle.domain_check.proofs.Grown.{taken_all}
use Rattle.expr_places.specs.declared.scope.Scope.{Scope}
use Rattle.formula_refute.specs.Claims.{Claim, claim}
use Rattle.formula_refute.specs.declared.formula.Formula.{Formula}
use Rattle.life_sets.specs.Beside.{IsWriter}
use Rattle.life_sets.specs.Fits.{FitsKeep}
use Rattle.life_sets.specs.Lifetimes.{keep_claim, keep_of}
use Rattle.life_sets.specs.Ready.{IsOwn}
use Rattle.life_sets.proofs.Instances.{is_writer}
use Rattle.order_sets.specs.Orders.{StatedClaim}
use Rattle.order_sets.specs.Stated.{stated_claim}
use Rattle.order_sets.specs.declared.stated.Stated.{Stated}
use Rattle.order_sets.proofs.Formulas.{lacks, has}
use Rattle.order_sets.proofs.Listing.{mapped_next, all_more, stated_more, item_has}
use Rattle.order_sets.proofs.Places.{taken_next}
use Rattle.target_map.specs.Storage.{writers_of}
use Rattle.target_map.specs.Times.{domain_of, indices_of}
use Rattle.target_map.specs.declared.which.Which.TheVariants.{Keep}
use Rattle.life_sets.proofs.lifetimes.push_keeps.Goals as goal

pub keep_formula-requires-clause-writer : goal.keep_formula-requires-clause-writer
keep_formula-requires-clause-writer c =
    let p = c.args.target.now.program.now in
    let items = c.in_ok-writers.writers.items in
    let here : c.writers.place < length items = omega (arith, c.in_ok-writers.writers.ok.0) in
    item_has (IsOwn p) items c.writers.place c.index-y.result.now here c.index-y.ensures (subst (All (IsOwn p)) (sym c.in_ok-writers.ensures) c.requires.writers)

pub returns-in_default : goal.returns-in_default
returns-in_default c = λ all.
    let p = c.args.target.now.program.now in
    let m = c.args.target.now.mapping.now in
    let y = c.index-y.result.now in
    let items = c.in_ok-writers.writers.items in
    let here : c.writers.place < length items = omega (arith, c.in_ok-writers.writers.ok.0) in
    lacks (FitsKeep p m c.args.x y) (λ (formula : Formula). claim formula ≡ keep_claim p m c.args.x y) c.in_ok-formula.field-0 c.in_ok-formula.ensures c.in_default.not-Some
    (item_has (FitsKeep p m c.args.x) items c.writers.place y here c.index-y.ensures (subst (All (FitsKeep p m c.args.x)) (sym c.in_ok-writers.ensures) all))

pub width_beside-requires : goal.width_beside-requires
width_beside-requires c =
    let p = c.args.target.now.program.now in
    let items = c.in_ok-writers.writers.items in
    let here : c.writers.place < length items = omega (arith, c.in_ok-writers.writers.ok.0) in
    let P : Scope → Type 0 = λ scope. IsWriter p c.index-y.result.now scope.width in
    subst P (sym c.requires.scope)
    (is_writer p c.index-y.result.now (domain_of p c.args.x).width
    (item_has (IsOwn p) items c.writers.place c.index-y.result.now here c.index-y.ensures (subst (All (IsOwn p)) (sym c.in_ok-writers.ensures) c.requires.writers)) c.requires.output.params c.requires.output.narrow)

pub writers-preserved : goal.writers-preserved
writers-preserved c =
    let p = c.args.target.now.program.now in
    let m = c.args.target.now.mapping.now in
    let x = c.args.x in
    let y = c.index-y.result.now in
    let i = c.writers.place in
    let items = c.in_ok-writers.writers.items in
    let formula = c.in-Some.formula in
    let here : i < length items = omega (arith, c.in_ok-writers.writers.ok.0) in
    let made = has (FitsKeep p m x y) (λ (f : Formula). claim f ≡ keep_claim p m x y) c.in_ok-formula.field-0 formula c.in_ok-formula.ensures c.in-Some.is in
    let of : ℕ → StatedClaim = keep_of p m x in
    let stated : Stated = record { which = Keep x y; width = c.width_beside.result; formula = formula } in
    let named : ℕ → Claim → StatedClaim = λ n cl. record { which = Keep x y; width = n; claim = cl } in
    record {
      so_far = stated_more c.args.list.now.items c.writers.list.items c.push.new.self.items (map of (take i items)) stated (of y) c.writers.invariant.so_far c.in_ok-push.ensures.items (ap₂ named (c.width_beside.ensures ∙ ap (λ (scope : Scope). scope.width + indices_of p y) c.requires.scope) made.0)
          ∙ ap (λ (cs : List StatedClaim). map stated_claim c.args.list.now.items ++ cs) (sym (mapped_next of items i y here c.index-y.ensures));
      fits = all_more (FitsKeep p m x) (take i items) (take (i + 1) items) y (taken_next items i y here c.index-y.ensures) c.writers.invariant.fits made.1;
    }

pub returns : goal.returns
returns c =
    let p = c.args.target.now.program.now in
    let m = c.args.target.now.mapping.now in
    let items = c.in_ok-writers.writers.items in
    let of : ℕ → StatedClaim = keep_of p m c.args.x in
    let end : c.writers.place ≡ length items = omega (arith, c.in_ok-writers.writers.ok.0) in
    let whole : take c.writers.place items ≡ writers_of p m c.args.x = taken_all items c.writers.place end ∙ c.in_ok-writers.ensures in (
      c.writers.invariant.so_far ∙ ap (λ (ys : List ℕ). map stated_claim c.args.list.now.items ++ map of ys) whole,
      subst (All (FitsKeep p m c.args.x)) whole c.writers.invariant.fits,
    )
