use Rattle.std.proofs.Common.{◌≡◌, ◌∙◌, ℕ, ◌+◌, List, ◌++◌, length, map, take, ap, ap₂, sym, subst, All, arith, get_or, ◌<◌}
use Rattle.std.specs.List.{flat_map}
use Rattle.az_ast.specs.System.{System}
use Rattle.az_ast.specs.declared.program.Equation.{Equation}
use Rattle.domain_check.proofs.Grown.{flat_next, taken_all}
use Rattle.expr_places.specs.Reads.{reads_of}
use Rattle.life_sets.specs.Fits.{FitsRead, FitsOutput, FitsLifetimes}
use Rattle.life_sets.specs.Lifetimes.{keep_of, lives_from, lifetimes}
use Rattle.life_sets.specs.Ready.{IsOwn, IsReadyEquation}
use Rattle.life_sets.proofs.CellPlaces.{item_has as item_at}
use Rattle.life_sets.proofs.LifeListing.{many_more}
use Rattle.life_sets.proofs.LifeWidths.{lifetimes_refutable}
use Rattle.life_sets.proofs.Own.{all_ready, outputs_own, writers_own}
use Rattle.order_sets.specs.Orders.{StatedClaim}
use Rattle.order_sets.specs.Stated.{stated_claim, IsRefutable}
use Rattle.order_sets.proofs.Listing.{item_has, all_more, stopped}
use Rattle.order_sets.proofs.Places.{taken_next, get_same}
use Rattle.target_map.specs.Kinds.{tile_sizes}
use Rattle.target_map.specs.Settings.{IsComplete}
use Rattle.target_map.specs.Storage.{writers_of}
use Rattle.life_sets.proofs.lifetimes.lifetime_formulas.Goals as goal

pub push_reads-requires-clause-target : goal.push_reads-requires-clause-target
push_reads-requires-clause-target c =
    let m = c.args.mapping.now in
    record {
      complete = subst (λ (q : System). IsComplete q m) (sym c.program-program.ensures.value) c.requires;
      mapping = c.kinds.ensures.mapping;
      tiles = c.as_slice.ensures.value ∙ c.in_ok-sizes.ensures ∙ ap tile_sizes c.kinds.ensures.value;
      parameters = c.equations-equation-items.ensures.rules.placed.parameters;
    }

pub push_reads-requires-clause-ready : goal.push_reads-requires-clause-ready
push_reads-requires-clause-ready c =
    let p = c.program-program.result.now in
    let m = c.args.mapping.now in
    let complete = subst (λ (q : System). IsComplete q m) (sym c.program-program.ensures.value) c.requires in
    item_has (IsReadyEquation p m) c.equations-equation-items.result.now c.equations.equation-index c.equation-item.result c.equations-test.true c.equation-item.is
    (subst (λ (es : List Equation). All (IsReadyEquation p m) es) (sym c.equations-equation-items.ensures.value) (all_ready p c.equations-equation-items.ensures.rules m complete))

pub returns-in-Err-clause-answer : goal.returns-in-Err-clause-answer
returns-in-Err-clause-answer c =
    let p = c.program-program.result.now in
    let m = c.args.mapping.now in
    let e = c.equation-item.result in
    let fits : Equation → Type 0 = λ e. All (FitsRead p m e.variable) (reads_of p e) in
    stopped (fits e) (FitsLifetimes c.args.checked.now m) (lives_from p m e.variable 0 (reads_of p e)) (lifetimes c.args.checked.now m) c.equations.list.items c.push_reads.new.list.items c.in-Err.fault c.in-Err.ensures
    (λ all.
    let here = subst (λ (q : System). FitsLifetimes q m) (sym c.program-program.ensures.value) all in
    item_has fits c.equations-equation-items.result.now c.equations.equation-index e c.equations-test.true c.equation-item.is
    (subst (λ (es : List Equation). All fits es) (sym c.equations-equation-items.ensures.value) here.reads))

pub equations-preserved : goal.equations-preserved
equations-preserved c =
    let p = c.program-program.result.now in
    let m = c.args.mapping.now in
    let e = c.equation-item.result in
    let items = c.equations-equation-items.result.now in
    let i = c.equations.equation-index in
    let lives : Equation → List StatedClaim = λ e. lives_from p m e.variable 0 (reads_of p e) in
    let fits : Equation → Type 0 = λ e. All (FitsRead p m e.variable) (reads_of p e) in
    record {
      so_far = c.in-Ok.ensures.0 ∙ ap (λ (cs : List StatedClaim). cs ++ lives e) c.equations.invariant.so_far ∙ sym (flat_next lives items i e c.equations-test.true c.equation-item.is);
      fits = all_more fits (take i items) (take (i + 1) items) e (taken_next items i e c.equations-test.true c.equation-item.is) c.equations.invariant.fits c.in-Ok.ensures.1;
    }

pub push_output-requires-clause-target : goal.push_output-requires-clause-target
push_output-requires-clause-target c =
    let m = c.args.mapping.now in
    record {
      complete = subst (λ (q : System). IsComplete q m) (sym c.program-program.ensures.value) c.requires;
      mapping = c.kinds.ensures.mapping;
      tiles = c.as_slice.ensures.value ∙ c.in_ok-sizes.ensures ∙ ap tile_sizes c.kinds.ensures.value;
      parameters = c.equations-equation-items.ensures.rules.placed.parameters;
    }

pub push_output-requires-clause-output : goal.push_output-requires-clause-output
push_output-requires-clause-output c =
    let p = c.program-program.result.now in
    item_at (IsOwn p) c.deref-x-items.result.now c.outputs.x-index 0 c.outputs-test.true
    (subst (All (IsOwn p)) (sym (c.deref-x-items.ensures.value ∙ c.in_ok-outputs.ensures)) (outputs_own p c.equations-equation-items.ensures.rules))

pub push_output-requires-clause-writers : goal.push_output-requires-clause-writers
push_output-requires-clause-writers c =
    let p = c.program-program.result.now in
    let m = c.args.mapping.now in
    writers_own p c.equations-equation-items.ensures.rules m (subst (λ (q : System). IsComplete q m) (sym c.program-program.ensures.value) c.requires) _

pub returns-in-Err-push_output-clause-answer : goal.returns-in-Err-push_output-clause-answer
returns-in-Err-push_output-clause-answer c =
    let p = c.program-program.result.now in
    let m = c.args.mapping.now in
    let xs = c.deref-x-items.result.now in
    let x = get_or xs c.outputs.x-index 0 in
    stopped (FitsOutput p m x) (FitsLifetimes c.args.checked.now m) (map (keep_of p m x) (writers_of p m x)) (lifetimes c.args.checked.now m) c.outputs.list.items c.push_output.new.list.items c.in-Err-push_output.fault c.in-Err-push_output.ensures
    (λ all.
    let here = subst (λ (q : System). FitsLifetimes q m) (sym c.program-program.ensures.value) all in
    item_at (FitsOutput p m) xs c.outputs.x-index 0 c.outputs-test.true (subst (All (FitsOutput p m)) (sym (c.deref-x-items.ensures.value ∙ c.in_ok-outputs.ensures)) here.outputs))

pub outputs-preserved : goal.outputs-preserved
outputs-preserved c =
    let p = c.program-program.result.now in
    let m = c.args.mapping.now in
    let xs = c.deref-x-items.result.now in
    let i = c.outputs.x-index in
    let keeps : ℕ → List StatedClaim = λ x. map (keep_of p m x) (writers_of p m x) in
    let here : i < length xs = c.outputs-test.true in
    let x = get_or xs i 0 in
    let is = get_same xs i 0 here in
    record {
      so_far = many_more c.equations.list.items c.outputs.list.items c.push_output.new.list.items (flat_map keeps (take i xs)) (keeps x) (flat_map keeps (take (i + 1) xs))
          c.outputs.invariant.so_far c.in-Ok-push_output.ensures.0 (flat_next keeps xs i x here is);
      fits = all_more (FitsOutput p m) (take i xs) (take (i + 1) xs) x (taken_next xs i x here is) c.outputs.invariant.fits c.in-Ok-push_output.ensures.1;
    }

pub returns-clause-answer : goal.returns-clause-answer
returns-clause-answer c =
    let p = c.program-program.result.now in
    let m = c.args.mapping.now in
    let items = c.equations-equation-items.result.now in
    let xs = c.deref-x-items.result.now in
    let lives : Equation → List StatedClaim = λ e. lives_from p m e.variable 0 (reads_of p e) in
    let keeps : ℕ → List StatedClaim = λ x. map (keep_of p m x) (writers_of p m x) in
    let fits : Equation → Type 0 = λ e. All (FitsRead p m e.variable) (reads_of p e) in
    let end : c.equations.equation-index ≡ length items = omega arith in
    let last : c.outputs.x-index ≡ length xs = omega arith in
    let equations = taken_all items c.equations.equation-index end ∙ c.equations-equation-items.ensures.value in
    let outputs = taken_all xs c.outputs.x-index last ∙ c.deref-x-items.ensures.value ∙ c.in_ok-outputs.ensures in
    let whole : map stated_claim c.from_vec.result ≡ lifetimes p m =
    ap (map stated_claim) c.from_vec.ensures ∙ c.outputs.invariant.so_far
    ∙ ap₂ (λ (first second : List StatedClaim). first ++ second) (c.equations.invariant.so_far ∙ ap (flat_map lives) equations) (ap (flat_map keeps) outputs) in
    let fit : FitsLifetimes p m = record { reads = subst (All fits) equations c.equations.invariant.fits; outputs = subst (All (FitsOutput p m)) outputs c.outputs.invariant.fits } in (
      whole ∙ ap (λ (q : System). lifetimes q m) c.program-program.ensures.value,
      subst (λ (q : System). FitsLifetimes q m) c.program-program.ensures.value fit,
    )

pub returns-clause-refutable : goal.returns-clause-refutable
returns-clause-refutable c =
    let p = c.program-program.result.now in
    let m = c.args.mapping.now in
    let items = c.equations-equation-items.result.now in
    let xs = c.deref-x-items.result.now in
    let lives : Equation → List StatedClaim = λ e. lives_from p m e.variable 0 (reads_of p e) in
    let keeps : ℕ → List StatedClaim = λ x. map (keep_of p m x) (writers_of p m x) in
    let end : c.equations.equation-index ≡ length items = omega arith in
    let last : c.outputs.x-index ≡ length xs = omega arith in
    let equations = taken_all items c.equations.equation-index end ∙ c.equations-equation-items.ensures.value in
    let outputs = taken_all xs c.outputs.x-index last ∙ c.deref-x-items.ensures.value ∙ c.in_ok-outputs.ensures in
    let whole : map stated_claim c.from_vec.result ≡ lifetimes p m =
    ap (map stated_claim) c.from_vec.ensures ∙ c.outputs.invariant.so_far
    ∙ ap₂ (λ (first second : List StatedClaim). first ++ second) (c.equations.invariant.so_far ∙ ap (flat_map lives) equations) (ap (flat_map keeps) outputs) in
    subst (λ (cs : List StatedClaim). All IsRefutable cs) (sym whole)
    (lifetimes_refutable p m c.equations-equation-items.ensures.rules (subst (λ (q : System). IsComplete q m) (sym c.program-program.ensures.value) c.requires))
