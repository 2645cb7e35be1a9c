use Rattle.std.proofs.Common.{◌≡◌, ◌≤◌, ◌+◌, List, [], ◌∷◌, refl, length, map, drop, All, arith, ap, sym, subst, ◌∙◌, Ok, Err}
use Rattle.std.specs.List.{flat_map}
use Rattle.az_ast.specs.declared.program.Equation.{Equation}
use Rattle.expr_places.specs.Places.{places_of}
use Rattle.domain_check.specs.Cases.{equation_series}
use Rattle.domain_check.specs.Stops.{FitsAt, AreFewAt}
use Rattle.domain_check.specs.Inner.Ready.{IsReady}
use Rattle.domain_check.proofs.Grown.{mapped_at}
use Rattle.domain_check.proofs.Loops.{drop_next, drop_end, flat_at, series_more, series_stopped, series_end}
use Rattle.domain_check.proofs.Rooms.{few_cases}
use Rattle.domain_check.proofs.decide.decide_equations.Goals as goal

pub decide_equation-requires-clause-ready : goal.decide_equation-requires-clause-ready
decide_equation-requires-clause-ready c =
    let p = c.args.program.now in
    let items = c.equations-equation-items.result.now in
    let value = c.equations-equation-items.ensures.value in
    let P : List Equation → Type 0 = λ es. All (IsReady p) (flat_map (places_of p) es) in
    flat_at (IsReady p) (places_of p) items c.equations.equation-index c.equation-item.result c.equations-test.true c.equation-item.is (subst P (sym value) c.requires.ready.places)

pub decide_equation-requires-clause-fits : goal.decide_equation-requires-clause-fits
decide_equation-requires-clause-fits c =
    let p = c.args.program.now in
    let items = c.equations-equation-items.result.now in
    let value = c.equations-equation-items.ensures.value in
    let P : List Equation → Type 0 = λ es. All (FitsAt p) (flat_map (places_of p) es) in
    flat_at (FitsAt p) (places_of p) items c.equations.equation-index c.equation-item.result c.equations-test.true c.equation-item.is (subst P (sym value) c.requires.decidable.entries)

pub decide_equation-requires-clause-few : goal.decide_equation-requires-clause-few
decide_equation-requires-clause-few c =
    let p = c.args.program.now in
    let items = c.equations-equation-items.result.now in
    let value = c.equations-equation-items.ensures.value in
    let P : List Equation → Type 0 = λ es. All (AreFewAt p) (flat_map (places_of p) es) in
    flat_at (AreFewAt p) (places_of p) items c.equations.equation-index c.equation-item.result c.equations-test.true c.equation-item.is (subst P (sym value) c.requires.decidable.few)

pub decide_equation-requires-clause-room : goal.decide_equation-requires-clause-room
decide_equation-requires-clause-room c =
    let p = c.args.program.now in
    let items = c.equations-equation-items.result.now in
    let value = c.equations-equation-items.ensures.value in
    let P : List Equation → Type 0 = λ es. All (λ equation. length (places_of p equation) ≤ 512) es in
    let short = mapped_at (λ equation. length (places_of p equation) ≤ 512) (λ equation. equation) items c.equations.equation-index c.equation-item.result c.equations-test.true c.equation-item.is
    (subst P (sym (same_map items)) (subst P (sym value) c.requires.ready.short)) in
    few_cases p (places_of p c.equation-item.result) (decide_equation-requires-clause-few c) short
  where
    same_map : (es : List Equation) → map (λ equation. equation) es ≡ es
    same_map [] = refl
    same_map (e ∷ es) = ap (λ xs. e ∷ xs) (same_map es)

pub returns-in-Err : goal.returns-in-Err
returns-in-Err c =
    let p = c.args.program.now in
    let items = c.equations-equation-items.result.now in
    let value = c.equations-equation-items.ensures.value in
    let i = c.equations.equation-index in
    series_stopped (map (equation_series p) p.equations) (map (equation_series p) (drop i items)) (map (equation_series p) (drop (i + 1) items)) (equation_series p c.equation-item.result)
    c.equations.invariant (ap (map (equation_series p)) (drop_next items i c.equation-item.result c.equations-test.true c.equation-item.is)) c.in-Err.fault (c.in-Err.ensures {u = tt})

pub equations-preserved : goal.equations-preserved
equations-preserved c =
    let p = c.args.program.now in
    let items = c.equations-equation-items.result.now in
    let value = c.equations-equation-items.ensures.value in
    let i = c.equations.equation-index in
    series_more (map (equation_series p) p.equations) (map (equation_series p) (drop i items)) (map (equation_series p) (drop (i + 1) items)) (equation_series p c.equation-item.result)
    c.equations.invariant (ap (map (equation_series p)) (drop_next items i c.equation-item.result c.equations-test.true c.equation-item.is)) (c.in-Ok.ensures {u = tt})

pub returns : goal.returns
returns c =
    let p = c.args.program.now in
    let items = c.equations-equation-items.result.now in
    let value = c.equations-equation-items.ensures.value in
    let i = c.equations.equation-index in
    let end : i ≡ length items = omega arith in
    series_end (map (equation_series p) p.equations) (map (equation_series p) (drop i items)) c.equations.invariant (ap (map (equation_series p)) (drop_end items i end))
