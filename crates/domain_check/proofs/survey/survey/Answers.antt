use Rattle.std.proofs.Common.{◌≡◌, List, length, map, take, All, arith, ap, sym, subst, ◌∙◌}
use Rattle.std.specs.List.{flat_map}
use Rattle.az_ast.specs.declared.program.Equation.{Equation}
use Rattle.expr_places.specs.Places.{places_of}
use Rattle.domain_check.specs.Stops.{FitsAt, AreFewAt, all_places}
use Rattle.domain_check.specs.Inner.Ready.{IsReady}
use Rattle.domain_check.specs.Inner.Walked.{TellsMany}
use Rattle.domain_check.proofs.Building.{handed_on}
use Rattle.domain_check.proofs.Grown.{taken_all}
use Rattle.domain_check.proofs.Loops.{flat_at}
use Rattle.domain_check.proofs.Surveys.{flat_all_more, flat_tells_more}
use Rattle.domain_check.proofs.survey.survey.Goals as goal

pub survey_equation-requires-clause-ready : goal.survey_equation-requires-clause-ready
survey_equation-requires-clause-ready c =
    let p = c.args.program.now in
    let items = c.equations-equation-items.result.now in
    let value = c.equations-equation-items.ensures.value in
    let i = c.equations.equation-index in
    let x = c.equation-item.result in
    let P : List Equation → Type 0 = λ es. All (IsReady p) (flat_map (places_of p) es) in
    flat_at (IsReady p) (places_of p) items i x c.equations-test.true c.equation-item.is (subst P (sym value) c.requires)

pub returns-in-Err : goal.returns-in-Err
returns-in-Err c =
    let p = c.args.program.now in
    let items = c.equations-equation-items.result.now in
    let value = c.equations-equation-items.ensures.value in
    let i = c.equations.equation-index in
    let x = c.equation-item.result in
    let P : List Equation → Type 0 = λ es. All (FitsAt p) (flat_map (places_of p) es) in
    handed_on (All (FitsAt p) (places_of p x)) (All (FitsAt p) (all_places p)) c.in-Err.fault (c.in-Err.ensures {u = tt})
    (λ all. flat_at (FitsAt p) (places_of p) items i x c.equations-test.true c.equation-item.is (subst P (sym value) all))

pub equations-preserved : goal.equations-preserved
equations-preserved c =
    let p = c.args.program.now in
    let items = c.equations-equation-items.result.now in
    let value = c.equations-equation-items.ensures.value in
    let i = c.equations.equation-index in
    let x = c.equation-item.result in
    let here = c.in-Ok.ensures {u = tt} in (
      flat_all_more (FitsAt p) (places_of p) items i x c.equations-test.true c.equation-item.is c.equations.invariant.0 here.1,
      flat_tells_more (AreFewAt p) (places_of p) items i x c.equations-test.true c.equation-item.is c.equations.many c.in-Ok.here c.equations.invariant.1 here.0,
    )

pub returns : goal.returns
returns c =
    let p = c.args.program.now in
    let items = c.equations-equation-items.result.now in
    let value = c.equations-equation-items.ensures.value in
    let i = c.equations.equation-index in
    let end : i ≡ length items = omega arith in
    let all = taken_all items i end ∙ value in
    let P : List Equation → Type 0 = λ es. All (FitsAt p) (flat_map (places_of p) es) in
    let Q : List Equation → Type 0 = λ es. TellsMany (All (AreFewAt p) (flat_map (places_of p) es)) c.equations.many in
    (subst Q all c.equations.invariant.1, subst P all c.equations.invariant.0)
