use Rattle.std.proofs.Common.{rules, ◌≡◌, ◌++◌, ℤ, pos, length, get_or, take, true, false, ap, sym, subst, ◌∙◌, arith, length-append}
use Rattle.std.proofs.Math.Seq.{take-append_seam}
use Rattle.std.proofs.Common.{FitsSigned}
use Rattle.std.specs.Int.{w128}
use Rattle.std.proofs.lemmas.Int.{to_z-of_z}
use Rattle.plan_cells.proofs.Ranges.{narrow-step}
use Rattle.plan_cells.specs.Inner.Passing.{IsNarrow}
use Rattle.plan_cells.specs.Numbering.{stretched}
use Rattle.std.specs.Prelude.{IfSome, Contains, All, IfErr, Err}
use Rattle.std.proofs.Common.{Vec, Global}
use Rattle.az_lin.specs.Affine.{IsCoordinate}
use Rattle.target_map.specs.Times.{cell_at}
use Rattle.plan_cells.specs.Numbering.{coordinate}
use Rattle.std.proofs.lemmas.List.Elements.{All-contains}
use Rattle.std.proofs.lemmas.List.FromFn.{get_or-map-range_with_len, length-map-range_with_len}
use Rattle.plan_cells.specs.Answers.{IsKeepable, IsFar}
use Rattle.plan_cells.specs.Inner.Passing.{HasCoordinate, IsFault}
use Rattle.plan_cells.proofs.Coordinates.{declared-in, has-coordinate, fault-more}
use Rattle.plan_cells.proofs.Loops.{range-kept, range-left}
use Rattle.target_map.specs.Storage.{shares_space}
use Rattle.plan_cells.proofs.numbering.Kept.range_of.Goals as goal
use Rattle.plan_cells.proofs.numbering.Kept.range_of.Goals.{then-sharers-u+in_ok-extend_from_slice+in_ok-value, else-sharers-u}

pub bounds-sharers-u : goal.bounds-sharers-u
bounds-sharers-u c =
    let u = c.u-item.result in
    let contained : Contains c.args.self.now.instances.now u = (c.instances.u-index, c.instances-test.true, sym c.u-item.is) in
    let keep = All-contains (IsKeepable c.args.self.now.program.now c.args.self.now.params.now) c.args.self.now.instances.now u c.requires.keepable contained in
    let declared = declared-in c.args.self.now.program.now.variables u.variable keep.written in
    omega (arith, declared, ap length c.requires.sharers, length-map-range_with_len (shares_space c.args.self.now.mapping.now c.args.x) 0 (length c.args.self.now.program.now.variables))

pub coordinate-requires-clause-stored : goal.coordinate-requires-clause-stored
coordinate-requires-clause-stored c =
    let params = c.args.self.now.params.now in
    let m = c.args.self.now.mapping.now in
    let u = c.u-item.result in
    let contained : Contains c.args.self.now.instances.now u = (c.instances.u-index, c.instances-test.true, sym c.u-item.is) in
    let keep = All-contains (IsKeepable c.args.self.now.program.now params) c.args.self.now.instances.now u c.requires.keepable contained in
    let declared = declared-in c.args.self.now.program.now.variables u.variable keep.written in
    let kept : c.truncate.new.self.items ≡ params = c.truncate.ensures.items ∙ c.instances.invariant.outer in
    let items : c.extend_from_slice.new.self.items ≡ params ++ u.point = c.in_ok-extend_from_slice.ensures.items ∙ (λ i. kept i ++ c.as_slice.ensures i) in
    let same : c.deref.result.now ≡ params ++ u.point = c.deref.ensures.value ∙ items in
    let space : shares_space m c.args.x u.variable ≡ true
    = sym (get_or-map-range_with_len (shares_space m c.args.x) 0 (length c.args.self.now.program.now.variables) u.variable u.variable false declared (omega arith)) ∙ (ap (λ ss. get_or ss u.variable false) (sym c.requires.sharers) ∙ c.if-sharers-u.true) in
    subst (λ n. HasCoordinate m u.variable n c.args.number) (sym (ap length same))
    (has-coordinate c.args.self.now.program.now m c.requires.mapping c.requires.complete params u keep c.args.x c.args.number space c.requires.number)

pub coordinate-requires-clause-narrow : goal.coordinate-requires-clause-narrow
coordinate-requires-clause-narrow c =
    let params = c.args.self.now.params.now in
    let u = c.u-item.result in
    let contained : Contains c.args.self.now.instances.now u = (c.instances.u-index, c.instances-test.true, sym c.u-item.is) in
    let keep = All-contains (IsKeepable c.args.self.now.program.now params) c.args.self.now.instances.now u c.requires.keepable contained in
    let kept : c.truncate.new.self.items ≡ params = c.truncate.ensures.items ∙ c.instances.invariant.outer in
    let items : c.extend_from_slice.new.self.items ≡ params ++ u.point = c.in_ok-extend_from_slice.ensures.items ∙ (λ i. kept i ++ c.as_slice.ensures i) in
    omega (arith, keep.narrow, ap length (c.deref.ensures.value ∙ items))

pub returns-in_err-value-clause-cause : goal.returns-in_err-value-clause-cause
returns-in_err-value-clause-cause c =
    let p = c.args.self.now.program.now in
    let m = c.args.self.now.mapping.now in
    let params = c.args.self.now.params.now in
    let us = c.args.self.now.instances.now in
    let u = c.u-item.result in
    let fault = c.in_err-value.field-0.0 in
    let contained : Contains us u = (c.instances.u-index, c.instances-test.true, sym c.u-item.is) in
    let kept : c.truncate.new.self.items ≡ params = c.truncate.ensures.items ∙ c.instances.invariant.outer in
    let items : c.extend_from_slice.new.self.items ≡ params ++ u.point = c.in_ok-extend_from_slice.ensures.items ∙ (λ i. kept i ++ c.as_slice.ensures i) in
    let same : c.deref.result.now ≡ params ++ u.point = c.deref.ensures.value ∙ items in
    let handed : c.from_residual-in_err-value.result ≡ Err c.in_err-value.field-0.0 = search rules in
    subst (λ r. IfErr r (IsFault (IsFar p m params us))) (sym handed)
    (fault-more (All IsCoordinate (cell_at m u.variable c.deref.result.now) → ⊥) (IsFar p m params us)
    (λ out. (u, contained, λ all. out (subst (λ q. All IsCoordinate (cell_at m u.variable q)) (sym same) all))) fault c.in_err-value.ensures.cause)

pub instances-preserved : goal.instances-preserved
instances-preserved c =
    elim c.if-sharers-u.branch [
      | then-sharers-u+in_ok-extend_from_slice+in_ok-value w ↦
          let p = c.args.self.now.program.now in
          let m = c.args.self.now.mapping.now in
          let params = c.args.self.now.params.now in
          let us = c.args.self.now.instances.now in
          let u = c.u-item.result in
          let contained : Contains us u = (c.instances.u-index, c.instances-test.true, sym c.u-item.is) in
          let keep = All-contains (IsKeepable p params) us u c.requires.keepable contained in
          let declared = declared-in p.variables u.variable keep.written in
          let kept : w.truncate.new.self.items ≡ params = w.truncate.ensures.items ∙ c.instances.invariant.outer in
          let items : w.extend_from_slice.new.self.items ≡ params ++ u.point = w.in_ok-extend_from_slice.ensures.items ∙ (λ i. kept i ++ w.as_slice.ensures i) in
          let same : w.deref.result.now ≡ params ++ u.point = w.deref.ensures.value ∙ items in
          let space : shares_space m c.args.x u.variable ≡ true
          = sym (get_or-map-range_with_len (shares_space m c.args.x) 0 (length p.variables) u.variable u.variable false declared (omega arith)) ∙ (ap (λ ss. get_or ss u.variable false) (sym c.requires.sharers) ∙ w.if-sharers-u.true) in
          let value : w.in_ok-value.value ≡ coordinate m params c.args.number u = w.in_ok-value.ensures.ok ∙ ap (λ q. get_or (cell_at m u.variable q) c.args.number (pos 0)) same in
          let fits : FitsSigned w128 w.in_ok-value.value = search rules in
          let all : c.if-sharers-u.z.items ≡ params ++ u.point = ap (λ (v : Vec ℤ Global). v.items) w.z-is ∙ items in
          record {
            outer = ap (take (length params)) all ∙ take-append_seam params u.point;
            long = omega (arith, ap length all, length-append params u.point);
            range = w.range-is ∙ (w.stretched-range.ensures ∙ (ap (stretched c.instances.range) (to_z-of_z w128 w.in_ok-value.value fits ∙ value)
                ∙ range-kept m params us c.args.x c.args.number c.instances.u-index u c.instances-test.true c.u-item.is c.instances.range c.instances.invariant.range space));
            narrow = subst (λ o. IfSome o IsNarrow) (sym (w.range-is ∙ (w.stretched-range.ensures ∙ ap (stretched c.instances.range) (to_z-of_z w128 w.in_ok-value.value fits))))
                (narrow-step c.instances.range w.in_ok-value.value w.in_ok-value.ensures.range c.instances.invariant.narrow);
          }
      | else-sharers-u w ↦
          let p = c.args.self.now.program.now in
          let m = c.args.self.now.mapping.now in
          let params = c.args.self.now.params.now in
          let us = c.args.self.now.instances.now in
          let u = c.u-item.result in
          let contained : Contains us u = (c.instances.u-index, c.instances-test.true, sym c.u-item.is) in
          let keep = All-contains (IsKeepable p params) us u c.requires.keepable contained in
          let declared = declared-in p.variables u.variable keep.written in
          let space : shares_space m c.args.x u.variable ≡ false
          = sym (get_or-map-range_with_len (shares_space m c.args.x) 0 (length p.variables) u.variable u.variable false declared (omega arith)) ∙ (ap (λ ss. get_or ss u.variable false) (sym c.requires.sharers) ∙ w.if-sharers-u.false) in
          record {
            outer = ap (λ (v : Vec ℤ Global). take (length params) v.items) w.z-is ∙ c.instances.invariant.outer;
            long = omega (arith, ap (λ (v : Vec ℤ Global). length v.items) w.z-is, c.instances.invariant.long);
            range = w.range-is ∙ range-left m params us c.args.x c.args.number c.instances.u-index u c.instances-test.true c.u-item.is c.instances.range c.instances.invariant.range space;
            narrow = subst (λ o. IfSome o IsNarrow) (sym w.range-is) c.instances.invariant.narrow;
          }
    ]
