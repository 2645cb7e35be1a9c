use Rattle.std.proofs.Common.{rules, ◌≡◌, ◌+◌, ◌++◌, suc, length, take, take_all, drop, refl, sym, ap, subst, ◌∙◌, arith, length-append, Ok, Err, w64, FitsSigned}
use Rattle.std.proofs.Math.Seq.{take-append_seam}
use Rattle.std.specs.Prelude.{All, Contains}
use Rattle.std.proofs.lemmas.Int.{to_z-of_z}
use Rattle.std.proofs.lemmas.List.Elements.{All-append, All-contains}
use Rattle.az_lin.specs.Affine.{HoldsSome, IsCoordinate}
use Rattle.az_ast.specs.Nodes.{nodes}
use Rattle.az_ast.specs.Term.{term}
use Rattle.az_ast.specs.declared.expr.Expr.{Expr}
use Rattle.equation_meaning.proofs.Branches.{body-smaller}
use Rattle.plan_steps.specs.Inner.Laid.{IsReadyAt, Fails, LayAnswers, FoldAnswers}
use Rattle.plan_steps.specs.Layouts.{Layout, with_constant}
use Rattle.az_lin.specs.declared.limit.Limit.TheVariants.{Points}
use Rattle.az_ast.specs.Operators.{identity}
use Rattle.az_ast.proofs.Walks.{below}
use Rattle.loop_scan.specs.Members.{IsPoint}
use Rattle.loop_scan.specs.declared.fault.ScanFault.TheVariants.{Limit}
use Rattle.plan_steps.proofs.Failures.{too-many, member-fails}
use Rattle.plan_steps.proofs.Folds.{folding-start, folding-next, folding-step}
use Rattle.plan_steps.proofs.Cases.{IsLeft, next-left, branch-ready, branch-small, branch-answers}
use Rattle.plan_steps.proofs.Expressions.{const-answers, index-answers, access-answers, access-fails, negation-answers, left-answers, right-answers, binary-answers, refused-answers, folds-so, wide-so, points-so, each-so, fold-answers}
use Rattle.plan_steps.proofs.given.Given.+laying.Goals as goal

pub lay-returns-in_ok-push_constant-in-Const : goal.lay-returns-in_ok-push_constant-in-Const
lay-returns-in_ok-push_constant-in-Const t c =
    let fits : FitsSigned w64 c.in-Const.v = search rules in
    const-answers c.args.self.now.program.now c.args.self.now.inputs.now c.args.e.now c.args.z.now c.args.room.points c.args.room.loads c.args.body.now c.requires.points c.requires.loads
    c.push_constant.new.self c.in-Const.v (c.in_ok-push_constant-in-Const.ensures ∙ ap (with_constant c.args.body.now) (to_z-of_z w64 c.in-Const.v fits)) c.in-Const.is

pub lay-returns-in_ok-push_constant-in-Index : goal.lay-returns-in_ok-push_constant-in-Index
lay-returns-in_ok-push_constant-in-Index t c =
    let fits : FitsSigned w64 c.wrap-value.result = search rules in
    index-answers c.args.self.now.program.now c.args.self.now.inputs.now c.args.e.now c.args.z.now c.args.room.points c.args.room.loads c.args.body.now c.requires.points c.requires.loads
    c.push_constant-in-Index.new.self c.wrap-value.result (c.in_ok-push_constant-in-Index.ensures ∙ ap (with_constant c.args.body.now) (to_z-of_z w64 c.wrap-value.result fits)) c.in-Index.row c.in-Index.is (search rules)

pub lay-returns-in_ok-read-in-Access : goal.lay-returns-in_ok-read-in-Access
lay-returns-in_ok-read-in-Access t c =
    access-answers c.args.self.now.program.now c.args.self.now.inputs.now c.args.e.now c.args.z.now c.args.room.points c.args.room.loads c.args.body.now c.requires.points c.requires.loads
    c.read.new.body c.in-Access.x c.in-Access.f c.apply.new.out c.in_ok-read-in-Access.field-0 c.in-Access.is c.apply.ensures c.in_ok-read-in-Access.ensures

pub lay-returns-in_err-read-in-Access : goal.lay-returns-in_err-read-in-Access
lay-returns-in_err-read-in-Access t c =
    let handed : c.from_residual-in_err-read-in-Access.result ≡ Err c.in_err-read-in-Access.field-0.0 = search rules in
    subst (λ r. LayAnswers c.args.self.now.program.now c.args.self.now.inputs.now (term c.args.e.now) c.args.z.now c.args.room.points c.args.room.loads c.args.body.now c.read.new.body r) (sym handed)
    (access-fails c.args.self.now.program.now c.args.self.now.inputs.now c.args.e.now c.args.z.now c.args.room.points c.args.room.loads c.args.body.now c.requires.points c.requires.loads
    c.in-Access.x c.in-Access.f c.apply.new.out c.in_err-read-in-Access.field-0.0 c.in-Access.is c.apply.ensures c.in_err-read-in-Access.ensures)

pub lay-returns-in_ok-push_operation-in-Neg : goal.lay-returns-in_ok-push_operation-in-Neg
lay-returns-in_ok-push_operation-in-Neg t c =
    negation-answers c.args.self.now.program.now c.args.self.now.inputs.now c.args.e.now c.args.z.now c.args.room.points c.args.room.loads c.args.body.now c.requires.points c.requires.loads
    c.lay.new.body c.push_operation.new.self c.in-Neg.e c.in_ok-lay-in-Neg.field-0 c.in-Neg.is
    (subst (λ (b : Expr). LayAnswers c.args.self.now.program.now c.args.self.now.inputs.now (term b) c.args.z.now c.args.room.points c.args.room.loads c.args.body.now c.lay.new.body (Ok c.in_ok-lay-in-Neg.field-0)) c.get.ensures c.in_ok-lay-in-Neg.ensures)
    c.in_ok-push_operation-in-Neg.ensures

pub lay-returns-in_err-lay-in-Bin : goal.lay-returns-in_err-lay-in-Bin
lay-returns-in_err-lay-in-Bin t c =
    let handed : c.from_residual-in_err-lay-in-Bin.result ≡ Err c.in_err-lay-in-Bin.field-0.0 = search rules in
    let fault = c.in_err-lay-in-Bin.field-0.0 in
    subst (λ r. LayAnswers c.args.self.now.program.now c.args.self.now.inputs.now (term c.args.e.now) c.args.z.now c.args.room.points c.args.room.loads c.args.body.now c.lay-in-Bin.new.body r) (sym handed)
    (left-answers c.args.self.now.program.now c.args.self.now.inputs.now c.args.e.now c.args.z.now c.args.room.points c.args.room.loads c.args.body.now c.requires.points c.requires.loads
    c.in-Bin.op c.in-Bin.a c.in-Bin.b c.in-Bin.is fault
    (subst (λ (b : Expr). Fails c.args.self.now.program.now c.args.self.now.inputs.now (term b) c.args.z.now c.args.room.points c.args.room.loads c.args.body.now fault) c.get-in-Bin.ensures c.in_err-lay-in-Bin.ensures))

pub lay-returns-in_err-lay-in-Bin-2 : goal.lay-returns-in_err-lay-in-Bin-2
lay-returns-in_err-lay-in-Bin-2 t c =
    let handed : c.from_residual-in_err-lay-in-Bin-2.result ≡ Err c.in_err-lay-in-Bin-2.field-0.0 = search rules in
    let fault = c.in_err-lay-in-Bin-2.field-0.0 in
    let first = subst (λ (b : Expr). LayAnswers c.args.self.now.program.now c.args.self.now.inputs.now (term b) c.args.z.now c.args.room.points c.args.room.loads c.args.body.now c.lay-in-Bin.new.body (Ok c.in_ok-lay-in-Bin.field-0)) c.get-in-Bin.ensures c.in_ok-lay-in-Bin.ensures in
    subst (λ r. LayAnswers c.args.self.now.program.now c.args.self.now.inputs.now (term c.args.e.now) c.args.z.now c.args.room.points c.args.room.loads c.args.body.now c.lay-in-Bin-2.new.body r) (sym handed)
    (right-answers c.args.self.now.program.now c.args.self.now.inputs.now c.args.e.now c.args.z.now c.args.room.points c.args.room.loads c.args.body.now c.requires.points c.requires.loads
    c.in-Bin.op c.in-Bin.a c.in-Bin.b c.in-Bin.is c.lay-in-Bin.new.body c.in_ok-lay-in-Bin.field-0 first fault
    (subst (λ (b : Expr). Fails c.args.self.now.program.now c.args.self.now.inputs.now (term b) c.args.z.now c.args.room.points c.args.room.loads c.lay-in-Bin.new.body fault) c.get-in-Bin-2.ensures c.in_err-lay-in-Bin-2.ensures))

pub lay-returns-in_ok-push_operation-in-Bin : goal.lay-returns-in_ok-push_operation-in-Bin
lay-returns-in_ok-push_operation-in-Bin t c =
    let first = subst (λ (b : Expr). LayAnswers c.args.self.now.program.now c.args.self.now.inputs.now (term b) c.args.z.now c.args.room.points c.args.room.loads c.args.body.now c.lay-in-Bin.new.body (Ok c.in_ok-lay-in-Bin.field-0)) c.get-in-Bin.ensures c.in_ok-lay-in-Bin.ensures in
    binary-answers c.args.self.now.program.now c.args.self.now.inputs.now c.args.e.now c.args.z.now c.args.room.points c.args.room.loads c.args.body.now c.requires.points c.requires.loads
    c.in-Bin.op c.in-Bin.a c.in-Bin.b c.in-Bin.is c.lay-in-Bin.new.body c.in_ok-lay-in-Bin.field-0 first c.lay-in-Bin-2.new.body c.push_operation-in-Bin.new.self
    (subst (λ (b : Expr). LayAnswers c.args.self.now.program.now c.args.self.now.inputs.now (term b) c.args.z.now c.args.room.points c.args.room.loads c.lay-in-Bin.new.body c.lay-in-Bin-2.new.body (Ok c.in_ok-lay-in-Bin-2.field-0)) c.get-in-Bin-2.ensures c.in_ok-lay-in-Bin-2.ensures)
    c.in_ok-push_operation-in-Bin.ensures

pub lay-branches-preserved : goal.lay-branches-preserved
lay-branches-preserved t c =
    let further : suc c.branches.branch-index ≡ c.branches.branch-index + 1 = omega arith in
    record {
      left = subst (λ n. IsLeft c.args.self.now.program.now c.args.self.now.inputs.now (term c.args.e.now) c.args.z.now (below (drop n c.as_slice-branch-items.result.now))) further (next-left c.args.self.now.program.now c.args.self.now.inputs.now (term c.args.e.now) c.args.z.now c.as_slice-branch-items.result.now c.branches.branch-index c.branch-item.result c.branches-test.true c.branch-item.is
          c.branches.invariant.left (λ h. let held = c.holds.ensures.1 h in let out = c.if-holds.false in cc));
      body = c.branches.invariant.body;
    }

pub lay-lay-requires-then-holds : goal.lay-lay-requires-then-holds
lay-lay-requires-then-holds t c =
    let branch = c.branch-item.result in
    let items = c.as_slice-branch-items.result.now in
    let held : HoldsSome branch.domain c.args.z.now = search rules in
    let smaller = branch-small c.args.self.now.program.now c.args.self.now.inputs.now (term c.args.e.now) c.args.z.now items c.branches.branch-index branch c.branches-test.true c.branch-item.is c.branches.invariant.left in
    let ready = branch-ready c.args.self.now.program.now c.args.self.now.inputs.now (term c.args.e.now) c.args.z.now items c.branches.branch-index branch c.branches-test.true c.branch-item.is c.branches.invariant.left held in
    let same = c.branches.invariant.body in (
      omega (arith, c.decreases, smaller),
      (ready, (c.requires.narrow, (c.requires.range, (c.requires.few, (omega (arith, c.requires.points, ap (λ (q : Layout). q.points) same), omega (arith, c.requires.loads, ap (λ (q : Layout). length q.loads) same)))))),
    )

pub lay-returns-then-holds : goal.lay-returns-then-holds
lay-returns-then-holds t c =
    let branch = c.branch-item.result in
    let items = c.as_slice-branch-items.result.now in
    let held : HoldsSome branch.domain c.args.z.now = search rules in
    subst (λ (q : Layout). LayAnswers c.args.self.now.program.now c.args.self.now.inputs.now (term c.args.e.now) c.args.z.now c.args.room.points c.args.room.loads q c.lay-then-holds.new.body c.lay-then-holds.result) c.branches.invariant.body
    (branch-answers c.args.self.now.program.now c.args.self.now.inputs.now (term c.args.e.now) c.args.z.now items c.branches.branch-index branch c.branches-test.true c.branch-item.is c.branches.invariant.left held
    c.args.room.points c.args.room.loads c.branches.body c.lay-then-holds.new.body c.lay-then-holds.result c.lay-then-holds.ensures)

pub lay-returns-in-Err : goal.lay-returns-in-Err
lay-returns-in-Err t c =
    refused-answers c.args.self.now.program.now c.args.self.now.inputs.now c.args.e.now c.args.z.now c.args.room.points c.args.room.loads c.args.body.now c.requires.points c.requires.loads
    c.in-Reduce.op c.in-Reduce.field-1 c.in-Reduce.domain c.in-Reduce.e c.in-Reduce.is c.in-Err.fault c.in-Err.ensures

pub lay-lay_fold-requires : goal.lay-lay_fold-requires
lay-lay_fold-requires t c =
    let p = c.args.self.now.program.now in
    let tables = c.args.self.now.inputs.now in
    let z = c.args.z.now in
    let body : c.get-in-Reduce.result.now ≡ c.in-Reduce.e = c.get-in-Reduce.ensures in
    let smaller = body-smaller c.args.e.now c.in-Reduce.op c.in-Reduce.field-1 c.in-Reduce.domain c.in-Reduce.e c.in-Reduce.is in
    let scans = c.in-Ok.ensures.0 in
    let folds = folds-so p tables c.args.e.now z c.args.room.points c.args.room.loads c.args.body.now c.requires.points c.requires.loads c.in-Reduce.op c.in-Reduce.field-1 c.in-Reduce.domain c.in-Reduce.e c.in-Reduce.is c.requires.ready c.in-Ok.scanner scans in
    let each = each-so p tables c.args.e.now z c.args.room.points c.args.room.loads c.args.body.now c.requires.points c.requires.loads c.in-Reduce.op c.in-Reduce.field-1 c.in-Reduce.domain c.in-Reduce.e c.in-Reduce.is c.requires.ready c.in-Ok.scanner scans in
    let points = points-so p tables c.args.e.now z c.args.room.points c.args.room.loads c.args.body.now c.requires.points c.requires.loads c.in-Reduce.op c.in-Reduce.field-1 c.in-Reduce.domain c.in-Reduce.e c.in-Reduce.is c.requires.ready c.in-Ok.scanner scans in
    let wide = wide-so p tables c.args.e.now z c.args.room.points c.args.room.loads c.args.body.now c.requires.points c.requires.loads c.in-Reduce.op c.in-Reduce.field-1 c.in-Reduce.domain c.in-Reduce.e c.in-Reduce.is c.requires.ready c.in-Ok.scanner scans in (
      omega (arith, c.decreases, smaller, ap (λ (b : Expr). nodes (term b)) body),
      (
        folds,
        (
          λ k m. subst (λ (b : Expr). IsReadyAt p tables (term b) (z ++ k)) (sym body) (each k m),
          (points, (wide, (c.requires.range, (c.requires.few, (c.requires.points, c.requires.loads))))),
        ),
      ),
    )

pub lay-returns-in-Ok : goal.lay-returns-in-Ok
lay-returns-in-Ok t c =
    let p = c.args.self.now.program.now in
    let tables = c.args.self.now.inputs.now in
    let body : c.get-in-Reduce.result.now ≡ c.in-Reduce.e = c.get-in-Reduce.ensures in
    fold-answers p tables c.args.e.now c.args.z.now c.args.room.points c.args.room.loads c.args.body.now c.requires.points c.requires.loads c.in-Reduce.op c.in-Reduce.field-1 c.in-Reduce.domain c.in-Reduce.e c.in-Reduce.is c.requires.ready
    c.in-Ok.scanner c.in-Ok.ensures.0 c.in-Ok.ensures.1 c.lay_fold.new.body c.lay_fold.result
    (subst (λ (b : Expr). FoldAnswers p tables c.in-Reduce.op (term b) c.args.z.now c.in-Ok.scanner.to_come c.args.room.points c.args.room.loads c.args.body.now c.lay_fold.new.body c.lay_fold.result) body c.lay_fold.ensures)

pub lay_fold-members-init : goal.lay_fold-members-init
lay_fold-members-init t c =
    let z = c.args.z.now in
    let fits : FitsSigned w64 c.identity_of.result = search rules in
    let pushed : c.push_constant.new.self ≡ with_constant c.args.body.now (identity c.args.op)
    = c.in_ok-push_constant.ensures ∙ ap (with_constant c.args.body.now) (to_z-of_z w64 c.identity_of.result fits ∙ c.identity_of.ensures) in
    let whole : c.in_ok-point.point.items ≡ z = c.in_ok-point.ensures.items in
    record {
      width = refl;
      room = search rules;
      outer = ap (take (length z)) whole ∙ take_all (length z) z (omega arith);
      long = omega (arith, ap length whole);
      folding = folding-start c.args.self.now.program.now c.args.self.now.inputs.now c.args.op (term c.args.e.now) z c.args.scanner.to_come c.args.body.now c.push_constant.new.self pushed;
      points = omega (arith, c.requires.points, ap (λ (q : Layout). q.points) pushed);
      loads = omega (arith, c.requires.loads, ap (λ (q : Layout). length q.loads) pushed);
    }

pub lay_fold-returns-then-points-room : goal.lay_fold-returns-then-points-room
lay_fold-returns-then-points-room t c =
    too-many c.args.self.now.program.now c.args.self.now.inputs.now c.args.room.points c.args.room.loads c.args.body.now (Limit Points) c.args.op (term c.args.e.now) c.args.z.now c.args.scanner.to_come
    c.members.scanner.to_come c.advance.new.scanner.to_come c.members.body c.advance.new.point.items c.members.invariant.folding c.members-test.ensures.point (omega (arith, c.if-points-room.true, c.points.ensures)) refl

pub lay_fold-lay-requires : goal.lay_fold-lay-requires
lay_fold-lay-requires t c =
    let z = c.args.z.now in
    let k = c.advance.new.point.items in
    let kept : c.truncate.new.self.items ≡ z = c.truncate.ensures.items ∙ c.members.invariant.outer in
    let items : c.extend_from_slice.new.self.items ≡ z ++ k = c.in_ok-extend_from_slice.ensures.items ∙ (λ i. kept i ++ c.deref.ensures.value i) in
    let same : c.deref-in-members.result.now ≡ z ++ k = c.deref-in-members.ensures.value ∙ items in
    let contained : Contains c.args.scanner.to_come k
    = folding-next c.args.self.now.program.now c.args.self.now.inputs.now c.args.op (term c.args.e.now) z c.args.scanner.to_come c.members.scanner.to_come c.advance.new.scanner.to_come c.args.body.now c.members.body k
    c.members.invariant.folding c.members-test.ensures.point in
    let point = All-contains (IsPoint c.args.scanner.width) c.args.scanner.to_come k c.requires.width contained in
    let counted = c.count_point.ensures in (
      omega (arith, c.decreases),
      (
        subst (λ q. IsReadyAt c.args.self.now.program.now c.args.self.now.inputs.now (term c.args.e.now) q) (sym same) (c.requires.each k contained),
        (
          omega (arith, ap length same, length-append z k, point.0, c.requires.narrow),
          (
            subst (All IsCoordinate) (sym same) (All-append IsCoordinate z k c.requires.range point.1),
            (
              c.requires.few,
              (
                omega (arith, c.if-points-room.false, c.points.ensures, ap (λ (q : Layout). q.points) counted),
                omega (arith, c.members.invariant.loads, ap (λ (q : Layout). length q.loads) counted),
              ),
            ),
          ),
        ),
      ),
    )

pub lay_fold-returns-in_err-lay : goal.lay_fold-returns-in_err-lay
lay_fold-returns-in_err-lay t c =
    let z = c.args.z.now in
    let k = c.advance.new.point.items in
    let kept : c.truncate.new.self.items ≡ z = c.truncate.ensures.items ∙ c.members.invariant.outer in
    let items : c.extend_from_slice.new.self.items ≡ z ++ k = c.in_ok-extend_from_slice.ensures.items ∙ (λ i. kept i ++ c.deref.ensures.value i) in
    let same : c.deref-in-members.result.now ≡ z ++ k = c.deref-in-members.ensures.value ∙ items in
    let handed : c.from_residual-in_err-lay.result ≡ Err c.in_err-lay.field-0.0 = search rules in
    subst (λ r. FoldAnswers c.args.self.now.program.now c.args.self.now.inputs.now c.args.op (term c.args.e.now) z c.args.scanner.to_come c.args.room.points c.args.room.loads c.args.body.now c.lay.new.body r) (sym handed)
    (member-fails c.args.self.now.program.now c.args.self.now.inputs.now c.args.room.points c.args.room.loads c.args.body.now c.in_err-lay.field-0.0 c.args.op (term c.args.e.now) z c.args.scanner.to_come
    c.members.scanner.to_come c.advance.new.scanner.to_come c.members.body k c.members.invariant.folding c.members-test.ensures.point c.count_point.new.self c.deref-in-members.result.now c.count_point.ensures same
    c.in_err-lay.ensures)

pub lay_fold-members-preserved : goal.lay_fold-members-preserved
lay_fold-members-preserved t c =
    let z = c.args.z.now in
    let k = c.advance.new.point.items in
    let kept : c.truncate.new.self.items ≡ z = c.truncate.ensures.items ∙ c.members.invariant.outer in
    let items : c.extend_from_slice.new.self.items ≡ z ++ k = c.in_ok-extend_from_slice.ensures.items ∙ (λ i. kept i ++ c.deref.ensures.value i) in
    let same : c.deref-in-members.result.now ≡ z ++ k = c.deref-in-members.ensures.value ∙ items in
    let stepped = c.in_ok-push_operation.ensures in
    record {
      width = c.advance.ensures.width ∙ c.members.invariant.width;
      room = c.advance.ensures.room;
      outer = ap (take (length z)) items ∙ take-append_seam z k;
      long = omega (arith, ap length items, length-append z k);
      folding = folding-step c.args.self.now.program.now c.args.self.now.inputs.now c.args.op (term c.args.e.now) z c.args.scanner.to_come c.members.scanner.to_come c.advance.new.scanner.to_come c.args.body.now
          c.members.body c.count_point.new.self c.lay.new.body c.push_operation.new.self k c.deref-in-members.result.now c.members.invariant.folding c.members-test.ensures.point c.count_point.ensures same
          c.in_ok-lay.ensures.lays stepped;
      points = omega (arith, c.in_ok-lay.ensures.few_points, ap (λ (q : Layout). q.points) stepped);
      loads = omega (arith, c.in_ok-lay.ensures.few_loads, ap (λ (q : Layout). length q.loads) stepped);
    }
