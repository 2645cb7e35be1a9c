use Rattle.std.proofs.Common.{◌≡◌, ◌++◌, ◌+◌, sym, arith, length, take, append-nil}
use Rattle.std.specs.Prelude.{codes}
use Rattle.az_ast.specs.Term.{term}
use Rattle.az_ast.proofs.Walks.{below}
use Rattle.az_text.specs.Lumps.{bytes_of}
use Rattle.alphabets_show.specs.Sides.{restriction}
use Rattle.alphabets_show.specs.Expressions.{expression, branch_list}
use Rattle.alphabets_show.specs.Inner.{reduction_head}
use Rattle.alphabets_show.proofs.Forms.{negation_bytes, binary_bytes, cases_bytes, branch_written, reduction_bytes, few_branches}
use Rattle.alphabets_show.proofs.Texts.{further_one, then_written, then_ok, same_ok, pushed_ok}
use Rattle.alphabets_show.proofs.expressions.+push_expression.Goals as goal

pub loop-branch-init : goal.loop-branch-init
loop-branch-init t c = record {
  few = few_branches c.args.e.now c.in-Cases.branches c.as_slice-branch-items.result.now c.args.count c.in-Cases.is c.as_slice-branch-items.ensures c.requires;
  written = sym (append-nil _);
}

pub loop-branch-preserved : goal.loop-branch-preserved
loop-branch-preserved t c =
    let params = c.args.declared.params.now in
    let variables = c.args.declared.variables.now in
    let items = c.as_slice-branch-items.result.now in
    let branch = c.branch-item.result in
    let count = c.args.count in
    let e4 = codes "; " in
    let e3 = bytes_of (expression params variables (term branch.body) count) in
    let e2 = codes " : " in
    let e1 = bytes_of (restriction params branch.domain) in
    let p3 = then_written _ _ _ e3 e4 c.in_ok-push_expression-in-Cases.ensures.ok c.in_ok-push_str-in-Cases-3.ensures.bytes in
    let p2 = then_written _ _ _ e2 (e3 ++ e4) c.in_ok-push_str-in-Cases-2.ensures.bytes p3 in
    let p1 = then_written _ _ _ e1 (e2 ++ (e3 ++ e4)) c.in_ok-push_restriction-in-Cases.ensures.ok p2 in
    record {
      few = c.loop-branch.invariant.few;
      written = further_one _ _ _ (e1 ++ (e2 ++ (e3 ++ e4))) _ _ c.loop-branch.invariant.written p1
          (branch_written params variables items c.loop-branch.branch-index branch count c.loop-branch-test.true c.branch-item.is);
    }

pub returns-in_ok-push_expression-in-Neg : goal.returns-in_ok-push_expression-in-Neg
returns-in_ok-push_expression-in-Neg t c =
    let params = c.args.declared.params.now in
    let variables = c.args.declared.variables.now in
    let inner = c.get.result.now in
    let count = c.args.count in
    let e3 = codes ")" in
    let e2 = bytes_of (expression params variables (term inner) count) in
    let p3 = pushed_ok _ _ _ e3 c.push_str-in-Neg.ensures.bytes in
    let p2 = then_ok _ _ _ _ e2 e3 c.in_ok-push_expression-in-Neg.ensures.ok p3 in
    record {
      ok = same_ok _ _ _ _ _ (negation_bytes params variables c.args.e.now c.in-Neg.e inner count c.in-Neg.is c.get.ensures)
          (then_ok _ _ _ _ (codes "-(") (e2 ++ e3) c.in_ok-push_str-in-Neg.ensures.bytes p2);
    }

pub returns-in_ok-push_expression-in-Bin-2 : goal.returns-in_ok-push_expression-in-Bin-2
returns-in_ok-push_expression-in-Bin-2 t c =
    let params = c.args.declared.params.now in
    let variables = c.args.declared.variables.now in
    let one = c.get-in-Bin.result.now in
    let two = c.get-in-Bin-2.result.now in
    let count = c.args.count in
    let e5 = codes ")" in
    let e4 = bytes_of (expression params variables (term two) count) in
    let e3 = c.before_right.result.now in
    let e2 = bytes_of (expression params variables (term one) count) in
    let e1 = c.before_left.result.now in
    let p5 = pushed_ok _ _ _ e5 c.push_str-in-Bin-3.ensures.bytes in
    let p4 = then_ok _ _ _ _ e4 e5 c.in_ok-push_expression-in-Bin-2.ensures.ok p5 in
    let p3 = then_ok _ _ _ _ e3 (e4 ++ e5) c.in_ok-push_str-in-Bin-2.ensures.bytes p4 in
    let p2 = then_ok _ _ _ _ e2 (e3 ++ (e4 ++ e5)) c.in_ok-push_expression-in-Bin.ensures.ok p3 in
    record {
      ok = same_ok _ _ _ _ _
          (binary_bytes params variables c.args.e.now c.in-Bin.op c.in-Bin.a c.in-Bin.b one two e1 e3 count c.in-Bin.is c.get-in-Bin.ensures c.get-in-Bin-2.ensures c.before_left.ensures c.before_right.ensures)
          (then_ok _ _ _ _ e1 (e2 ++ (e3 ++ (e4 ++ e5))) c.in_ok-push_str-in-Bin.ensures.bytes p2);
    }

pub returns-after-loop-branch : goal.returns-after-loop-branch
returns-after-loop-branch t c =
    let params = c.args.declared.params.now in
    let variables = c.args.declared.variables.now in
    let items = c.as_slice-branch-items.result.now in
    let i = c.loop-branch.branch-index in
    let count = c.args.count in
    let end : i ≡ length items = omega arith in
    let e3 = codes "esac" in
    let e2 = bytes_of (branch_list params variables (below (take i items)) count) in
    let p3 = pushed_ok _ _ _ e3 c.push_str-in-Cases-2.ensures.bytes in
    let p2 = then_ok _ _ _ _ e2 e3 c.loop-branch.invariant.written p3 in
    record {
      ok = same_ok _ _ _ _ _ (cases_bytes params variables c.args.e.now c.in-Cases.branches items count i c.in-Cases.is c.as_slice-branch-items.ensures end)
          (then_ok _ _ _ _ (codes "case ") (e2 ++ e3) c.in_ok-push_str-in-Cases.ensures.bytes p2);
    }

pub returns-in_ok-push_expression-in-Reduce : goal.returns-in_ok-push_expression-in-Reduce
returns-in_ok-push_expression-in-Reduce t c =
    let params = c.args.declared.params.now in
    let variables = c.args.declared.variables.now in
    let inner = c.get-in-Reduce.result.now in
    let count = c.args.count in
    let extra = c.in-Reduce.extra in
    let e3 = codes ")" in
    let e2 = bytes_of (expression params variables (term inner) (count + extra)) in
    let e1 = bytes_of (reduction_head params c.in-Reduce.op count extra c.in-Reduce.domain) in
    let p3 = pushed_ok _ _ _ e3 c.push_str-in-Reduce.ensures.bytes in
    let p2 = then_ok _ _ _ _ e2 e3 c.in_ok-push_expression-in-Reduce.ensures.ok p3 in
    record {
      ok = same_ok _ _ _ _ _ (reduction_bytes params variables c.args.e.now c.in-Reduce.op extra c.in-Reduce.domain c.in-Reduce.e inner count c.in-Reduce.is c.get-in-Reduce.ensures)
          (then_ok _ _ _ _ e1 (e2 ++ e3) c.in_ok-push_reduction-in-Reduce.ensures.ok p2);
    }
