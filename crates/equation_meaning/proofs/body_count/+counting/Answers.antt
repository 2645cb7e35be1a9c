use Rattle.std.proofs.Common.{rules, ◌≡◌, ◌++◌, ◌-◌, ℕ, List, length, take, refl, sym, ap, subst, ◌∙◌, arith, length-append}
use Rattle.std.proofs.Math.Seq.{take-append_seam}
use Rattle.std.specs.Prelude.{ℤ, All, Contains, Err, Ok}
use Rattle.az_lin.specs.Affine.{HoldsSome, IsCoordinate}
use Rattle.az_ast.specs.Nodes.{nodes}
use Rattle.az_ast.specs.Term.{term}
use Rattle.az_ast.specs.declared.expr.Expr.{Expr}
use Rattle.az_ast.specs.declared.expr.Expr.TheVariants.{Cases}
use Rattle.equation_meaning.proofs.Branches.{branch-smaller, body-smaller}
use Rattle.equation_meaning.specs.Counts.{TermCounts}
use Rattle.equation_meaning.specs.Inner.Counting.{Evaluated, IsCounted, CountFails, IsCountable, CanCount, TermAnswers, BodyAnswers}
use Rattle.equation_meaning.proofs.Once.{counts-once}
use Rattle.equation_meaning.proofs.Counting.{step-counted, step-fails, parts-counted}
use Rattle.equation_meaning.proofs.BodySteps.{flat-body, first-left, missed-left, held-ready, held-answers, negation-counted, binary-counted, binary-second, reduce-refused, reduce-can, reduce-answers}
use Rattle.equation_meaning.proofs.body_count.+counting.Goals as goal

pub body_count-returns-then-not-has_reduction : goal.body_count-returns-then-not-has_reduction
body_count-returns-then-not-has_reduction t c =
    flat-body (term c.args.body.now) c.args.z.now c.args.points.now c.args.left (length c.args.points.now) refl c.if-count-left.false
    (sym c.has_reduction.ensures ∙ c.if-not-has_reduction.true) c.requires.each

pub body_count-count_of-requires : goal.body_count-count_of-requires
body_count-count_of-requires t c =
    let z = c.args.z.now in
    let k = c.k-item.result in
    let contains : Contains c.args.points.now k = (c.members.k-index, c.members-test.true, sym c.k-item.is) in
    let can : CanCount (term c.args.body.now) (z ++ k) = c.requires.each k contains in
    let kept : c.truncate.new.self.items ≡ z = c.truncate.ensures.items ∙ c.members.invariant.outer in
    let added : c.as_slice.result.now ≡ k = c.as_slice.ensures in
    let items : c.extend_from_slice.new.self.items ≡ z ++ k = c.in_ok-extend_from_slice.ensures.items ∙ (λ i. kept i ++ added i) in
    let same : c.deref.result.now ≡ z ++ k = c.deref.ensures.value ∙ items in (
      omega (arith, c.decreases),
      (
        subst (λ q. IsCountable (term c.args.body.now) q) (sym same) can.ready,
        (omega (arith, ap length same, can.narrow), (subst (λ q. All IsCoordinate q) (sym same) can.range, omega (arith, c.requires.small))),
      ),
    )

pub body_count-members-preserved : goal.body_count-members-preserved
body_count-members-preserved t c =
    let z = c.args.z.now in
    let k = c.k-item.result in
    let body = term c.args.body.now in
    let points = c.args.points.now in
    let kept : c.truncate.new.self.items ≡ z = c.truncate.ensures.items ∙ c.members.invariant.outer in
    let added : c.as_slice.result.now ≡ k = c.as_slice.ensures in
    let items : c.extend_from_slice.new.self.items ≡ z ++ k = c.in_ok-extend_from_slice.ensures.items ∙ (λ i. kept i ++ added i) in
    let same : c.deref.result.now ≡ z ++ k = c.deref.ensures.value ∙ items in
    let n : ℕ = c.in_ok-count.field-0 in
    let left : ℕ = c.args.left - c.members.count in
    let here : IsCounted (λ m. TermCounts body (z ++ k) m) (Evaluated body (z ++ k)) left n = subst (λ q. IsCounted (λ m. TermCounts body q m) (Evaluated body q) left n) same c.in_ok-count.ensures in
    record {
      outer = ap (take (length z)) items ∙ take-append_seam z k;
      long = omega (arith, ap length items, length-append z k);
      counted = step-counted (λ q m. TermCounts body (z ++ q) m) (λ q. Evaluated body (z ++ q)) (length points) points c.args.left c.members.count c.members.k-index k c.members-test.true c.k-item.is
          c.members.invariant.counted n here;
    }

pub body_count-returns-in_err-count : goal.body_count-returns-in_err-count
body_count-returns-in_err-count t c =
    let z = c.args.z.now in
    let k = c.k-item.result in
    let body = term c.args.body.now in
    let points = c.args.points.now in
    let kept : c.truncate.new.self.items ≡ z = c.truncate.ensures.items ∙ c.members.invariant.outer in
    let added : c.as_slice.result.now ≡ k = c.as_slice.ensures in
    let items : c.extend_from_slice.new.self.items ≡ z ++ k = c.in_ok-extend_from_slice.ensures.items ∙ (λ i. kept i ++ added i) in
    let same : c.deref.result.now ≡ z ++ k = c.deref.ensures.value ∙ items in
    let fault = c.in_err-count.field-0.0 in
    let left : ℕ = c.args.left - c.members.count in
    let here : CountFails (λ m. TermCounts body (z ++ k) m) (Evaluated body (z ++ k)) left fault = subst (λ q. CountFails (λ m. TermCounts body q m) (Evaluated body q) left fault) same c.in_err-count.ensures in
    let handed : c.from_residual-in_err-count.result ≡ Err c.in_err-count.field-0.0 = search rules in
    subst (λ r. BodyAnswers body z points c.args.left r) (sym handed)
    (step-fails (λ q m. TermCounts body (z ++ q) m) (λ q. Evaluated body (z ++ q)) (length points) points c.args.left c.members.count c.members.k-index k c.members-test.true c.k-item.is
    c.members.invariant.counted (λ q m n a b. counts-once body (z ++ q) m n a b) fault here)

pub body_count-returns : goal.body_count-returns
body_count-returns t c =
    let z = c.args.z.now in
    let body = term c.args.body.now in
    let points = c.args.points.now in
    parts-counted (λ q m. TermCounts body (z ++ q) m) (λ q. Evaluated body (z ++ q)) (length points) points c.args.left c.members.count c.members.k-index c.members-test.false c.members.invariant.counted

pub count_of-returns-in-Neg : goal.count_of-returns-in-Neg
count_of-returns-in-Neg t c =
    negation-counted c.args.e.now c.in-Neg.e c.args.z.now c.args.left c.count_of.result c.in-Neg.is
    (subst (λ (f : Expr). TermAnswers (term f) c.args.z.now c.args.left c.count_of.result) c.get.ensures c.count_of.ensures)

pub count_of-returns-in_ok-second-in-Bin : goal.count_of-returns-in_ok-second-in-Bin
count_of-returns-in_ok-second-in-Bin t c =
    let z = c.args.z.now in
    let i : ℕ = c.in_ok-first-in-Bin.first in
    let j : ℕ = c.in_ok-second-in-Bin.second in
    binary-counted c.args.e.now c.in-Bin.field-0 c.in-Bin.a c.in-Bin.b z c.args.left c.in-Bin.is i j
    (subst (λ (f : Expr). TermAnswers (term f) z c.args.left (Ok i)) c.get-in-Bin.ensures c.in_ok-first-in-Bin.ensures)
    (subst (λ (f : Expr). TermAnswers (term f) z (c.args.left - i) (Ok j)) c.get-in-Bin-2.ensures c.in_ok-second-in-Bin.ensures)

pub count_of-returns-in_err-second-in-Bin : goal.count_of-returns-in_err-second-in-Bin
count_of-returns-in_err-second-in-Bin t c =
    let z = c.args.z.now in
    let i : ℕ = c.in_ok-first-in-Bin.first in
    let fault = c.in_err-second-in-Bin.field-0.0 in
    let handed : c.from_residual-in_err-second-in-Bin.result ≡ Err c.in_err-second-in-Bin.field-0.0 = search rules in
    subst (λ r. TermAnswers (term c.args.e.now) z c.args.left r) (sym handed)
    (binary-second c.args.e.now c.in-Bin.field-0 c.in-Bin.a c.in-Bin.b z c.args.left c.in-Bin.is i fault
    (subst (λ (f : Expr). TermAnswers (term f) z c.args.left (Ok i)) c.get-in-Bin.ensures c.in_ok-first-in-Bin.ensures)
    (subst (λ (f : Expr). TermAnswers (term f) z (c.args.left - i) (Err fault)) c.get-in-Bin-2.ensures c.in_err-second-in-Bin.ensures))

pub count_of-branches-init : goal.count_of-branches-init
count_of-branches-init t c =
    first-left c.args.e.now c.args.z.now c.as_slice-branch-items.result.now (c.in-Cases.is ∙ ap Cases (sym c.as_slice-branch-items.ensures)) c.requires.ready

pub count_of-branches-preserved : goal.count_of-branches-preserved
count_of-branches-preserved t c =
    missed-left c.args.e.now c.args.z.now c.as_slice-branch-items.result.now c.branches.branch-index c.branch-item.result c.branches-test.true c.branch-item.is c.branches.invariant
    (λ h. let held = c.holds.ensures.1 h in let out = c.if-holds.false in cc)

pub count_of-count_of-requires-then-holds : goal.count_of-count_of-requires-then-holds
count_of-count_of-requires-then-holds t c =
    let branch = c.branch-item.result in
    let items = c.as_slice-branch-items.result.now in
    let held : HoldsSome branch.domain c.args.z.now = search rules in
    let smaller = branch-smaller c.args.e.now items c.branches.branch-index branch (c.in-Cases.is ∙ ap Cases (sym c.as_slice-branch-items.ensures)) c.branches-test.true c.branch-item.is in (
      omega (arith, c.decreases, smaller),
      (
        held-ready c.args.e.now c.args.z.now items c.branches.branch-index branch c.branches-test.true c.branch-item.is c.branches.invariant held,
        (c.requires.narrow, (c.requires.range, c.requires.small)),
      ),
    )

pub count_of-returns-then-holds : goal.count_of-returns-then-holds
count_of-returns-then-holds t c =
    let branch = c.branch-item.result in
    let items = c.as_slice-branch-items.result.now in
    let held : HoldsSome branch.domain c.args.z.now = search rules in
    held-answers c.args.e.now c.args.z.now items c.branches.branch-index branch c.branches-test.true c.branch-item.is c.branches.invariant held c.args.left c.count_of-then-holds.result c.count_of-then-holds.ensures

pub count_of-returns-in-Err : goal.count_of-returns-in-Err
count_of-returns-in-Err t c =
    reduce-refused c.args.e.now c.in-Reduce.field-0 c.in-Reduce.field-1 c.in-Reduce.domain c.in-Reduce.body c.args.z.now c.args.left c.in-Reduce.is c.in-Err.fault c.in-Err.ensures.cause

pub count_of-body_count-requires : goal.count_of-body_count-requires
count_of-body_count-requires t c =
    let z = c.args.z.now in
    let body : c.get-in-Reduce.result.now ≡ c.in-Reduce.body = c.get-in-Reduce.ensures in
    let listed : c.as_slice.result.now ≡ c.in-Ok.points = c.as_slice.ensures in
    let smaller = body-smaller c.args.e.now c.in-Reduce.field-0 c.in-Reduce.field-1 c.in-Reduce.domain c.in-Reduce.body c.in-Reduce.is in
    let can = reduce-can c.args.e.now c.in-Reduce.field-0 c.in-Reduce.field-1 c.in-Reduce.domain c.in-Reduce.body z c.args.left c.in-Reduce.is c.requires.ready c.in-Ok.points c.in-Ok.ensures.ok c.requires.range in (
      omega (arith, c.decreases, smaller, ap (λ (b : Expr). nodes (term b)) body),
      (λ k m. subst (λ (b : Expr). CanCount (term b) (z ++ k)) (sym body) (can k (subst (λ (ps : List (List ℤ)). Contains ps k) listed m)), c.requires.small),
    )

pub count_of-returns-in-Ok : goal.count_of-returns-in-Ok
count_of-returns-in-Ok t c =
    let z = c.args.z.now in
    let body : c.get-in-Reduce.result.now ≡ c.in-Reduce.body = c.get-in-Reduce.ensures in
    let listed : c.as_slice.result.now ≡ c.in-Ok.points = c.as_slice.ensures in
    reduce-answers c.args.e.now c.in-Reduce.field-0 c.in-Reduce.field-1 c.in-Reduce.domain c.in-Reduce.body z c.args.left c.in-Reduce.is c.requires.ready c.in-Ok.points c.in-Ok.ensures.ok c.in-Ok.ensures.only
    c.body_count.result
    (subst (λ (ps : List (List ℤ)). BodyAnswers (term c.in-Reduce.body) z ps c.args.left c.body_count.result) listed
    (subst (λ (b : Expr). BodyAnswers (term b) z c.as_slice.result.now c.args.left c.body_count.result) body c.body_count.ensures))
