use Rattle.std.proofs.Common.{◌≡◌, ◌≤◌, length, arith, subst, ◌∙◌, sym, refl, Ok, Err, Fits, w32, ◌+◌}
use Rattle.formula_refute.specs.Cases.{systems, most_systems}
use Rattle.formula_refute.specs.Claims.{claim}
use Rattle.formula_refute.specs.Promise.{Refutes}
use Rattle.formula_refute.specs.declared.fault.RefuteFault.{RefuteFault}
use Rattle.formula_refute.specs.declared.refutation.Answer.{Answer}
use Rattle.formula_refute.specs.declared.front.Stop.TheVariants.{Point, Overflow}
use Rattle.domain_check.proofs.Fronts.{formula_count, formula_yes, formula_stop, formula_limit}
use Rattle.domain_check.proofs.decide.decide_formula.Goals as goal

pub overflow_cast-result : goal.overflow_cast-result
overflow_cast-result c =
    let all = systems c.args.width (claim c.args.formula.now) in
    let P : Answer → Type 0 = λ a. Refutes all (Ok a) in
    let count = formula_count c.args.kind c.args.at.variable c.args.at.next c.args.width (claim c.args.formula.now) c.in-Ok-Yes.derivations (subst P c.in-Ok-Yes.field-0-is c.in-Ok-Yes.ensures.answer) in
    let few : length all ≤ most_systems = c.requires.few in
    let len : c.len.result ≡ length all = c.len.ensures ∙ count in
    omega arith

pub overflow_add-result : goal.overflow_add-result
overflow_add-result c =
    let all = systems c.args.width (claim c.args.formula.now) in
    let P : Answer → Type 0 = λ a. Refutes all (Ok a) in
    let count = formula_count c.args.kind c.args.at.variable c.args.at.next c.args.width (claim c.args.formula.now) c.in-Ok-Yes.derivations (subst P c.in-Ok-Yes.field-0-is c.in-Ok-Yes.ensures.answer) in
    let room = c.requires.room in
    let len : c.len.result ≡ length all = c.len.ensures ∙ count in
    omega arith

pub returns-in-Ok-Yes : goal.returns-in-Ok-Yes
returns-in-Ok-Yes c =
    let all = systems c.args.width (claim c.args.formula.now) in
    let P : Answer → Type 0 = λ a. Refutes all (Ok a) in
    formula_yes c.args.kind c.args.at.variable c.args.at.next c.args.width (claim c.args.formula.now) c.in-Ok-Yes.derivations c.len.result (subst P c.in-Ok-Yes.field-0-is c.in-Ok-Yes.ensures.answer) c.len.ensures

pub returns-in-Ok-No : goal.returns-in-Ok-No
returns-in-Ok-No c =
    let all = systems c.args.width (claim c.args.formula.now) in
    let P : Answer → Type 0 = λ a. Refutes all (Ok a) in
    let h = subst P c.in-Ok-No.field-0-is c.in-Ok-No.ensures.answer in
    formula_stop c.args.kind c.args.at.variable c.args.at.next c.args.width (claim c.args.formula.now) c.in-Ok-No.case_no (Point c.in-Ok-No.point) h.1 (λ e. cc)

pub returns-in-Err-Overflow : goal.returns-in-Err-Overflow
returns-in-Err-Overflow c =
    let all = systems c.args.width (claim c.args.formula.now) in
    let P : RefuteFault → Type 0 = λ fault. Refutes all (Err fault) in
    let h = subst P c.in-Err-Overflow.field-0-is c.in-Err-Overflow.ensures.answer in
    formula_stop c.args.kind c.args.at.variable c.args.at.next c.args.width (claim c.args.formula.now) c.in-Err-Overflow.case_no Overflow h.1 (λ e. cc)

pub returns-in-Err-Limit : goal.returns-in-Err-Limit
returns-in-Err-Limit c =
    let all = systems c.args.width (claim c.args.formula.now) in
    let P : RefuteFault → Type 0 = λ fault. Refutes all (Err fault) in
    let h = subst P c.in-Err-Limit.field-0-is c.in-Err-Limit.ensures.answer in
    (refl, formula_limit c.args.kind c.args.at.variable c.args.at.next c.args.width (claim c.args.formula.now) c.in-Err-Limit.field-0-0 h c.requires.few)
