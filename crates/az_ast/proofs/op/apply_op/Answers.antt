use Rattle.std.proofs.Common.{rules, ◌≡◌, sym, ap, ◌∙◌, w64, to_z, of_z}
use Rattle.std.specs.Int.{int_max, int_min}
use Rattle.std.proofs.lemmas.Int.{wrapping_add_is, wrapping_sub_is, wrapping_mul_is}
use Rattle.az_ast.specs.declared.op.Op.TheVariants.{Add, Sub, Mul, And, Or, Xor, Max, Min}
use Rattle.az_ast.specs.Operators.{applied}
use Rattle.az_ast.proofs.OperatorLaws.{applied-words}
use Rattle.az_ast.proofs.op.apply_op.Goals as goal

pub returns-in-Add : goal.returns-in-Add
returns-in-Add c =
    wrapping_add_is w64 c.args.a c.args.b c.ranges.a c.ranges.b
    ∙ (sym (applied-words Add c.args.a c.args.b c.ranges.a c.ranges.b) ∙ ap (λ op. applied op c.args.a c.args.b) (sym c.in-Add.is))

pub returns-in-Sub : goal.returns-in-Sub
returns-in-Sub c =
    wrapping_sub_is w64 c.args.a c.args.b c.ranges.a c.ranges.b
    ∙ (sym (applied-words Sub c.args.a c.args.b c.ranges.a c.ranges.b) ∙ ap (λ op. applied op c.args.a c.args.b) (sym c.in-Sub.is))

pub returns-in-Mul : goal.returns-in-Mul
returns-in-Mul c =
    wrapping_mul_is w64 c.args.a c.args.b c.ranges.a c.ranges.b
    ∙ (sym (applied-words Mul c.args.a c.args.b c.ranges.a c.ranges.b) ∙ ap (λ op. applied op c.args.a c.args.b) (sym c.in-Mul.is))

pub returns-in-And : goal.returns-in-And
returns-in-And c =
    sym (applied-words And c.args.a c.args.b c.ranges.a c.ranges.b) ∙ ap (λ op. applied op c.args.a c.args.b) (sym c.in-And.is)

pub returns-in-Or : goal.returns-in-Or
returns-in-Or c =
    sym (applied-words Or c.args.a c.args.b c.ranges.a c.ranges.b) ∙ ap (λ op. applied op c.args.a c.args.b) (sym c.in-Or.is)

pub returns-in-Xor : goal.returns-in-Xor
returns-in-Xor c =
    sym (applied-words Xor c.args.a c.args.b c.ranges.a c.ranges.b) ∙ ap (λ op. applied op c.args.a c.args.b) (sym c.in-Xor.is)

pub returns-in-Max : goal.returns-in-Max
returns-in-Max c =
    let found : to_z w64 (of_z w64 c.max.result) ≡ int_max c.args.a c.args.b = search rules in
    found ∙ (sym (applied-words Max c.args.a c.args.b c.ranges.a c.ranges.b) ∙ ap (λ op. applied op c.args.a c.args.b) (sym c.in-Max.is))

pub returns-in-Min : goal.returns-in-Min
returns-in-Min c =
    let found : to_z w64 (of_z w64 c.min.result) ≡ int_min c.args.a c.args.b = search rules in
    found ∙ (sym (applied-words Min c.args.a c.args.b c.ranges.a c.ranges.b) ∙ ap (λ op. applied op c.args.a c.args.b) (sym c.in-Min.is))
