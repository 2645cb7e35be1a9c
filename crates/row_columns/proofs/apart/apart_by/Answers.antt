use Rattle.std.proofs.Common.{◌≡◌, ◌++◌, [], ◌∷◌, ◌∙◌, ◌-ℤ◌, ℕ, arith, rules, ap, sym, subst, length, map, max, get_or, pos, to_z, of_z}
use Rattle.std.specs.Int.{w128}
use Rattle.std.specs.List.{range_with_len}
use Rattle.std.proofs.lemmas.Int.{ints}
use Rattle.std.proofs.lemmas.List.FromFn.{map-range_with_len_more}
use Rattle.az_lin.specs.Affine.{HasEntries, value_at}
use Rattle.az_lin.specs.Answers.{IsExactly}
use Rattle.az_lin.specs.Difference.{apart_by}
use Rattle.az_lin.proofs.Difference.{value_at-apart_by}
use Rattle.az_lin.proofs.Exactly.{ok_from_exactly}
use Rattle.az_lin.proofs.Substitution.{row_is}
use Rattle.row_columns.proofs.Differences.{columns-differences}
use Rattle.row_columns.proofs.apart.apart_by.Goals as goal

pub columns-preserved : goal.columns-preserved
columns-preserved c =
    let f = λ (column : ℕ). get_or c.args.left.now.coefs column (pos 0) -ℤ get_or c.args.right.now.coefs column (pos 0) in
    let number = to_z w128 (of_z w128 (to_z w128 (of_z w128 c.coef_at.result) -ℤ to_z w128 (of_z w128 c.coef_at-in-columns.result))) in
    let value : number ≡ f c.columns.column = omega (arith, ints) in
    let pushed : c.push.new.self.items ≡ c.columns.coefs.items ++ number ∷ [] = search rules in
    pushed
    ∙ ap (λ xs. xs ++ number ∷ []) c.columns.invariant
    ∙ ap (λ x. map f (range_with_len 0 c.columns.column) ++ x ∷ []) value
    ∙ sym (map-range_with_len_more f 0 c.columns.column c.columns.column (omega arith))

exact : (c : goal.Joined-coefs-2) → IsExactly HasEntries (apart_by c.args.less.now c.args.left.now c.args.right.now) c.new.result
exact c =
    let wanted = apart_by c.args.less.now c.args.left.now c.args.right.now in
    let width : c.columns.column ≡ max (length c.args.left.now.coefs) (length c.args.right.now.coefs) = omega arith in
    let coefs : c.as_slice.result.now ≡ wanted.coefs =
    c.as_slice.ensures ∙ c.columns.invariant ∙ columns-differences c.args.left.now.coefs c.args.right.now.coefs c.columns.column width in
    let konst : to_z w128 (of_z w128 (to_z w128 (of_z w128 (to_z w128 (of_z w128 c.konst.result) -ℤ to_z w128 (of_z w128 c.konst-2.result))) -ℤ to_z w128 (of_z w128 c.args.less.now))) ≡ wanted.konst =
    omega (arith, ints) in
    subst (λ row. IsExactly HasEntries row c.new.result) (row_is wanted _ _ coefs konst) c.new.ensures

pub returns-clause-exact : goal.returns-clause-exact
returns-clause-exact c = exact c

pub returns-clause-meaning : goal.returns-clause-meaning
returns-clause-meaning c = λ z.
    ok_from_exactly HasEntries (apart_by c.args.less.now c.args.left.now c.args.right.now)
    (λ row. value_at row z ≡ (value_at c.args.left.now z -ℤ value_at c.args.right.now z) -ℤ c.args.less.now) c.new.result
    (exact c) (value_at-apart_by c.args.less.now c.args.left.now c.args.right.now z)
