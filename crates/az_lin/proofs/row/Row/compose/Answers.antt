use Rattle.std.proofs.Common.{◌≡◌, ◌++◌, [], ◌∷◌, ℕ, rules, arith, map, ap, sym, ◌∙◌, ◌+ℤ◌, to_z, of_z, subst}
use Rattle.std.specs.Int.{w128}
use Rattle.std.proofs.lemmas.Int.{ints}
use Rattle.std.specs.List.{range_with_len}
use Rattle.std.proofs.lemmas.List.FromFn.{map-range_with_len_more}
use Rattle.std.proofs.lemmas.List.Elements.{All-same}
use Rattle.az_lin.specs.Affine.{HasEntries, HasWidth, value_at, image_of, dot}
use Rattle.az_lin.specs.Answers.{IsExactly}
use Rattle.az_lin.specs.Substitution.{composed, column, constants}
use Rattle.az_lin.proofs.Exactly.{ok_from_exactly}
use Rattle.az_lin.proofs.Substitution.{value_at-composed, row_is}
use Rattle.az_lin.proofs.row.Row.compose.Goals as goal

pub columns-preserved : goal.columns-preserved
columns-preserved c =
    let f = λ (j : ℕ). dot c.args.self.now.coefs (column j c.args.f.now.rows) in
    let step = map-range_with_len_more f 0 c.columns.column c.columns.column (omega arith) in
    let value : c.sum_at.result ≡ f c.columns.column = cc in
    let pushed : c.push.new.self.items ≡ c.columns.coefs.items ++ c.sum_at.result ∷ [] = search rules in
    pushed
    ∙ ap (λ xs. xs ++ c.sum_at.result ∷ []) c.columns.invariant
    ∙ ap (λ x. map f (range_with_len 0 c.columns.column) ++ x ∷ []) value
    ∙ sym step

exact : (c : goal.After-checked) → IsExactly HasEntries (composed c.args.self.now c.args.f.now) c.checked.result
exact c =
    let full : c.columns.column ≡ c.args.f.now.width = omega arith in
    let coefs : c.columns.coefs.items ≡ (composed c.args.self.now c.args.f.now).coefs = c.columns.invariant ∙ ap (λ n. map (λ j. dot c.args.self.now.coefs (column j c.args.f.now.rows)) (range_with_len 0 n)) full in
    let value : c.sum_at-konst.result ≡ dot c.args.self.now.coefs (constants c.args.f.now.rows) = cc in
    let konst : to_z w128 (of_z w128 (to_z w128 (of_z w128 c.sum_at-konst.result) +ℤ to_z w128 (of_z w128 c.konst.result))) ≡ (composed c.args.self.now c.args.f.now).konst =
    omega (arith, ints) in
    subst (λ row. IsExactly HasEntries row c.checked.result) (row_is _ _ _ coefs konst) c.checked.ensures

pub returns-clause-exact : goal.returns-clause-exact
returns-clause-exact c = exact c

pub returns-clause-meaning : goal.returns-clause-meaning
returns-clause-meaning c = λ z.
    ok_from_exactly HasEntries (composed c.args.self.now c.args.f.now) (λ row. value_at row z ≡ value_at c.args.self.now (image_of c.args.f.now z)) c.checked.result
    (exact c) (value_at-composed c.args.self.now c.args.f.now z
    (All-same (HasWidth c.args.f.now.width) c.args.f.now.rows c.rows-2.result.now (sym c.rows-2.ensures.value) c.rows-2.ensures.widths))
