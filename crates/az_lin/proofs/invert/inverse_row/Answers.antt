use Rattle.std.proofs.Common.{◌≡◌, ◌++◌, [], ◌∷◌, ◌∙◌, sym, ap, ℕ, pos, ◌-ℤ◌, map, arith, to_z, of_z}
use lib.IntN.{neg_ℤ}
use Rattle.std.proofs.lemmas.Bool.{false≢true}
use Rattle.std.proofs.lemmas.List.FromFn.{map-range_with_len_more}
use Rattle.std.specs.Int.{w128}
use Rattle.std.specs.List.{range_with_len}
use Rattle.az_lin.specs.Affine.{IsEntry, IsWide, dot}
use Rattle.az_lin.specs.Substitution.{column}
use Rattle.az_lin.proofs.Clearing.{negated_word}
use Rattle.az_lin.proofs.Fractions.{All-back}
use Rattle.az_lin.proofs.invert.inverse_row.Goals as goal

pub returns-then-not-are_entries : goal.returns-then-not-are_entries
returns-then-not-are_entries c = λ fits.
    let front = map (λ j. neg_ℤ (dot c.args.numbers.now (column j c.args.map.now.rows))) (range_with_len 0 c.args.params) in
    false≢true (sym c.if-not-are_entries.true ∙ c.are_entries.ensures.1 (record {
      coefficients = All-back IsEntry front c.args.numbers.now fits.coefficients;
      constant = omega arith;
    }))

pub columns-preserved : goal.columns-preserved
columns-preserved c =
    let sum = c.sum_at.result in
    let f = λ (j : ℕ). neg_ℤ (dot c.args.numbers.now (column j c.args.map.now.rows)) in
    let wide : IsWide sum = omega (arith, c.sum_at.ensures.range) in
    let value : sum ≡ dot c.args.numbers.now (column c.columns.column c.args.map.now.rows) = cc in
    let word = to_z w128 (of_z w128 (pos 0 -ℤ to_z w128 (of_z w128 sum))) in
    let is : word ≡ f c.columns.column = negated_word sum wide ∙ ap neg_ℤ value in
    c.in_ok-push.ensures.items
    ∙ ap (λ xs. xs ++ word ∷ []) c.columns.invariant
    ∙ ap (λ x. map f (range_with_len 0 c.columns.column) ++ x ∷ []) is
    ∙ sym (map-range_with_len_more f 0 c.columns.column c.columns.column (omega arith))
