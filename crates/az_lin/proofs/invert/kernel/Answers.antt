use Rattle.std.proofs.Common.{◌≡◌, ◌-◌, ◌++◌, ◌∷◌, ◌∙◌, sym, ap, subst, suc, ℕ, pos, ◌-ℤ◌, List, All, length, take, replicate, rules, to_z, of_z}
use lib.IntN.{neg_ℤ}
use Rattle.std.specs.Int.{w128}
use Rattle.std.specs.Vec.{vec_len}
use Rattle.az_lin.specs.Affine.{Affine, IsWide}
use Rattle.az_lin.specs.Inversion.{numerators, kernel_number, kernel_vector, denominator_from}
use Rattle.az_lin.proofs.Clearing.{word_is, negated_word}
use Rattle.az_lin.proofs.Fractions.{All-front, kernel_numbers, kernel_made, kernel_wide, number_wide}
use Rattle.az_lin.proofs.invert.kernel.Goals as goal

pub returns-in_default-2-clause-exact : goal.returns-in_default-2-clause-exact
returns-in_default-2-clause-exact c = λ wide.
    let t = c.args.tableau.now in
    let rows = c.pivots-pivots.result.now in
    let number = c.in-Some.number in
    let den = to_z w128 (of_z w128 (pos 0 -ℤ to_z w128 (of_z w128 number))) in
    let same : numerators (length rows) 1 den 0 rows ≡ numerators (length t.pivots) 1 (neg_ℤ (pos (kernel_number t))) 0 t.pivots =
    kernel_numbers t rows number den c.pivots-pivots.ensures c.in-Some.ensures.exact.1 (negated_word number (number_wide number _ c.in-Some.ensures.exact)) in
    let none = rw c.in_default-2.is at c.in_ok-vector.ensures.exact in
    none (subst (All IsWide) (sym same) (All-front IsWide (numerators (length t.pivots) 1 (neg_ℤ (pos (kernel_number t))) 0 t.pivots) (pos (kernel_number t) ∷ replicate (c.args.count - suc (length t.pivots)) (pos 0)) wide))

pub returns-clause-exact : goal.returns-clause-exact
returns-clause-exact c =
    let t = c.args.tableau.now in
    let n = c.args.count in
    let rows = c.pivots-pivots.result.now in
    let number = c.in-Some.number in
    let den = to_z w128 (of_z w128 (pos 0 -ℤ to_z w128 (of_z w128 number))) in
    let wide_number : IsWide number = number_wide number _ c.in-Some.ensures.exact in
    let same : numerators (length rows) 1 den 0 rows ≡ numerators (length t.pivots) 1 (neg_ℤ (pos (kernel_number t))) 0 t.pivots =
    kernel_numbers t rows number den c.pivots-pivots.ensures c.in-Some.ensures.exact.1 (negated_word number wide_number) in
    let found = rw c.in-Some-2.is at c.in_ok-vector.ensures.exact in
    let counted : vec_len c.push.new.self ≡ length c.push.new.self.items = search rules in
    let word : to_z w128 (of_z w128 number) ≡ pos (kernel_number t) =
    word_is number wide_number ∙ c.in-Some.ensures.exact.1 ∙ ap (λ (rs : List Affine). pos (denominator_from (length rs) 1 1 0 rs)) c.pivots-pivots.ensures in
    let sized = c.in_ok-resize.ensures.items ∙ ap (λ (m : ℕ). take n c.push.new.self.items ++ replicate (n - m) (pos 0)) counted in
    let is : c.resize.new.self.items ≡ kernel_vector n t =
    kernel_made n t c.in-Some-2.vector.items c.push.new.self.items c.resize.new.self.items (to_z w128 (of_z w128 number)) c.requires.short c.requires.widths (found.1 ∙ same) word c.in_ok-push.ensures.items sized in
    (kernel_wide n t (subst (All IsWide) same found.0) (subst IsWide (sym (word_is number wide_number) ∙ word) wide_number), is)
