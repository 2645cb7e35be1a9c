use Rattle.std.proofs.Common.{◌≡◌, ◌<◌, ◌≤◌, ◌∙◌, sym, ap, subst, [], pos, false, true, length, arith, get_or, of_z}
use Rattle.std.proofs.lemmas.List.Sums.{position_or_len_is}
use Rattle.std.specs.Int.{w128}
use Rattle.az_lin.specs.Affine.{Affine}
use Rattle.az_lin.specs.Inversion.{reaches, place_of, entry}
use Rattle.az_lin.proofs.Clearing.{unreached_before, reached_nonzero, unreached_zero, entry_read, All-take_more, zero_word}
use Rattle.az_lin.proofs.tableau.place_of.Goals as goal

pub returns-then-coef-ne0 : goal.returns-then-coef-ne0
returns-then-coef-ne0 c =
    let rows = c.args.rows.now in
    let j = c.args.column in
    let i = c.rows.number in
    let d = c.index-rows-number.result in
    let past : i ≤ length rows = omega arith in
    let here : reaches j d ≡ true = reached_nonzero j d (λ none. c.if-coef-ne0.true (ap (of_z w128) (sym (entry_read j d c.coef.result c.coef.ensures.value) ∙ none))) in
    let there : reaches j (get_or rows i d) ≡ true = subst (λ (row : Affine). reaches j row ≡ true) c.index-rows-number.is here in
    let is : place_of j rows ≡ i = position_or_len_is (reaches j) rows i d past (λ k below. unreached_before j rows i k d past c.rows.invariant below) (λ _. there) in
    let below : place_of j rows < length rows = omega (arith, is, c.rows-test.true) in
    (below, sym is)

pub rows-preserved : goal.rows-preserved
rows-preserved c =
    let rows = c.args.rows.now in
    let j = c.args.column in
    let i = c.rows.number in
    let d = c.index-rows-number.result in
    let none : entry j d ≡ pos 0 = entry_read j d c.coef.result c.coef.ensures.value ∙ zero_word c.coef.result c.coef.ensures.range c.if-coef-ne0.false in
    All-take_more (λ (row : Affine). reaches j row ≡ false) rows i d c.rows-test.true c.rows.invariant
    (subst (λ (row : Affine). reaches j row ≡ false) c.index-rows-number.is (unreached_zero j d none))

pub returns : goal.returns
returns c = λ below.
    let rows = c.args.rows.now in
    let j = c.args.column in
    let i = c.rows.number in
    let past : i ≤ length rows = omega arith in
    let full : length rows ≤ i = omega arith in
    let d : Affine = record { coefs = []; konst = pos 0 } in
    let is : place_of j rows ≡ i = position_or_len_is (reaches j) rows i d past (λ k h. unreached_before j rows i k d past c.rows.invariant h) (λ h. absurd (omega (arith, h, full))) in
    omega (arith, is, below, full)
