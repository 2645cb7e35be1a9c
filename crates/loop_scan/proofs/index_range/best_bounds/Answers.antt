use Rattle.std.proofs.Common.{◌≡◌, ◌∙◌, ◌++◌, ◌+◌, ap, sym, subst, map, take, List, ℤ}
use Rattle.std.specs.List.{flat_map}
use Rattle.std.proofs.lemmas.List.Elements.{All-get_or}
use Rattle.az_lin.specs.Affine.{Affine}
use Rattle.farkas_find.specs.Rows.{affine_of, HasWideRow}
use Rattle.farkas_find.specs.declared.wide.WideRow.{WideRow}
use Rattle.loop_scan.specs.Boxes.{lower_bound, upper_bound}
use Rattle.loop_scan.specs.Nest.Indices.{IsGreatestOf, IsLeastOf}
use Rattle.loop_scan.proofs.Indices.{bounds-more}
use Rattle.loop_scan.proofs.index_range.best_bounds.Goals as goal

pub lower_of-requires-clause-range : goal.lower_of-requires-clause-range
lower_of-requires-clause-range c =
    let P : WideRow → Type 0 = HasWideRow in
    subst P (sym c.row-item.is) (All-get_or P c.args.rows.now c.rows.row-index c.row-item.result c.rows-test.true c.requires.range)

pub upper_of-requires-clause-range : goal.upper_of-requires-clause-range
upper_of-requires-clause-range c =
    let P : WideRow → Type 0 = HasWideRow in
    subst P (sym c.row-item.is) (All-get_or P c.args.rows.now c.rows.row-index c.row-item.result c.rows-test.true c.requires.range)

pub rows-preserved : goal.rows-preserved
rows-preserved c =
    let rows = c.args.rows.now in
    let i = c.rows.row-index in
    let item = c.row-item.result in
    let seen : (Affine → List ℤ) → List ℤ = λ f. flat_map f (map affine_of (take i rows)) in
    let more : (f : Affine → List ℤ) → seen f ++ f (affine_of item) ≡ flat_map f (map affine_of (take (i + 1) rows)) =
    λ f. ap (λ (row : WideRow). seen f ++ f (affine_of row)) c.row-item.is ∙ bounds-more f rows i item c.rows-test.true in
    let lower = lower_bound c.args.column in
    let upper = upper_bound c.args.column in
    record {
      low = subst (λ bounds. IsGreatestOf bounds c.raised-low.result) (ap (λ new. seen lower ++ new) c.lower_of.ensures ∙ more lower)
          (c.raised-low.ensures (seen lower) c.rows.invariant.low);
      high = subst (λ bounds. IsLeastOf bounds c.lowered-high.result) (ap (λ new. seen upper ++ new) c.upper_of.ensures ∙ more upper)
          (c.lowered-high.ensures (seen upper) c.rows.invariant.high);
    }
