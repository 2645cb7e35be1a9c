use Rattle.std.proofs.Common.{sym, subst}
use Rattle.std.specs.List.{All}
use Rattle.std.proofs.lemmas.List.Elements.{All-get_or}
use Rattle.az_lin.specs.Affine.{Affine, HasWidth, IsAtLeastZero}
use Rattle.loop_scan.proofs.derived.wide_rows.Goals as goal

pub rows-preserved : goal.rows-preserved
rows-preserved c =
    let rows = c.args.rows.now in
    let i = c.rows.row-index in
    let item = c.row-item.result in
    let at : (P : Affine → Type 0) → All P rows → P item = λ P all. subst P (sym c.row-item.is) (All-get_or P rows i item c.rows-test.true all) in
    let inv = c.rows.invariant in
    let kept = c.in_ok-keep.ensures in
    record {
      widths = kept.widths c.args.width (at (HasWidth c.args.width) c.requires.widths) inv.widths;
      range = kept.range inv.range;
      sound = λ y h. kept.sound y (at (IsAtLeastZero y) h) (inv.sound y h);
    }
