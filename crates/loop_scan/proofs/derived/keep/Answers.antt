use Rattle.std.proofs.Common.{sym, subst}
use Rattle.std.specs.List.{All}
use Rattle.std.proofs.lemmas.List.Elements.{All-push}
use Rattle.farkas_find.specs.Rows.{HasWideRow}
use Rattle.farkas_find.specs.declared.wide.WideRow.{WideRow}
use Rattle.loop_scan.proofs.derived.keep.Goals as goal

pub returns-in_ok-push-in_default-clause-range : goal.returns-in_ok-push-in_default-clause-range
returns-in_ok-push-in_default-clause-range c = λ h.
    let P : WideRow → Type 0 = HasWideRow in
    subst (All P) (sym c.in_ok-push-in_default.ensures.items)
    (All-push P c.args.copies.now.items c.in_ok-wide-in_default.field-0 h c.in_ok-wide-in_default.ensures.range)
