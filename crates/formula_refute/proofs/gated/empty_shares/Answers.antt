use Rattle.std.proofs.Common.{◌∙◌, ◌+◌, List, length, All, ap, sym, subst}
use Rattle.std.proofs.lemmas.List.{length_push}
use Rattle.std.proofs.lemmas.List.Elements.{All-push}
use Rattle.formula_refute.specs.Inner.Shares.{IsEmptyShare}
use Rattle.formula_refute.specs.declared.share.Share.{Share}
use Rattle.formula_refute.proofs.gated.empty_shares.Goals as goal

pub loop-preserved : goal.loop-preserved
loop-preserved c =
    let before : List Share = c.loop.shares.items in
    let P : List Share → Type 0 = λ shares. All IsEmptyShare shares in (
      ap length c.in_ok-push_back.ensures.items ∙ length_push before c.new.result ∙ ap (λ n. n + 1) c.loop.invariant.0,
      subst P (sym c.in_ok-push_back.ensures.items)
          (All-push IsEmptyShare before c.new.result c.loop.invariant.1 (record { none = c.new.ensures.empty; open_end = c.new.ensures.open })),
    )
