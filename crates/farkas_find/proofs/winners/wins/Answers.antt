use Rattle.std.proofs.Common.{◌≡◌, ◌∙◌, sym, ap, List, ℤ, ℕ, Bool, not, ◌&&◌, Option}
use Rattle.std.specs.Borrow.{Bor}
use Rattle.std.specs.HashMap.{get}
use Rattle.std.specs.Ordering.{int_eq}
use Rattle.std.specs.Cmp.Lexicographic.{pointwise}
use Rattle.farkas_find.specs.declared.numbered.Numbered.{Numbered}
use Rattle.farkas_find.specs.Tidying.{is_constant}
use Rattle.farkas_find.specs.Inner.Winners.{coefs_at, is_found}
use Rattle.farkas_find.proofs.Winning.{found-stays}
use Rattle.farkas_find.proofs.winners.wins.Goals as goal

pub returns : goal.returns
returns c =
    let rows = c.args.rows.now in
    let key = c.coefs-coefs.result in
    let same : Bor (List ℤ) → Bor (List ℤ) → Bool = λ x y. pointwise int_eq x.now y.now in
    let find : Bor (List ℤ) → Option ℕ = get same c.args.winners.now in
    let keyed : key.now ≡ coefs_at rows c.args.place = c.coefs-coefs.ensures.value ∙ ap (λ (it : Numbered). it.row.coefs) c.at-it.ensures in
    let found : find key ≡ c.copied-winner.result = sym (c.copied-winner.ensures ∙ c.get.ensures.value) in
    c.is_left.ensures
    ∙ ap (λ (b : Bool). not b && is_found c.copied-winner.result c.args.place) (c.is_constant.ensures ∙ ap is_constant c.at-it.ensures)
    ∙ found-stays (λ (key : Bor (List ℤ)). key.now) rows c.args.place find key c.copied-winner.result c.requires.there c.requires.all keyed found
