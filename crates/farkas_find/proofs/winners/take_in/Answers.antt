use Rattle.std.proofs.Common.{◌≡◌, ◌∙◌, sym, ap, arith, List, ℤ, ℕ, Bool, Option}
use Rattle.std.specs.Borrow.{Bor}
use Rattle.std.specs.HashMap.{get}
use Rattle.std.specs.Ordering.{int_eq}
use Rattle.std.specs.Cmp.Lexicographic.{pointwise}
use Rattle.std.specs.Cmp.Rules.{signed_items}
use Rattle.farkas_find.specs.declared.numbered.Numbered.{Numbered}
use Rattle.farkas_find.specs.Inner.Winners.{coefs_at}
use Rattle.farkas_find.proofs.Winning.{inside_of, finds_kept, finds_put, weaker}
use Rattle.farkas_find.proofs.winners.take_in.Goals as goal

pub is_as_strong-requires-clause-found : goal.is_as_strong-requires-clause-found
is_as_strong-requires-clause-found c =
    let rows = c.args.rows.now in
    let key = c.coefs-coefs.result in
    let same : Bor (List ℤ) → Bor (List ℤ) → Bool = λ x y. pointwise int_eq x.now y.now in
    let find : Bor (List ℤ) → Option ℕ = get same c.args.winners.now in
    let found : find key ≡ c.copied-best.result = sym (c.copied-best.ensures ∙ c.get.ensures.value) in
    inside_of (λ (key : Bor (List ℤ)). key.now) rows c.args.place find key c.copied-best.result c.requires.before (omega arith) found

pub returns-then-is_as_strong : goal.returns-then-is_as_strong
returns-then-is_as_strong c =
    let rows = c.args.rows.now in
    let key = c.coefs-coefs.result in
    let same : Bor (List ℤ) → Bor (List ℤ) → Bool = λ x y. pointwise int_eq x.now y.now in
    let find : Bor (List ℤ) → Option ℕ = get same c.args.winners.now in
    let keyed : key.now ≡ coefs_at rows c.args.place = c.coefs-coefs.ensures.value ∙ ap (λ (it : Numbered). it.row.coefs) c.at.ensures in
    let found : find key ≡ c.copied-best.result = sym (c.copied-best.ensures ∙ c.get.ensures.value) in
    finds_kept (λ (key : Bor (List ℤ)). key.now) rows c.args.place find key c.copied-best.result c.requires.before keyed found
    (sym c.is_as_strong.ensures ∙ c.if-is_as_strong.true)

pub returns : goal.returns
returns c =
    let rows = c.args.rows.now in
    let key = c.coefs-coefs.result in
    let same : Bor (List ℤ) → Bor (List ℤ) → Bool = λ x y. pointwise int_eq x.now y.now in
    let find : Bor (List ℤ) → Option ℕ = get same c.args.winners.now in
    let next : Bor (List ℤ) → Option ℕ = get same c.insert.new.self in
    let keyed : key.now ≡ coefs_at rows c.args.place = c.coefs-coefs.ensures.value ∙ ap (λ (it : Numbered). it.row.coefs) c.at.ensures in
    let found : find key ≡ c.copied-best.result = sym (c.copied-best.ensures ∙ c.get.ensures.value) in
    finds_put (λ (key : Bor (List ℤ)). key.now) same rows c.args.place find next key (λ x y h. (signed_items x.now y.now).0 h) (λ x y e. (signed_items x.now y.now).1 e)
    (λ q. c.in_ok-insert.ensures.updates.0 q) c.requires.before keyed
    (weaker rows c.args.place find key c.copied-best.result found (sym c.is_as_strong.ensures ∙ c.if-is_as_strong.false))
