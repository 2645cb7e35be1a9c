use Rattle.std.proofs.Common.{◌≡◌, ℕ, length, ap, ◌∙◌, sym}
use Rattle.farkas_find.specs.Tidying.{row_at, coef_at}
use Rattle.farkas_find.specs.Combining.{has_sign, places_where}
use Rattle.farkas_find.proofs.Places.{kept_yes, kept_no}
use Rattle.farkas_find.proofs.pairs.places_with.Goals as goal
use Rattle.farkas_find.proofs.pairs.places_with.Goals.{then-has_sign+in_ok-push, else-has_sign}

pub places-preserved : goal.places-preserved
places-preserved c =
    let rows = c.args.rows.now in
    let column = c.args.column in
    let positive = c.args.positive in
    let test = λ (place : ℕ). has_sign positive (coef_at column (row_at rows place)) in
    let whole = places_where (λ it. has_sign positive (coef_at column it)) rows in
    let same : c.has_sign.result ≡ test c.places.place = c.has_sign.ensures ∙ ap (λ it. has_sign positive (coef_at column it)) c.at.ensures in
    elim c.if-has_sign.branch [
      | then-has_sign+in_ok-push w ↦ rw (w.places-is, w.in_ok-push.ensures.items) (kept_yes test c.places.places.items whole c.places.place (length rows) c.places-test.true (sym same ∙ w.if-has_sign.true) c.places.invariant)
      | else-has_sign w ↦ rw w.places-is (kept_no test c.places.places.items whole c.places.place (length rows) c.places-test.true (sym same ∙ w.if-has_sign.false) c.places.invariant)
    ]
