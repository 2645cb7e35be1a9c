use Rattle.std.proofs.Common.{◌≡◌, ◌+◌, ◌-◌, ◌*◌, ◌≤◌, ◌++◌, [], ◌∷◌, ◌∙◌, suc, sym, ap, ap₂, subst, ℕ, List, All, length, arith, rules, Err, append-nil}
use Rattle.std.proofs.lemmas.List.{length-drop}
use Rattle.std.proofs.lemmas.List.Elements.{All-push, All-same}
use Rattle.az_lin.specs.Affine.{Affine, AffineMap, HasEntries, HasWidth}
use Rattle.az_lin.specs.Answers.{IsExactly}
use Rattle.az_lin.specs.Substitution.{HasEntryRows}
use Rattle.az_lin.specs.Inversion.{inverse_row, inverse_rows}
use Rattle.az_lin.proofs.Exactly.{handed_on}
use Rattle.az_lin.proofs.InverseRows.{enough, fewer, inverse_next, row_in_whole, inverse_widths}
use Rattle.az_lin.proofs.invert.inverse.Goals as goal

pub split_at-requires : goal.split_at-requires
split_at-requires c =
    let rows = c.args.map.now.rows in
    let m = length rows in
    let counted : length c.rows-count.result.now ≡ m = ap length c.rows-count.ensures.value in
    let left = m - (c.rows.number + 1) in
    let whole : suc left + c.rows.number ≡ m = omega (arith, counted, c.rows-test.true) in
    let big : m ≤ length c.rows.rest.now = enough left m (length c.rows.rest.now) (c.rows.invariant (suc left) whole).size in
    omega (arith, counted, big)

pub returns-in_err-inverse_row : goal.returns-in_err-inverse_row
returns-in_err-inverse_row c =
    let rows = c.args.map.now.rows in
    let m = length rows in
    let params = c.args.params in
    let counted : length c.rows-count.result.now ≡ m = ap length c.rows-count.ensures.value in
    let left = m - (c.rows.number + 1) in
    let whole : suc left + c.rows.number ≡ m = omega (arith, counted, c.rows-test.true) in
    let own = c.split_at.result.0.now in
    let made = inverse_rows params rows m c.args.numbers.now in
    let inverse : AffineMap = record { width = c.args.map.now.width; rows = made } in
    let refusal : IsExactly HasEntries (inverse_row params rows own) (Err c.in_err-inverse_row.field-0.0) = c.in_err-inverse_row.ensures in
    let handed : c.from_residual-in_err-inverse_row.result ≡ Err c.in_err-inverse_row.field-0.0 = search rules in
    subst (λ answer. IsExactly HasEntryRows inverse answer) (sym handed)
    (handed_on HasEntries (inverse_row params rows own) HasEntryRows inverse c.in_err-inverse_row.field-0.0 refusal
    (row_in_whole HasEntries params left rows c.rows-count.result.now c.rows.rows.items made c.rows.rest.now own c.rows-count.ensures.value c.split_at.ensures.front (c.rows.invariant (suc left) whole).whole))

pub rows-preserved : goal.rows-preserved
rows-preserved c = λ left count.
    let rows = c.args.map.now.rows in
    let m = length rows in
    let params = c.args.params in
    let counted : length c.rows-count.result.now ≡ m = ap length c.rows-count.ensures.value in
    let whole : suc left + c.rows.number ≡ m = omega (arith, count) in
    let before = c.rows.invariant (suc left) whole in
    let own = c.split_at.result.0.now in
    let got = c.in_ok-inverse_row.field-0 in
    let fewer_left : length c.split_at.result.1.now ≡ left * m =
    ap length c.split_at.ensures.back ∙ length-drop (length c.rows-count.result.now) c.rows.rest.now ∙ ap (λ n. length c.rows.rest.now - n) counted ∙ fewer left m (length c.rows.rest.now) before.size in
    record {
      size = fewer_left;
      whole = inverse_next params left rows c.rows-count.result.now c.rows.rows.items c.push.new.self.items (inverse_rows params rows m c.args.numbers.now) c.rows.rest.now own c.split_at.result.1.now got
          c.rows-count.ensures.value c.split_at.ensures.front c.split_at.ensures.back before.whole c.in_ok-push.ensures.items c.in_ok-inverse_row.ensures.0;
      entries = All-same HasEntries c.push.new.self.items (c.rows.rows.items ++ got ∷ []) c.in_ok-push.ensures.items
          (All-push HasEntries c.rows.rows.items got before.entries (subst HasEntries (sym c.in_ok-inverse_row.ensures.0) c.in_ok-inverse_row.ensures.1));
    }

pub new-requires : goal.new-requires
new-requires c =
    let rows = c.args.map.now.rows in
    let m = length rows in
    let counted : length c.rows-count.result.now ≡ m = ap length c.rows-count.ensures.value in
    let whole : 0 + c.rows.number ≡ m = omega (arith, counted) in
    let is : c.rows.rows.items ≡ inverse_rows c.args.params rows m c.args.numbers.now = sym (append-nil c.rows.rows.items) ∙ (c.rows.invariant 0 whole).whole in
    let W : ℕ → Type 0 = λ w. All (HasWidth w) c.from_vec.result in
    subst W (sym c.width.ensures.value)
    (All-same (HasWidth c.args.map.now.width) c.from_vec.result (inverse_rows c.args.params rows m c.args.numbers.now) (c.from_vec.ensures ∙ is)
    (inverse_widths c.args.params m c.args.map.now.width rows c.args.numbers.now c.requires.square c.requires.numbers))

pub returns : goal.returns
returns c =
    let rows = c.args.map.now.rows in
    let m = length rows in
    let counted : length c.rows-count.result.now ≡ m = ap length c.rows-count.ensures.value in
    let whole : 0 + c.rows.number ≡ m = omega (arith, counted) in
    let done = c.rows.invariant 0 whole in
    let is : c.rows.rows.items ≡ inverse_rows c.args.params rows m c.args.numbers.now = sym (append-nil c.rows.rows.items) ∙ done.whole in
    let made : c.from_vec.result ≡ inverse_rows c.args.params rows m c.args.numbers.now = c.from_vec.ensures ∙ is in (
      c.new.ensures ∙ ap₂ (λ (w : ℕ) (rs : List Affine). let f : AffineMap = record { width = w; rows = rs } in f) c.width.ensures.value made,
      subst (All HasEntries) is done.entries,
    )
