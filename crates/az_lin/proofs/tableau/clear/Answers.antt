use Rattle.std.proofs.Common.{◌≡◌, ◌<◌, ◌∙◌, sym, ap, subst, false, true, length, arith, get_or, of_z}
use Rattle.std.proofs.lemmas.Bool.{false≢true}
use Rattle.std.proofs.lemmas.List.Elements.{All-get_or}
use Rattle.std.specs.Int.{w128}
use Rattle.az_lin.specs.Affine.{Affine}
use Rattle.az_lin.specs.Inversion.{reaches, cleared, ClearsWide}
use Rattle.az_lin.proofs.Clearing.{reached_nonzero, unreached_zero, entry_read, zero_word, All-take_more, cleared_unreached, wide_unreached}
use Rattle.az_lin.proofs.TableauSteps.{get_or_any, still_own, done_next, done_unchanged}
use Rattle.az_lin.proofs.tableau.clear.Goals as goal

pub rows-preserved-then-coef-eq0 : goal.rows-preserved-then-coef-eq0
rows-preserved-then-coef-eq0 c =
    let j = c.args.column in
    let p = c.args.pivot.now in
    let f = cleared j p in
    let own = c.args.rows.now in
    let now = c.rows.rows in
    let i = c.rows.number in
    let d = c.index-rows-number.result in
    let r = get_or now i d in
    let none : reaches j r ≡ false = unreached_zero j r (entry_read j r c.coef.result c.coef.ensures.value ∙ zero_word c.coef.result c.coef.ensures.range c.if-coef-eq0.true) in
    let same : r ≡ get_or own i d = still_own f own now i d c.rows-test.true c.rows.invariant.done in
    let W : Affine → Type 0 = ClearsWide j p in
    record {
      done = done_unchanged f own now i d c.rows-test.true c.rows.invariant.done (cleared_unreached j p r none);
      wide = All-take_more W own i d c.rows-test.true c.rows.invariant.wide (subst W same (wide_unreached j p r none));
    }

pub cleared-requires-clause-same : goal.cleared-requires-clause-same
cleared-requires-clause-same c =
    let f = cleared c.args.column c.args.pivot.now in
    let d = c.index-rows-number-in-rows.result in
    ap (λ (row : Affine). length row.coefs) (still_own f c.args.rows.now c.rows.rows c.rows.number d c.rows-test.true c.rows.invariant.done)
    ∙ c.requires.widths c.rows.number d c.rows-test.true

pub cleared-requires-clause-entry : goal.cleared-requires-clause-entry
cleared-requires-clause-entry c =
    let j = c.args.column in
    let now = c.rows.rows in
    let i = c.rows.number in
    let d = c.index-rows-number.result in
    let e = c.index-rows-number-in-rows.result in
    let here : i < length now = omega arith in
    let r = get_or now i d in
    let reached : reaches j r ≡ true = reached_nonzero j r (λ none. c.if-coef-eq0.false (ap (of_z w128) (sym (entry_read j r c.coef.result c.coef.ensures.value) ∙ none))) in
    subst (λ (row : Affine). reaches j row ≡ true) (get_or_any now i d e here) reached

pub returns-in-None-clause-fits : goal.returns-in-None-clause-fits
returns-in-None-clause-fits c =
    let j = c.args.column in
    let p = c.args.pivot.now in
    let f = cleared j p in
    let own = c.args.rows.now in
    let now = c.rows.rows in
    let i = c.rows.number in
    let e = c.index-rows-number-in-rows.result in
    let W : Affine → Type 0 = ClearsWide j p in
    let same : get_or now i e ≡ get_or own i e = still_own f own now i e c.rows-test.true c.rows.invariant.done in
    let none = rw c.in-None.is at c.in_ok-row.ensures.exact in
    (λ h. absurd (false≢true h), λ all. absurd (none (subst W (sym same) (All-get_or W own i e c.rows-test.true all))))

pub rows-preserved : goal.rows-preserved
rows-preserved c =
    let j = c.args.column in
    let p = c.args.pivot.now in
    let f = cleared j p in
    let own = c.args.rows.now in
    let now = c.rows.rows in
    let i = c.rows.number in
    let e = c.index-rows-number-in-rows.result in
    let W : Affine → Type 0 = ClearsWide j p in
    let same : get_or now i e ≡ get_or own i e = still_own f own now i e c.rows-test.true c.rows.invariant.done in
    let found = rw c.in-Some.is at c.in_ok-row.ensures.exact in
    record {
      done = done_next f own now i c.in-Some.row e c.rows-test.true c.rows.invariant.done found.1;
      wide = All-take_more W own i e c.rows-test.true c.rows.invariant.wide (subst W same found.0);
    }
