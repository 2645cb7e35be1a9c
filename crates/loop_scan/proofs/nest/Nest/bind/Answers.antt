use Rattle.std.proofs.Common.{◌≡◌, ◌∙◌, ◌++◌, ◌∷◌, [], ap, arith, refl, sym, subst, length, take, get_or, ℤ, pos, ◌+ℤ◌, ◌*ℤ◌, ◌≤ℤ◌, ◌<◌, ◌+◌, ℕ, List, Some, to_z, of_z, zero-add}
use Rattle.std.specs.Int.{w128}
use Rattle.std.proofs.lemmas.Int.{to_z-of_z, fits_signed_from_abs}
use Rattle.std.proofs.lemmas.List.{length-set, length-take-le}
use Rattle.std.proofs.lemmas.Option.{get_or_from_slice_get}
use Rattle.az_lin.specs.Affine.{Affine, IsEntry, value_at}
use Rattle.loop_scan.specs.declared.bound.Bound.{Bound}
use Rattle.loop_scan.specs.declared.level.Level.{Level}
use Rattle.loop_scan.specs.Nest.Levels.{IsBound, IsLevel}
use Rattle.loop_scan.specs.Nest.Nests.{IsLastColumn}
use Rattle.loop_scan.proofs.WalkSteps.{AreLevels-at}
use Rattle.loop_scan.proofs.Bounding.{value_at-cut, Bounded, IsLevel-bounded, AreLevels-set, Passes-bounded, Passes-admitted}
use Rattle.loop_scan.proofs.nest.Nest.bind.Goals as goal

-- the bound that a row gives on its last column, and the level that has it
module _ (row : Affine) (k : ℕ) (last : IsLastColumn row.coefs (length row.coefs) (Some k)) (coef : ℤ) (entry : IsEntry coef)
    (read : get_or row.coefs k (pos 0) ≡ coef) (rest : Affine) (cut : rest ≡ record { coefs = take k row.coefs; konst = row.konst }) where
  word_is : to_z w128 (of_z w128 coef) ≡ get_or row.coefs k (pos 0)
  word_is = to_z-of_z w128 coef (fits_signed_from_abs w128 coef (omega arith)) ∙ sym read

  pub is_bound : IsBound k (record { coef = to_z w128 (of_z w128 coef); rest = rest })
  is_bound =
      let long : length (take k row.coefs) ≡ k = length-take-le k row.coefs (omega (arith, last.0)) in
      record {
        entry = subst IsEntry (read' ∙ sym word_is) entry;
        nonzero = λ e. last.1 (sym word_is ∙ e);
        width = ap (λ (r : Affine). length r.coefs) cut ∙ long;
      }
    where
      read' : coef ≡ get_or row.coefs k (pos 0)
      read' = sym read

  pub admitted : (y : List ℤ) → length y ≡ length row.coefs
      → (to_z w128 (of_z w128 coef) *ℤ get_or y k (pos 0)) +ℤ value_at rest (take k y) ≡ value_at row y
  admitted y e =
      ap (λ (n : ℤ). (n *ℤ get_or y k (pos 0)) +ℤ value_at rest (take k y)) word_is
      ∙ ap (λ (r : Affine). (get_or row.coefs k (pos 0) *ℤ get_or y k (pos 0)) +ℤ value_at r (take k y)) cut
      ∙ sym (value_at-cut row y k e last)

module _ (levels : List Level) (k : ℕ) (level : Level) (is : level ≡ get_or levels k level) (bound : Bound) (new : Level)
    (range : new.range ≡ level.range) (items : new.bounds.items ≡ level.bounds.items ++ bound ∷ []) where
  pub bounded : Bounded bound (get_or levels k level) new
  bounded = (range ∙ ap (λ (l : Level). l.range) is, items ∙ ap (λ (l : Level). l.bounds.items ++ bound ∷ []) is)

pub returns-clause-state : goal.returns-clause-state
returns-clause-state c =
    let row = c.args.row.now in
    let k = c.args.column in
    let levels = c.args.self.now.levels.items in
    let level = c.index_mut.result.now in
    let bound : Bound = record { coef = to_z w128 (of_z w128 c.coef.result); rest = c.in_ok-rest.rest } in
    let new : Level = record { range = level.range; bounds = c.push.new.self } in
    let inside : k < length levels = omega (arith, c.requires.last.0, c.requires.state.indices) in
    let read : get_or row.coefs k (pos 0) ≡ c.coef.result = get_or_from_slice_get row.coefs k c.coef.result (pos 0) c.coef.ensures.value in
    let fits = is_bound row k c.requires.last c.coef.result c.coef.ensures.range read c.in_ok-rest.rest c.in_ok-rest.ensures.ok in
    let with_bound = bounded levels k level c.index_mut.ensures.value bound new refl c.in_ok-push.ensures.items in
    let from : IsLevel (0 + k) (get_or levels k level) → IsLevel k (get_or levels k level) = subst (λ n. IsLevel n (get_or levels k level)) (zero-add k) in
    let at : IsLevel k new → IsLevel (0 + k) new = subst (λ n. IsLevel n new) (sym (zero-add k)) in
    record {
      levels = AreLevels-set 0 k levels new inside c.requires.state.levels
          (at (IsLevel-bounded k bound (get_or levels k level) new fits with_bound (from (AreLevels-at 0 k levels level inside c.requires.state.levels))));
      indices = length-set levels k new ∙ c.requires.state.indices;
    }

pub returns-clause-points : goal.returns-clause-points
returns-clause-points c = λ y e.
    let row = c.args.row.now in
    let k = c.args.column in
    let levels = c.args.self.now.levels.items in
    let level = c.index_mut.result.now in
    let bound : Bound = record { coef = to_z w128 (of_z w128 c.coef.result); rest = c.in_ok-rest.rest } in
    let new : Level = record { range = level.range; bounds = c.push.new.self } in
    let inside : k < length levels = omega (arith, c.requires.last.0, c.requires.state.indices) in
    let read : get_or row.coefs k (pos 0) ≡ c.coef.result = get_or_from_slice_get row.coefs k c.coef.result (pos 0) c.coef.ensures.value in
    let fits = is_bound row k c.requires.last c.coef.result c.coef.ensures.range read c.in_ok-rest.rest c.in_ok-rest.ensures.ok in
    let with_bound = bounded levels k level c.index_mut.ensures.value bound new refl c.in_ok-push.ensures.items in
    let same = admitted row k c.requires.last c.coef.result c.coef.ensures.range read c.in_ok-rest.rest c.in_ok-rest.ensures.ok y e in
    let P : ℤ → Type 0 = λ n. pos 0 ≤ℤ n in (
      λ a. let parts = Passes-bounded bound fits.nonzero new k levels [] y level inside with_bound a.1 in ((a.0, parts.0), subst P same parts.1),
      λ a. (a.0.0, Passes-admitted bound fits.nonzero new k levels [] y level inside with_bound a.0.1 (subst P (sym same) a.1)),
    )
