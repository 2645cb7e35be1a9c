-- Where no column is left to go, tidying leaves no row: so any point meets what is left.
use Rattle.std.proofs.Common.{◌≡◌, ◌∙◌, ℕ, suc, ◌<◌, refl, sym, subst, arith, Bool, true, false, cond, not, ◌&&◌, List, [], ◌∷◌, length, map, get_or, take, drop, ◌+◌, SomeIff, IfSome, Option, Some, None, ℤ, pos, ◌<ℤ◌}
use Rattle.std.specs.List.{All, fold, list_all, list_any, range_with_len, items_where_true}
use Rattle.std.specs.Option.{option_or, option_map}
use Rattle.std.proofs.lemmas.Int.{ints}
use Rattle.std.proofs.lemmas.Bool.Decides.{Decides-int_eq}
use Rattle.std.proofs.lemmas.Option.{none-some}
use Rattle.std.proofs.lemmas.List.{get_or_default, length-replicate}
use Rattle.std.proofs.lemmas.List.FromFn.{get_or-map-range_with_len}
use Rattle.std.proofs.lemmas.List.Elements.{All-nil, All-cons, All-map}
use Rattle.az_lin.specs.Affine.{Affine, HasWidth}
use Rattle.az_lin.specs.RationalPoint.{IsWideAt, Satisfies}
use Rattle.az_lin.specs.declared.step.RatPoint.{RatPoint}
use Rattle.farkas_find.specs.declared.numbered.Numbered.{Numbered}
use Rattle.farkas_find.specs.declared.choice.Choice.{Choice}
use Rattle.farkas_find.specs.declared.trail.Stage.{Stage}
use Rattle.farkas_find.specs.declared.trail.Eliminated.{Eliminated}
use Rattle.farkas_find.specs.declared.trail.Ended.TheVariants.{Left}
use Rattle.az_lin.specs.declared.step.Step.{Step}
use Rattle.farkas_find.specs.Tidying.{row_at, is_zero, is_constant, is_at_least_as_strong, is_stronger, rounded, rounded_rows, stays, strongest, tidied}
use Rattle.farkas_find.specs.Combining.{HaveWidth}
use Rattle.farkas_find.specs.Choosing.{is_live, is_better, better_of, choice_by_pair, column_by_count, choice_of, is_free, free_columns}
use Rattle.farkas_find.specs.Stages.{given_rows, Finishes}
use Rattle.farkas_find.specs.BackSubstitution.{origin, point_from, point_of, IsFoundWide}
use Rattle.farkas_find.specs.Point.{rounded_system, EndsOpen}
use Rattle.farkas_find.proofs.Paired.{left_of_and}
use Rattle.farkas_find.proofs.Sublists.{All-filter_back, All-range_back, All-numbered_back}
use Rattle.farkas_find.proofs.Values.{Meets}
use Rattle.farkas_find.proofs.Keeping.{Every-given}
use Rattle.farkas_find.proofs.Widths.{HaveWidth-tidied}
use Rattle.farkas_find.proofs.Chosen.{IsGone}
use Rattle.farkas_find.proofs.Staged.{gone_of_dead}
use Rattle.farkas_find.proofs.Open.{IsProperPoint, reached_width, stages_back}

-- a row that stays has a coefficient
picked_forth : {X : Type 0} (P : X → Type 0) (bs : List Bool) (xs : List X) → ((i : ℕ) (d : X) → i < length xs → get_or bs i false ≡ true → P (get_or xs i d))
    → All P (items_where_true bs xs)
picked_forth P [] xs each = All-nil P
picked_forth P (b ∷ bs) [] each = All-nil P
picked_forth P (true ∷ bs) (x ∷ xs) each = All-cons P x (items_where_true bs xs) (each 0 x (omega arith) refl) (picked_forth P bs xs (λ i d inside set. each (suc i) d (omega arith) set))
picked_forth P (false ∷ bs) (x ∷ xs) each = picked_forth P bs xs (λ i d inside set. each (suc i) d (omega arith) set)

not_true : (b : Bool) → not b ≡ true → b ≡ false
not_true true h = absurd (cc)
not_true false h = refl

varies_if_stays : (rows : List Numbered) (i : ℕ) → stays rows i ≡ true → is_constant (row_at rows i) ≡ false
unfolding stays
varies_if_stays rows i h =
    not_true (is_constant (row_at rows i))
    (left_of_and (not (is_constant (row_at rows i)))
    (not (list_any (is_at_least_as_strong (row_at rows i)) (take i rows)) && not (list_any (is_stronger (row_at rows i)) (drop (i + 1) rows))) h)

left_vary : (rows : List Numbered) → All (λ it. is_constant it ≡ false) (strongest rows)
unfolding strongest
left_vary rows =
    let none : Numbered = record { row = record { coefs = []; konst = pos 0 }; number = 0 } in
    picked_forth (λ it. is_constant it ≡ false) (map (stays rows) (range_with_len 0 (length rows))) rows
    (λ i d inside set.
    let flag : get_or (map (stays rows) (range_with_len 0 (length rows))) i false ≡ stays rows i = get_or-map-range_with_len (stays rows) 0 (length rows) i i false inside (omega arith) in
    let P : Numbered → Type 0 = λ it. is_constant it ≡ false in
    subst P (get_or_default rows i none d inside) (varies_if_stays rows i (sym flag ∙ set)))

-- no column is live
best_stays : (rows : List Numbered) (best : ℕ) (columns : List ℕ) → fold (better_of rows) (Some best) columns ≡ None → ⊥
best_stays rows best [] e = none-some best (sym e)
best_stays rows best (column ∷ columns) e =
    (elim (is_better rows (Some best) column) as (λ b. fold (better_of rows) (cond b (Some column) (Some best)) columns ≡ None → ⊥) [
      | true ↦ λ h. best_stays rows column columns h
      | false ↦ λ h. best_stays rows best columns h
    ]) e

none_live : (rows : List Numbered) (columns : List ℕ) → fold (better_of rows) None columns ≡ None → All (λ column. is_live column rows ≡ false) columns
none_live rows [] e = All-nil (λ column. is_live column rows ≡ false)
none_live rows (column ∷ columns) e =
    (elim (is_live column rows) as (λ b. is_live column rows ≡ b → fold (better_of rows) (cond b (Some column) None) columns ≡ None → All (λ c. is_live c rows ≡ false) (column ∷ columns)) [
      | true ↦ λ live h. absurd (best_stays rows column columns h)
      | false ↦ λ dead h. All-cons (λ c. is_live c rows ≡ false) column columns dead (none_live rows columns h)
    ]) refl e

or_none : {X : Type 0} (a b : Option X) → option_or a b ≡ None → b ≡ None
or_none None b e = e
or_none (Some x) b e = absurd (none-some x (sym e))

map_none : (best : Option ℕ) → option_map (λ column. record { column = column; pair = None }) best ≡ (let none : Option Choice = None in none) → best ≡ None
map_none None e = refl
map_none (Some column) e =
    let made : Choice = record { column = column; pair = None } in
    absurd (none-some made (sym e))

all_dead : (columns : List ℕ) (rows : List Numbered) → choice_of columns rows ≡ None → All (λ column. is_live column rows ≡ false) columns
unfolding choice_of column_by_count
all_dead columns rows e =
    none_live rows columns (map_none (column_by_count columns rows) (or_none (choice_by_pair columns rows) (option_map (λ column. record { column = column; pair = None }) (column_by_count columns rows)) e))

all_gone : (width : ℕ) (rows : List Numbered) → choice_of (free_columns None width) rows ≡ None → (column : ℕ) → column < width → IsGone column rows
unfolding free_columns
all_gone width rows e column inside =
    let dead = All-filter_back (is_free None) (λ column. is_live column rows ≡ false) (range_with_len 0 width) (all_dead (free_columns None width) rows e) in
    gone_of_dead column rows (All-range_back width (λ column. is_free None column ≡ true → is_live column rows ≡ false) dead column inside refl)

zeros : (coefs : List ℤ) → ((k : ℕ) → k < length coefs → get_or coefs k (pos 0) ≡ pos 0) → list_all is_zero coefs ≡ true
zeros [] each = refl
zeros (x ∷ xs) each =
    let here : is_zero x ≡ true = (Decides-int_eq x (pos 0)).1 (each 0 (omega arith)) in
    let rest : list_all is_zero xs ≡ true = zeros xs (λ k inside. each (suc k) (omega arith)) in
    rw (here, rest) refl

contrary : (b : Bool) → b ≡ true → b ≡ false → ⊥
contrary b p q = absurd (cc)

last_met : (width next : ℕ) (rows : List Numbered) (point : RatPoint) → HaveWidth width (tidied next rows) → choice_of (free_columns None width) (tidied next rows) ≡ None
    → All (λ it. Meets point it.row) (tidied next rows)
unfolding is_constant
last_met width next rows point widths e =
    λ k d inside.
    let it = get_or (tidied next rows) k d in
    let wide : length it.row.coefs ≡ width = widths k d inside in
    let constant : list_all is_zero it.row.coefs ≡ true = zeros it.row.coefs (λ column there. all_gone width (tidied next rows) e column (omega (arith, wide, there)) k d inside) in
    absurd (contrary (list_all is_zero it.row.coefs) constant (left_vary (rounded_rows next rows) k d inside))

one_is_positive : pos 0 <ℤ pos 1
one_is_positive = omega (arith, ints)

open_point : (width : ℕ) (given : List Affine) (trail : List Eliminated) → All (HasWidth width) given → EndsOpen width given trail
    → All (λ row. Meets (point_of width trail) (rounded row)) given × IsProperPoint width (point_of width trail)
open_point width given trail widths ends =
    let stage : Stage = ends.stage in
    let rows = given_rows given in
    let wide : HaveWidth width rows = Every-given (HasWidth width) given widths in
    let still : HaveWidth width stage.rows = reached_width None width rows wide ends.number stage ends.reached in
    let proper : IsProperPoint width (origin width) = (length-replicate width (pos 0), one_is_positive) in
    let met = last_met width stage.next stage.rows (origin width) (HaveWidth-tidied width stage.next stage.rows still) ends.last in
    let back = stages_back None width rows wide ends.number stage ends.reached (origin width) proper ends.unrefuted met in
    let P : List Eliminated → Type 0 = λ t. All (λ row. Meets (point_from t (origin width)) (rounded row)) given × IsProperPoint width (point_from t (origin width)) in
    subst P (sym ends.gone) (All-numbered_back (λ row. Meets (point_from stage.trail (origin width)) (rounded row)) 0 given back.0, back.1)

pub point_satisfies : (width : ℕ) (given : List Affine) (trail : List Eliminated) → All (HasWidth width) given → EndsOpen width given trail → IsFoundWide width trail given
    → Satisfies (rounded_system width given) (point_of width trail)
point_satisfies width given trail widths ends wide =
    let point = point_of width trail in
    let open_there = open_point width given trail widths ends in
    record {
      width = open_there.1.0;
      positive = open_there.1.1;
      in_range = All-map (IsWideAt point) rounded given wide.rows;
      satisfied = All-map (Meets point) rounded given open_there.0;
    }

pub found_satisfies : (width : ℕ) (given : List Affine) (trail : List Eliminated) (got : Option RatPoint) → All (HasWidth width) given → EndsOpen width given trail
    → SomeIff got (IsFoundWide width trail given) (point_of width trail) → IfSome got (λ point. Satisfies (rounded_system width given) point)
found_satisfies width given trail None widths ends h = tt
found_satisfies width given trail (Some point) widths ends h =
    let P : RatPoint → Type 0 = Satisfies (rounded_system width given) in
    subst P (sym h.1) (point_satisfies width given trail widths ends h.0)

-- stages that end without a refuting row end so
pub ends_open : (width : ℕ) (given : List Affine) (left : List Numbered) (steps : List Step) (trail : List Eliminated)
    → Finishes (free_columns None width) (given_rows given) (record { ended = Left left; steps = steps; trail = trail }) → EndsOpen width given trail
ends_open width given left steps trail finishes = record {
  number = finishes.number;
  stage = finishes.stage;
  reached = finishes.reached;
  unrefuted = finishes.ends.0;
  last = finishes.ends.1;
  gone = finishes.trail;
}
