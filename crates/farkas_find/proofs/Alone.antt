-- Where no column may go, no row has one of these columns.
use Rattle.std.proofs.Common.{◌≡◌, ◌≢◌, ℕ, ◌+◌, ◌<◌, refl, ◌∙◌, subst, arith, Bool, true, false, cond, not, nat_eq, List, [], ◌∷◌, get_or, Option, Some, None, IfOk, Result, Ok, Err}
use Rattle.std.specs.Option.{option_or, option_map}
use Rattle.std.specs.List.{All, filter, fold, range_with_len}
use Rattle.std.proofs.lemmas.Bool.Decides.{nat_tests}
use Rattle.std.proofs.lemmas.List.Elements.{All-nil, All-cons, All-head, All-tail}
use Rattle.std.proofs.lemmas.List.FromFn.{get_or-range_with_len, length-range_with_len}
use Rattle.farkas_find.specs.declared.numbered.Numbered.{Numbered}
use Rattle.farkas_find.specs.declared.choice.Choice.{Choice}
use Rattle.farkas_find.specs.declared.left.Left.{Left}
use Rattle.farkas_find.specs.declared.left.Left.TheVariants.{Contradiction, Rows}
use Rattle.farkas_find.specs.declared.fault.FindFault.{FindFault}
use Rattle.farkas_find.specs.Choosing.{is_live, is_better, better_of, column_by_count, choice_by_pair, choice_of, is_free, free_columns}
use Rattle.farkas_find.specs.Stages.{tidied_rows}
use Rattle.farkas_find.specs.Answers.{RangeAnswers, HasOnly, LacksOthers}
use Rattle.farkas_find.proofs.Chosen.{IsGone}
use Rattle.farkas_find.proofs.Staged.{gone_of_dead}
use Rattle.farkas_find.proofs.Sound.{handed}

unlive : (b : Bool) (column : ℕ) → cond b (Some column) None ≡ None → b ≡ false
unlive true column e = absurd (cc)
unlive false column e = refl

some_stays : (b : Bool) (column best : ℕ) → cond b (Some column) (Some best) ≡ None → ⊥
some_stays true column best e = absurd (cc)
some_stays false column best e = absurd (cc)

fold-None : (rows : List Numbered) (columns : List ℕ) (best : Option ℕ) → fold (better_of rows) best columns ≡ None
    → (best ≡ None) × All (λ column. is_live column rows ≡ false) columns
fold-None rows [] best e = (e, All-nil (λ column. is_live column rows ≡ false))
fold-None rows (column ∷ columns) None e =
    let rest = fold-None rows columns (better_of rows None column) e in
    (refl, All-cons (λ column. is_live column rows ≡ false) column columns (unlive (is_live column rows) column rest.0) rest.1)
fold-None rows (column ∷ columns) (Some best) e =
    let rest = fold-None rows columns (better_of rows (Some best) column) e in
    absurd (some_stays (is_better rows (Some best) column) column best rest.0)

nothing_or : (r : Option Choice) (c : Option ℕ) → option_or r (option_map (λ column. record { column = column; pair = None }) c) ≡ None → c ≡ None
nothing_or (Some choice) c h = absurd (cc)
nothing_or None None h = refl
nothing_or None (Some column) h = absurd (cc)

choice_of-None : (columns : List ℕ) (rows : List Numbered) → choice_of columns rows ≡ None → All (λ column. IsGone column rows) columns
unfolding choice_of column_by_count
choice_of-None columns rows e =
    let none = nothing_or (choice_by_pair columns rows) (fold (better_of rows) None columns) e in
    let all = fold-None rows columns None none in
    λ k d inside. gone_of_dead (get_or columns k d) rows (all.1 k d inside)

from_filter : (P : ℕ → Type 0) (p : ℕ → Bool) (xs : List ℕ) → All P (filter p xs) → All (λ x. p x ≡ true → P x) xs
from_filter P p [] all = All-nil (λ x. p x ≡ true → P x)
from_filter P p (x ∷ xs) all =
    (elim (p x) as (λ b. p x ≡ b → All P (cond b (x ∷ filter p xs) (filter p xs)) → All (λ x. p x ≡ true → P x) (x ∷ xs)) [
      | true ↦ λ yes here. All-cons (λ x. p x ≡ true → P x) x xs (λ e. All-head P x (filter p xs) here) (from_filter P p xs (All-tail P x (filter p xs) here))
      | false ↦ λ no here. All-cons (λ x. p x ≡ true → P x) x xs (λ e. absurd (cc)) (from_filter P p xs here)
    ]) refl all

zero_add : (n : ℕ) → 0 + n ≡ n
zero_add n = omega arith

differs : (m n : ℕ) → m ≢ n → not (nat_eq m n) ≡ true
differs m n apart = grind (arith, nat_tests)

gone_others : (width column : ℕ) (rows : List Numbered) → All (λ other. IsGone other rows) (free_columns (Some column) width)
    → (other : ℕ) → other < width → other ≢ column → IsGone other rows
unfolding free_columns
gone_others width column rows all other inside apart =
    let each = from_filter (λ other. IsGone other rows) (is_free (Some column)) (range_with_len 0 width) all in
    let here = each other 0 (omega (arith, inside, length-range_with_len 0 width)) in
    let is : get_or (range_with_len 0 width) other 0 ≡ other = get_or-range_with_len 0 width other 0 inside ∙ zero_add other in
    let P : ℕ → Type 0 = λ n. is_free (Some column) n ≡ true → IsGone n rows in
    subst P is here (differs other column apart)

pub range-alone : (column width : ℕ) (given : List Numbered) (result : Result Left FindFault) → RangeAnswers (free_columns (Some column) width) given result
    → IfOk result (λ left. HasOnly width column left)
range-alone column width given (Ok Contradiction) h = tt
range-alone column width given (Ok (Rows left)) h =
    let rows : List Numbered = tidied_rows h.1 in
    let gone = gone_others width column rows (choice_of-None (free_columns (Some column) width) rows h.3.1) in
    handed (LacksOthers width column) rows left (λ k d inside. λ other below apart. gone other below apart k d inside) h.3.2
range-alone column width given (Err fault) h = tt
