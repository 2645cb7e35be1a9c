-- The stages: what each of them stands on, and that there are at most as many as there are columns.
use Rattle.std.proofs.Common.{◌≡◌, ℕ, zero, suc, ◌+◌, ◌*◌, ◌<◌, ◌≤◌, ap, refl, sym, subst, arith, add-one, Bool, true, false, cond, List, [], ◌∷◌, length, get_or, ℤ, pos, Option, count_by, nat_lt}
use Rattle.std.specs.List.{All, Contains, range_with_len}
use Rattle.std.proofs.lemmas.Int.{ints}
use Rattle.std.proofs.lemmas.Bool.Decides.{nat_tests}
use Rattle.std.proofs.lemmas.List.Sums.{sum_by-cons, length-filter, count_by-le-length}
use Rattle.std.proofs.lemmas.List.FromFn.{length-range_with_len}
use Rattle.std.proofs.lemmas.List.Elements.{All-nil, All-cons, All-contains_itself}
use Rattle.farkas_find.specs.declared.numbered.Numbered.{Numbered}
use Rattle.farkas_find.specs.declared.choice.Choice.{Choice}
use Rattle.farkas_find.specs.declared.trail.Stage.{Stage}
use Rattle.farkas_find.specs.Tidying.{coef_at, rounding_steps}
use Rattle.farkas_find.specs.Combining.{HaveWidth, IsPair, is_positive, is_negative}
use Rattle.farkas_find.specs.Choosing.{count_with, is_live, is_free, free_columns}
use Rattle.farkas_find.specs.Stages.{HasFew, first_stage, tidied_rows, pairs_for, next_rows, rows_after, without_column, stage_after, Follows, IsReached}
use Rattle.farkas_find.specs.Inner.Nexts.{IsChoice}
use Rattle.farkas_find.proofs.Rounded.{length-rounding_steps}
use Rattle.farkas_find.proofs.Keeping.{length-next_rows}
use Rattle.farkas_find.proofs.Paired.{pairs_for-are_pairs}
use Rattle.farkas_find.proofs.Widths.{HaveWidth-tidied, HaveWidth-next_rows}
use Rattle.farkas_find.proofs.Chosen.{IsGone, not_gone, choice-is_choice, choice_of-Some}
use Rattle.farkas_find.proofs.Gone.{IsGone-tidied, IsGone-next_rows, IsGone-chosen}

-- a column is live or gone
sign_of : (z : ℤ) → is_positive z ≡ false → is_negative z ≡ false → z ≡ pos 0
sign_of z above below = grind (arith, ints)

unmarked : (b : Bool) → ◌≡◌ {A = ℕ} (cond b 1 0) 0 → b ≡ false
unmarked true h = absurd (omega (arith, h))
unmarked false h = refl

bits : (a b : Bool) → (a ≡ true → b ≡ true) → ◌≤◌ (cond {A = ℕ} a 1 0) (cond {A = ℕ} b 1 0)
bits true b implies = rw (implies refl) (omega arith)
bits false b implies = omega arith

not_above : (m n : ℕ) → nat_lt 0 (m + n) ≡ false → m + n ≡ 0
not_above m n h = grind (arith, nat_tests)

gone_of_counts : (column : ℕ) (rows : List Numbered) → count_with true column rows ≡ 0 → count_with false column rows ≡ 0 → IsGone column rows
gone_of_counts column [] plus minus = All-nil (λ it. coef_at column it ≡ pos 0)
gone_of_counts column (it ∷ rest) plus minus =
    let plus_here : ℕ = cond (is_positive (coef_at column it)) 1 0 in
    let minus_here : ℕ = cond (is_negative (coef_at column it)) 1 0 in
    let plus_all : count_with true column (it ∷ rest) ≡ plus_here + count_with true column rest = sum_by-cons (λ it. cond (is_positive (coef_at column it)) 1 0) it rest in
    let minus_all : count_with false column (it ∷ rest) ≡ minus_here + count_with false column rest = sum_by-cons (λ it. cond (is_negative (coef_at column it)) 1 0) it rest in
    let no_plus : plus_here ≡ 0 = omega (arith, plus_all, plus) in
    let no_minus : minus_here ≡ 0 = omega (arith, minus_all, minus) in
    All-cons (λ it. coef_at column it ≡ pos 0) it rest
    (sign_of (coef_at column it) (unmarked (is_positive (coef_at column it)) no_plus) (unmarked (is_negative (coef_at column it)) no_minus))
    (gone_of_counts column rest (omega (arith, plus_all, plus)) (omega (arith, minus_all, minus)))

pub gone_of_dead : (column : ℕ) (rows : List Numbered) → is_live column rows ≡ false → IsGone column rows
gone_of_dead column rows dead =
    let plus : ℕ = count_with true column rows in
    let minus : ℕ = count_with false column rows in
    let none : plus + minus ≡ 0 = not_above plus minus dead in
    gone_of_counts column rows (omega (arith, none)) (omega (arith, none))

-- fewer pass a test than another, where one item passes the other alone
count-le : {X : Type 0} (p q : X → Bool) → ((x : X) → p x ≡ true → q x ≡ true) → (xs : List X) → count_by p xs ≤ count_by q xs
count-le p q implies [] = omega arith
count-le p q implies (x ∷ xs) =
    let one : ℕ = cond (p x) 1 0 in
    let two : ℕ = cond (q x) 1 0 in
    let here : one ≤ two = bits (p x) (q x) (implies x) in
    omega (arith, count-le p q implies xs, sum_by-cons (λ y. cond (p y) 1 0) x xs, sum_by-cons (λ y. cond (q y) 1 0) x xs, here)

count-lt : {X : Type 0} (p q : X → Bool) → ((x : X) → p x ≡ true → q x ≡ true) → (xs : List X) (k : ℕ) (d : X) → k < length xs
    → p (get_or xs k d) ≡ false → q (get_or xs k d) ≡ true → count_by p xs < count_by q xs
count-lt p q implies [] k d inside off on = absurd (omega arith)
count-lt p q implies (x ∷ xs) zero d inside off on =
    let one : ℕ = cond (p x) 1 0 in
    let two : ℕ = cond (q x) 1 0 in
    let no : one ≡ 0 = subst (λ (b : Bool). ◌≡◌ {A = ℕ} (cond b 1 0) 0) (sym off) refl in
    let yes : two ≡ 1 = subst (λ (b : Bool). ◌≡◌ {A = ℕ} (cond b 1 0) 1) (sym on) refl in
    omega (arith, count-le p q implies xs, sum_by-cons (λ y. cond (p y) 1 0) x xs, sum_by-cons (λ y. cond (q y) 1 0) x xs, no, yes)
count-lt p q implies (x ∷ xs) (suc k) d inside off on =
    let one : ℕ = cond (p x) 1 0 in
    let two : ℕ = cond (q x) 1 0 in
    let here : one ≤ two = bits (p x) (q x) (implies x) in
    omega (arith, count-lt p q implies xs k d (omega arith) off on, sum_by-cons (λ y. cond (p y) 1 0) x xs, sum_by-cons (λ y. cond (q y) 1 0) x xs, here)

-- how many columns may still go
abbrev pub count_live : List ℕ → List Numbered → ℕ
count_live columns rows = count_by (λ column. is_live column rows) columns

pub count_live-le : (columns : List ℕ) (rows : List Numbered) → count_live columns rows ≤ length columns
count_live-le columns rows = count_by-le-length (λ column. is_live column rows) columns

pub length-free_columns : (kept : Option ℕ) (width : ℕ) → length (free_columns kept width) ≤ width
unfolding free_columns
length-free_columns kept width =
    omega (arith, length-filter (is_free kept) (range_with_len 0 width), count_by-le-length (is_free kept) (range_with_len 0 width), length-range_with_len 0 width)

-- what every stage stands on
pub record Stands (kept : Option ℕ) (width : ℕ) (given : List Numbered) (number : ℕ) (stage : Stage) : Type 0 where
  pub reached : IsReached (free_columns kept width) given number stage
  pub widths : HaveWidth width stage.rows
  pub few : HasFew stage.rows
  pub numbers : stage.next ≤ 20000 + number * 40000
  pub live : number + count_live (free_columns kept width) stage.rows ≤ width

pub stands_first : (kept : Option ℕ) (width : ℕ) (given : List Numbered) (stage : Stage) → stage ≡ first_stage given → HaveWidth width given → HasFew given
    → Stands kept width given 0 stage
stands_first kept width given stage is widths few =
    let Q : Stage → Type 0 = Stands kept width given 0 in
    subst Q (sym is) (record {
      reached = (few, refl);
      widths = widths;
      few = few;
      numbers = omega arith;
      live = omega (arith, count_live-le (free_columns kept width) given, length-free_columns kept width);
    })

dead_of_gone : (column : ℕ) (rows : List Numbered) → IsGone column rows → is_live column rows ≡ false
dead_of_gone column rows gone =
    (elim (is_live column rows) as (λ b. is_live column rows ≡ b → b ≡ false) [ true ↦ λ live. absurd (not_gone column rows live gone) | false ↦ λ dead. refl ]) refl

pub live_unless_gone : (column : ℕ) (rows : List Numbered) → ¬ IsGone column rows → is_live column rows ≡ true
live_unless_gone column rows there =
    (elim (is_live column rows) as (λ b. is_live column rows ≡ b → b ≡ true) [ true ↦ λ live. refl | false ↦ λ dead. absurd (there (gone_of_dead column rows dead)) ]) refl

pub rows_is : (choice : Choice) (stage next : Stage) → next ≡ stage_after choice stage → next.rows ≡ rows_after choice stage
unfolding without_column
rows_is choice stage next is = ap (λ s. s.rows) is

number_is : (choice : Choice) (stage next : Stage) → next ≡ stage_after choice stage
    → next.next ≡ (stage.next + length (rounding_steps stage.rows)) + length (pairs_for choice (tidied_rows stage))
unfolding without_column
number_is choice stage next is = ap (λ s. s.next) is

pub stands_next : (kept : Option ℕ) (width : ℕ) (given : List Numbered) (number : ℕ) (stage next : Stage) → Stands kept width given number stage
    → Follows (free_columns kept width) stage next → Stands kept width given (number + 1) next
stands_next kept width given number stage next stands follows =
    let columns : List ℕ = free_columns kept width in
    let choice : Choice = follows.choice in
    let rows : List Numbered = tidied_rows stage in
    let after : ℕ = stage.next + length (rounding_steps stage.rows) in
    let wide : HaveWidth width rows = HaveWidth-tidied width stage.next stage.rows stands.widths in
    let is_choice : IsChoice width rows choice = choice-is_choice kept width rows choice follows.chooses.chosen in
    let pairs : All (IsPair choice.column rows) (pairs_for choice rows) = pairs_for-are_pairs width rows choice is_choice in
    let rows_are : next.rows ≡ next_rows choice after rows = rows_is choice stage next follows.next in
    let number_of : next.next ≡ after + length (pairs_for choice rows) = number_is choice stage next follows.next in
    let good = choice_of-Some (Contains columns) columns rows choice (All-contains_itself columns) follows.chooses.chosen in
    let W : List Numbered → Type 0 = HaveWidth width in
    let gone_after : (column : ℕ) → IsGone column rows → IsGone column next.rows =
    λ column gone. let G : List Numbered → Type 0 = IsGone column in subst G (sym rows_are) (IsGone-next_rows width column choice after rows wide pairs gone) in
    let implies : (column : ℕ) → is_live column next.rows ≡ true → is_live column stage.rows ≡ true =
    λ column live. live_unless_gone column stage.rows (λ gone. not_gone column next.rows live (gone_after column (IsGone-tidied column stage.next stage.rows gone))) in
    let chosen_gone : IsGone choice.column next.rows =
    let G : List Numbered → Type 0 = IsGone choice.column in subst G (sym rows_are) (IsGone-chosen width choice after rows wide pairs) in
    let off : is_live choice.column next.rows ≡ false = dead_of_gone choice.column next.rows chosen_gone in
    let on : is_live choice.column stage.rows ≡ true = live_unless_gone choice.column stage.rows (λ gone. good.there (IsGone-tidied choice.column stage.next stage.rows gone)) in
    let fewer : count_live columns next.rows < count_live columns stage.rows =
    count-lt (λ column. is_live column next.rows) (λ column. is_live column stage.rows) implies columns good.may_go.0 choice.column good.may_go.1
    (subst (λ (column : ℕ). is_live column next.rows ≡ false) (sym good.may_go.2) off)
    (subst (λ (column : ℕ). is_live column stage.rows ≡ true) (sym good.may_go.2) on) in
    record {
      reached = rw add-one (stage, stands.reached, follows);
      widths = subst W (sym rows_are) (HaveWidth-next_rows width choice after rows wide pairs);
      few = follows.few;
      numbers = omega (arith, number_of, stands.numbers, stands.few, length-rounding_steps stage.rows, length-next_rows choice after rows, ap length rows_are, follows.few);
      live = omega (arith, fewer, stands.live);
    }
