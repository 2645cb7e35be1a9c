-- The strongest rows by a look-up: one more row, and what the look-up says of each row in the end.
use Rattle.std.proofs.Common.{◌≡◌, ◌≢◌, ℕ, ◌+◌, ◌<◌, ◌≤◌, ap, refl, sym, ◌∙◌, subst, arith, Bool, true, false, cond, not, ◌&&◌, nat_eq, List, length, take, drop, length-drop, ℤ, ◌≤ℤ◌, ◌<ℤ◌, int_le, int_lt, pos, [], ◌-◌, Option, Some, None}
use Rattle.std.specs.List.{list_any}
use Rattle.std.specs.Ordering.{int_eq}
use Rattle.std.specs.Cmp.Lexicographic.{pointwise}
use Rattle.std.specs.Cmp.Rules.{signed_items}
use Rattle.std.proofs.Math.Logic.{⊎_elim}
use Rattle.std.proofs.lemmas.Int.{ints}
use Rattle.std.proofs.lemmas.Bool.{cases_lt}
use Rattle.std.proofs.lemmas.Bool.Decides.{nat_tests}
use Rattle.std.proofs.lemmas.List.{get_or-take, get_or-drop, get_or_default, length-take-le}
use Rattle.std.proofs.lemmas.List.Folds.{Any-from_list_any, list_any_at}
use Rattle.farkas_find.specs.declared.numbered.Numbered.{Numbered}
use Rattle.farkas_find.specs.Tidying.{row_at, is_constant, is_at_least_as_strong, is_stronger, stays}
use Rattle.farkas_find.specs.Inner.Winners.{coefs_at, konst_at, IsWinner, Finds, is_as_strong, is_found, IsInside}
use Rattle.farkas_find.proofs.Paired.{left_of_and, right_of_and}

below_next : {P : Type 0} (k place : ℕ) → k < place + 1 → (k < place → P) → (k ≡ place → P) → P
below_next k place inside low here = ⊎_elim low (λ past. here (omega arith)) (cases_lt k place)

some_of : {X : Type 0} {P : Type 0} (r : Option X) → r ≢ None → ((x : X) → r ≡ Some x → P) → P
some_of None there then = absurd (there refl)
some_of (Some x) there then = then x refl

pub finds_none : {K : Type 0} (coefs_of : K → List ℤ) (rows : List Numbered) (find : K → Option ℕ) → ((key : K) → find key ≡ None) → Finds coefs_of rows 0 find
finds_none coefs_of rows find none = record {
  found = λ key winner is. let e = none key in absurd (cc);
  known = λ key k inside. absurd (omega arith);
}

-- a winner with less than the row at a place
extends_less : (rows : List Numbered) (place winner : ℕ) (coefs : List ℤ) → IsWinner rows place coefs winner
    → (coefs_at rows place ≡ coefs → konst_at rows winner ≤ℤ konst_at rows place) → IsWinner rows (place + 1) coefs winner
extends_less rows place winner coefs is here = record {
  before = let b : winner < place = is.before in omega arith;
  same = is.same;
  least = λ k inside equal.
      below_next k place inside (λ low. is.least k low equal)
      (λ (at : k ≡ place). let P : ℕ → Type 0 = λ j. coefs_at rows j ≡ coefs → konst_at rows winner ≤ℤ konst_at rows j in subst P (sym at) here equal);
  first = is.first;
}

pub finds_keep : {K : Type 0} (coefs_of : K → List ℤ) (rows : List Numbered) (place : ℕ) (find : K → Option ℕ) (key : K) (best : ℕ) → Finds coefs_of rows place find
    → coefs_of key ≡ coefs_at rows place → find key ≡ Some best → konst_at rows best ≤ℤ konst_at rows place → Finds coefs_of rows (place + 1) find
finds_keep {K} coefs_of rows place find key best finds keyed is small =
    let winner : IsWinner rows place (coefs_of key) best = finds.found key best is in
    let small_for : (q : K) (w : ℕ) → IsWinner rows place (coefs_of q) w → coefs_at rows place ≡ coefs_of q → konst_at rows w ≤ℤ konst_at rows place =
    λ q w good equal.
    let least : konst_at rows w ≤ℤ konst_at rows best = good.least best winner.before (winner.same ∙ keyed ∙ equal) in
    omega (arith, ints, least, small) in
    record {
      found = λ q w got. extends_less rows place w (coefs_of q) (finds.found q w got) (small_for q w (finds.found q w got));
      known = λ q k inside equal.
          below_next k place inside (λ low. finds.known q k low equal)
          (λ (at : k ≡ place).
          let P : ℕ → Type 0 = λ j. coefs_at rows j ≡ coefs_of q in
          let there : coefs_at rows place ≡ coefs_of q = subst P at equal in
          finds.known q best winner.before (winner.same ∙ keyed ∙ there));
    }

pub finds_put : {K : Type 0} (coefs_of : K → List ℤ) (same : K → K → Bool) (rows : List Numbered) (place : ℕ) (find next : K → Option ℕ) (key : K)
    → ((x y : K) → same x y ≡ true → coefs_of x ≡ coefs_of y) → ((x y : K) → coefs_of x ≡ coefs_of y → same x y ≡ true)
    → ((q : K) → next q ≡ cond (same key q) (Some place) (find q)) → Finds coefs_of rows place find → coefs_of key ≡ coefs_at rows place
    → ((best : ℕ) → find key ≡ Some best → konst_at rows place <ℤ konst_at rows best) → Finds coefs_of rows (place + 1) next
finds_put {K} coefs_of same rows place find next key sound complete put finds keyed less =
    let smaller : (k : ℕ) → k < place → coefs_at rows k ≡ coefs_of key → konst_at rows place <ℤ konst_at rows k =
    λ k low equal.
    some_of (find key) (finds.known key k low equal)
    (λ (best : ℕ) (is : find key ≡ Some best).
    let least : konst_at rows best ≤ℤ konst_at rows k = (finds.found key best is).least k low equal in
    let below : konst_at rows place <ℤ konst_at rows best = less best is in
    omega (arith, ints, least, below)) in
    let new : (q : K) → coefs_of key ≡ coefs_of q → IsWinner rows (place + 1) (coefs_of q) place =
    λ q equal. record {
      before = omega arith;
      same = sym keyed ∙ equal;
      least = λ k inside at.
          below_next k place inside (λ low. let less_here : konst_at rows place <ℤ konst_at rows k = smaller k low (at ∙ sym equal) in omega (arith, ints, less_here))
          (λ (is : k ≡ place). let P : ℕ → Type 0 = λ j. konst_at rows place ≤ℤ konst_at rows j in let own : P place = omega (arith, ints) in subst P (sym is) own);
      first = λ k low at. smaller k low (at ∙ sym equal);
    } in
    let other : (q : K) → same key q ≡ false → coefs_at rows place ≡ coefs_of q → ⊥ = λ q apart equal. let yes = complete key q (keyed ∙ equal) in absurd (cc) in
    record {
      found = λ q w got.
          (elim (same key q) as (λ b. same key q ≡ b → next q ≡ cond b (Some place) (find q) → IsWinner rows (place + 1) (coefs_of q) w) [
            | true ↦ λ (is : same key q ≡ true) (e : next q ≡ Some place).
                let here : place ≡ w = cc in
                let P : ℕ → Type 0 = IsWinner rows (place + 1) (coefs_of q) in
                subst P here (new q (sound key q is))
            | false ↦ λ (is : same key q ≡ false) (e : next q ≡ find q).
                extends_less rows place w (coefs_of q) (finds.found q w (sym e ∙ got)) (λ equal. absurd (other q is equal))
          ]) refl (put q);
      known = λ q k inside equal.
          (elim (same key q) as (λ b. same key q ≡ b → next q ≡ cond b (Some place) (find q) → next q ≢ None) [
            | true ↦ λ is e none. absurd (cc)
            | false ↦ λ is e none.
                below_next k place inside (λ low. finds.known q k low equal (sym e ∙ none))
                (λ (at : k ≡ place). let P : ℕ → Type 0 = λ j. coefs_at rows j ≡ coefs_of q in other q is (subst P at equal))
          ]) refl (put q);
    }

le_of_test : (a b : ℤ) → int_le a b ≡ true → a ≤ℤ b
le_of_test a b h = grind (arith, ints)

test_of_le : (a b : ℤ) → a ≤ℤ b → int_le a b ≡ true
test_of_le a b h = grind (arith, ints)

lt_of_test : (a b : ℤ) → int_lt a b ≡ true → a <ℤ b
lt_of_test a b h = grind (arith, ints)

test_of_lt : (a b : ℤ) → a <ℤ b → int_lt a b ≡ true
test_of_lt a b h = grind (arith, ints)

both_true : (a b : Bool) → a ≡ true → b ≡ true → (a && b) ≡ true
both_true a b p q = rw (p, q) refl

differ : (m n : ℕ) → m ≢ n → nat_eq m n ≡ false
differ m n apart = grind (arith, nat_tests)

agree : (m n : ℕ) → m ≡ n → nat_eq m n ≡ true
agree m n same = grind (arith, nat_tests)

unless : (b : Bool) → (b ≡ true → ⊥) → b ≡ false
unless b never_so = (elim b as (λ t. b ≡ t → t ≡ false) [ true ↦ λ h. absurd (never_so h) | false ↦ λ h. refl ]) refl

never : (b : Bool) → false ≡ (not b && not true)
never true = refl
never false = refl

neither : (a b : Bool) → a ≡ false → b ≡ false → (not a && not b) ≡ true
neither a b p q = rw (p, q) refl

-- a row is the winner of its coefficients exactly where no earlier row is as strong and no later one is stronger
abbrev no_rows : Numbered
no_rows = record { row = record { coefs = []; konst = pos 0 }; number = 0 }

as_strong : (rows : List Numbered) (place k : ℕ) → is_at_least_as_strong (row_at rows place) (row_at rows k) ≡ true
    → (coefs_at rows k ≡ coefs_at rows place) × (konst_at rows k ≤ℤ konst_at rows place)
unfolding is_at_least_as_strong
as_strong rows place k h =
    let below : int_le (konst_at rows k) (konst_at rows place) ≡ true = left_of_and (int_le (konst_at rows k) (konst_at rows place)) (pointwise int_eq (coefs_at rows k) (coefs_at rows place)) h in (
      (signed_items (coefs_at rows k) (coefs_at rows place)).0 (right_of_and (int_le (konst_at rows k) (konst_at rows place)) (pointwise int_eq (coefs_at rows k) (coefs_at rows place)) h),
      le_of_test (konst_at rows k) (konst_at rows place) below,
    )

as_strong_from : (rows : List Numbered) (place k : ℕ) → coefs_at rows k ≡ coefs_at rows place → konst_at rows k ≤ℤ konst_at rows place
    → is_at_least_as_strong (row_at rows place) (row_at rows k) ≡ true
unfolding is_at_least_as_strong
as_strong_from rows place k equal below =
    both_true (int_le (konst_at rows k) (konst_at rows place)) (pointwise int_eq (coefs_at rows k) (coefs_at rows place))
    (test_of_le (konst_at rows k) (konst_at rows place) below) ((signed_items (coefs_at rows k) (coefs_at rows place)).1 equal)

stronger : (rows : List Numbered) (place k : ℕ) → is_stronger (row_at rows place) (row_at rows k) ≡ true
    → (coefs_at rows k ≡ coefs_at rows place) × (konst_at rows k <ℤ konst_at rows place)
unfolding is_stronger
stronger rows place k h =
    let below : int_lt (konst_at rows k) (konst_at rows place) ≡ true = left_of_and (int_lt (konst_at rows k) (konst_at rows place)) (pointwise int_eq (coefs_at rows k) (coefs_at rows place)) h in (
      (signed_items (coefs_at rows k) (coefs_at rows place)).0 (right_of_and (int_lt (konst_at rows k) (konst_at rows place)) (pointwise int_eq (coefs_at rows k) (coefs_at rows place)) h),
      lt_of_test (konst_at rows k) (konst_at rows place) below,
    )

stronger_from : (rows : List Numbered) (place k : ℕ) → coefs_at rows k ≡ coefs_at rows place → konst_at rows k <ℤ konst_at rows place
    → is_stronger (row_at rows place) (row_at rows k) ≡ true
unfolding is_stronger
stronger_from rows place k equal below =
    both_true (int_lt (konst_at rows k) (konst_at rows place)) (pointwise int_eq (coefs_at rows k) (coefs_at rows place))
    (test_of_lt (konst_at rows k) (konst_at rows place) below) ((signed_items (coefs_at rows k) (coefs_at rows place)).1 equal)

-- a test over the rows before a place, and over those after it
any_before : (p : Numbered → Bool) (rows : List Numbered) (place : ℕ) → place ≤ length rows → list_any p (take place rows) ≡ true
    → (k : ℕ) × (k < place) × (p (row_at rows k) ≡ true)
any_before p rows place inside h =
    let some = Any-from_list_any p (take place rows) h in
    let k : ℕ = some.0 in
    let x : Numbered = some.1 in
    let low : k < place = omega (arith, some.2, length-take-le place rows inside) in
    let is : row_at rows k ≡ x = get_or_default rows k no_rows x (omega (arith, low, inside)) ∙ sym (get_or-take place rows k x low) ∙ some.3 in
    (k, low, subst (λ (it : Numbered). p it ≡ true) (sym is) some.4)

any_before_from : (p : Numbered → Bool) (rows : List Numbered) (place k : ℕ) → place ≤ length rows → k < place → p (row_at rows k) ≡ true
    → list_any p (take place rows) ≡ true
any_before_from p rows place k inside low h =
    list_any_at p (take place rows) k no_rows (omega (arith, length-take-le place rows inside, low))
    (subst (λ (it : Numbered). p it ≡ true) (sym (get_or-take place rows k no_rows low)) h)

any_after : (p : Numbered → Bool) (rows : List Numbered) (from : ℕ) → list_any p (drop from rows) ≡ true
    → (k : ℕ) × (from ≤ k) × (k < length rows) × (p (row_at rows k) ≡ true)
any_after p rows from h =
    let some = Any-from_list_any p (drop from rows) h in
    let k : ℕ = from + some.0 in
    let x : Numbered = some.1 in
    let inside : k < length rows = omega (arith, some.2, length-drop from rows) in
    let is : row_at rows k ≡ x = get_or_default rows k no_rows x inside ∙ sym (get_or-drop from rows some.0 x) ∙ some.3 in
    (k, omega arith, inside, subst (λ (it : Numbered). p it ≡ true) (sym is) some.4)

any_after_from : (p : Numbered → Bool) (rows : List Numbered) (from k : ℕ) → from ≤ k → k < length rows → p (row_at rows k) ≡ true
    → list_any p (drop from rows) ≡ true
any_after_from p rows from k past inside h =
    let i : ℕ = k - from in
    let back : from + i ≡ k = omega arith in
    list_any_at p (drop from rows) i no_rows (omega (arith, length-drop from rows, past, inside))
    (subst (λ (it : Numbered). p it ≡ true) (sym (get_or-drop from rows i no_rows ∙ ap (row_at rows) back)) h)

wins : (rows : List Numbered) (place winner : ℕ) → place < length rows → IsWinner rows (length rows) (coefs_at rows place) winner
    → nat_eq winner place ≡ (not (list_any (is_at_least_as_strong (row_at rows place)) (take place rows))
    && not (list_any (is_stronger (row_at rows place)) (drop (place + 1) rows)))
wins rows place winner inside is =
    let strong : Numbered → Bool = is_at_least_as_strong (row_at rows place) in
    let more : Numbered → Bool = is_stronger (row_at rows place) in
    let earlier : Bool = list_any strong (take place rows) in
    let later : Bool = list_any more (drop (place + 1) rows) in
    ⊎_elim
    (λ (low : winner < place).
    let below : konst_at rows winner ≤ℤ konst_at rows place = is.least place inside refl in
    let found : list_any strong (take place rows) ≡ true = any_before_from strong rows place winner (omega arith) low (as_strong_from rows place winner is.same below) in
    let apart : nat_eq winner place ≡ false = differ winner place (omega arith) in
    apart ∙ subst (λ (b : Bool). false ≡ (not b && not later)) (sym found) refl)
    (λ (past : place ≤ winner).
    ⊎_elim
    (λ (after : place < winner).
    let below : konst_at rows winner <ℤ konst_at rows place = is.first place after refl in
    let found : list_any more (drop (place + 1) rows) ≡ true = any_after_from more rows (place + 1) winner (omega arith) is.before (stronger_from rows place winner is.same below) in
    let apart : nat_eq winner place ≡ false = differ winner place (omega arith) in
    apart ∙ subst (λ (b : Bool). false ≡ (not earlier && not b)) (sym found) (never earlier))
    (λ (here : winner ≤ place).
    let same : winner ≡ place = omega arith in
    let W : ℕ → Type 0 = IsWinner rows (length rows) (coefs_at rows place) in
    let own : IsWinner rows (length rows) (coefs_at rows place) place = subst W same is in
    let no_earlier : earlier ≡ false = unless earlier (λ h.
    let some = any_before strong rows place (omega arith) h in
    let facts = as_strong rows place some.0 some.2 in
    let first : konst_at rows place <ℤ konst_at rows some.0 = own.first some.0 some.1 facts.0 in
    let below : konst_at rows some.0 ≤ℤ konst_at rows place = facts.1 in
    absurd (omega (arith, ints, first, below))) in
    let no_later : later ≡ false = unless later (λ h.
    let some = any_after more rows (place + 1) h in
    let facts = stronger rows place some.0 some.3 in
    let least : konst_at rows place ≤ℤ konst_at rows some.0 = own.least some.0 some.2 facts.0 in
    let below : konst_at rows some.0 <ℤ konst_at rows place = facts.1 in
    absurd (omega (arith, ints, least, below))) in
    let equal : nat_eq winner place ≡ true = agree winner place same in
    equal ∙ sym (neither earlier later no_earlier no_later))
    (cases_lt place winner))
    (cases_lt winner place)

-- what the test of the found place says
pub inside_of : {K : Type 0} (coefs_of : K → List ℤ) (rows : List Numbered) (place : ℕ) (find : K → Option ℕ) (key : K) (best : Option ℕ) → Finds coefs_of rows place find
    → place ≤ length rows → find key ≡ best → IsInside rows best
inside_of coefs_of rows place find key None finds few is = tt
inside_of coefs_of rows place find key (Some best) finds few is =
    let winner : IsWinner rows place (coefs_of key) best = finds.found key best is in
    let before : best < place = winner.before in
    omega arith

pub finds_kept : {K : Type 0} (coefs_of : K → List ℤ) (rows : List Numbered) (place : ℕ) (find : K → Option ℕ) (key : K) (best : Option ℕ) → Finds coefs_of rows place find
    → coefs_of key ≡ coefs_at rows place → find key ≡ best → is_as_strong rows best (konst_at rows place) ≡ true → Finds coefs_of rows (place + 1) find
finds_kept coefs_of rows place find key None finds keyed is strong = absurd (cc)
finds_kept coefs_of rows place find key (Some best) finds keyed is strong =
    finds_keep coefs_of rows place find key best finds keyed is (le_of_test (konst_at rows best) (konst_at rows place) strong)

gt_of_test : (a b : ℤ) → int_le a b ≡ false → b <ℤ a
gt_of_test a b h = grind (arith, ints)

pub weaker : {K : Type 0} (rows : List Numbered) (place : ℕ) (find : K → Option ℕ) (key : K) (best : Option ℕ) → find key ≡ best
    → is_as_strong rows best (konst_at rows place) ≡ false → (found : ℕ) → find key ≡ Some found → konst_at rows place <ℤ konst_at rows found
weaker rows place find key None is weak found e = absurd (cc)
weaker rows place find key (Some best) is weak found e =
    let same : best ≡ found = cc in
    let P : ℕ → Type 0 = λ w. konst_at rows place <ℤ konst_at rows w in
    subst P same (gt_of_test (konst_at rows best) (konst_at rows place) weak)

-- a row that is no constant stays exactly where its place is found
pub found-stays : {K : Type 0} (coefs_of : K → List ℤ) (rows : List Numbered) (place : ℕ) (find : K → Option ℕ) (key : K) (found : Option ℕ) → place < length rows
    → Finds coefs_of rows (length rows) find → coefs_of key ≡ coefs_at rows place → find key ≡ found
    → (not (is_constant (row_at rows place)) && is_found found place) ≡ stays rows place
unfolding stays
found-stays coefs_of rows place find key None inside finds keyed is = absurd (finds.known key place inside (sym keyed) is)
found-stays coefs_of rows place find key (Some winner) inside finds keyed is =
    let W : List ℤ → Type 0 = λ coefs. IsWinner rows (length rows) coefs winner in
    ap (λ (b : Bool). not (is_constant (row_at rows place)) && b) (wins rows place winner inside (subst W keyed (finds.found key winner is)))
