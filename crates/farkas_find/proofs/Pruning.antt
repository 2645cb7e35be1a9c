-- The steps on which a row depends make that row, from the same rows.
use Rattle.std.proofs.Common.{◌≡◌, ℕ, zero, suc, ◌+◌, ◌-◌, ◌<◌, ◌≤◌, ◌∙◌, sym, subst, ap, refl, arith, Bool, true, false, true≢false, ◌||◌, cond, nat_eq, nat_lt, List, [], ◌∷◌, ◌++◌, length, take, get_or, map, append_assoc, pos, inl, inr, ◌⊎◌, count_by, ap₂, All, ℤ, ◌*ℤ◌, unsigned_abs}
use Rattle.std.proofs.Common.{get_or-append-add, length-append}
use Rattle.std.proofs.lemmas.Bool.{cases_lt}
use Rattle.std.proofs.Math.ListN.{get_or-append}
use Rattle.std.proofs.lemmas.List.{get_or_push, length-map}
use Rattle.std.proofs.Math.Seq.{take-append_seam}
use Rattle.std.proofs.lemmas.List.Sums.{sum_by-cons, sum_by-append}
use Rattle.std.specs.List.{list_any, items_where_true}
use Rattle.std.proofs.lemmas.Int.{ints}
use Rattle.std.proofs.lemmas.List.Elements.{All-nil, All-cons, All-head, All-tail, All-get_or}
use Rattle.std.proofs.Math.Nat.{one-dvd}
use Rattle.std.specs.List.{AllZip}
use Prim.Native.Nat.{◌∣◌}
use Rattle.az_lin.specs.Affine.{Affine, IsWide}
use Rattle.az_lin.specs.Combination.{HasWideEntries, IsWideSum, scaled_sum, scaled_sums, combination, quotient}
use Rattle.az_lin.specs.CommonDivisor.{DividesEach}
use Rattle.az_lin.proofs.WideSums.{quotient_by_one}
use Rattle.az_lin.specs.Derivation.{IsStep, row_at, sum_of, row_of, rows_after, AllSteps, IsContradiction, IsDerivation}
use Rattle.az_lin.specs.declared.step.Step.{Step}
use Rattle.az_lin.proofs.Derivations.{length-rows_after}
use Rattle.farkas_find.specs.Needed.{names, needed, new_number, renumbered, needed_steps, itself, derivation_of, EachNamesBefore}

or_first : (a b : Bool) → a ≡ true → (a || b) ≡ true
or_first a b e = rw e refl

or_second : (a b : Bool) → b ≡ true → (a || b) ≡ true
or_second true b e = refl
or_second false b e = e

-- an item that is kept and passes a test
any_kept : {X : Type 0} (test : X → Bool) (flags : List Bool) (xs : List X) (k : ℕ) (d : X) → k < length xs
    → get_or flags k false ≡ true → test (get_or xs k d) ≡ true → list_any test (items_where_true flags xs) ≡ true
any_kept test flags [] k d h flag passes = absurd (omega arith)
any_kept test [] (x ∷ xs) k d h flag passes = absurd (true≢false (sym flag))
any_kept test (true ∷ flags) (x ∷ xs) zero d h flag passes = or_first (test x) (list_any test (items_where_true flags xs)) passes
any_kept test (false ∷ flags) (x ∷ xs) zero d h flag passes = absurd (true≢false (sym flag))
any_kept test (true ∷ flags) (x ∷ xs) (suc k) d h flag passes =
    or_second (test x) (list_any test (items_where_true flags xs)) (any_kept test flags xs k d (omega arith) flag passes)
any_kept test (false ∷ flags) (x ∷ xs) (suc k) d h flag passes = any_kept test flags xs k d (omega arith) flag passes

pub length-needed : (target number : ℕ) (steps : List Step) → length (needed target number steps) ≡ length steps
length-needed target number [] = refl
length-needed target number (step ∷ later) = ap suc (length-needed target (number + 1) later)

-- what a needed step names is needed
needed-names : (target number : ℕ) (steps : List Step) (k l : ℕ) (d : Step) → k < l → l < length steps
    → get_or (needed target number steps) l false ≡ true → names (number + k) (get_or steps l d) ≡ true
    → get_or (needed target number steps) k false ≡ true
needed-names target number [] k l d h inside flag named = absurd (omega arith)
needed-names target number (step ∷ later) k zero d h inside flag named = absurd (omega arith)
needed-names target number (step ∷ later) zero (suc l) d h inside flag named =
    let same : number + 0 ≡ number = omega arith in
    let P : ℕ → Type 0 = λ n. names n (get_or later l d) ≡ true in
    or_second (nat_eq target number) (list_any (names number) (items_where_true (needed target (number + 1) later) later))
    (any_kept (names number) (needed target (number + 1) later) later l d (omega arith) flag (subst P same named))
needed-names target number (step ∷ later) (suc k) (suc l) d h inside flag named =
    let same : number + suc k ≡ (number + 1) + k = omega arith in
    let P : ℕ → Type 0 = λ n. names n (get_or later l d) ≡ true in
    needed-names target (number + 1) later k l d (omega arith) (omega arith) flag (subst P same named)

-- how many flags are set
abbrev count_set : List Bool → ℕ
count_set flags = count_by (λ flag. flag) flags

count_set-yes : (flags : List Bool) → count_set (true ∷ flags) ≡ suc (count_set flags)
count_set-yes flags = sum_by-cons (λ (flag : Bool). cond flag 1 0) true flags ∙ omega arith

count_set-no : (flags : List Bool) → count_set (false ∷ flags) ≡ count_set flags
count_set-no flags = sum_by-cons (λ (flag : Bool). cond flag 1 0) false flags ∙ omega arith

count_set-append : (xs ys : List Bool) → count_set (xs ++ ys) ≡ count_set xs + count_set ys
count_set-append xs ys = sum_by-append (λ (flag : Bool). cond flag 1 0) xs ys

count_set-take : (flags : List Bool) (k : ℕ) → get_or flags k false ≡ true → count_set (take k flags) < count_set flags
count_set-take [] k flag = absurd (true≢false (sym flag))
count_set-take (true ∷ flags) zero flag = omega (arith, count_set-yes flags)
count_set-take (false ∷ flags) zero flag = absurd (true≢false (sym flag))
count_set-take (true ∷ flags) (suc k) flag = omega (arith, count_set-take flags k flag, count_set-yes flags, count_set-yes (take k flags))
count_set-take (false ∷ flags) (suc k) flag = omega (arith, count_set-take flags k flag, count_set-no flags, count_set-no (take k flags))

-- a row that stays: a given one, or one that is flagged; and where it stands
abbrev Stays : ℕ → List Bool → ℕ → Type 0
Stays given flags number = (number < given) ⊎ ((given ≤ number) × (get_or flags (number - given) false ≡ true))

new_number-given : (given : ℕ) (flags : List Bool) (number : ℕ) → number < given → new_number given flags number ≡ number
new_number-given given flags number h = let e : nat_lt number given ≡ true = grind arith in rw e refl

new_number-made : (given : ℕ) (flags : List Bool) (number : ℕ) → given ≤ number
    → new_number given flags number ≡ given + count_set (take (number - given) flags)
new_number-made given flags number h = let e : nat_lt number given ≡ false = grind arith in rw e refl

-- the old rows that stay are among the new rows, at their new numbers
pub record Tracks (given : ℕ) (flags : List Bool) (old new : List Affine) : Type 0 where
  pub below : (number : ℕ) → number < length old → Stays given flags number → new_number given flags number < length new
  pub same : (number : ℕ) → number < length old → Stays given flags number → row_at new (new_number given flags number) ≡ row_at old number

-- steps that name rows that stay
pub record NamesStaying (given : ℕ) (flags : List Bool) (step : Step) : Type 0 where
  pub left : Stays given flags step.i
  pub right : Stays given flags step.j

IsStep-moved : (old new : List Affine) (step : Step) (i j : ℕ) → i < length new → j < length new → row_at new i ≡ row_at old step.i → row_at new j ≡ row_at old step.j
    → IsStep old step → IsStep new (record step { i = i; j = j })
IsStep-moved old new step i j i_below j_below i_same j_same valid = record {
  left_below = i_below;
  right_below = j_below;
  left_weight = valid.left_weight;
  right_weight = valid.right_weight;
  divisor = valid.divisor;
  in_range = rw (i_same, j_same) valid.in_range;
  divides = rw (i_same, j_same) valid.divides;
  result_in_range = rw (i_same, j_same) valid.result_in_range;
}

row_of-moved : (old new : List Affine) (step : Step) (i j : ℕ) → row_at new i ≡ row_at old step.i → row_at new j ≡ row_at old step.j
    → row_of new (record step { i = i; j = j }) ≡ row_of old step
row_of-moved old new step i j i_same j_same = rw (i_same, j_same) refl

IsStep-renumbered : (given : ℕ) (flags : List Bool) (old new : List Affine) (step : Step) → Tracks given flags old new → NamesStaying given flags step
    → IsStep old step → IsStep new (renumbered given flags step)
IsStep-renumbered given flags old new step tracks named valid =
    IsStep-moved old new step (new_number given flags step.i) (new_number given flags step.j)
    (tracks.below step.i valid.left_below named.left) (tracks.below step.j valid.right_below named.right)
    (tracks.same step.i valid.left_below named.left) (tracks.same step.j valid.right_below named.right) valid

row_of-renumbered : (given : ℕ) (flags : List Bool) (old new : List Affine) (step : Step) → Tracks given flags old new → NamesStaying given flags step
    → IsStep old step → row_of new (renumbered given flags step) ≡ row_of old step
row_of-renumbered given flags old new step tracks named valid =
    row_of-moved old new step (new_number given flags step.i) (new_number given flags step.j)
    (tracks.same step.i valid.left_below named.left) (tracks.same step.j valid.right_below named.right)

pub row_at-push : (rows : List Affine) (row : Affine) (number : ℕ) → number < length rows → row_at (rows ++ row ∷ []) number ≡ row_at rows number
row_at-push rows row number h = let empty : Affine = record { coefs = []; konst = pos 0 } in get_or-append rows (row ∷ []) empty number h

pub row_at-last : (rows : List Affine) (row : Affine) (number : ℕ) → length rows ≡ number → row_at (rows ++ row ∷ []) number ≡ row
row_at-last rows row number h = let empty : Affine = record { coefs = []; konst = pos 0 } in get_or_push rows row empty number h

-- one more row, that stays
Tracks-kept : (given : ℕ) (flags : List Bool) (old new : List Affine) (row : Affine) (same_row : Affine) → Tracks given flags old new → given ≤ length old
    → length new ≡ given + count_set (take (length old - given) flags) → same_row ≡ row → Tracks given flags (old ++ row ∷ []) (new ++ same_row ∷ [])
Tracks-kept given flags old new row same_row tracks past count is =
    let at_end : new_number given flags (length old) ≡ length new = new_number-made given flags (length old) past ∙ sym count in
    record {
      below = λ number h stays. elim (cases_lt number (length old)) [
        | inl before ↦ (let b = tracks.below number before stays in omega (arith, length-append new (same_row ∷ [])))
        | inr after ↦
            (let here : number ≡ length old = omega (arith, length-append old (row ∷ [])) in
            let e : new_number given flags number ≡ length new = ap (new_number given flags) here ∙ at_end in
            omega (arith, length-append new (same_row ∷ [])))
      ];
      same = λ number h stays. elim (cases_lt number (length old)) [
        | inl before ↦
            row_at-push new same_row (new_number given flags number) (tracks.below number before stays) ∙ tracks.same number before stays ∙ sym (row_at-push old row number before)
        | inr after ↦
            (let here : number ≡ length old = omega (arith, length-append old (row ∷ [])) in
            let e : new_number given flags number ≡ length new = ap (new_number given flags) here ∙ at_end in
            row_at-last new same_row (new_number given flags number) (sym e) ∙ is ∙ sym (row_at-last old row number (sym here)))
      ];
    }

-- one more row, that doesn't
Tracks-dropped : (given : ℕ) (flags : List Bool) (old new : List Affine) (row : Affine) → Tracks given flags old new → given ≤ length old
    → get_or flags (length old - given) false ≡ false → Tracks given flags (old ++ row ∷ []) new
Tracks-dropped given flags old new row tracks past dropped =
    let earlier : (number : ℕ) → number < length (old ++ row ∷ []) → Stays given flags number → number < length old = λ number h stays. elim (cases_lt number (length old)) [
      | inl before ↦ before
      | inr after ↦
          (let here : number ≡ length old = omega (arith, length-append old (row ∷ [])) in
          elim stays [
            | inl low ↦ omega arith
            | inr high ↦ absurd (true≢false (sym high.1 ∙ ap (λ n. get_or flags (n - given) false) here ∙ dropped))
          ])
    ] in
    record {
      below = λ number h stays. tracks.below number (earlier number h stays) stays;
      same = λ number h stays. tracks.same number (earlier number h stays) stays ∙ sym (row_at-push old row number (earlier number h stays));
    }

take_front : (front back flags : List Bool) (n : ℕ) → flags ≡ front ++ back → n ≡ length front → take n flags ≡ front
take_front front back flags n whole e = rw (whole, e) (take-append_seam front back)

at_seam : (front back flags : List Bool) (n : ℕ) → flags ≡ front ++ back → n ≡ length front → get_or flags n false ≡ get_or back 0 false
at_seam front back flags n whole e =
    let place : n ≡ length front + 0 = omega arith in
    rw (whole, place) (get_or-append-add front back 0 false)

one_flag_more : (front back flags : List Bool) (flag : Bool) → flags ≡ front ++ (flag ∷ back) → flags ≡ (front ++ flag ∷ []) ++ back
one_flag_more front back flags flag whole = whole ∙ sym (append_assoc front (flag ∷ []) back)

-- the needed steps, so far
record Pruned (given : ℕ) (flags : List Bool) (old new : List Affine) (steps kept : List Step) : Type 0 where
  good : AllSteps IsStep new (map (renumbered given flags) kept)
  tracks : Tracks given flags (rows_after old steps) (rows_after new (map (renumbered given flags) kept))

pruned : (given : ℕ) (flags front back : List Bool) (old new : List Affine) (steps : List Step) → flags ≡ front ++ back → length back ≡ length steps
    → length old ≡ given + length front → length new ≡ given + count_set front → Tracks given flags old new
    → ((k : ℕ) (d : Step) → k < length steps → get_or back k false ≡ true → NamesStaying given flags (get_or steps k d))
    → AllSteps IsStep old steps → Pruned given flags old new steps (items_where_true back steps)
pruned given flags front [] old new [] whole as_many old_count new_count tracks named good = record { good = tt; tracks = tracks }
pruned given flags front [] old new (step ∷ steps) whole as_many old_count new_count tracks named good = absurd (omega arith)
pruned given flags front (flag ∷ back) old new [] whole as_many old_count new_count tracks named good = absurd (omega arith)
pruned given flags front (true ∷ back) old new (step ∷ steps) whole as_many old_count new_count tracks named good =
    let row = row_of old step in
    let moved = row_of new (renumbered given flags step) in
    let names_here : NamesStaying given flags step = named 0 step (omega arith) refl in
    let same : moved ≡ row = row_of-renumbered given flags old new step tracks names_here good.0 in
    let valid : IsStep new (renumbered given flags step) = IsStep-renumbered given flags old new step tracks names_here good.0 in
    let place : length old - given ≡ length front = omega arith in
    let before : take (length old - given) flags ≡ front = take_front front (true ∷ back) flags (length old - given) whole place in
    let count : length new ≡ given + count_set (take (length old - given) flags) = new_count ∙ ap (λ (bs : List Bool). given + count_set bs) (sym before) in
    let past : given ≤ length old = omega arith in
    let rest = pruned given flags (front ++ true ∷ []) back (old ++ row ∷ []) (new ++ moved ∷ []) steps
    (one_flag_more front back flags true whole) (omega arith)
    (omega (arith, length-append old (row ∷ []), length-append front (true ∷ [])))
    (omega (arith, length-append new (moved ∷ []), count_set-append front (true ∷ []), count_set-yes []))
    (Tracks-kept given flags old new row moved tracks past count same)
    (λ k d inside flag. named (suc k) d (omega arith) flag)
    good.1 in
    record { good = (valid, rest.good); tracks = rest.tracks }
pruned given flags front (false ∷ back) old new (step ∷ steps) whole as_many old_count new_count tracks named good =
    let row = row_of old step in
    let place : length old - given ≡ length front = omega arith in
    let dropped : get_or flags (length old - given) false ≡ false = at_seam front (false ∷ back) flags (length old - given) whole place in
    let past : given ≤ length old = omega arith in
    let rest = pruned given flags (front ++ false ∷ []) back (old ++ row ∷ []) new steps
    (one_flag_more front back flags false whole) (omega arith)
    (omega (arith, length-append old (row ∷ []), length-append front (false ∷ [])))
    (omega (arith, count_set-append front (false ∷ []), count_set-no []))
    (Tracks-dropped given flags old new row tracks past dropped)
    (λ k d inside flag. named (suc k) d (omega arith) flag)
    good.1 in
    record { good = rest.good; tracks = rest.tracks }

-- steps after the row that is asked for are not needed
record NoneNeeded (target number : ℕ) (steps : List Step) : Type 0 where
  count : count_set (needed target number steps) ≡ 0
  kept : items_where_true (needed target number steps) steps ≡ []

none_needed : (target number : ℕ) (steps : List Step) → target < number → NoneNeeded target number steps
none_needed target number [] past = record { count = omega arith; kept = refl }
none_needed target number (step ∷ later) past =
    let rest = none_needed target (number + 1) later (omega arith) in
    let differs : nat_eq target number ≡ false = grind arith in
    let head : (nat_eq target number || list_any (names number) (items_where_true (needed target (number + 1) later) later)) ≡ false = rw (differs, rest.kept) refl in
    record { count = rw head (count_set-no (needed target (number + 1) later) ∙ rest.count); kept = rw head rest.kept }

one_more_each : (flag : Bool) (xs ys : List Bool) → count_set xs ≡ suc (count_set ys) → count_set (flag ∷ xs) ≡ suc (count_set (flag ∷ ys))
one_more_each true xs ys e = omega (arith, count_set-yes xs, count_set-yes ys)
one_more_each false xs ys e = omega (arith, count_set-no xs, count_set-no ys)

-- the row that is asked for is needed, and is the last that is
needed-last : (target number : ℕ) (steps : List Step) (k : ℕ) → target ≡ number + k → k < length steps
    → count_set (needed target number steps) ≡ suc (count_set (take k (needed target number steps)))
needed-last target number [] k e inside = absurd (omega arith)
needed-last target number (step ∷ later) zero e inside =
    let same : nat_eq target number ≡ true = grind arith in
    let none = none_needed target (number + 1) later (omega arith) in
    rw same (omega (arith, count_set-yes (needed target (number + 1) later), none.count))
needed-last target number (step ∷ later) (suc k) e inside =
    one_more_each (nat_eq target number || list_any (names number) (items_where_true (needed target (number + 1) later) later))
    (needed target (number + 1) later) (take k (needed target (number + 1) later)) (needed-last target (number + 1) later k (omega arith) (omega arith))

needed-target : (target number : ℕ) (steps : List Step) (k : ℕ) → target ≡ number + k → k < length steps → get_or (needed target number steps) k false ≡ true
needed-target target number [] k e inside = absurd (omega arith)
needed-target target number (step ∷ later) zero e inside =
    let same : nat_eq target number ≡ true = grind arith in
    or_first (nat_eq target number) (list_any (names number) (items_where_true (needed target (number + 1) later) later)) same
needed-target target number (step ∷ later) (suc k) e inside = needed-target target (number + 1) later k (omega arith) (omega arith)

length-kept : {X : Type 0} (flags : List Bool) (xs : List X) → length flags ≡ length xs → length (items_where_true flags xs) ≡ count_set flags
length-kept [] xs e = omega arith
length-kept (flag ∷ flags) [] e = absurd (omega arith)
length-kept (true ∷ flags) (x ∷ xs) e = omega (arith, length-kept flags xs (omega arith), count_set-yes flags)
length-kept (false ∷ flags) (x ∷ xs) e = length-kept flags xs (omega arith) ∙ sym (count_set-no flags)

-- valid steps name rows before their own
pub names_before : (rows : List Affine) (steps : List Step) → AllSteps IsStep rows steps → EachNamesBefore (length rows) steps
names_before rows [] good k d inside = absurd (omega arith)
names_before rows (step ∷ steps) good zero d inside = record {
  left = omega (arith, good.0.left_below);
  right = omega (arith, good.0.right_below);
}
names_before rows (step ∷ steps) good (suc k) d inside =
    let named = names_before (rows ++ row_of rows step ∷ []) steps good.1 k d (omega arith) in
    record {
      left = omega (arith, named.left, length-append rows (row_of rows step ∷ []));
      right = omega (arith, named.right, length-append rows (row_of rows step ∷ []));
    }

left_named : (number : ℕ) (step : Step) → step.i ≡ number → names number step ≡ true
left_named number step e = let same : nat_eq step.i number ≡ true = grind arith in or_first (nat_eq step.i number) (nat_eq step.j number) same

right_named : (number : ℕ) (step : Step) → step.j ≡ number → names number step ≡ true
right_named number step e = let same : nat_eq step.j number ≡ true = grind arith in or_second (nat_eq step.i number) (nat_eq step.j number) same

number_stays : (target given : ℕ) (steps : List Step) (k : ℕ) (d : Step) (number : ℕ) → number < given + k → k < length steps
    → get_or (needed target given steps) k false ≡ true → ((n : ℕ) → number ≡ n → names n (get_or steps k d) ≡ true)
    → Stays given (needed target given steps) number
number_stays target given steps k d number before inside flag named = elim (cases_lt number given) [
  | inl low ↦ inl low
  | inr high ↦
      (let there : number ≡ given + (number - given) = omega arith in
      inr (high, needed-names target given steps (number - given) k d (omega arith) inside flag (named (given + (number - given)) there)))
]

names_staying : (target given : ℕ) (steps : List Step) → EachNamesBefore given steps → (k : ℕ) (d : Step) → k < length steps
    → get_or (needed target given steps) k false ≡ true → NamesStaying given (needed target given steps) (get_or steps k d)
names_staying target given steps before k d inside flag =
    let named = before k d inside in
    record {
      left = number_stays target given steps k d (get_or steps k d).i named.left inside flag (λ n e. left_named n (get_or steps k d) e);
      right = number_stays target given steps k d (get_or steps k d).j named.right inside flag (λ n e. right_named n (get_or steps k d) e);
    }

Tracks-start : (given : ℕ) (flags : List Bool) (rows : List Affine) → length rows ≡ given → Tracks given flags rows rows
Tracks-start given flags rows e = record {
  below = λ number h stays. omega (arith, new_number-given given flags number (omega arith));
  same = λ number h stays. ap (row_at rows) (new_number-given given flags number (omega arith));
}

-- the needed steps make the row that is asked for, as their last
pub needed_steps-derive : (rows : List Affine) (target : ℕ) (steps : List Step) → length rows ≤ target → target < length rows + length steps
    → AllSteps IsStep rows steps → IsContradiction (row_at (rows_after rows steps) target)
    → IsDerivation IsStep rows (needed_steps (length rows) (needed target (length rows) steps) steps)
needed_steps-derive rows target steps past inside good contradiction =
    let given = length rows in
    let k = target - given in
    let flags = needed target given steps in
    let kept = items_where_true flags steps in
    let all = pruned given flags [] flags rows rows steps refl (length-needed target given steps) (omega arith) (omega arith) (Tracks-start given flags rows refl)
    (names_staying target given steps (names_before rows steps good)) good in
    let here : target ≡ given + k = omega arith in
    let inner : k < length steps = omega arith in
    let stays : Stays given flags target = inr (past, needed-target target given steps k here inner) in
    let there : target < length (rows_after rows steps) = omega (arith, length-rows_after rows steps) in
    let count : length (needed_steps given flags steps) ≡ count_set flags = length-map kept (renumbered given flags) ∙ length-kept flags steps (length-needed target given steps) in
    let one : count_set flags ≡ suc (count_set (take k flags)) = needed-last target given steps k here inner in
    let number : new_number given flags target ≡ given + count_set (take k flags) = new_number-made given flags target past in
    let last : length rows + length (needed_steps given flags steps) - 1 ≡ new_number given flags target = omega arith in
    let same : row_at (rows_after rows (needed_steps given flags steps)) (length rows + length (needed_steps given flags steps) - 1) ≡ row_at (rows_after rows steps) target =
    ap (row_at (rows_after rows (needed_steps given flags steps))) last ∙ all.tracks.same target there stays in
    record {
      steps_good = all.good;
      ends = record { some = omega arith; last = subst IsContradiction (sym same) contradiction };
    }

-- a given row as a step of its own
once_nothing : (x : ℤ) → scaled_sum (pos 1) x (pos 0) x ≡ x
once_nothing x = omega (arith, ints)

pub once_nothings : (xs : List ℤ) → scaled_sums (pos 1) xs (pos 0) xs ≡ xs
once_nothings [] = refl
once_nothings (x ∷ xs) = cc (once_nothing x, once_nothings xs)

pub wide_once : (x : ℤ) → IsWide x → IsWideSum (pos 1) x (pos 0) x
wide_once x wide =
    let one : pos 1 *ℤ x ≡ x = omega (arith, ints) in
    let none : pos 0 *ℤ x ≡ pos 0 = omega (arith, ints) in
    let zero_wide : IsWide (pos 0) = omega arith in
    record { left = rw one wide; right = rw none zero_wide; total = rw (once_nothing x) wide }

pub wide_onces : (xs : List ℤ) → All IsWide xs → AllZip (λ x y. IsWideSum (pos 1) x (pos 0) y) xs xs
wide_onces [] wide = tt
wide_onces (x ∷ xs) wide = (wide_once x (All-head IsWide x xs wide), wide_onces xs (All-tail IsWide x xs wide))

pub one_divides : (zs : List ℤ) → DividesEach 1 zs
one_divides [] = All-nil (λ z. 1 ∣ unsigned_abs z)
one_divides (z ∷ zs) = All-cons (λ y. 1 ∣ unsigned_abs y) z zs (one-dvd (unsigned_abs z)) (one_divides zs)

pub row_once : (row : Affine) → combination (pos 1) row (pos 0) row ≡ row
row_once row = ap₂ (λ (coefs : List ℤ) (konst : ℤ). let made : Affine = record { coefs = coefs; konst = konst } in made) (once_nothings row.coefs) (once_nothing row.konst)

row_of-itself : (rows : List Affine) (number : ℕ) → row_of rows (itself number) ≡ row_at rows number
row_of-itself rows number = ap (λ (row : Affine). quotient row (pos 1)) (row_once (row_at rows number)) ∙ sym (quotient_by_one (row_at rows number) (pos 1) refl)

IsStep-itself : (rows : List Affine) (number : ℕ) → number < length rows → HasWideEntries (row_at rows number) → IsStep rows (itself number)
IsStep-itself rows number inside wide = record {
  left_below = inside;
  right_below = inside;
  left_weight = omega (arith, ints);
  right_weight = omega (arith, ints);
  divisor = omega (arith, ints);
  in_range = record { coefficients = wide_onces (row_at rows number).coefs wide.coefficients; constant = wide_once (row_at rows number).konst wide.constant };
  divides = one_divides (sum_of rows (itself number)).coefs;
  result_in_range = rw (row_of-itself rows number) wide;
}

itself-derives : (rows : List Affine) (number : ℕ) → number < length rows → HasWideEntries (row_at rows number) → IsContradiction (row_at rows number)
    → IsDerivation IsStep rows (itself number ∷ [])
itself-derives rows number inside wide contradiction =
    let place : length rows + length (itself number ∷ []) - 1 ≡ length rows = omega arith in
    let same : row_at (rows ++ row_of rows (itself number) ∷ []) (length rows + length (itself number ∷ []) - 1) ≡ row_at rows number =
    ap (row_at (rows ++ row_of rows (itself number) ∷ [])) place ∙ row_at-last rows (row_of rows (itself number)) (length rows) refl ∙ row_of-itself rows number in
    record {
      steps_good = (IsStep-itself rows number inside wide, tt);
      ends = record { some = omega arith; last = subst IsContradiction (sym same) contradiction };
    }

pub row_at-earlier : (rows : List Affine) (steps : List Step) (number : ℕ) → number < length rows → row_at (rows_after rows steps) number ≡ row_at rows number
row_at-earlier rows [] number h = refl
row_at-earlier rows (step ∷ steps) number h =
    row_at-earlier (rows ++ row_of rows step ∷ []) steps number (omega (arith, length-append rows (row_of rows step ∷ []))) ∙ row_at-push rows (row_of rows step) number h

-- a row that refutes the system, given or made, has a valid derivation
pub derivation_of-derives : (rows : List Affine) (target : ℕ) (steps : List Step) → All HasWideEntries rows → target < length rows + length steps
    → AllSteps IsStep rows steps → IsContradiction (row_at (rows_after rows steps) target)
    → IsDerivation IsStep rows (derivation_of target (length rows) steps)
unfolding derivation_of
derivation_of-derives rows target steps wide inside good contradiction = elim (cases_lt target (length rows)) [
  | inl low ↦
      (let given : nat_lt target (length rows) ≡ true = grind arith in
      let empty : Affine = record { coefs = []; konst = pos 0 } in
      let entries : HasWideEntries (row_at rows target) = All-get_or HasWideEntries rows target empty low wide in
      rw given (itself-derives rows target low entries (subst IsContradiction (row_at-earlier rows steps target low) contradiction)))
  | inr high ↦
      (let made : nat_lt target (length rows) ≡ false = grind arith in
      rw made (needed_steps-derive rows target steps high inside good contradiction))
]
