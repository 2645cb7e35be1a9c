-- The steps that stay, numbered anew one after the other.
use Rattle.std.proofs.Common.{◌≡◌, ℕ, zero, suc, ◌+◌, ◌-◌, ◌<◌, ◌≤◌, ◌∙◌, sym, ap, ap₂, refl, arith, Bool, true, false, true≢false, cond, nat_lt, List, [], ◌∷◌, ◌++◌, length, take, get_or, map, count_by, inl, inr}
use Rattle.std.specs.List.{items_where_true}
use Rattle.std.proofs.lemmas.Bool.{cases_lt}
use Rattle.std.proofs.lemmas.List.{take_all, map-append, length-take-le, get_or_push, length-append}
use Rattle.std.proofs.Math.ListN.{get_or-append}
use Rattle.std.proofs.lemmas.List.Sums.{count_by_more_yes, count_by_more_no, count_by-le-length}
use Rattle.az_lin.specs.declared.step.Step.{Step}
use Rattle.farkas_find.specs.Needed.{new_number, renumbered, needed_steps, NamesBefore, EachNamesBefore}

abbrev count_set : List Bool → ℕ
count_set flags = count_by (λ flag. flag) flags

kept_yes : {X : Type 0} (flags : List Bool) (xs : List X) (i : ℕ) (d : X) → i < length flags → i < length xs → get_or flags i false ≡ true
    → items_where_true (take (i + 1) flags) (take (i + 1) xs) ≡ items_where_true (take i flags) (take i xs) ++ get_or xs i d ∷ []
kept_yes [] xs i d p q flag = absurd (omega arith)
kept_yes (f ∷ flags) [] i d p q flag = absurd (omega arith)
kept_yes (true ∷ flags) (x ∷ xs) zero d p q flag = refl
kept_yes (false ∷ flags) (x ∷ xs) zero d p q flag = absurd (true≢false (sym flag))
kept_yes (true ∷ flags) (x ∷ xs) (suc i) d p q flag =
    let more : suc i + 1 ≡ suc (i + 1) = omega arith in
    rw more (ap (λ ys. x ∷ ys) (kept_yes flags xs i d (omega arith) (omega arith) flag))
kept_yes (false ∷ flags) (x ∷ xs) (suc i) d p q flag =
    let more : suc i + 1 ≡ suc (i + 1) = omega arith in
    rw more (kept_yes flags xs i d (omega arith) (omega arith) flag)

kept_no : {X : Type 0} (flags : List Bool) (xs : List X) (i : ℕ) → i < length flags → i < length xs → get_or flags i false ≡ false
    → items_where_true (take (i + 1) flags) (take (i + 1) xs) ≡ items_where_true (take i flags) (take i xs)
kept_no [] xs i p q flag = absurd (omega arith)
kept_no (f ∷ flags) [] i p q flag = absurd (omega arith)
kept_no (true ∷ flags) (x ∷ xs) zero p q flag = absurd (true≢false flag)
kept_no (false ∷ flags) (x ∷ xs) zero p q flag = refl
kept_no (true ∷ flags) (x ∷ xs) (suc i) p q flag =
    let more : suc i + 1 ≡ suc (i + 1) = omega arith in
    rw more (ap (λ ys. x ∷ ys) (kept_no flags xs i (omega arith) (omega arith) flag))
kept_no (false ∷ flags) (x ∷ xs) (suc i) p q flag =
    let more : suc i + 1 ≡ suc (i + 1) = omega arith in
    rw more (kept_no flags xs i (omega arith) (omega arith) flag)

-- the numbers of the rows that the steps before a place make
pub record NumbersBefore (given : ℕ) (flags : List Bool) (numbers : List ℕ) (place : ℕ) : Type 0 where
  pub count : length numbers ≡ place
  pub value : (k : ℕ) → k < place → get_or numbers k 0 ≡ given + count_set (take k flags)

-- the steps before a place
pub record Renumbered (given : ℕ) (flags : List Bool) (steps kept : List Step) (numbers : List ℕ) (next place : ℕ) : Type 0 where
  pub kept_is : kept ≡ map (renumbered given flags) (items_where_true (take place flags) (take place steps))
  pub numbers_are : NumbersBefore given flags numbers place
  pub next_is : next ≡ given + count_set (take place flags)

pub Renumbered-start : (given : ℕ) (flags : List Bool) (steps kept : List Step) (numbers : List ℕ) → kept ≡ [] → numbers ≡ [] → Renumbered given flags steps kept numbers given 0
Renumbered-start given flags steps kept numbers none no_numbers = record {
  kept_is = none;
  numbers_are = record { count = ap (λ (ns : List ℕ). length ns) no_numbers; value = λ k h. absurd (omega arith) };
  next_is = omega arith;
}

pub next_fits : (given : ℕ) (flags : List Bool) (next place many : ℕ) → next ≡ given + count_set (take place flags) → place < length flags → given + length flags < many
    → next + 1 < many
next_fits given flags next place many e inside few =
    let small : count_set (take place flags) ≤ length (take place flags) = count_by-le-length (λ (flag : Bool). flag) (take place flags) in
    omega (arith, length-take-le place flags)

NumbersBefore-more : (given : ℕ) (flags : List Bool) (numbers more : List ℕ) (next place : ℕ) → NumbersBefore given flags numbers place
    → next ≡ given + count_set (take place flags) → more ≡ numbers ++ next ∷ [] → NumbersBefore given flags more (place + 1)
NumbersBefore-more given flags numbers more next place before e pushed = record {
  count = rw pushed (omega (arith, length-append numbers (next ∷ []), before.count));
  value = λ k h. elim (cases_lt k place) [
    | inl earlier ↦
        (let there : k < length numbers = omega (arith, before.count) in
        rw pushed (get_or-append numbers (next ∷ []) 0 k there ∙ before.value k earlier))
    | inr last ↦
        (let here : k ≡ place = omega arith in
        rw pushed (get_or_push numbers next 0 k (before.count ∙ sym here) ∙ e ∙ ap (λ n. given + count_set (take n flags)) (sym here)))
  ];
}

number_found : (given : ℕ) (flags : List Bool) (numbers : List ℕ) (place number : ℕ) → NumbersBefore given flags numbers place → number < given + place
    → cond (nat_lt number given) number (get_or numbers (number - given) 0) ≡ new_number given flags number
number_found given flags numbers place number all h = elim (cases_lt number given) [
  | inl low ↦ (let e : nat_lt number given ≡ true = grind arith in rw e refl)
  | inr high ↦ (let e : nat_lt number given ≡ false = grind arith in rw e (all.value (number - given) (omega arith)))
]

pub renumbered_is : (given : ℕ) (flags : List Bool) (numbers : List ℕ) (place : ℕ) (step made : Step) → NumbersBefore given flags numbers place → NamesBefore (given + place) step
    → made ≡ record step { i = cond (nat_lt step.i given) step.i (get_or numbers (step.i - given) 0); j = cond (nat_lt step.j given) step.j (get_or numbers (step.j - given) 0) }
    → made ≡ renumbered given flags step
renumbered_is given flags numbers place step made all named is =
    is ∙ ap₂ (λ (i j : ℕ). let moved : Step = record step { i = i; j = j } in moved)
    (number_found given flags numbers place step.i all named.left) (number_found given flags numbers place step.j all named.right)

pub Renumbered-yes : (given : ℕ) (flags : List Bool) (steps kept kept_more : List Step) (numbers more : List ℕ) (next place : ℕ) (d made : Step)
    → Renumbered given flags steps kept numbers next place → place < length flags → place < length steps → get_or flags place false ≡ true → EachNamesBefore given steps
    → more ≡ numbers ++ next ∷ []
    → made ≡ record (get_or steps place d) {
      i = cond (nat_lt (get_or steps place d).i given) (get_or steps place d).i (get_or more ((get_or steps place d).i - given) 0);
      j = cond (nat_lt (get_or steps place d).j given) (get_or steps place d).j (get_or more ((get_or steps place d).j - given) 0);
    }
    → kept_more ≡ kept ++ made ∷ [] → Renumbered given flags steps kept_more more (next + 1) (place + 1)
Renumbered-yes given flags steps kept kept_more numbers more next place d made before p q flag order pushed is added =
    let step = get_or steps place d in
    let named : NamesBefore (given + place) step = order place d q in
    let all : NumbersBefore given flags more (place + 1) = NumbersBefore-more given flags numbers more next place before.numbers_are before.next_is pushed in
    let named_more : NamesBefore (given + (place + 1)) step = record { left = omega (arith, named.left); right = omega (arith, named.right) } in
    let made_is : made ≡ renumbered given flags step = renumbered_is given flags more (place + 1) step made all named_more is in
    let front = items_where_true (take place flags) (take place steps) in
    record {
      kept_is = added ∙ ap₂ (λ (ks : List Step) (s : Step). ks ++ s ∷ []) before.kept_is made_is ∙ sym (map-append (renumbered given flags) front (step ∷ []))
          ∙ sym (ap (λ (ks : List Step). map (renumbered given flags) ks) (kept_yes flags steps place d p q flag));
      numbers_are = all;
      next_is = omega (arith, before.next_is, count_by_more_yes (λ (b : Bool). b) flags place false p flag);
    }

pub Renumbered-no : (given : ℕ) (flags : List Bool) (steps kept : List Step) (numbers more : List ℕ) (next place : ℕ)
    → Renumbered given flags steps kept numbers next place → place < length flags → place < length steps → get_or flags place false ≡ false
    → more ≡ numbers ++ next ∷ [] → Renumbered given flags steps kept more next (place + 1)
Renumbered-no given flags steps kept numbers more next place before p q flag pushed = record {
  kept_is = before.kept_is ∙ sym (ap (λ (ks : List Step). map (renumbered given flags) ks) (kept_no flags steps place p q flag));
  numbers_are = NumbersBefore-more given flags numbers more next place before.numbers_are before.next_is pushed;
  next_is = before.next_is ∙ ap (λ n. given + n) (sym (count_by_more_no (λ (b : Bool). b) flags place false p flag));
}

pub Renumbered-end : (given : ℕ) (flags : List Bool) (steps kept : List Step) (numbers : List ℕ) (next place : ℕ) → Renumbered given flags steps kept numbers next place
    → length steps ≤ place → length flags ≡ length steps → kept ≡ needed_steps given flags steps
Renumbered-end given flags steps kept numbers next place all past e =
    all.kept_is ∙ ap₂ (λ (bs : List Bool) (ss : List Step). map (renumbered given flags) (items_where_true bs ss)) (take_all place flags (omega arith)) (take_all place steps past)
