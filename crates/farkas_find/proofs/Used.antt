-- No step of a derivation is superfluous: each but the last makes a row that a later step names.
use Rattle.std.proofs.Common.{Result, Ok, Err, IfOk, ◌≡◌, ℕ, zero, suc, ◌+◌, ◌-◌, ◌<◌, ◌≤◌, ◌∙◌, sym, ap, subst, refl, arith, Bool, true, false, true≢false, ◌||◌, cond, nat_eq, nat_lt, List, [], ◌∷◌, ◌++◌, length, take, drop, get_or, map, count_by, inl, inr, get_or-append-add, length-append}
use Rattle.std.proofs.lemmas.Bool.{cases_lt}
use Rattle.std.proofs.lemmas.List.{get_or-map, length-map, get_or_default}
use Rattle.std.proofs.lemmas.List.Sums.{sum_by-cons}
use Rattle.std.specs.List.{list_any, items_where_true}
use Rattle.az_lin.specs.declared.step.Step.{Step}
use Rattle.az_lin.specs.Affine.{Polyhedron}
use Rattle.farkas_find.specs.declared.verdict.Decision.{Decision}
use Rattle.farkas_find.specs.declared.verdict.Decision.TheVariants.{Refuted, Point}
use Rattle.farkas_find.specs.declared.fault.FindFault.{FindFault}
use Rattle.farkas_find.specs.Verdict.{Decides, IsFrugal}
use Rattle.farkas_find.specs.Needed.{names, needed, new_number, renumbered, needed_steps, itself, derivation_of, UsesEachStep}

abbrev count_set : List Bool → ℕ
count_set flags = count_by (λ flag. flag) flags

count_yes : (flags : List Bool) → count_set (true ∷ flags) ≡ suc (count_set flags)
count_yes flags = sum_by-cons (λ (flag : Bool). cond flag 1 0) true flags ∙ omega arith

count_no : (flags : List Bool) → count_set (false ∷ flags) ≡ count_set flags
count_no flags = sum_by-cons (λ (flag : Bool). cond flag 1 0) false flags ∙ omega arith

-- behind the target nothing is needed
none_behind : (target number : ℕ) (steps : List Step) → target < number → items_where_true (needed target number steps) steps ≡ []
none_behind target number [] past = refl
none_behind target number (step ∷ later) past =
    let rest : items_where_true (needed target (number + 1) later) later ≡ [] = none_behind target (number + 1) later (omega (arith, past)) in
    let other : nat_eq target number ≡ false = grind arith in
    let unnamed : (nat_eq target number || list_any (names number) (items_where_true (needed target (number + 1) later) later)) ≡ false
    = rw (other, rest) refl in
    ap (λ (flag : Bool). items_where_true (flag ∷ needed target (number + 1) later) (step ∷ later)) unnamed ∙ rest

-- where an item that is picked stands, and what was picked before it and stands behind it
record StandsAt {X : Type 0} (flags : List Bool) (xs : List X) (k : ℕ) (d : X) : Type 0 where
  place : ℕ
  inside : place < length xs
  flagged : get_or flags place false ≡ true
  before : count_set (take place flags) ≡ k
  rest : List X
  rest_is : rest ≡ items_where_true (drop (place + 1) flags) (drop (place + 1) xs)
  behind : (l : ℕ) → get_or (items_where_true flags xs) (k + 1 + l) d ≡ get_or rest l d
  many : length (items_where_true flags xs) ≡ k + 1 + length rest

stands_at : {X : Type 0} (flags : List Bool) (xs : List X) (k : ℕ) (d : X) → k < length (items_where_true flags xs) → StandsAt flags xs k d
stands_at [] xs k d h = absurd (omega arith)
stands_at (flag ∷ flags) [] k d h = absurd (omega arith)
stands_at (true ∷ flags) (x ∷ xs) zero d h = record {
  place = 0;
  inside = omega arith;
  flagged = refl;
  before = refl;
  rest = items_where_true flags xs;
  rest_is = refl;
  behind = λ l. (let e : zero + 1 + l ≡ suc l = omega arith in ap (λ n. get_or (x ∷ items_where_true flags xs) n d) e);
  many = omega arith;
}
stands_at (true ∷ flags) (x ∷ xs) (suc k) d h =
    let it = stands_at flags xs k d (omega arith) in
    let rest = it.rest in
    let many = it.many in
    let next : suc it.place + 1 ≡ suc (it.place + 1) = omega arith in
    record {
      place = suc it.place;
      inside = (let inside = it.inside in omega arith);
      flagged = it.flagged;
      before = count_yes (take it.place flags) ∙ ap suc it.before;
      rest = rest;
      rest_is = it.rest_is ∙ ap (λ n. items_where_true (drop n (true ∷ flags)) (drop n (x ∷ xs))) (sym next);
      behind = λ l. (let e : suc k + 1 + l ≡ suc (k + 1 + l) = omega arith in ap (λ n. get_or (x ∷ items_where_true flags xs) n d) e ∙ it.behind l);
      many = omega (arith, many);
    }
stands_at (false ∷ flags) (x ∷ xs) k d h =
    let it = stands_at flags xs k d h in
    let next : suc it.place + 1 ≡ suc (it.place + 1) = omega arith in
    record {
      place = suc it.place;
      inside = (let inside = it.inside in omega arith);
      flagged = it.flagged;
      before = count_no (take it.place flags) ∙ it.before;
      rest = it.rest;
      rest_is = it.rest_is ∙ ap (λ n. items_where_true (drop n (false ∷ flags)) (drop n (x ∷ xs))) (sym next);
      behind = it.behind;
      many = it.many;
    }

-- the flags behind a place, and the flag there
needed_behind : (target number : ℕ) (steps : List Step) (p : ℕ) → drop p (needed target number steps) ≡ needed target (number + p) (drop p steps)
needed_behind target number [] zero = refl
needed_behind target number [] (suc p) = refl
needed_behind target number (step ∷ later) zero = let e : number ≡ number + 0 = omega arith in ap (λ n. needed target n (step ∷ later)) e
needed_behind target number (step ∷ later) (suc p) =
    let e : (number + 1) + p ≡ number + suc p = omega arith in
    needed_behind target (number + 1) later p ∙ ap (λ n. needed target n (drop p later)) e

flag_there : (target number : ℕ) (steps : List Step) (p : ℕ) → p < length steps
    → get_or (needed target number steps) p false
    ≡ (nat_eq target (number + p) || list_any (names (number + p)) (items_where_true (needed target (number + p + 1) (drop (p + 1) steps)) (drop (p + 1) steps)))
flag_there target number [] p h = absurd (omega arith)
flag_there target number (step ∷ later) zero h =
    let e : number ≡ number + 0 = omega arith in
    ap (λ n. nat_eq target n || list_any (names n) (items_where_true (needed target (n + 1) later) later)) e
flag_there target number (step ∷ later) (suc p) h =
    let e : (number + 1) + p ≡ number + suc p = omega arith in
    let next : suc p + 1 ≡ suc (p + 1) = omega arith in
    flag_there target (number + 1) later p (omega arith)
    ∙ ap (λ n. nat_eq target n || list_any (names n) (items_where_true (needed target (n + 1) (drop (p + 1) later)) (drop (p + 1) later))) e
    ∙ ap (λ m. nat_eq target (number + suc p) || list_any (names (number + suc p)) (items_where_true (needed target (number + suc p + 1) (drop m (step ∷ later))) (drop m (step ∷ later)))) (sym next)

-- some item passes the test
abbrev PassesAt : {X : Type 0} → (X → Bool) → List X → X → Type 0
PassesAt test xs d = (l : ℕ) × (l < length xs) × (test (get_or xs l d) ≡ true)

any_first : {X : Type 0} (test : X → Bool) (x : X) (xs : List X) (d : X) → (list_any test xs ≡ true → PassesAt test xs d) → (found : Bool) → test x ≡ found
    → list_any test (x ∷ xs) ≡ true → PassesAt test (x ∷ xs) d
any_first test x xs d further true is h = (0, omega arith, is)
any_first test x xs d further false is h =
    let rest = further (sym (ap (λ (b : Bool). b || list_any test xs) is) ∙ h) in
    (suc rest.0, (let below = rest.1 in omega (arith, below)), rest.2)

any_at : {X : Type 0} (test : X → Bool) (xs : List X) (d : X) → list_any test xs ≡ true → PassesAt test xs d
any_at test [] d h = absurd (true≢false (sym h))
any_at test (x ∷ xs) d h = any_first test x xs d (any_at test xs d) (test x) refl h

either_right : (a b : Bool) → b ≡ true → (a || b) ≡ true
either_right true b e = refl
either_right false b e = e

only_right : (a b : Bool) → (a ≡ true → ⊥) → (a || b) ≡ true → b ≡ true
only_right true b never h = absurd (never refl)
only_right false b never h = h

same_number : (n : ℕ) → nat_eq n n ≡ true
same_number n = grind arith

-- a step that names a row names it by its new number too
names_anew : (given : ℕ) (flags : List Bool) (number : ℕ) (step : Step) → names number step ≡ true → names (new_number given flags number) (renumbered given flags step) ≡ true
names_anew given flags number step h = by (nat_eq step.i number) refl where
  by : (left : Bool) → nat_eq step.i number ≡ left → names (new_number given flags number) (renumbered given flags step) ≡ true
  by true is =
      let e : step.i ≡ number = grind arith in
      let left : nat_eq (new_number given flags step.i) (new_number given flags number) ≡ true = ap (λ n. nat_eq (new_number given flags step.i) (new_number given flags n)) (sym e) ∙ same_number (new_number given flags step.i) in
      ap (λ (b : Bool). b || nat_eq (new_number given flags step.j) (new_number given flags number)) left
  by false is =
      let right : nat_eq step.j number ≡ true = sym (ap (λ (b : Bool). b || nat_eq step.j number) is) ∙ h in
      let e : step.j ≡ number = grind arith in
      let named : nat_eq (new_number given flags step.j) (new_number given flags number) ≡ true = ap (λ n. nat_eq (new_number given flags step.j) (new_number given flags n)) (sym e) ∙ same_number (new_number given flags step.j) in
      either_right (nat_eq (new_number given flags step.i) (new_number given flags number)) (nat_eq (new_number given flags step.j) (new_number given flags number)) named

used_of : (target given : ℕ) (steps : List Step) → UsesEachStep given (needed_steps given (needed target given steps) steps)
used_of target given steps k d more =
    let flags = needed target given steps in
    let picked = items_where_true flags steps in
    let all : List Step = map (renumbered given flags) picked in
    let count : length all ≡ length picked = length-map picked (renumbered given flags) in
    let it = stands_at flags steps k d (omega (arith, count, more)) in
    let number = given + it.place in
    let behind : it.rest ≡ items_where_true (needed target (number + 1) (drop (it.place + 1) steps)) (drop (it.place + 1) steps) =
    it.rest_is ∙ ap (λ (fs : List Bool). items_where_true fs (drop (it.place + 1) steps)) (needed_behind target given steps (it.place + 1)
    ∙ ap (λ n. needed target n (drop (it.place + 1) steps)) (let e : given + (it.place + 1) ≡ number + 1 = omega arith in e)) in
    let flag : (nat_eq target number || list_any (names number) it.rest) ≡ true =
    ap (λ (xs : List Step). nat_eq target number || list_any (names number) xs) behind ∙ sym (flag_there target given steps it.place it.inside) ∙ it.flagged in
    let many = it.many in
    let no_target : nat_eq target number ≡ true → ⊥ = λ is.
    (let same : target ≡ number = grind arith in
    let none : it.rest ≡ [] = behind ∙ none_behind target (number + 1) (drop (it.place + 1) steps) (omega (arith, same)) in
    omega (arith, count, more, many, ap length none)) in
    let named : list_any (names number) it.rest ≡ true = only_right (nat_eq target number) (list_any (names number) it.rest) no_target flag in
    let found = any_at (names number) it.rest d named in
    let l = k + 1 + found.0 in
    let below = found.1 in
    let here : l < length picked = omega (arith, many, below) in
    let step : get_or picked l d ≡ get_or it.rest found.0 d = it.behind found.0 in
    let anew : new_number given flags number ≡ given + k = new_number_at it.place it.before in
    let moved : get_or all l d ≡ renumbered given flags (get_or picked l d) = get_or-map (renumbered given flags) picked l d d here in
    let N : Step → Type 0 = λ s. names number s ≡ true in
    let M : Step → Type 0 = λ s. names (given + k) s ≡ true in
    let R : ℕ → Type 0 = λ n. names n (renumbered given flags (get_or picked l d)) ≡ true in
    (l, omega arith, omega (arith, count, here), subst M (sym moved) (subst R anew (names_anew given flags number (get_or picked l d) (subst N (sym step) found.2)))) where
      new_number_at : (p : ℕ) {n : ℕ} → count_set (take p (needed target given steps)) ≡ n → new_number given (needed target given steps) (given + p) ≡ given + n
      new_number_at p e =
          let made : nat_lt (given + p) given ≡ false = grind arith in
          let place : given + p - given ≡ p = omega arith in
          rw (made, place, e) refl

pub derivation_uses : (target given : ℕ) (steps : List Step) → UsesEachStep given (derivation_of target given steps)
unfolding derivation_of
derivation_uses target given steps = by (nat_lt target given) refl where
  by : (low : Bool) → nat_lt target given ≡ low → UsesEachStep given (cond (nat_lt target given) (itself target ∷ []) (needed_steps given (needed target given steps) steps))
  by true is = rw is (λ k d more. absurd (omega (arith, more)))
  by false is = rw is (used_of target given steps)

pub decided_uses : (system : Polyhedron) (result : Result Decision FindFault) → Decides system result → IfOk result (IsFrugal system)
decided_uses system (Ok (Refuted derivation)) h =
    let U : List Step → Type 0 = λ steps. UsesEachStep (length system.rows) steps in
    subst U (sym h.stated) (derivation_uses h.number (length system.rows) h.log)
decided_uses system (Ok (Point point)) h = tt
decided_uses system (Err fault) h = tt
