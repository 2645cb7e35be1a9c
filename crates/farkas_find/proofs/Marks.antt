-- Marks on the steps that are needed, set from the last step back.
use Rattle.std.proofs.Common.{◌≡◌, ℕ, zero, suc, ◌+◌, ◌<◌, ◌≤◌, ◌∙◌, sym, subst, ap, ap₂, refl, arith, inl, inr, Bool, true, false, ◌||◌, nat_eq, List, [], ◌∷◌, length, drop, get_or, drop-cons, add-one}
use Rattle.std.specs.List.{list_any, items_where_true}
use Rattle.std.specs.Prelude.{replicate}
use Rattle.std.proofs.lemmas.List.{length-replicate}
use Rattle.std.proofs.lemmas.Bool.{cases_lt}
use Rattle.std.proofs.Math.ListN.{drop_of_length-le}
use Rattle.az_lin.specs.declared.step.Step.{Step}
use Rattle.farkas_find.specs.Needed.{names, needed, NamesBefore, EachNamesBefore}
use Rattle.farkas_find.proofs.Pruning.{length-needed}

-- the flag of a step that makes this row, before these later ones
abbrev pub flag_before : ℕ → ℕ → List Bool → List Step → Bool
flag_before target number flags later = nat_eq target number || list_any (names number) (items_where_true flags later)

pub needed-at : (target number : ℕ) (steps : List Step) (k : ℕ) → k < length steps
    → get_or (needed target number steps) k false ≡ flag_before target (number + k) (drop (k + 1) (needed target number steps)) (drop (k + 1) steps)
needed-at target number [] k h = absurd (omega arith)
needed-at target number (step ∷ later) zero h =
    let same : number + 0 ≡ number = omega arith in
    rw same refl
needed-at target number (step ∷ later) (suc k) h =
    let same : number + suc k ≡ (number + 1) + k = omega arith in
    let more : suc k + 1 ≡ suc (k + 1) = omega arith in
    rw (same, more) (needed-at target (number + 1) later k (omega arith))

-- The marks, where the steps from this place on have been looked at.
pub record Marked (target given : ℕ) (steps : List Step) (marks : List Bool) (place : ℕ) : Type 0 where
  pub count : length marks ≡ length steps
  pub inside : place ≤ length steps
  pub done : (k : ℕ) → place ≤ k → k < length steps → get_or marks k false ≡ get_or (needed target given steps) k false
  pub rest : (k : ℕ) → k < place → get_or marks k false ≡ flag_before target (given + k) (drop place (needed target given steps)) (drop place steps)

-- one mark set
pub record IsSet (given number : ℕ) (old new : List Bool) : Type 0 where
  pub count : length new ≡ length old
  pub value : (k : ℕ) → k < length old → get_or new k false ≡ (nat_eq number (given + k) || get_or old k false)

none_marked : (n k : ℕ) → get_or (replicate n false) k false ≡ false
none_marked zero k = refl
none_marked (suc n) zero = refl
none_marked (suc n) (suc k) = none_marked n k

pub Marked-start : (target given : ℕ) (steps : List Step) (marks : List Bool) → IsSet given target (replicate (length steps) false) marks → Marked target given steps marks (length steps)
Marked-start target given steps marks here = let as_many = length-replicate (length steps) false in record {
  count = here.count ∙ as_many;
  inside = omega arith;
  done = λ k past inside. absurd (omega arith);
  rest = λ k inside.
      let no_flag : drop (length steps) steps ≡ [] = drop_of_length-le steps (omega arith) in
      let no_flags : drop (length steps) (needed target given steps) ≡ [] = drop_of_length-le (needed target given steps) (omega (arith, length-needed target given steps)) in
      rw (no_flag, no_flags) (here.value k (omega arith) ∙ ap (λ (b : Bool). nat_eq target (given + k) || b) (none_marked (length steps) k));
}

-- the place before is done as it stands
last_done : (target given : ℕ) (steps : List Step) (marks : List Bool) (q : ℕ) → Marked target given steps marks (q + 1)
    → get_or marks q false ≡ get_or (needed target given steps) q false
last_done target given steps marks q before =
    before.rest q (omega arith) ∙ sym (needed-at target given steps q (omega (arith, before.inside)))

done_more : (target given : ℕ) (steps : List Step) (marks : List Bool) (q : ℕ) → Marked target given steps marks (q + 1) → (k : ℕ) → q ≤ k → k < length steps
    → get_or marks k false ≡ get_or (needed target given steps) k false
done_more target given steps marks q before k past inside = elim (cases_lt q k) [
  | inl after ↦ before.done k (omega arith) inside
  | inr here ↦
      (let same : q ≡ k = omega arith in
      subst (λ n. get_or marks n false ≡ get_or (needed target given steps) n false) same (last_done target given steps marks q before))
]

flag_before-kept : (target number : ℕ) (flags : List Bool) (steps : List Step) (q : ℕ) (d : Step) → q < length flags → q < length steps → get_or flags q false ≡ true
    → flag_before target number (drop q flags) (drop q steps)
    ≡ (nat_eq target number || (names number (get_or steps q d) || list_any (names number) (items_where_true (drop (q + 1) flags) (drop (q + 1) steps))))
flag_before-kept target number flags steps q d p r flag =
    rw (add-one, drop-cons flags q false p, drop-cons steps q d r, flag) refl

flag_before-dropped : (target number : ℕ) (flags : List Bool) (steps : List Step) (q : ℕ) (d : Step) → q < length flags → q < length steps → get_or flags q false ≡ false
    → flag_before target number (drop q flags) (drop q steps) ≡ flag_before target number (drop (q + 1) flags) (drop (q + 1) steps)
flag_before-dropped target number flags steps q d p r flag =
    rw (add-one, drop-cons flags q false p, drop-cons steps q d r, flag) refl

-- a step that isn't needed marks nothing
pub Marked-no : (target given : ℕ) (steps : List Step) (marks : List Bool) (q : ℕ) (d : Step) → Marked target given steps marks (q + 1) → get_or marks q false ≡ false
    → Marked target given steps marks q
Marked-no target given steps marks q d before flag =
    let inside : q < length steps = omega (arith, before.inside) in
    let flags = needed target given steps in
    let many : q < length flags = omega (arith, length-needed target given steps) in
    record {
      count = before.count;
      inside = omega arith;
      done = done_more target given steps marks q before;
      rest = λ k h. before.rest k (omega arith) ∙ sym (flag_before-dropped target (given + k) flags steps q d many inside (sym (last_done target given steps marks q before) ∙ flag));
    }

rearranged : (t i j a : Bool) → (j || (i || (t || a))) ≡ (t || ((i || j) || a))
rearranged true true true a = refl
rearranged true true false a = refl
rearranged true false true a = refl
rearranged true false false a = refl
rearranged false true true a = refl
rearranged false true false a = refl
rearranged false false true a = refl
rearranged false false false a = refl

unmarked : (given number k : ℕ) (b : Bool) → number < given + k → (nat_eq number (given + k) || b) ≡ b
unmarked given number k b h = let e : nat_eq number (given + k) ≡ false = grind arith in rw e refl

-- a needed step marks the two rows that it names
pub Marked-yes : (target given : ℕ) (steps : List Step) (marks first both : List Bool) (q : ℕ) (d : Step) → Marked target given steps marks (q + 1)
    → get_or marks q false ≡ true → EachNamesBefore given steps → IsSet given (get_or steps q d).i marks first → IsSet given (get_or steps q d).j first both
    → Marked target given steps both q
Marked-yes target given steps marks first both q d before flag order left right =
    let inside : q < length steps = omega (arith, before.inside) in
    let flags = needed target given steps in
    let step = get_or steps q d in
    let many : q < length flags = omega (arith, length-needed target given steps) in
    let named : NamesBefore (given + q) step = order q d inside in
    let flag_is : get_or flags q false ≡ true = sym (last_done target given steps marks q before) ∙ flag in
    let counts : length first ≡ length steps = left.count ∙ before.count in
    record {
      count = right.count ∙ left.count ∙ before.count;
      inside = omega arith;
      done = λ k past h.
          right.value k (omega arith) ∙ unmarked given step.j k (get_or first k false) (omega (arith, named.right))
          ∙ left.value k (omega (arith, before.count)) ∙ unmarked given step.i k (get_or marks k false) (omega (arith, named.left))
          ∙ done_more target given steps marks q before k past h;
      rest = λ k h.
          let later = list_any (names (given + k)) (items_where_true (drop (q + 1) flags) (drop (q + 1) steps)) in
          right.value k (omega arith)
          ∙ ap (λ (b : Bool). nat_eq step.j (given + k) || b) (left.value k (omega (arith, before.count)))
          ∙ ap (λ (b : Bool). nat_eq step.j (given + k) || (nat_eq step.i (given + k) || b)) (before.rest k (omega arith))
          ∙ rearranged (nat_eq target (given + k)) (nat_eq step.i (given + k)) (nat_eq step.j (given + k)) later
          ∙ sym (flag_before-kept target (given + k) flags steps q d many inside flag_is);
    }

same_lists : (xs ys : List Bool) → length xs ≡ length ys → ((k : ℕ) → k < length xs → get_or xs k false ≡ get_or ys k false) → xs ≡ ys
same_lists [] [] e same = refl
same_lists [] (y ∷ ys) e same = absurd (omega arith)
same_lists (x ∷ xs) [] e same = absurd (omega arith)
same_lists (x ∷ xs) (y ∷ ys) e same =
    let head : x ≡ y = same 0 (omega arith) in
    let tail : xs ≡ ys = same_lists xs ys (omega arith) (λ k h. same (suc k) (omega arith)) in
    ap₂ (λ (z : Bool) (zs : List Bool). z ∷ zs) head tail

pub Marked-end : (target given : ℕ) (steps : List Step) (marks : List Bool) (place : ℕ) → Marked target given steps marks place → place ≤ 0 → marks ≡ needed target given steps
Marked-end target given steps marks place all end =
    same_lists marks (needed target given steps) (all.count ∙ sym (length-needed target given steps))
    (λ k h. all.done k (omega arith) (omega (arith, all.count)))
