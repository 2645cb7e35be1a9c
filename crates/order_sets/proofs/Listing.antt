-- The formulas in order, with those of one read more.
use Rattle.std.proofs.Common.{◌≡◌, ℕ, zero, suc, ◌+◌, ◌<◌, List, [], ◌∷◌, ◌++◌, length, map, take, get_or, All, Err, sym, ap, ap₂, subst, ◌∙◌, arith, append_assoc}
use Rattle.std.proofs.lemmas.List.{map-append}
use Rattle.std.proofs.lemmas.List.Elements.{All-nil, All-cons, All-head, All-tail, All-append}
use Rattle.az_ast.specs.System.{System}
use Rattle.expr_places.specs.Reads.{ReadPlace}
use Rattle.order_sets.specs.Orders.{StatedClaim, order_of, orders_from}
use Rattle.formula_refute.specs.declared.fault.RefuteFault.{RefuteFault}
use Rattle.formula_refute.specs.declared.fault.RefuteFault.TheVariants.{Overflow, Entry, Limit, Memory}
use Rattle.order_sets.specs.Stated.{stated_claim, Appends, States}
use Rattle.order_sets.specs.declared.stated.Stated.{Stated}
use Rattle.target_map.specs.Settings.{TargetMapping}
use Rattle.order_sets.proofs.Places.{taken_next}

-- mapped items, with the next one
pub mapped_next : {A B : Type 0} (f : A → B) (xs : List A) (i : ℕ) (x : A) → i < length xs → x ≡ get_or xs i x → map f (take (i + 1) xs) ≡ map f (take i xs) ++ f x ∷ []
mapped_next f xs i x here is = ap (map f) (taken_next xs i x here is) ∙ map-append f (take i xs) (x ∷ [])

pub all_more : {A : Type 0} (P : A → Type 0) (xs ys : List A) (x : A) → ys ≡ xs ++ x ∷ [] → All P xs → P x → All P ys
all_more {A} P xs ys x is all here =
    let Q : List A → Type 0 = λ zs. All P zs in subst Q (sym is) (All-append P xs (x ∷ []) all (All-cons P x [] here (All-nil P)))

-- a stated formula more
pub stated_more : (old done new : List Stated) (all : List StatedClaim) (stated : Stated) (next : StatedClaim) → map stated_claim done ≡ map stated_claim old ++ all → new ≡ done ++ stated ∷ []
    → stated_claim stated ≡ next → map stated_claim new ≡ map stated_claim old ++ (all ++ next ∷ [])
stated_more old done new all stated next so_far pushed is =
    ap (map stated_claim) pushed
    ∙ map-append stated_claim done (stated ∷ [])
    ∙ ap₂ (λ (cs : List StatedClaim) (c : StatedClaim). cs ++ c ∷ []) so_far is
    ∙ append_assoc (map stated_claim old) all (next ∷ [])

module _ (p : System) (m : TargetMapping) (x : ℕ) where
  orders_append : (n : ℕ) (reads : List ReadPlace) (read : ReadPlace) → orders_from p m x n (reads ++ read ∷ []) ≡ orders_from p m x n reads ++ order_of p m x (n + length reads) read ∷ []
  orders_append n [] read =
      let none : List ReadPlace = [] in
      let same : n ≡ n + length none = omega arith in
      ap (λ k. order_of p m x k read ∷ []) same
  orders_append n (r ∷ reads) read =
      let same : suc n + length reads ≡ n + length (r ∷ reads) = omega arith in
      ap (λ (cs : List StatedClaim). order_of p m x n r ∷ cs)
      (orders_append (suc n) reads read ∙ ap (λ k. orders_from p m x (suc n) reads ++ order_of p m x k read ∷ []) same)

  pub orders_next : (done all : List ReadPlace) (number : ℕ) (read : ReadPlace) → number ≡ length done → all ≡ done ++ read ∷ []
      → orders_from p m x 0 all ≡ orders_from p m x 0 done ++ order_of p m x number read ∷ []
  orders_next done all number read is split =
      let same : 0 + length done ≡ number = omega (arith, is) in
      ap (orders_from p m x 0) split ∙ orders_append 0 done read ∙ ap (λ k. orders_from p m x 0 done ++ order_of p m x k read ∷ []) same

-- what all items have, the one at a place has
pub item_has : {A : Type 0} (P : A → Type 0) (xs : List A) (i : ℕ) (x : A) → i < length xs → x ≡ get_or xs i x → All P xs → P x
item_has P [] i x here is all = absurd (omega arith)
item_has P (y ∷ xs) zero x here is all = subst P (sym is) (All-head P y xs all)
item_has P (y ∷ xs) (suc i) x here is all = item_has P xs i x (omega arith) is (All-tail P y xs all)

-- a fault is handed on where what had to fit is part of what has to
pub stopped : (fits fits' : Type 0) (wanted wanted' : List StatedClaim) (old new : List Stated) (fault : RefuteFault) → Appends fits wanted old new (Err fault) → (fits' → fits)
    → States fits' wanted' (Err fault)
stopped fits fits' wanted wanted' old new Entry stops part = λ all. stops (part all)
stopped fits fits' wanted wanted' old new (Overflow number) stops part = stops
stopped fits fits' wanted wanted' old new (Limit limit) stops part = stops
stopped fits fits' wanted wanted' old new Memory stops part = tt

pub still_stopped : (fits fits' : Type 0) (wanted wanted' : List StatedClaim) (old new old' new' : List Stated) (fault : RefuteFault) → Appends fits wanted old new (Err fault) → (fits' → fits)
    → Appends fits' wanted' old' new' (Err fault)
still_stopped fits fits' wanted wanted' old new old' new' Entry stops part = λ all. stops (part all)
still_stopped fits fits' wanted wanted' old new old' new' (Overflow number) stops part = stops
still_stopped fits fits' wanted wanted' old new old' new' (Limit limit) stops part = stops
still_stopped fits fits' wanted wanted' old new old' new' Memory stops part = tt
