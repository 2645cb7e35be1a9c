-- The column that is found by going through the columns, against all of them.
use Rattle.std.proofs.Common.{◌≡◌, ◌∙◌, ℕ, ◌<◌, ◌≤◌, arith, refl, sym, subst, ap, Bool, true, false, cond, ◌&&◌, nat_lt, List, [], ◌∷◌, ◌++◌, append_assoc, append-nil, Option, Some, None}
use Rattle.std.specs.List.{All, fold}
use Rattle.std.proofs.lemmas.Bool.Decides.{nat_tests}
use Rattle.std.proofs.lemmas.List.Elements.{All-nil, All-cons, All-append, All-push, All-weaker}
use Rattle.farkas_find.specs.declared.numbered.Numbered.{Numbered}
use Rattle.farkas_find.specs.Choosing.{is_live, better_of, count_of_pairs, column_by_count}
use Rattle.farkas_find.specs.Fewest.{HasFewest}
use Rattle.farkas_find.proofs.Paired.{left_of_and, right_of_and}

dead_or_live : (b : Bool) → b ≡ false → b ≡ true → ⊥
dead_or_live b p q = absurd (cc)

second_of_and : (a b : Bool) → (a && b) ≡ false → a ≡ true → b ≡ false
second_of_and true b p q = p
second_of_and false b p q = absurd (cc)

less : (m n : ℕ) → nat_lt m n ≡ true → m < n
less m n h = grind (arith, nat_tests)

not_less : (m n : ℕ) → nat_lt m n ≡ false → n ≤ m
not_less m n h = grind (arith, nat_tests)

-- one column more
more_columns : (rows : List Numbered) (done : List ℕ) (best : Option ℕ) (column : ℕ) → HasFewest done rows best → HasFewest (done ++ column ∷ []) rows (better_of rows best column)
more_columns rows done None column dead =
    let Dead : ℕ → Type 0 = λ other. is_live other rows ≡ false in
    let More : ℕ → Type 0 = λ other. is_live other rows ≡ true → count_of_pairs column rows < count_of_pairs other rows in
    let NoFewer : ℕ → Type 0 = λ other. is_live other rows ≡ true → count_of_pairs column rows ≤ count_of_pairs other rows in
    (elim (is_live column rows) as (λ b. is_live column rows ≡ b → HasFewest (done ++ column ∷ []) rows (cond b (Some column) None)) [
      | true ↦ λ e. record {
        before = done;
        after = [];
        split = refl;
        live = e;
        more = All-weaker Dead More (λ other none some. absurd (dead_or_live (is_live other rows) none some)) done dead;
        no_fewer = All-nil NoFewer;
      }
      | false ↦ λ e. All-push Dead done column dead e
    ]) refl
more_columns rows done (Some best) column h =
    let count : ℕ → ℕ = λ c. count_of_pairs c rows in
    let More : ℕ → Type 0 = λ other. is_live other rows ≡ true → count column < count other in
    let NoFewer : ℕ → Type 0 = λ other. is_live other rows ≡ true → count column ≤ count other in
    let MoreOld : ℕ → Type 0 = λ other. is_live other rows ≡ true → count best < count other in
    let NoFewerOld : ℕ → Type 0 = λ other. is_live other rows ≡ true → count best ≤ count other in
    let better = nat_lt (count column) (count best) in
    (elim (is_live column rows && better) as (λ b. (is_live column rows && better) ≡ b → HasFewest (done ++ column ∷ []) rows (cond b (Some column) (Some best))) [
      | true ↦ λ e.
          let below : count column < count best = less (count column) (count best) (right_of_and (is_live column rows) better e) in
          record {
            before = done;
            after = [];
            split = refl;
            live = left_of_and (is_live column rows) better e;
            more = subst (All More) (sym h.split)
                (All-append More h.before (best ∷ h.after)
                (All-weaker MoreOld More (λ other old some. let past : count best < count other = old some in omega arith) h.before h.more)
                (All-cons More best h.after (λ some. below)
                (All-weaker NoFewerOld More (λ other old some. let past : count best ≤ count other = old some in omega arith) h.after h.no_fewer)));
            no_fewer = All-nil NoFewer;
          }
      | false ↦ λ e. record {
        before = h.before;
        after = h.after ++ column ∷ [];
        split = ap (λ (cs : List ℕ). cs ++ column ∷ []) h.split ∙ append_assoc h.before (best ∷ h.after) (column ∷ []);
        live = h.live;
        more = h.more;
        no_fewer = All-push NoFewerOld h.after column h.no_fewer (λ some. not_less (count column) (count best) (second_of_and (is_live column rows) better e some));
      }
    ]) refl

all_columns : (rows : List Numbered) (done rest : List ℕ) (best : Option ℕ) → HasFewest done rows best → HasFewest (done ++ rest) rows (fold (better_of rows) best rest)
all_columns rows done [] best h = subst (λ (cs : List ℕ). HasFewest cs rows best) (sym (append-nil done)) h
all_columns rows done (column ∷ rest) best h =
    subst (λ (cs : List ℕ). HasFewest cs rows (fold (better_of rows) (better_of rows best column) rest)) (append_assoc done (column ∷ []) rest)
    (all_columns rows (done ++ column ∷ []) rest (better_of rows best column) (more_columns rows done best column h))

pub fewest : (columns : List ℕ) (rows : List Numbered) → HasFewest columns rows (column_by_count columns rows)
unfolding column_by_count
fewest columns rows = all_columns rows [] columns None (All-nil (λ column. is_live column rows ≡ false))
