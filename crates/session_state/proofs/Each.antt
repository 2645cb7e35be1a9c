-- Steps that are taken for one item after another.
use Rattle.std.proofs.Common.{◌≡◌, ℕ, suc, ◌+◌, ◌<◌, List, [], ◌∷◌, length, get_or, drop, refl, sym, ap, subst, ◌∙◌, add-one, drop-cons, arith}
use Rattle.std.specs.Prelude.{Result, Ok, Err}
use Rattle.az_desk.specs.declared.call.Call.{Call}
use Rattle.session_state.proofs.Taking.{stops_first, goes_on}
use Rattle.session_state.specs.Steps.{Step, each_in, TakesBy}
use Rattle.session_state.specs.declared.stop.Stop.{Stop}

nothing_left : {A : Type 0} (xs : List A) → length xs ≡ 0 → xs ≡ []
nothing_left [] h = refl
nothing_left (x ∷ xs) h = absurd (omega arith)

module _ {S B : Type 0} (fails : Call → Type 0) (one : S → B → Step S) (items : List B) where
  -- what is taken from here on is what is taken in all
  abbrev pub TakesRest : S → S → ℕ → Type 0
  TakesRest start state i = (result : Result S Stop) → TakesBy fails (each_in one state (drop i items)) result → TakesBy fails (each_in one start items) result

  module _ (start state : S) (i : ℕ) (item : B) (within : i < length items) (here : item ≡ get_or items i item) where
    left : drop i items ≡ item ∷ drop (i + 1) items
    left = drop-cons items i item within ∙ (ap (λ b. b ∷ drop (suc i) items) (sym here) ∙ ap (λ k. item ∷ drop k items) (sym (add-one i)))

    pub takes_one : (more : S) → TakesRest start state i → one state item (Ok more) → TakesRest start more (i + 1)
    takes_one more so_far taken = λ result h.
        so_far result (subst (λ (bs : List B). TakesBy fails (each_in one state bs) result) (sym left)
        (goes_on fails (one state item) (λ s. each_in one s (drop (i + 1) items)) more result taken h))

    pub stops_at : (stop : Stop) → TakesRest start state i → TakesBy fails (one state item) (Err stop) → TakesBy fails (each_in one start items) (Err stop)
    stops_at stop so_far h =
        so_far (Err stop) (subst (λ (bs : List B). TakesBy fails (each_in one state bs) (Err stop)) (sym left)
        (stops_first fails (one state item) (λ s. each_in one s (drop (i + 1) items)) stop h))

  pub all_taken : (start state : S) (i : ℕ) → length (drop i items) ≡ 0 → TakesRest start state i → TakesBy fails (each_in one start items) (Ok state)
  all_taken start state i none so_far = so_far (Ok state) (subst (λ (bs : List B). TakesBy fails (each_in one state bs) (Ok state)) (sym (nothing_left (drop i items) none)) refl)

-- what each step keeps, all of them keep
pub each_keeps : {S B : Type 0} (one : S → B → Step S) (P : S → Type 0) → ((state : S) (item : B) (more : S) → one state item (Ok more) → P state → P more)
    → (items : List B) (state final : S) → each_in one state items (Ok final) → P state → P final
each_keeps one P keeps [] state final h holds = let same : final ≡ state = cc in subst P (sym same) holds
each_keeps one P keeps (item ∷ items) state final (more, here, rest) holds = each_keeps one P keeps items more final rest (keeps state item more here holds)
