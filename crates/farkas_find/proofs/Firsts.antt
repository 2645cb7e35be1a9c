-- The first value over the places to come: past a place that gives none.
use Rattle.std.proofs.Common.{◌≡◌, ℕ, ◌+◌, ◌<◌, ap, refl, ◌∙◌, Bool, true, false, cond, ◌∷◌, Option, Some, None, is_some}
use Rattle.std.specs.Option.{option_or}
use Rattle.std.specs.List.{filter}
use Rattle.farkas_find.specs.Choosing.{first_of}
use Rattle.farkas_find.proofs.Places.{rest_from, rest_from-step}

pub none_of : {B : Type 0} (r : Option B) → is_some r ≡ false → r ≡ None
none_of None h = refl
none_of (Some x) h = cc

pub first_of-past : {B : Type 0} (give : ℕ → Option B) (place count : ℕ) → place < count → give place ≡ None
    → first_of give (rest_from place count) ≡ first_of give (rest_from (place + 1) count)
first_of-past give place count inside none =
    ap (first_of give) (rest_from-step place count inside) ∙ ap (λ r. option_or r (first_of give (rest_from (place + 1) count))) none

-- the same among the places that pass a test
pub first_of-past_kept : {B : Type 0} (give : ℕ → Option B) (test : ℕ → Bool) (place count : ℕ) → place < count → test place ≡ true → give place ≡ None
    → first_of give (filter test (rest_from place count)) ≡ first_of give (filter test (rest_from (place + 1) count))
first_of-past_kept give test place count inside passes none =
    ap (λ xs. first_of give (filter test xs)) (rest_from-step place count inside)
    ∙ ap (λ b. first_of give (cond b (place ∷ filter test (rest_from (place + 1) count)) (filter test (rest_from (place + 1) count)))) passes
    ∙ ap (λ r. option_or r (first_of give (filter test (rest_from (place + 1) count)))) none

pub first_of-past_left : {B : Type 0} (give : ℕ → Option B) (test : ℕ → Bool) (place count : ℕ) → place < count → test place ≡ false
    → first_of give (filter test (rest_from place count)) ≡ first_of give (filter test (rest_from (place + 1) count))
first_of-past_left give test place count inside fails =
    ap (λ xs. first_of give (filter test xs)) (rest_from-step place count inside)
    ∙ ap (λ b. first_of give (cond b (place ∷ filter test (rest_from (place + 1) count)) (filter test (rest_from (place + 1) count)))) fails
