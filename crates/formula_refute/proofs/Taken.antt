-- One more item of a list whose items are changed.
use Rattle.std.proofs.Common.{◌≡◌, ℕ, ◌+◌, ◌<◌, ◌∙◌, List, [], ◌∷◌, ◌++◌, length, take, get_or, map, ap, sym}
use Rattle.std.proofs.lemmas.List.{take_more, get_or-map, length-map}

pub taken_more : {A B : Type 0} (f : A → B) (items : List A) (i : ℕ) (x : A) → i < length items → x ≡ get_or items i x
    → take (i + 1) (map f items) ≡ take i (map f items) ++ f x ∷ []
taken_more f items i x here is =
    let within : i < length (map f items) = rw (length-map items f) here in
    take_more (map f items) i (f x) within ∙ ap (λ y. take i (map f items) ++ y ∷ []) (get_or-map f items i x (f x) here ∙ ap f (sym is))
