-- Lists of which each item has a value, by a function that may give none.
use Rattle.std.proofs.Common.{◌≡◌, List, [], ◌∷◌, ◌++◌, refl, sym, ap, ◌∙◌}
use Rattle.std.proofs.lemmas.Option.{same_Some, none-some}
use Rattle.std.specs.Prelude.{Option, Some, None, map}

pub same_values : {B : Type 0} (xs ys : List B) → map (λ (y : B). Some y) xs ≡ map (λ (y : B). Some y) ys → xs ≡ ys
same_values [] [] e = refl
same_values [] (y ∷ ys) e = cc
same_values (x ∷ xs) [] e = cc
same_values {B} (x ∷ xs) (y ∷ ys) e =
    let head : Some x ≡ Some y = cc in
    let tail : map (λ (y : B). Some y) xs ≡ map (λ (y : B). Some y) ys = cc in
    ap (λ z. z ∷ xs) (same_Some x y head) ∙ ap (λ zs. y ∷ zs) (same_values xs ys tail)

module _ {A B : Type 0} (value : A → Option B) where
  pub none_in_all : (before : List A) (item : A) (after : List A) (values : List B) → map value (before ++ item ∷ after) ≡ map (λ (y : B). Some y) values
      → value item ≡ None → ⊥
  none_in_all [] item after [] e none = cc
  none_in_all [] item after (y ∷ ys) e none = let here : value item ≡ Some y = cc in none-some y (sym none ∙ here)
  none_in_all (first ∷ before) item after [] e none = cc
  none_in_all (first ∷ before) item after (y ∷ ys) e none =
      let rest : map value (before ++ item ∷ after) ≡ map (λ (y : B). Some y) ys = cc in none_in_all before item after ys rest none
