-- What all of a list have, its parts have, and so has the list with one more item.
use Rattle.std.proofs.Common.{List, [], ◌∷◌, ◌++◌}
use Rattle.std.specs.List.{AllByRecursion}

module _ {A : Type 0} (P : A → Type 0) where
  pub all_first : (xs ys : List A) → AllByRecursion P (xs ++ ys) → AllByRecursion P xs
  all_first [] ys h = tt
  all_first (x ∷ xs) ys h = (h.0, all_first xs ys h.1)

  pub all_last : (xs ys : List A) → AllByRecursion P (xs ++ ys) → AllByRecursion P ys
  all_last [] ys h = h
  all_last (x ∷ xs) ys h = all_last xs ys h.1

  pub all_snoc : (xs : List A) (y : A) → AllByRecursion P xs → P y → AllByRecursion P (xs ++ y ∷ [])
  all_snoc [] y h p = (p, tt)
  all_snoc (x ∷ xs) y h p = (h.0, all_snoc xs y h.1 p)
