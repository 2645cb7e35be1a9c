-- Coordinates as they are written one after the other.
use Rattle.std.proofs.Common.{◌≡◌, ℕ, ◌+◌, ◌<◌, List, ◌++◌, length, get_or, drop, ℤ, pos, append_assoc, sym, ap, ◌∙◌, add-one, drop-cons}
use Rattle.session_state.specs.Coordinates.{coordinate, separator, coordinates_from}

module _ (row den place : ℕ) (numbers : List ℤ) (number : ℤ) (within : place < length numbers) (here : number ≡ get_or numbers place (pos 0)) where
  -- what is left begins with this number
  begins : coordinates_from row den place (drop place numbers) ≡ separator row place ++ (coordinate den number ++ coordinates_from row den (place + 1) (drop (place + 1) numbers))
  begins =
      ap (coordinates_from row den place) (drop-cons numbers place (pos 0) within)
      ∙ (ap (λ (k : ℕ). separator row place ++ (coordinate den (get_or numbers place (pos 0)) ++ coordinates_from row den (place + 1) (drop k numbers))) (sym (add-one place))
      ∙ ap (λ (n : ℤ). separator row place ++ (coordinate den n ++ coordinates_from row den (place + 1) (drop (place + 1) numbers))) (sym here))

  pub one_more : (text mid new whole : List ℕ) → text ++ coordinates_from row den place (drop place numbers) ≡ whole
      → mid ≡ text ++ separator row place → new ≡ mid ++ coordinate den number
      → new ++ coordinates_from row den (place + 1) (drop (place + 1) numbers) ≡ whole
  one_more text mid new whole so_far first second =
      let rest : List ℕ = coordinates_from row den (place + 1) (drop (place + 1) numbers) in
      ap (λ n. n ++ rest) (second ∙ ap (λ m. m ++ coordinate den number) first)
      ∙ append_assoc (text ++ separator row place) (coordinate den number) rest
      ∙ append_assoc text (separator row place) (coordinate den number ++ rest)
      ∙ ap (λ r. text ++ r) (sym begins)
      ∙ so_far
