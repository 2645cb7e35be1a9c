-- A list that a loop goes through by value: what was taken, what is taken now, and what is left.
use Rattle.std.proofs.Common.{◌≡◌, List, ◌∷◌, ◌++◌, ◌<◌, ◌+◌, length, get_or, take, drop, sym, ap, ◌∙◌}
use Rattle.std.proofs.lemmas.List.{map-id, take-append-drop}
use Rattle.std.specs.Prelude.{map}
use Rattle.domain_check.proofs.Loops.{drop_next}

module _ {A : Type 0} (all taken : List A) (so_far : map (λ (y : A). y) taken ≡ take (length taken) all) where
  pub taken_and_left : (x : A) → length taken < length all → x ≡ get_or all (length taken) x → all ≡ taken ++ x ∷ drop (length taken + 1) all
  taken_and_left x within here =
      sym (take-append-drop (length taken) all)
      ∙ (ap (λ (l : List A). l ++ drop (length taken) all) (sym so_far ∙ map-id taken)
      ∙ ap (λ (l : List A). taken ++ l) (drop_next all (length taken) x within here))
