-- Several walks at once: their points in one order, each once.
use Rattle.std.specs.Prelude.{◌≡◌, ℕ, ◌<◌, true, cond, List, [], ◌∷◌, length, ℤ, Option, Some, None, slice_index_or}
use Rattle.std.specs.declared.cmp.Ordering.{Ordering}
use Rattle.std.specs.declared.cmp.Ordering.TheVariants.{Less, Equal, Greater}
use Rattle.std.specs.Ordering.{int_cmp, is_eq}
use Rattle.std.specs.Cmp.Lexicographic.{slice_cmp}
use Rattle.az_ast.specs.Points.{Precedes, IsIncreasing}
use Rattle.loop_scan.specs.declared.head.Head.{Head}
use Rattle.loop_scan.specs.Nest.Walks.{to_come, IsWalk}

-- a point put into an increasing list, where it isn't there yet
abbrev pub placed : Ordering → List ℤ → List ℤ → List (List ℤ) → List (List ℤ) → List (List ℤ)
placed Less p q qs rest = p ∷ q ∷ qs
placed Equal p q qs rest = q ∷ qs
placed Greater p q qs rest = q ∷ rest

abbrev pub inserted : List ℤ → List (List ℤ) → List (List ℤ)
inserted p [] = p ∷ []
inserted p (q ∷ qs) = placed (slice_cmp int_cmp p q) p q qs (inserted p qs)

abbrev pub united : List (List ℤ) → List (List ℤ) → List (List ℤ)
united [] qs = qs
united (p ∷ ps) qs = inserted p (united ps qs)

abbrev pub merged : List (List (List ℤ)) → List (List ℤ)
merged [] = []
merged (ps ∷ lists) = united ps (merged lists)

-- what is left of a list past a point, if it begins with that
abbrev pub passed : List ℤ → List (List ℤ) → List (List ℤ)
passed p [] = []
passed p (q ∷ qs) = cond (is_eq (slice_cmp int_cmp q p)) qs (q ∷ qs)

abbrev pub ahead : Head → List (List ℤ)
ahead head = cond head.live (head.walk.point.items ∷ to_come head.walk) []

pub record IsHead (width : ℕ) (head : Head) : Type 0 where
  pub walk : IsWalk head.walk
  pub levels : length head.walk.levels.items ≡ width
  pub increasing : IsIncreasing (ahead head)

-- the place of a live head among the first so many, whose point no other's precedes; none where none is live
abbrev pub IsLive : List Head → ℕ → Type 0
IsLive heads k = (d : Head) → (slice_index_or heads k d).live ≡ true

abbrev pub Comes : List Head → ℕ → ℕ → Type 0
Comes heads j k = (d : Head) → Precedes (slice_index_or heads j d).walk.point.items (slice_index_or heads k d).walk.point.items

abbrev pub IsFirst : List Head → ℕ → Option ℕ → Type 0
IsFirst heads n None = (k : ℕ) → k < n → IsLive heads k → ⊥
IsFirst heads n (Some first) =
    (first < n) × IsLive heads first × ((k : ℕ) → k < n → IsLive heads k → Comes heads k first → ⊥)
