-- A list of items cut into groups of one key, one item after another.
use Rattle.std.specs.Prelude.{◌≡◌, ℤ, Bool, true, if◌then◌else◌, List, [], ◌∷◌, ◌++◌}
use Rattle.std.specs.Cmp.Lexicographic.{slice_cmp}
use Rattle.std.specs.Ordering.{int_cmp, is_eq}
use Rattle.tile_waves.specs.declared.item.Item.{Item}
use Rattle.tile_waves.specs.declared.level.Level.{Level}
use Rattle.tile_waves.specs.declared.level.Level.TheVariants.{Wave, Tile}

abbrev pub level_key : Level → Item → List ℤ
level_key Wave item = item.wave
level_key Tile item = item.tile

abbrev pub has_one_key : Level → Item → Item → Bool
has_one_key level a b = is_eq (slice_cmp int_cmp (level_key level a) (level_key level b))

-- the groups that are closed, and the last one, to which items may come
pub record Cut : Type 0 where
  pub closed : List (List Item)
  pub last : List Item

abbrev pub goes_on : Level → List Item → Item → Bool
goes_on level [] item = true
goes_on level (first ∷ rest) item = has_one_key level first item

abbrev pub cut_more : Level → Cut → Item → Cut
cut_more level cut item =
    if goes_on level cut.last item then record { closed = cut.closed; last = cut.last ++ item ∷ [] } else record { closed = cut.closed ++ cut.last ∷ []; last = item ∷ [] }

-- of items of which the last one comes first
abbrev pub cut_of : Level → List Item → Cut
cut_of level [] = record { closed = []; last = [] }
cut_of level (item ∷ earlier) = cut_more level (cut_of level earlier) item

abbrev pub with_last : List (List Item) → List Item → List (List Item)
with_last closed [] = closed
with_last closed (first ∷ rest) = closed ++ (first ∷ rest) ∷ []

abbrev pub groups_of : Level → List Item → List (List Item)
groups_of level items = with_last (cut_of level items).closed (cut_of level items).last

-- items that are cut from the end: what is left, and the groups of what was taken
pub record IsCutting (level : Level) (items left : List Item) (closed : List (List Item)) (last : List Item) : Type 0 where
  pub taken : List Item
  pub whole : left ++ taken ≡ items
  pub cut : cut_of level taken ≡ record { closed = closed; last = last }
