-- When an instance is carried out: its coordinates in time, cut by the kinds of the dimensions. The same over rows
-- that give the coordinates.
use Rattle.std.specs.Prelude.{Bool, if◌then◌else◌, List, [], ◌∷◌, ◌++◌}
use Rattle.target_map.specs.Kinds.{is_outer, is_band, is_processor, is_inner}
use Rattle.target_map.specs.declared.kind.Kind.{Kind}

pub record Stamp (A : Type 0) : Type 0 where
  pub outer : List A
  pub band : List A
  pub processor : List A
  -- what orders the instances of one processor in a tile: the band, the inner coordinates, the statement's number
  pub tile : List A

-- the coordinates of the dimensions that pass the test
abbrev pub part : {A : Type 0} → (Kind → Bool) → List Kind → List A → List A
part test [] xs = []
part test (kind ∷ kinds) [] = []
part test (kind ∷ kinds) (x ∷ xs) = if test kind then x ∷ part test kinds xs else part test kinds xs

abbrev pub stamp : {A : Type 0} → List Kind → A → List A → Stamp A
stamp kinds number xs = record {
  outer = part is_outer kinds xs;
  band = part is_band kinds xs;
  processor = part is_processor kinds xs;
  tile = part is_band kinds xs ++ (part is_inner kinds xs ++ number ∷ []);
}
