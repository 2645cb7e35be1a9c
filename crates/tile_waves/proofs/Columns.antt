-- The columns are the parts of the coordinates, and their tiles and blocks.
use Rattle.std.proofs.Common.{◌≡◌, ℕ, ◌+◌, ◌<◌, ◌≤◌, List, [], ◌∷◌, ◌++◌, ◌⊎◌, inl, inr, length, get_or, drop, refl, sym, ap, ◌∙◌, arith, append_assoc, append-nil, div-le_self, min, Option}
use Rattle.std.specs.Prelude.{ℤ, pos, negsuc, ◌+ℤ◌, All, option_to_list}
use Rattle.std.specs.Int.{int_div_euclid}
use Rattle.std.proofs.lemmas.List.{drop_more, drop_all}
use Rattle.std.proofs.lemmas.List.Elements.{All-nil, All-cons, All-head, All-tail}
use Rattle.az_lin.specs.Affine.{IsCoordinate}
use Rattle.target_map.specs.Kinds.{is_outer, is_band, is_processor, is_inner, tile_sizes}
use Rattle.target_map.specs.Settings.{TargetMapping, order_number}
use Rattle.target_map.specs.Stamps.{part}
use Rattle.target_map.specs.declared.kind.Kind.{Kind}
use Rattle.target_map.specs.declared.kind.Kind.TheVariants as kind
use Rattle.tile_waves.specs.Inner.Columns.{entry, column}
use Rattle.tile_waves.specs.Inner.Items.{wave_at, tile_at, work_at}
use Rattle.tile_waves.specs.Keys.{block_sizes, floors, total}
use Rattle.execution.proofs.Lists.{within_or_past}
use Rattle.tile_waves.specs.declared.column.Column.{Column}
use Rattle.tile_waves.specs.declared.column.Column.TheVariants.{Outer, Tile, Block, Band, Processor, Inner}

pub outer-column : (kinds : List Kind) (xs : List ℤ) → column Outer kinds xs ≡ part is_outer kinds xs
outer-column [] xs = refl
outer-column (k ∷ kinds) [] = refl
outer-column (kind.Outer ∷ kinds) (x ∷ xs) = ap (λ zs. x ∷ zs) (outer-column kinds xs)
outer-column (kind.Band size ∷ kinds) (x ∷ xs) = outer-column kinds xs
outer-column (kind.Processor size ∷ kinds) (x ∷ xs) = outer-column kinds xs
outer-column (kind.Inner ∷ kinds) (x ∷ xs) = outer-column kinds xs

pub band-column : (kinds : List Kind) (xs : List ℤ) → column Band kinds xs ≡ part is_band kinds xs
band-column [] xs = refl
band-column (k ∷ kinds) [] = refl
band-column (kind.Outer ∷ kinds) (x ∷ xs) = band-column kinds xs
band-column (kind.Band size ∷ kinds) (x ∷ xs) = ap (λ zs. x ∷ zs) (band-column kinds xs)
band-column (kind.Processor size ∷ kinds) (x ∷ xs) = band-column kinds xs
band-column (kind.Inner ∷ kinds) (x ∷ xs) = band-column kinds xs

pub processor-column : (kinds : List Kind) (xs : List ℤ) → column Processor kinds xs ≡ part is_processor kinds xs
processor-column [] xs = refl
processor-column (k ∷ kinds) [] = refl
processor-column (kind.Outer ∷ kinds) (x ∷ xs) = processor-column kinds xs
processor-column (kind.Band size ∷ kinds) (x ∷ xs) = processor-column kinds xs
processor-column (kind.Processor size ∷ kinds) (x ∷ xs) = ap (λ zs. x ∷ zs) (processor-column kinds xs)
processor-column (kind.Inner ∷ kinds) (x ∷ xs) = processor-column kinds xs

pub inner-column : (kinds : List Kind) (xs : List ℤ) → column Inner kinds xs ≡ part is_inner kinds xs
inner-column [] xs = refl
inner-column (k ∷ kinds) [] = refl
inner-column (kind.Outer ∷ kinds) (x ∷ xs) = inner-column kinds xs
inner-column (kind.Band size ∷ kinds) (x ∷ xs) = inner-column kinds xs
inner-column (kind.Processor size ∷ kinds) (x ∷ xs) = inner-column kinds xs
inner-column (kind.Inner ∷ kinds) (x ∷ xs) = ap (λ zs. x ∷ zs) (inner-column kinds xs)

-- without coordinates there are no floors
no_floors : (sizes : List ℕ) → [] ≡ floors sizes []
no_floors [] = refl
no_floors (size ∷ sizes) = refl

pub tile-column : (kinds : List Kind) (xs : List ℤ) → column Tile kinds xs ≡ floors (tile_sizes kinds) (part is_band kinds xs)
tile-column [] xs = refl
tile-column (k ∷ kinds) [] = no_floors (tile_sizes (k ∷ kinds))
tile-column (kind.Outer ∷ kinds) (x ∷ xs) = tile-column kinds xs
tile-column (kind.Band size ∷ kinds) (x ∷ xs) = ap (λ zs. int_div_euclid x (pos size) ∷ zs) (tile-column kinds xs)
tile-column (kind.Processor size ∷ kinds) (x ∷ xs) = tile-column kinds xs
tile-column (kind.Inner ∷ kinds) (x ∷ xs) = tile-column kinds xs

pub block-column : (kinds : List Kind) (xs : List ℤ) → column Block kinds xs ≡ floors (block_sizes kinds) (part is_processor kinds xs)
block-column [] xs = refl
block-column (k ∷ kinds) [] = no_floors (block_sizes (k ∷ kinds))
block-column (kind.Outer ∷ kinds) (x ∷ xs) = block-column kinds xs
block-column (kind.Band size ∷ kinds) (x ∷ xs) = block-column kinds xs
block-column (kind.Processor size ∷ kinds) (x ∷ xs) = ap (λ zs. int_div_euclid x (pos size) ∷ zs) (block-column kinds xs)
block-column (kind.Inner ∷ kinds) (x ∷ xs) = block-column kinds xs

-- one dimension after another
pub column-more :
    (c : Column) (kinds : List Kind) (times : List ℤ) (place : ℕ) (k : Kind) (x : ℤ) → place < length kinds → place < length times →
    column c (drop place kinds) (drop place times) ≡ option_to_list (entry c (get_or kinds place k) (get_or times place x)) ++ column c (drop (place + 1) kinds) (drop (place + 1) times)
column-more c kinds times place k x inside within =
    (λ i. column c (drop_more kinds place k inside i) (drop_more times place x within i))

column-end : (c : Column) (kinds : List Kind) (times : List ℤ) (place : ℕ) → (length kinds ≤ place) ⊎ (length times ≤ place) → column c (drop place kinds) (drop place times) ≡ []
column-end c kinds times place (inl past) = ap (λ ks. column c ks (drop place times)) (drop_all place kinds past)
column-end c kinds times place (inr past) = ap (λ ts. column c (drop place kinds) ts) (drop_all place times past) ∙ none (drop place kinds)
  where
    none : (ks : List Kind) → column c ks [] ≡ []
    none [] = refl
    none (k ∷ ks) = refl

pub column_step :
    (c : Column) (kinds : List Kind) (times : List ℤ) (place : ℕ) (k : Kind) (x : ℤ) (key new whole : List ℤ) (e : Option ℤ) → place < length kinds → place < length times →
    e ≡ entry c (get_or kinds place k) (get_or times place x) → key ++ column c (drop place kinds) (drop place times) ≡ whole → new ≡ key ++ option_to_list e →
    new ++ column c (drop (place + 1) kinds) (drop (place + 1) times) ≡ whole
column_step c kinds times place k x key new whole e inside within is held pushed =
    (λ i. pushed i ++ column c (drop (place + 1) kinds) (drop (place + 1) times))
    ∙ (append_assoc key (option_to_list e) (column c (drop (place + 1) kinds) (drop (place + 1) times))
    ∙ ((λ i. key ++ (option_to_list (is i) ++ column c (drop (place + 1) kinds) (drop (place + 1) times)))
    ∙ ((λ i. key ++ sym (column-more c kinds times place k x inside within) i) ∙ held)))

pub column_whole :
    (c : Column) (kinds : List Kind) (times : List ℤ) (place : ℕ) (key whole : List ℤ) → min (length kinds) (length times) ≤ place →
    key ++ column c (drop place kinds) (drop place times) ≡ whole → key ≡ whole
column_whole c kinds times place key whole past held =
    sym (append-nil key) ∙ ((λ i. key ++ sym (column-end c kinds times place (either (within_or_past place (length kinds)))) i) ∙ held)
  where
    either : (place < length kinds) ⊎ (length kinds ≤ place) → (length kinds ≤ place) ⊎ (length times ≤ place)
    either (inl less) = inr (omega (arith, past, less))
    either (inr h) = inl h

-- a floor is no greater than what it is of
floor_small : (x : ℤ) (size : ℕ) → IsCoordinate x → IsCoordinate (int_div_euclid x (pos size))
floor_small (pos a) size h = let l = div-le_self a size in omega (arith, h, l)
floor_small (negsuc a) size h = let l = div-le_self a size in omega (arith, h, l)

pub tiles_small : (kinds : List Kind) (xs : List ℤ) → All IsCoordinate xs → All IsCoordinate (column Tile kinds xs)
tiles_small [] xs all = All-nil IsCoordinate
tiles_small (k ∷ kinds) [] all = All-nil IsCoordinate
tiles_small (kind.Outer ∷ kinds) (x ∷ xs) all = tiles_small kinds xs (All-tail IsCoordinate x xs all)
tiles_small (kind.Band size ∷ kinds) (x ∷ xs) all =
    All-cons IsCoordinate (int_div_euclid x (pos size)) (column Tile kinds xs) (floor_small x size (All-head IsCoordinate x xs all)) (tiles_small kinds xs (All-tail IsCoordinate x xs all))
tiles_small (kind.Processor size ∷ kinds) (x ∷ xs) all = tiles_small kinds xs (All-tail IsCoordinate x xs all)
tiles_small (kind.Inner ∷ kinds) (x ∷ xs) all = tiles_small kinds xs (All-tail IsCoordinate x xs all)

-- the sum, one number after another
pub total-more : (xs : List ℤ) (place : ℕ) (d : ℤ) → place < length xs → total (drop place xs) ≡ get_or xs place d +ℤ total (drop (place + 1) xs)
total-more xs place d inside = ap total (drop_more xs place d inside)

pub total-end : (xs : List ℤ) (place : ℕ) → length xs ≤ place → total (drop place xs) ≡ pos 0
total-end xs place past = ap total (drop_all place xs past)

pub assembled :
    (b p i point : List ℤ) (n x : ℤ) → ((((b ++ p) ++ i) ++ n ∷ []) ++ x ∷ []) ++ point ≡ b ++ (p ++ (i ++ (n ∷ (x ∷ point))))
assembled b p i point n x = simp append_assoc

-- the keys, put together
module _ (m : TargetMapping) (times : List ℤ) (kinds : List Kind) (same : kinds ≡ m.kinds) where
  tiles_is : column Tile kinds times ≡ floors (tile_sizes m.kinds) (part is_band m.kinds times)
  tiles_is = tile-column kinds times ∙ (λ i. floors (tile_sizes (same i)) (part is_band (same i) times))

  pub wave_made : (none tiles nothing first key result : List ℤ) (sum : ℤ) → none ≡ [] → tiles ≡ none ++ column Tile kinds times → nothing ≡ [] → first ≡ nothing ++ column Outer kinds times →
      sum ≡ total tiles → key ≡ first ++ sum ∷ [] → result ≡ key → result ≡ wave_at m times
  wave_made none tiles nothing first key result sum a b c d e f g =
      let tiles_are : tiles ≡ floors (tile_sizes m.kinds) (part is_band m.kinds times) = b ∙ ((λ i. a i ++ column Tile kinds times) ∙ tiles_is) in
      let first_is : first ≡ part is_outer m.kinds times = d ∙ ((λ i. c i ++ column Outer kinds times) ∙ (outer-column kinds times ∙ (λ i. part is_outer (same i) times))) in
      let sum_is : sum ≡ total (floors (tile_sizes m.kinds) (part is_band m.kinds times)) = e ∙ ap total tiles_are in
      g ∙ (f ∙ (λ i. first_is i ++ sum_is i ∷ []))

  pub tile_made : (none tiles key result : List ℤ) → none ≡ [] → tiles ≡ none ++ column Tile kinds times → key ≡ tiles ++ column Block kinds times → result ≡ key → result ≡ tile_at m times
  tile_made none tiles key result a b c d =
      let tiles_are : tiles ≡ floors (tile_sizes m.kinds) (part is_band m.kinds times) = b ∙ ((λ i. a i ++ column Tile kinds times) ∙ tiles_is) in
      let blocks_are : column Block kinds times ≡ floors (block_sizes m.kinds) (part is_processor m.kinds times)
      = block-column kinds times ∙ (λ i. floors (block_sizes (same i)) (part is_processor (same i) times)) in
      d ∙ (c ∙ (λ i. tiles_are i ++ blocks_are i))

  pub work_made : (x : ℕ) (none band processor inner numbered named key point result : List ℤ) (n v : ℤ) → none ≡ [] → band ≡ none ++ column Band kinds times →
      processor ≡ band ++ column Processor kinds times → inner ≡ processor ++ column Inner kinds times → n ≡ pos (order_number m.statements x) → numbered ≡ inner ++ n ∷ [] →
      v ≡ pos x → named ≡ numbered ++ v ∷ [] → key ≡ named ++ point → result ≡ key → result ≡ work_at m times x point
  work_made x none band processor inner numbered named key point result n v a b c d e f g h i j =
      let band_is : band ≡ part is_band m.kinds times = b ∙ ((λ k. a k ++ column Band kinds times) ∙ (band-column kinds times ∙ (λ k. part is_band (same k) times))) in
      let processor_is : column Processor kinds times ≡ part is_processor m.kinds times = processor-column kinds times ∙ (λ k. part is_processor (same k) times) in
      let inner_is : column Inner kinds times ≡ part is_inner m.kinds times = inner-column kinds times ∙ (λ k. part is_inner (same k) times) in
      let all : key ≡ ((((band ++ column Processor kinds times) ++ column Inner kinds times) ++ n ∷ []) ++ v ∷ []) ++ point
      = i ∙ (λ k. (h ∙ (λ l. (f ∙ (λ o. (d ∙ (λ q. c q ++ column Inner kinds times)) o ++ n ∷ [])) l ++ v ∷ [])) k ++ point) in
      j ∙ (all ∙ ((λ k. ((((band_is k ++ processor_is k) ++ inner_is k) ++ e k ∷ []) ++ g k ∷ []) ++ point)
      ∙ assembled (part is_band m.kinds times) (part is_processor m.kinds times) (part is_inner m.kinds times) point (pos (order_number m.statements x)) (pos x)))
