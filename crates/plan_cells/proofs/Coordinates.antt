-- The coordinates of cells, one by one.
use Rattle.std.proofs.Common.{◌≡◌, ℕ, zero, suc, ◌+◌, ◌*◌, ◌<◌, ◌≤◌, List, [], ◌∷◌, ◌++◌, length, drop, drop-cons, get_or, not, Some, true, false, refl, sym, ap, subst, ◌∙◌, arith, inl, inr, length-drop}
use Rattle.std.specs.Prelude.{ℤ, pos, ◌-ℤ◌, unsigned_abs, All, slice_get}
use Rattle.std.specs.FinMap.{get}
use Rattle.std.specs.Int.{int_rem_euclid}
use Rattle.std.specs.Option.{option_map_or}
use Rattle.std.proofs.lemmas.List.{length-map, get_or-map}
use Rattle.az_lin.specs.Affine.{Affine, AffineMap, IsCoordinate, value_at, image_of}
use Rattle.az_ast.specs.Shapes.{is_input}
use Rattle.az_ast.specs.System.{System}
use Rattle.az_ast.specs.declared.program.Variable.{Variable}
use Rattle.execution.specs.declared.instance.Instance.{Instance}
use Rattle.plan_cells.specs.Answers.{IsKeepable}
use Rattle.plan_cells.specs.Numbering.{volume, place, LieOn, LiesOn}
use Rattle.plan_cells.specs.Inner.Passing.{IsStored, HasCoordinate, IsFault}
use Rattle.plan_cells.specs.declared.side.Side.{Side}
use Rattle.plan_cells.proofs.Boxes.{place-below, step-below, row-more}
use Rattle.plan_cells.proofs.Spaces.{together, same-factors}
use Rattle.plan_words.specs.Cells.{reduced, all_reduced}
use Rattle.target_map.specs.Settings.{TargetMapping, IsMapping, IsComplete}
use Rattle.target_map.specs.Storage.{shares_space}
use Rattle.target_map.specs.Times.{storage_of, cell_at}
use Rattle.target_map.specs.declared.storage.Storage.{Storage}
use Rattle.loop_scan.specs.declared.fault.ScanFault.{ScanFault}

pub remainder-is : (factor : ℕ) (x : ℤ) → 0 < factor → int_rem_euclid x (pos factor) ≡ reduced factor x
remainder-is zero x h = absurd (omega (arith, h))
remainder-is (suc n) x h = refl

-- a coordinate that is reduced by its factor
pub reduced-at : (factors : List ℕ) (xs : List ℤ) (j : ℕ) (d : ℕ) → length factors ≡ length xs → j < length factors → get_or (all_reduced factors xs) j (pos 0) ≡ reduced (get_or factors j d) (get_or xs j (pos 0))
reduced-at [] xs j d long within = absurd (omega (arith, within))
reduced-at (factor ∷ factors) [] j d long within = absurd (omega (arith, long))
reduced-at (factor ∷ factors) (x ∷ xs) zero d long within = refl
reduced-at (factor ∷ factors) (x ∷ xs) (suc j) d long within = reduced-at factors xs j d (omega (arith, long)) (omega (arith, within))

pub reduced-long : (factors : List ℕ) (xs : List ℤ) → length factors ≡ length xs → length (all_reduced factors xs) ≡ length factors
reduced-long [] xs long = refl
reduced-long (factor ∷ factors) [] long = absurd (omega (arith, long))
reduced-long (factor ∷ factors) (x ∷ xs) long = ap suc (reduced-long factors xs (omega (arith, long)))

pub image-at : (f : AffineMap) (z : List ℤ) (j : ℕ) (d : Affine) → j < length f.rows → get_or (image_of f z) j (pos 0) ≡ value_at (get_or f.rows j d) z
image-at f z j d within = get_or-map (λ row. value_at row z) f.rows j d (pos 0) within

-- sides and coordinates from one on
lie-long : (sides : List Side) (xs : List ℤ) → LieOn sides xs → length sides ≡ length xs
lie-long [] [] h = refl
lie-long [] (x ∷ xs) h = absurd h
lie-long (side ∷ sides) [] h = absurd h
lie-long (side ∷ sides) (x ∷ xs) h = ap suc (lie-long sides xs h.1)

module _ (sides : List Side) (xs : List ℤ) (j : ℕ) (d : Side) (within : j < length sides) (lie : LieOn (drop j sides) (drop j xs)) where
  further : suc j ≡ j + 1
  further = omega arith

  abbrev side : Side
  side = get_or sides j d

  abbrev x : ℤ
  x = get_or xs j (pos 0)

  pub inside : j < length xs
  inside = let long = lie-long (drop j sides) (drop j xs) lie in omega (arith, within, long, length-drop j sides, length-drop j xs)

  cut : LieOn (side ∷ drop (suc j) sides) (x ∷ drop (suc j) xs)
  cut = subst (λ ys. LieOn (side ∷ drop (suc j) sides) ys) (drop-cons xs j (pos 0) inside) (subst (λ ss. LieOn ss (drop j xs)) (drop-cons sides j d within) lie)

  pub lie-rest : LieOn (drop (j + 1) sides) (drop (j + 1) xs)
  lie-rest = subst (λ n. LieOn (drop n sides) (drop n xs)) further cut.1

  pub lies-here : LiesOn side x
  lies-here = cut.0

  pub volume-cut : volume (drop j sides) ≡ side.size * volume (drop (j + 1) sides)
  volume-cut = ap volume (drop-cons sides j d within) ∙ ap (λ n. side.size * volume (drop n sides)) further

  pub place-cut : place (drop j sides) (drop j xs) ≡ unsigned_abs (x -ℤ side.low) * volume (drop (j + 1) sides) + place (drop (j + 1) sides) (drop (j + 1) xs)
  place-cut =
      (λ i. place (drop-cons sides j d within i) (drop-cons xs j (pos 0) inside i))
      ∙ ap (λ n. unsigned_abs (x -ℤ side.low) * volume (drop n sides) + place (drop n sides) (drop n xs)) further

  pub place-here : place (drop j sides) (drop j xs) < volume (drop j sides)
  place-here = place-below (drop j sides) (drop j xs) lie

  -- what follows is no larger
  pub volume-less : volume (drop (j + 1) sides) ≤ volume (drop j sides)
  volume-less =
      let step = step-below side x cut.0 in
      let more = row-more 0 side.size (volume (drop (j + 1) sides)) (omega (arith, step)) in
      omega (arith, more, volume-cut)

-- ---- instances

pub declared-in : (variables : List Variable) (x : ℕ) → option_map_or (λ (v : Variable). not (is_input v.role)) (slice_get variables x) false ≡ true → x < length variables
declared-in [] x h = absurd (let wrong : false ≡ true = h in cc)
declared-in (v ∷ variables) zero h = omega arith
declared-in (v ∷ variables) (suc x) h = let rest = declared-in variables x h in omega (arith, rest)

-- a coordinate of a cell is the value of a row of the map
pub coordinate-value : (m : TargetMapping) (x : ℕ) (z : List ℤ) (number : ℕ) (storage : Storage) → get m.storages x ≡ Some storage → (row : Affine) → number < length storage.map.rows → row ≡ get_or storage.map.rows number row →
    (value : ℤ) → value ≡ value_at row z → value ≡ get_or (cell_at m x z) number (pos 0)
coordinate-value m x z number storage found row within is value same =
    same ∙ (ap (λ r. value_at r z) is ∙ (sym (image-at storage.map z number row within)
    ∙ sym (ap (λ o. get_or (image_of (option_map_or (λ (q : Storage). q) o (record { space = []; map = record { width = 0; rows = [] }; factors = [] })).map z) number (pos 0)) found)))

-- a coordinate past the limit
pub far-value : (m : TargetMapping) (x : ℕ) (z : List ℤ) (number : ℕ) (storage : Storage) → get m.storages x ≡ Some storage → number < length storage.map.rows → (value : ℤ) → value ≡ get_or (cell_at m x z) number (pos 0) →
    (IsCoordinate value → ⊥) → All IsCoordinate (cell_at m x z) → ⊥
far-value m x z number storage found within value is out all =
    let map_is = ap (λ o. (option_map_or (λ (q : Storage). q) o (record { space = []; map = record { width = 0; rows = [] }; factors = [] })).map) found in
    let long = length-map (storage_of m x).map.rows (λ row. value_at row z) in
    out (subst IsCoordinate (sym is) (all number (pos 0) (omega (arith, within, long, ap (λ (f : AffineMap). length f.rows) map_is))))

pub one-storage : (m : TargetMapping) (x width number : ℕ) (has : HasCoordinate m x width number) (storage : Storage) → get m.storages x ≡ Some storage → number < length storage.map.rows
one-storage m x width number has storage found =
    let same : has.stored.storage ≡ storage = ap (λ o. option_map_or (λ (q : Storage). q) o storage) (sym has.stored.found ∙ found) in
    subst (λ (q : Storage). number < length q.map.rows) same has.within

pub coordinate-is : (storage : Storage) (z : List ℤ) (number d : ℕ) (value : ℤ) → length storage.factors ≡ length storage.map.rows → number < length storage.factors → value ≡ get_or (image_of storage.map z) number (pos 0) →
    reduced (get_or storage.factors number d) value ≡ get_or (all_reduced storage.factors (image_of storage.map z)) number (pos 0)
coordinate-is storage z number d value rows within is =
    ap (reduced (get_or storage.factors number d)) is
    ∙ sym (reduced-at storage.factors (image_of storage.map z) number d (rows ∙ sym (length-map storage.map.rows (λ row. value_at row z))) within)

module _ (p : System) (m : TargetMapping) (keeps : IsMapping m) (complete : IsComplete p m) (params : List ℤ) where
  pub stored : (u : Instance) → IsKeepable p params u → IsStored m u.variable (length (params ++ u.point))
  stored u keep =
      let found = complete.storages u.variable keep.written in
      let fits = complete.fits.storages u.variable found.0 found.1 in
      record { storage = found.0; found = found.1; columns = fits.columns ∙ sym keep.width; factors = keeps.factors u.variable found.0 found.1 }

  -- the coordinate of an instance in the space of `x`
  pub has-coordinate : (u : Instance) → IsKeepable p params u → (x number : ℕ) → shares_space m x u.variable ≡ true → number < length (storage_of m x).factors → HasCoordinate m u.variable (length (params ++ u.point)) number
  has-coordinate u keep x number space within =
      let s = stored u keep in
      let t = together m x u.variable space in
      let same = ap length (same-factors m x u.variable t keeps) in
      let is : storage_of m u.variable ≡ s.storage = ap (λ o. option_map_or (λ (q : Storage). q) o (record { space = []; map = record { width = 0; rows = [] }; factors = [] })) s.found in
      record { stored = s; within = omega (arith, within, same, ap (λ (q : Storage). length q.factors) is, s.factors) }

pub fault-more : (A B : Type 0) → (A → B) → (fault : ScanFault) → IsFault A fault → IsFault B fault
fault-more A B f fault (inl memory) = inl memory
fault-more A B f fault (inr far) = inr (far.0, f far.1)
