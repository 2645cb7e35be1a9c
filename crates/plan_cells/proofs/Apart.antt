-- Two instances have one number exactly where they are kept in one cell.
use Rattle.std.proofs.Common.{◌≡◌, ◌⊎◌, inl, inr, ⊎_elim, ℕ, zero, suc, ◌+◌, ◌<◌, ◌%◌, List, [], ◌∷◌, ◌++◌, length, get_or, map, filter, cond, Bool, true, false, Some, refl, sym, ap, subst, ◌∙◌, arith, mod-lt}
use Rattle.std.specs.Prelude.{ℤ, pos, negsuc, All, Contains, MatchOption}
use Rattle.std.specs.FinMap.{get}
use Rattle.std.specs.Int.{int_rem_euclid}
use Rattle.std.specs.Option.{option_map_or}
use Rattle.std.proofs.lemmas.Int.{ints}
use Rattle.std.proofs.lemmas.List.{length-map}
use Rattle.std.proofs.lemmas.List.Elements.{All-contains}
use Rattle.az_lin.specs.Affine.{value_at}
use Rattle.az_ast.specs.System.{System}
use Rattle.execution.proofs.Lists.{within_or_past}
use Rattle.execution.specs.declared.instance.Instance.{Instance}
use Rattle.loop_scan.proofs.Lists.{first_or_rest, Contains-first, Contains-rest, none_contained}
use Rattle.plan_cells.specs.Answers.{IsKeepable, AreNumbers}
use Rattle.plan_cells.specs.Laws.{cell_of, AreKeptApart}
use Rattle.plan_cells.specs.Numbering.{coordinate, range_at, sides_over, kept_with, sides_of, taken, first_of, volume, place, side_over, Numbers, HasCell, LieOn, LiesOn}
use Rattle.plan_cells.specs.declared.numbers.Home.{Home}
use Rattle.plan_cells.proofs.Boxes.{place-below, place-same}
use Rattle.plan_cells.proofs.Coordinates.{declared-in}
use Rattle.plan_cells.proofs.Ranges.{range-reaches, lies-on}
use Rattle.plan_cells.proofs.Spaces.{AreTogether, together, own-space, same-row, same-first, same-sides, shares-back, with-first, first-opens, first-below, taken-opened, taken-rises}
use Rattle.plan_words.specs.Cells.{reduced, all_reduced, coordinates_of, AreOneCell}
use Rattle.target_map.specs.Settings.{TargetMapping, IsMapping, IsComplete}
use Rattle.target_map.specs.Storage.{shares_space}
use Rattle.target_map.specs.Times.{storage_of, cell_at}
use Rattle.target_map.specs.declared.storage.Storage.{Storage}

-- a remainder is within its factor
remainder-lies : (n : ℕ) (x : ℤ) → LiesOn (record { low = pos 0; size = suc n }) (int_rem_euclid x (pos (suc n)))
remainder-lies n (pos a) = let small : a % suc n < suc n = mod-lt a (omega arith) in (omega (arith, ints), omega (arith, ints, small))
remainder-lies n (negsuc a) = (omega (arith, ints), omega (arith, ints))

passed-in : {X : Type 0} (test : X → Bool) (xs : List X) (x : X) → Contains xs x → test x ≡ true → Contains (filter test xs) x
passed-in test [] x c passes = absurd (none_contained x c)
passed-in {X} test (y ∷ ys) x c passes = by (test y) refl (first_or_rest y ys x c) (λ later. passed-in test ys x later passes)
  where
    by : (b : Bool) → test y ≡ b → (x ≡ y) ⊎ Contains ys x → (Contains ys x → Contains (filter test ys) x) → Contains (cond b (y ∷ filter test ys) (filter test ys)) x
    by true told (inl same) rest = subst (λ q. Contains (y ∷ filter test ys) q) (sym same) (Contains-first y (filter test ys))
    by true told (inr later) rest = Contains-rest y (filter test ys) x (rest later)
    by false told (inl same) rest = absurd (let wrong : true ≡ false = sym passes ∙ (ap test same ∙ told) in cc)
    by false told (inr later) rest = rest later

mapped-in : {X Y : Type 0} (f : X → Y) (xs : List X) (x : X) → Contains xs x → Contains (map f xs) (f x)
mapped-in f [] x c = absurd (none_contained x c)
mapped-in f (y ∷ ys) x c = ⊎_elim
    (λ same. subst (λ q. Contains (f y ∷ map f ys) q) (sym (ap f same)) (Contains-first (f y) (map f ys)))
    (λ later. Contains-rest (f y) (map f ys) (f x) (mapped-in f ys x later)) (first_or_rest y ys x c)

module _ (m : TargetMapping) (keeps : IsMapping m) (params : List ℤ) where
  -- the coordinates of an instance lie on the sides over its space
  lie-from : (kept : List Instance) (u : Instance) → Contains kept u → (j : ℕ) (factors : List ℕ) (xs : List ℤ) → length xs ≡ length factors →
      ((i : ℕ) → i < length xs → get_or xs i (pos 0) ≡ coordinate m params (j + i) u) → LieOn (sides_over m params kept j factors) (all_reduced factors xs)
  lie-from kept u c j [] [] long each = tt
  lie-from kept u c j [] (x ∷ xs) long each = absurd (omega (arith, long))
  lie-from kept u c j (factor ∷ factors) [] long each = absurd (omega (arith, long))
  lie-from kept u c j (factor ∷ factors) (x ∷ xs) long each =
      (by factor, lie-from kept u c (suc j) factors xs (omega (arith, long)) (λ i h. let at : j + suc i ≡ suc j + i = omega arith in each (suc i) (omega (arith, h)) ∙ ap (λ n. coordinate m params n u) at))
    where
      here : x ≡ coordinate m params j u
      here = let at : j + 0 ≡ j = omega arith in each 0 (omega arith) ∙ ap (λ n. coordinate m params n u) at

      by : (f : ℕ) → LiesOn (side_over (range_at m params kept j) f) (reduced f x)
      by zero = lies-on (range_at m params kept j) x (range-reaches (map (coordinate m params j) kept) x (subst (λ q. Contains (map (coordinate m params j) kept) q) (sym here) (mapped-in (coordinate m params j) kept u c)))
      by (suc n) = remainder-lies n x

  module _ (p : System) (complete : IsComplete p m) (us : List Instance) (keepable : All (IsKeepable p params) us) where
    pub record IsHoused (u : Instance) : Type 0 where
      pub storage : Storage
      pub found : get m.storages u.variable ≡ Some storage
      pub declared : u.variable < length p.variables
      pub lies : LieOn (sides_of m params us u.variable) (coordinates_of m params u)

    pub housed : (u : Instance) → Contains us u → IsHoused u
    housed u c =
        let keep = All-contains (IsKeepable p params) us u keepable c in
        let stored = complete.storages u.variable keep.written in
        let storage = stored.0 in
        let is : storage_of m u.variable ≡ storage = ap (λ o. option_map_or (λ (s : Storage). s) o (record { space = []; map = record { width = 0; rows = [] }; factors = [] })) stored.1 in
        let rows : length (cell_at m u.variable (params ++ u.point)) ≡ length (storage_of m u.variable).factors
        = length-map (storage_of m u.variable).map.rows (λ row. value_at row (params ++ u.point)) ∙ (ap (λ (s : Storage). length s.map.rows) is ∙ (sym (keeps.factors u.variable storage stored.1) ∙ sym (ap (λ (s : Storage). length s.factors) is))) in
        record {
          storage = storage;
          found = stored.1;
          declared = declared-in p.variables u.variable keep.written;
          lies = lie-from (kept_with m params us u.variable) u (passed-in (λ (w : Instance). shares_space m u.variable w.variable) us u c (own-space m u.variable storage stored.1)) 0 (storage_of m u.variable).factors
              (cell_at m u.variable (params ++ u.point)) rows (λ i h. let at : i ≡ 0 + i = omega arith in ap (λ n. coordinate m params n u) at);
        }

    module _ (numbers : Numbers) (are : AreNumbers p m params us numbers) where
      number-is : (u : Instance) (h : IsHoused u) → cell_of m params numbers u ≡ taken m params us (first_of m u.variable) + place (sides_of m params us u.variable) (coordinates_of m params u)
      number-is u h = ap (λ o. option_map_or (λ (home : Home). home.base + place home.sides (coordinates_of m params u)) o 0) (are.homes u.variable h.declared)

      has-cell : (u : Instance) → IsHoused u → HasCell numbers u.variable (coordinates_of m params u)
      has-cell u h = subst (λ o. MatchOption o ⊥ (λ (home : Home). LieOn home.sides (coordinates_of m params u))) (sym (are.homes u.variable h.declared)) h.lies

      -- below the base of the next space
      before-next : (u : Instance) (h : IsHoused u) → cell_of m params numbers u < taken m params us (suc (first_of m u.variable))
      before-next u h =
          let small = place-below (sides_of m params us u.variable) (coordinates_of m params u) h.lies in
          let same = ap volume (same-sides m u.variable (first_of m u.variable) (with-first m u.variable h.storage h.found) keeps params us) in
          let opened = taken-opened m params us (first_of m u.variable) (first-opens m u.variable h.storage h.found) in
          omega (arith, small, same, opened, number-is u h)

      below : (u : Instance) (h : IsHoused u) → cell_of m params numbers u < numbers.count
      below u h =
          let next = before-next u h in
          let first = first-below m u.variable h.storage h.found in
          let later = taken-rises m params us (suc (first_of m u.variable)) (length p.variables) (omega (arith, first, h.declared)) in
          omega (arith, next, later, are.count)

      earlier : (u v : Instance) (h : IsHoused u) (g : IsHoused v) → first_of m u.variable < first_of m v.variable → cell_of m params numbers u < cell_of m params numbers v
      earlier u v h g less =
          let next = before-next u h in
          let later = taken-rises m params us (suc (first_of m u.variable)) (first_of m v.variable) less in
          omega (arith, next, later, number-is v g)

      one-space : (u v : Instance) (h : IsHoused u) (g : IsHoused v) → first_of m u.variable ≡ first_of m v.variable → AreTogether m u.variable v.variable
      one-space u v h g same =
          let a = with-first m u.variable h.storage h.found in
          let b = with-first m v.variable g.storage g.found in
          let back : shares_space m (first_of m v.variable) v.variable ≡ true = shares-back m v.variable (first_of m v.variable) b in
          together m u.variable v.variable (same-row m u.variable (first_of m u.variable) a v.variable ∙ subst (λ n. shares_space m n v.variable ≡ true) (sym same) back)

      same-cell : (u v : Instance) (h : IsHoused u) (g : IsHoused v) → cell_of m params numbers u ≡ cell_of m params numbers v → AreOneCell m params u v
      same-cell u v h g e = ⊎_elim
          (λ less. absurd (let apart = earlier u v h g less in omega (arith, apart, e)))
          (λ past. ⊎_elim
          (λ less. absurd (let apart = earlier v u g h less in omega (arith, apart, e)))
          (λ other. by (omega (arith, past, other)))
          (within_or_past (first_of m v.variable) (first_of m u.variable)))
          (within_or_past (first_of m u.variable) (first_of m v.variable))
        where
          by : first_of m u.variable ≡ first_of m v.variable → AreOneCell m params u v
          by same =
              let t = one-space u v h g same in
              let sides = same-sides m u.variable v.variable t keeps params us in
              let lies : LieOn (sides_of m params us u.variable) (coordinates_of m params v) = subst (λ s. LieOn s (coordinates_of m params v)) (sym sides) g.lies in
              let places : place (sides_of m params us u.variable) (coordinates_of m params v) ≡ place (sides_of m params us v.variable) (coordinates_of m params v) = ap (λ s. place s (coordinates_of m params v)) sides in
              record {
                space = same-row m u.variable v.variable t v.variable ∙ own-space m v.variable g.storage g.found;
                coordinates = place-same (sides_of m params us u.variable) (coordinates_of m params u) (coordinates_of m params v) h.lies lies
                    (omega (arith, e, number-is u h, number-is v g, places, ap (taken m params us) same));
              }

      cell-same : (u v : Instance) (h : IsHoused u) (g : IsHoused v) → AreOneCell m params u v → cell_of m params numbers u ≡ cell_of m params numbers v
      cell-same u v h g one =
          let t = together m u.variable v.variable one.space in
          number-is u h
          ∙ ((λ i. taken m params us (same-first m u.variable v.variable t i) + place (same-sides m u.variable v.variable t keeps params us i) (one.coordinates i)) ∙ sym (number-is v g))

      pub kept-apart : AreKeptApart m params us numbers
      kept-apart = record {
        within = λ u c. has-cell u (housed u c);
        below = λ u c. below u (housed u c);
        apart = λ u v c d. (same-cell u v (housed u c) (housed v d), cell-same u v (housed u c) (housed v d));
      }
