-- The loops of numbering: each turn adds one variable, one side or one instance.
use Rattle.std.proofs.Common.{◌≡◌, ⊎_elim, ℕ, suc, ◌+◌, ◌-◌, ◌<◌, ◌≤◌, List, [], ◌∷◌, ◌++◌, length, take, drop, drop-cons, drop_of_length-le, get_or, map, filter, cond, Bool, true, false, Option, Some, None, refl, sym, ap, subst, ◌∙◌, arith, append_assoc, append-nil, All, nat_lt}
use Rattle.std.proofs.lemmas.Bool.{ltb-true}
use Rattle.std.specs.Prelude.{ℤ, slice_get}
use Rattle.std.specs.FinMap.{get}
use Rattle.std.specs.List.{range_with_len}
use Rattle.std.specs.Option.{option_map_or}
use Rattle.std.proofs.lemmas.List.{map_push, take_more}
use Rattle.std.proofs.lemmas.List.Elements.{filter-append}
use Rattle.std.proofs.lemmas.List.FromFn.{map-range_with_len_more, get_or-map-range_with_len, length-map-range_with_len}
use Rattle.std.proofs.lemmas.List.Sums.{fold_push}
use Rattle.std.proofs.lemmas.Option.{slice_get_read}
use Rattle.az_ast.specs.System.{System}
use Rattle.execution.proofs.Lists.{within_or_past}
use Rattle.plan_cells.specs.Answers.{AreNumbers}
use Rattle.execution.specs.declared.instance.Instance.{Instance}
use Rattle.plan_cells.specs.Numbering.{first_from, first_of, opens, coordinate, stretched, range_over, range_at, kept_with, side_over, sides_over, sides_of, taken, home_of, volume, most_cells}
use Rattle.plan_cells.specs.Inner.Passing.{AreTaken, IsHomeBelow, capped}
use Rattle.plan_cells.specs.declared.numbers.Home.{Home}
use Rattle.plan_cells.specs.declared.range.Range.{Range}
use Rattle.plan_cells.specs.declared.side.Side.{Side}
use Rattle.plan_cells.proofs.Spaces.{is-first, together, same-first, with-first, first-opens, first-below, same-sides, taken-opened, taken-rises}
use Rattle.target_map.specs.Settings.{TargetMapping, IsMapping}
use Rattle.target_map.specs.Storage.{shares_space}
use Rattle.target_map.specs.Times.{storage_of}
use Rattle.target_map.specs.declared.storage.Storage.{Storage}

module _ (test : ℕ → Bool) (y n r : ℕ) (within : y < n) (found : first_from test y (n - y) ≡ r) where
  left : n - y ≡ suc (n - (y + 1))
  left = omega (arith, within)

  cut : cond (test y) y (first_from test (suc y) (n - (y + 1))) ≡ r
  cut = ap (first_from test y) (sym left) ∙ found

  pub first-step : test y ≡ false → first_from test (y + 1) (n - (y + 1)) ≡ r
  first-step out =
      let further : y + 1 ≡ suc y = omega arith in
      ap (λ k. first_from test k (n - (y + 1))) further ∙ (ap (λ b. cond b y (first_from test (suc y) (n - (y + 1)))) (sym out) ∙ cut)

  pub first-here : test y ≡ true → y ≡ r
  first-here held = ap (λ b. cond b y (first_from test (suc y) (n - (y + 1)))) (sym held) ∙ cut

pub first-end : (test : ℕ → Bool) (y n r : ℕ) → y ≡ n → first_from test y (n - y) ≡ r → n ≡ r
first-end test y n r last found = let none : 0 ≡ n - y = omega (arith, last) in sym last ∙ (ap (first_from test y) none ∙ found)

module _ (m : TargetMapping) (params : List ℤ) where
  -- one side more
  pub sides-step : (kept : List Instance) (number : ℕ) (factors : List ℕ) (d : ℕ) (items more whole : List Side) (side : Side) → number < length factors → side ≡ side_over (range_at m params kept number) (get_or factors number d) →
      more ≡ items ++ side ∷ [] → items ++ sides_over m params kept number (drop number factors) ≡ whole → more ++ sides_over m params kept (number + 1) (drop (number + 1) factors) ≡ whole
  sides-step kept number factors d items more whole side within is pushed so_far =
      let further : number + 1 ≡ suc number = omega arith in
      let rest = sides_over m params kept (suc number) (drop (suc number) factors) in
      (λ i. pushed i ++ sides_over m params kept (further i) (drop (further i) factors))
      ∙ (append_assoc items (side ∷ []) rest
      ∙ (ap (λ (s : Side). items ++ s ∷ rest) is ∙ (ap (λ fs. items ++ sides_over m params kept number fs) (sym (drop-cons factors number d within)) ∙ so_far)))

  pub sides-end : (kept : List Instance) (number : ℕ) (factors : List ℕ) (items whole : List Side) → length factors ≤ number → items ++ sides_over m params kept number (drop number factors) ≡ whole → items ≡ whole
  sides-end kept number factors items whole past so_far =
      sym (append-nil items) ∙ (ap (λ fs. items ++ sides_over m params kept number fs) (sym (drop_of_length-le factors past)) ∙ so_far)

  -- one instance more
  module _ (us : List Instance) (x number i : ℕ) (u : Instance) (within : i < length us) (found : u ≡ get_or us i u) (range : Option Range)
      (so_far : range ≡ range_over (map (coordinate m params number) (filter (λ (w : Instance). shares_space m x w.variable) (take i us)))) where
    abbrev test : Instance → Bool
    test w = shares_space m x w.variable

    next : take (i + 1) us ≡ take i us ++ u ∷ []
    next = take_more us i u within ∙ ap (λ q. take i us ++ q ∷ []) (sym found)

    filtered : filter test (take (i + 1) us) ≡ filter test (take i us) ++ cond (test u) (u ∷ []) []
    filtered = ap (filter test) next ∙ filter-append test (take i us) (u ∷ [])

    pub range-kept : test u ≡ true → stretched range (coordinate m params number u) ≡ range_over (map (coordinate m params number) (filter test (take (i + 1) us)))
    range-kept held =
        let all : filter test (take (i + 1) us) ≡ filter test (take i us) ++ u ∷ [] = filtered ∙ ap (λ b. filter test (take i us) ++ cond b (u ∷ []) []) held in
        ap (λ o. stretched o (coordinate m params number u)) so_far
        ∙ (sym (fold_push stretched None (map (coordinate m params number) (filter test (take i us))) (coordinate m params number u))
        ∙ (ap range_over (sym (map_push (coordinate m params number) (filter test (take i us)) u)) ∙ ap (λ ws. range_over (map (coordinate m params number) ws)) (sym all)))

    pub range-left : test u ≡ false → range ≡ range_over (map (coordinate m params number) (filter test (take (i + 1) us)))
    range-left out =
        let all : filter test (take (i + 1) us) ≡ filter test (take i us) = filtered ∙ (ap (λ b. filter test (take i us) ++ cond b (u ∷ []) []) out ∙ append-nil (filter test (take i us))) in
        so_far ∙ ap (λ ws. range_over (map (coordinate m params number) ws)) (sym all)

  -- one variable more
  module _ (us : List Instance) where
    pub taken-start : (homes : List Home) → homes ≡ [] → AreTaken m params us 0 homes 0
    taken-start homes none = record { are = none; total = refl; few = omega arith }

    module _ (x : ℕ) (homes more : List Home) (count next : ℕ) (so_far : AreTaken m params us x homes count) (home : Home) (base : home.base ≡ taken m params us (first_of m x)) (sides : home.sides ≡ sides_of m params us x)
        (pushed : more ≡ homes ++ home ∷ []) where
      same : home ≡ home_of m params us x
      same = λ i. record { base = base i; sides = sides i }

      further : x + 1 ≡ suc x
      further = omega arith

      are : more ≡ map (home_of m params us) (range_with_len 0 (x + 1))
      are = pushed ∙ ((λ i. so_far.are i ++ same i ∷ []) ∙ sym (map-range_with_len_more (home_of m params us) 0 x x (omega arith)))

      pub taken-opening : opens m x ≡ true → next ≡ count + volume (sides_of m params us x) → next ≤ most_cells → AreTaken m params us (x + 1) more next
      taken-opening held grown few = record {
        are = are;
        total = let more_cells = taken-opened m params us x held in let at = ap (taken m params us) further in omega (arith, grown, so_far.total, more_cells, at);
        few = few;
      }

      pub taken-other : opens m x ≡ false → next ≡ count → AreTaken m params us (x + 1) more next
      taken-other out kept = record {
        are = are;
        total =
            let at : taken m params us (x + 1) ≡ taken m params us x + cond (opens m x) (volume (sides_of m params us x)) 0 = ap (taken m params us) further in
            let none : taken m params us x + cond (opens m x) (volume (sides_of m params us x)) 0 ≡ taken m params us x + 0 = ap (λ b. taken m params us x + cond b (volume (sides_of m params us x)) 0) out in
            omega (arith, kept, so_far.total, at, none);
        few = omega (arith, kept, so_far.few);
      }

    -- the base of a space that has been opened
    pub first-within : (x : ℕ) → (first_of m x ≡ x → ⊥) → first_of m x < x
    first-within x other = ⊎_elim (λ less. less) (λ past. absurd (let low = (is-first (shares_space m x) 0 x).high in other (omega (arith, low, past)))) (within_or_past (first_of m x) x)

    pub home-within : (x : ℕ) (homes : List Home) (count first : ℕ) → AreTaken m params us x homes count → first ≡ first_of m x → (first ≡ x → ⊥) → first < length homes
    home-within x homes count first t is other =
        let less = first-within x (λ same. other (is ∙ same)) in
        omega (arith, less, is, ap length t.are, length-map-range_with_len (home_of m params us) 0 x)

    pub base-is : (x : ℕ) (homes : List Home) (count first : ℕ) → AreTaken m params us x homes count → first ≡ first_of m x → (first ≡ x → ⊥) → (d : Home) → (get_or homes first d).base ≡ taken m params us (first_of m x)
    base-is x homes count first t is other d =
        let less = first-within x (λ same. other (is ∙ same)) in
        let told : shares_space m x (first_of m x) ≡ true = ⊎_elim (λ last. absurd (omega (arith, last, less))) (λ passes. passes) (is-first (shares_space m x) 0 x).passes in
        let same = same-first m x (first_of m x) (together m x (first_of m x) told) in
        ap (λ n. (get_or homes n d).base) is
        ∙ (ap (λ (hs : List Home). (get_or hs (first_of m x) d).base) t.are
        ∙ (ap (λ (h : Home). h.base) (get_or-map-range_with_len (home_of m params us) 0 x (first_of m x) (first_of m x) d less (omega arith)) ∙ ap (taken m params us) (sym same)))

    -- more cells than there may be
    pub too-many : (x n count : ℕ) → count ≡ taken m params us x → opens m x ≡ true → x < n → most_cells < count + volume (sides_of m params us x) → most_cells < taken m params us n
    too-many x n count total held within past =
        let more_cells = taken-opened m params us x held in
        let later = taken-rises m params us (suc x) n within in
        omega (arith, past, total, more_cells, later)

    -- each home ends below the bound
    home-below : IsMapping m → (n : ℕ) → taken m params us n ≤ most_cells → (x : ℕ) → x < n → IsHomeBelow (home_of m params us x)
    home-below keeps n few x within = by (get m.storages x) refl
      where
        by : (o : Option Storage) → get m.storages x ≡ o → IsHomeBelow (home_of m params us x)
        by None e =
            let factors : (storage_of m x).factors ≡ [] = ap (λ o. (option_map_or (λ (s : Storage). s) o (record { space = []; map = record { width = 0; rows = [] }; factors = [] })).factors) e in
            let one : volume (sides_of m params us x) ≡ 1 = ap (λ fs. volume (sides_over m params (kept_with m params us x) 0 fs)) factors in
            let low = (is-first (shares_space m x) 0 x).high in
            let later = taken-rises m params us (first_of m x) n (omega (arith, low, within)) in
            omega (arith, one, later, few)
        by (Some storage) e =
            let box = ap volume (same-sides m x (first_of m x) (with-first m x storage e) keeps params us) in
            let opened = taken-opened m params us (first_of m x) (first-opens m x storage e) in
            let low = first-below m x storage e in
            let later = taken-rises m params us (suc (first_of m x)) n (omega (arith, low, within)) in
            omega (arith, box, opened, later, few)

    pub homes-below : IsMapping m → (n count : ℕ) (homes : List Home) → AreTaken m params us n homes count → All IsHomeBelow homes
    homes-below keeps n count homes t = λ k d h.
        let within : k < n = omega (arith, h, ap length t.are, length-map-range_with_len (home_of m params us) 0 n) in
        subst IsHomeBelow (sym (ap (λ (hs : List Home). get_or hs k d) t.are ∙ get_or-map-range_with_len (home_of m params us) 0 n k k d within (omega arith)))
        (home-below keeps n (omega (arith, t.few, t.total)) k within)

    -- the homes of all variables
    pub numbers-are : (p : System) (homes : List Home) (count : ℕ) → AreTaken m params us (length p.variables) homes count → AreNumbers p m params us (record { homes = homes; count = count })
    numbers-are p homes count t = record {
      long = ap length t.are ∙ length-map-range_with_len (home_of m params us) 0 (length p.variables);
      homes = λ x within.
          ap (λ (hs : List Home). slice_get hs x) t.are
          ∙ slice_get_read (map (home_of m params us) (range_with_len 0 (length p.variables))) (length p.variables) x (home_of m params us x) (sym (length-map-range_with_len (home_of m params us) 0 (length p.variables))) within
          (sym (get_or-map-range_with_len (home_of m params us) 0 (length p.variables) x x (home_of m params us x) within (omega arith)));
      count = t.total;
      few = t.few;
    }

-- a number that is counted up to a bound
pub capped-below : (n : ℕ) → capped n ≤ n
capped-below n = by (nat_lt most_cells n) refl
  where
    by : (b : Bool) → nat_lt most_cells n ≡ b → cond b (most_cells + 1) n ≤ n
    by true e = let past = ltb-true most_cells n e in omega (arith, past)
    by false e = omega arith

pub capped-is : (n : ℕ) → capped n ≤ most_cells → n ≡ capped n
capped-is n few = by (nat_lt most_cells n) refl few
  where
    by : (b : Bool) → nat_lt most_cells n ≡ b → cond b (most_cells + 1) n ≤ most_cells → n ≡ cond b (most_cells + 1) n
    by true e h = absurd (omega (arith, h))
    by false e h = refl
