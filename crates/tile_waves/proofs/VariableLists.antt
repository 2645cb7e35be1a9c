-- The instances of one variable after another.
use Rattle.std.proofs.Common.{◌≡◌, ◌⊎◌, inl, inr, ⊎_elim, ℕ, zero, suc, ◌+◌, ◌<◌, List, [], ◌∷◌, ◌++◌, length, get_or, slice_get, Some, None, Result, Ok, Err, IfErr, refl, sym, ap, subst, ◌∙◌, arith, append-nil, length-append, All, Contains}
use Rattle.std.specs.Prelude.{ℤ, ◌-◌}
use Rattle.std.specs.FinMap.{get}
use Rattle.std.specs.List.{AllByRecursion}
use Rattle.std.specs.Option.{option_map_or}
use Rattle.std.proofs.lemmas.List.{map-append, length-map}
use Rattle.std.proofs.lemmas.List.Elements.{All-nil, All-cons, All-append, All-contains, All-get_or, All-weaker, All-map, Contains-append_left, Contains-append_right}
use Rattle.std.proofs.lemmas.Option.{slice_get_within, slice_get_read, get_or_from_slice_get}
use Rattle.az_lin.specs.Affine.{AffineMap, Union}
use Rattle.az_lin.specs.Substitution.{Point}
use Rattle.az_ast.specs.Points.{Precedes, IsIncreasing, IsMember, AreMembers}
use Rattle.az_ast.specs.System.{System}
use Rattle.az_ast.specs.declared.program.Variable.{Variable}
use Rattle.az_ast.proofs.Members.{All-Contains}
use Rattle.az_ast.proofs.TableLemmas.{Precedes-differs}
use Rattle.execution.specs.declared.instance.Instance.{Instance}
use Rattle.execution.proofs.Lists.{within_or_past}
use Rattle.loop_scan.specs.Boxes.{HasBoxes, Refuses}
use Rattle.loop_scan.specs.Members.{indices}
use Rattle.loop_scan.specs.declared.fault.ScanFault.{ScanFault}
use Rattle.target_map.specs.Settings.{TargetMapping, IsComplete, is_written}
use Rattle.target_map.specs.Times.{domain_of}
use Rattle.tile_waves.specs.Answers.{AreInstances, AreMany, RefusesWaves, most_instances}
use Rattle.tile_waves.specs.Inner.Items.{IsItem, instances_of, at_points}
use Rattle.tile_waves.specs.Inner.Listed.{instance, IsNear, IsVariable, RefusesPoints, RefusesVariable, AreListed}
use Rattle.tile_waves.specs.Waves.{IsInstance}
use Rattle.tile_waves.specs.declared.item.Item.{Item}
use Rattle.tile_waves.proofs.Nested.{at_map}

abbrev pub IsOnce : List Instance → Type 0
IsOnce us = (i j : ℕ) (u : Instance) → slice_get us i ≡ Some u → slice_get us j ≡ Some u → i ≡ j

append_cases : (as_ bs : List Instance) (i : ℕ) (u : Instance) → slice_get (as_ ++ bs) i ≡ Some u → (slice_get as_ i ≡ Some u) ⊎ ((j : ℕ) × (i ≡ length as_ + j) × (slice_get bs j ≡ Some u))
append_cases [] bs i u h = inr (i, omega arith, h)
append_cases (a ∷ as_) bs zero u h = inl h
append_cases (a ∷ as_) bs (suc i) u h = ⊎_elim (λ l. inl l) (λ r. inr (r.0, omega (arith, r.1), r.2)) (append_cases as_ bs i u h)

once_append : (as_ bs : List Instance) → IsOnce as_ → IsOnce bs → ((i j : ℕ) (u : Instance) → slice_get as_ i ≡ Some u → slice_get bs j ≡ Some u → ⊥) → IsOnce (as_ ++ bs)
once_append as_ bs once_a once_b apart i j u h g =
    ⊎_elim
    (λ l. ⊎_elim (λ m. once_a i j u l m) (λ m. absurd (apart i m.0 u l m.2)) (append_cases as_ bs j u g))
    (λ l. ⊎_elim (λ m. absurd (apart j l.0 u m l.2)) (λ m. let same = once_b l.0 m.0 u l.2 m.2 in omega (arith, l.1, m.1, same)) (append_cases as_ bs j u g))
    (append_cases as_ bs i u h)

later : (P : Point → Type 0) (points : List Point) → AllByRecursion P points → (i : ℕ) (k : Point) → slice_get points i ≡ Some k → P k
later P [] all i k h = absurd (let none : None ≡ Some k = h in cc)
later P (p ∷ points) all zero k h = let same : p ≡ k = cc in subst P same all.0
later P (p ∷ points) all (suc i) k h = later P points all.1 i k h

points_once : (points : List Point) → IsIncreasing points → (i j : ℕ) (k : Point) → slice_get points i ≡ Some k → slice_get points j ≡ Some k → i ≡ j
points_once [] rising i j k h g = absurd (let none : None ≡ Some k = h in cc)
points_once (p ∷ points) rising zero zero k h g = refl
points_once (p ∷ points) rising zero (suc j) k h g = absurd (Precedes-differs p k (later (Precedes p) points rising.0 j k g) (let same : p ≡ k = cc in same))
points_once (p ∷ points) rising (suc i) zero k h g = absurd (Precedes-differs p k (later (Precedes p) points rising.0 i k h) (let same : p ≡ k = cc in same))
points_once (p ∷ points) rising (suc i) (suc j) k h g = ap suc (points_once points rising.1 i j k h g)

contains_at : (x : ℕ) (points : List Point) (k : Point) → Contains points k → Contains (at_points x points) (instance x k)
contains_at x [] k (i, h, e) = absurd (omega (arith, h))
contains_at x (p ∷ points) k (zero, h, e) = (zero, omega arith, ap (instance x) e)
contains_at x (p ∷ points) k (suc i, h, e) = let one = contains_at x points k (i, omega (arith, h), e) in (suc one.0, omega (arith, one.1), one.2)

all_of : (P Q : Point → Type 0) → ((k : Point) → P k → Q k) → (points : List Point) → AllByRecursion P points → All Q points
all_of P Q f [] all = All-nil Q
all_of P Q f (p ∷ points) all = All-cons Q p points (f p all.0) (all_of P Q f points all.1)

module _ (p : System) (m : TargetMapping) (params : List ℤ) (count : length params ≡ length p.params) (x : ℕ) (written : is_written p x) where
  member_instance : (k : Point) → IsMember (domain_of p x) params (indices (domain_of p x) params) k → IsInstance p params (instance x k)
  member_instance k is = record {
    written = written;
    point = record { parameters = count; member = subst (λ n. IsMember (domain_of p x) params ((domain_of p x).width - n) k) count is };
  }

  module _ (before : List Item) (old : AreListed p m params x before) (points : List Point) (members : AreMembers (domain_of p x) params (indices (domain_of p x) params) points) where
    abbrev both : List Instance
    both = instances_of before ++ at_points x points

    points_instances : All (IsInstance p params) (at_points x points)
    points_instances = All-map (IsInstance p params) (instance x) points
        (all_of (IsMember (domain_of p x) params (indices (domain_of p x) params)) (λ k. IsInstance p params (instance x k)) member_instance points members.only)

    points_apart : (i j : ℕ) (u : Instance) → slice_get (instances_of before) i ≡ Some u → slice_get (at_points x points) j ≡ Some u → ⊥
    points_apart i j u h g =
        let one = at_map (instance x) points j u g in
        let same : u.variable ≡ x = sym (ap (λ (v : Instance). v.variable) one.2) in
        let less = below_at (instances_of before) old.below i u h in
        omega (arith, same, less)
      where
        below_at : (us : List Instance) → All (λ (u : Instance). u.variable < x) us → (i : ℕ) (u : Instance) → slice_get us i ≡ Some u → u.variable < x
        below_at us all i u h =
            let inside = slice_get_within us i u h in
            subst (λ (v : Instance). v.variable < x) (get_or_from_slice_get us i u u h) (All-get_or (λ (u : Instance). u.variable < x) us i u inside all)

    points_are_once : IsOnce (at_points x points)
    points_are_once i j u h g =
        let one = at_map (instance x) points i u h in
        let two = at_map (instance x) points j u g in
        let same : one.0 ≡ two.0 = ap (λ (v : Instance). v.point) (one.2 ∙ sym two.2) in
        points_once points members.increasing i j one.0 one.1 (two.1 ∙ ap Some (sym same))

    pub both_instances : AreInstances p params both
    both_instances = record {
      only = All-append (IsInstance p params) (instances_of before) (at_points x points) old.instances.only points_instances;
      once = once_append (instances_of before) (at_points x points) old.instances.once points_are_once points_apart;
    }

    both_long : length both ≡ length before + length points
    both_long =
        let one = length-append (instances_of before) (at_points x points) in
        let two = length-map before (λ (i : Item). i.instance) in
        let three = length-map points (instance x) in
        omega (arith, one, two, three)

    pub refuses_many : most_instances < length before + length points → AreMany p m params
    refuses_many more = (both, both_instances, (let long = both_long in omega (arith, more, long)))

    pub point_instance : (k : Point) → Contains points k → IsInstance p params (instance x k)
    point_instance k c = member_instance k (All-Contains (IsMember (domain_of p x) params (indices (domain_of p x) params)) points k members.only c)

    -- the variable's instances are listed too
    module _ (after : List Item) (variable : IsVariable m params x (domain_of p x) before after) (same_points : variable.points ≡ points) where
      given_is : variable.listing.given ≡ points
      given_is = sym (append-nil variable.listing.given) ∙ (variable.listing.whole ∙ same_points)

      instances_after : instances_of after ≡ both
      instances_after =
          ap instances_of variable.listing.more.whole
          ∙ (map-append (λ (i : Item). i.instance) before variable.listing.more.added
          ∙ (λ i. instances_of before ++ (variable.listing.more.instances ∙ ap (at_points x) given_is) i))

      keys_after : All (IsItem m params) after
      keys_after = subst (All (IsItem m params)) (sym variable.listing.more.whole) (All-append (IsItem m params) before variable.listing.more.added old.keys variable.listing.more.keys)

      variable_at : All (λ (u : Instance). u.variable < x + 1) (at_points x points)
      variable_at = All-map (λ (u : Instance). u.variable < x + 1) (instance x) points (each points)
        where
          each : (ks : List Point) → All (λ (k : Point). x < x + 1) ks
          each [] = All-nil (λ (k : Point). x < x + 1)
          each (k ∷ ks) = All-cons (λ (k : Point). x < x + 1) k ks (omega arith) (each ks)

      is_here : (u : Instance) → IsInstance p params u → u.variable ≡ x → Contains points u.point
      is_here u is same = members.every u.point (subst (λ y. IsMember (domain_of p y) params (indices (domain_of p y) params) u.point) same
          (subst (λ n. IsMember (domain_of p u.variable) params ((domain_of p u.variable).width - n) u.point) (sym count) is.point.member))

      as_instance : (u : Instance) → u.variable ≡ x → instance x u.point ≡ u
      as_instance u same = λ i. record { variable = sym same i; point = u.point }

      here_contained : (u : Instance) → IsInstance p params u → u.variable ≡ x → Contains both u
      here_contained u is same =
          subst (Contains both) (as_instance u same) (Contains-append_right (instances_of before) (at_points x points) (instance x u.point) (contains_at x points u.point (is_here u is same)))

      here_near : (u : Instance) → IsInstance p params u → u.variable ≡ x → IsNear m params u
      here_near u is same =
          subst (IsNear m params) (as_instance u same)
          (All-contains (λ k. IsNear m params (instance x k)) points u.point (subst (All (λ k. IsNear m params (instance x k))) given_is variable.listing.near) (is_here u is same))

      below_or_here : (y : ℕ) → y < x + 1 → (y < x) ⊎ (y ≡ x)
      below_or_here y l = ⊎_elim (λ less. inl less) (λ past. inr (omega (arith, l, past))) (within_or_past y x)

      pub listed_now : AreListed p m params (x + 1) after
      listed_now = record {
        keys = keys_after;
        instances = subst (AreInstances p params) (sym instances_after) both_instances;
        below = subst (All (λ (u : Instance). u.variable < x + 1)) (sym instances_after)
            (All-append (λ (u : Instance). u.variable < x + 1) (instances_of before) (at_points x points)
            (All-weaker (λ (u : Instance). u.variable < x) (λ (u : Instance). u.variable < x + 1) (λ u l. omega (arith, l)) (instances_of before) old.below) variable_at);
        every = λ u is l. subst (λ us. Contains us u) (sym instances_after)
            (⊎_elim (λ less. Contains-append_left (instances_of before) (at_points x points) u (old.every u is less)) (λ same. here_contained u is same) (below_or_here u.variable l));
        near = λ u is l. ⊎_elim (λ less. old.near u is less) (λ same. here_near u is same) (below_or_here u.variable l);
        domains = λ y is l. ⊎_elim (λ less. old.domains y is less) (λ same. (variable.boxes, subst (λ z. HasBoxes (domain_of p z) params variable.boxes) (sym same) variable.has_boxes)) (below_or_here y l);
        few = variable.few;
      }

module _ (p : System) (m : TargetMapping) (params : List ℤ) (complete : IsComplete p m) (x : ℕ) (before : List Item) (old : AreListed p m params x before) where
  -- a variable without a map isn't written
  pub listed_skip : get m.times x ≡ None → AreListed p m params (x + 1) before
  listed_skip none = record {
    keys = old.keys;
    instances = old.instances;
    below = All-weaker (λ (u : Instance). u.variable < x) (λ (u : Instance). u.variable < x + 1) (λ u l. omega (arith, l)) (instances_of before) old.below;
    every = λ u is l. old.every u is (less u.variable is.written l);
    near = λ u is l. old.near u is (less u.variable is.written l);
    domains = λ y is l. old.domains y is (less y is l);
    few = old.few;
  }
    where
      other : (y : ℕ) → is_written p y → y ≡ x → ⊥
      other y is same = let f = complete.times y is in let two : Some f.0 ≡ None = sym f.1 ∙ (ap (get m.times) same ∙ none) in cc

      less : (y : ℕ) → is_written p y → y < x + 1 → y < x
      less y is l = ⊎_elim (λ h. h) (λ past. absurd (other y is (omega (arith, l, past)))) (within_or_past y x)

  module _ (count : length params ≡ length p.params) (f : AffineMap) (timed : get m.times x ≡ Some f) (domain : Union) (own : domain_of p x ≡ domain) where
    written : is_written p x
    written = (complete.fits.times x f timed).written

    pub listed_more : (after : List Item) → IsVariable m params x domain before after → AreListed p m params (x + 1) after
    listed_more after variable =
        let here = subst (λ d. IsVariable m params x d before after) (sym own) variable in
        listed_now p m params count x written before old here.points here.members after here refl

    pub refuses_more : (fault : ScanFault) → RefusesVariable m params x domain before fault → RefusesWaves p m params fault
    refuses_more fault h = ⊎_elim
        (λ refused. inr (inl (x, written, subst (λ d. Refuses d params fault) (sym own) refused)))
        (λ points. by points.0 (subst (λ d. AreMembers d params (indices d params) points.0) (sym own) points.1) points.2) h
      where
        by : (points : List Point) → AreMembers (domain_of p x) params (indices (domain_of p x) params) points → RefusesPoints m params x before points fault → RefusesWaves p m params fault
        by points members (inl memory) = inl memory
        by points members (inr (inl many)) = inr (inr (inl (many.0, refuses_many p m params count x written before old points members many.1)))
        by points members (inr (inr far)) = inr (inr (inr (far.0, (instance x far.1.0, (point_instance p m params count x written before old points members far.1.0 far.1.1, far.1.2)))))

pub domain_is : (p : System) (x : ℕ) (variable : Variable) → x < length p.variables → variable ≡ get_or p.variables x variable → domain_of p x ≡ variable.domain
domain_is p x variable l is = ap (λ o. option_map_or (λ (v : Variable). v.domain) o (record { width = 0; disjuncts = [] })) (slice_get_read p.variables (length p.variables) x variable refl l is)

-- as a call knows it
module _
    (p : System) (m : TargetMapping) (params : List ℤ) (complete : IsComplete p m) (x : ℕ) (before : List Item) (old : AreListed p m params x before) (count : length params ≡ length p.params)
    (known : TargetMapping) (same : known ≡ m) (f : AffineMap) (timed : Some f ≡ get known.times x)
    (variables : List Variable) (own : variables ≡ p.variables) (variable : Variable) (inside : x < length p.variables) (is : variable ≡ get_or variables x variable) where
  timed_here : get m.times x ≡ Some f
  timed_here = subst (λ n. get n.times x ≡ Some f) same (sym timed)

  domain_here : domain_of p x ≡ variable.domain
  domain_here = domain_is p x variable inside (subst (λ vs. variable ≡ get_or vs x variable) own is)

  pub more_after : (after : List Item) → IsVariable known params x variable.domain before after → AreListed p m params (x + 1) after
  more_after after h = listed_more p m params complete x before old count f timed_here variable.domain domain_here after (subst (λ n. IsVariable n params x variable.domain before after) same h)

  pub refused_after : (fault : ScanFault) → RefusesVariable known params x variable.domain before fault → RefusesWaves p m params fault
  refused_after fault h = refuses_more p m params complete x before old count f timed_here variable.domain domain_here fault (subst (λ n. RefusesVariable n params x variable.domain before fault) same h)

pub err_weaker : {T E : Type 0} (r : Result T E) (P Q : E → Type 0) → ((e : E) → P e → Q e) → IfErr r P → IfErr r Q
err_weaker (Ok v) P Q f h = h
err_weaker (Err e) P Q f h = f e h
