-- From nests to walks, from walks to a scanner, and from that to the members of a domain.
use Rattle.std.proofs.Common.{◌≡◌, ℕ, ◌↔◌, false, List, [], ◌∷◌, ◌++◌, length, map, refl, sym, subst, ap, ◌∙◌, arith, inl, inr, ⊎_elim}
use Rattle.std.specs.Prelude.{ℤ, ◌≤ℤ◌, Contains, Any, ◌⊎◌, Some, Result, Ok, Err, IfOk, IfErr}
use Rattle.std.specs.List.{All, AllZip}
use Rattle.std.proofs.lemmas.List.Elements.{All-push, All-nil, All-cons, All-head, All-tail, All-from_recursion}
use Rattle.std.proofs.lemmas.Int.{ints}
use Rattle.std.proofs.lemmas.List.{nil_from_length, length_push}
use Rattle.std.specs.Global.{Vec}
use Rattle.az_lin.specs.Affine.{Polyhedron, Union, Holds}
use Rattle.az_lin.specs.Columns.{domain_at_params}
use Rattle.az_lin.proofs.Lists.{Any-nil, Any-here, Any-there, Any-cons}
use Rattle.az_lin.proofs.HeldPoints.{domain_at_params_holds}
use Rattle.az_ast.specs.Points.{IsIncreasing, IsMember, AreMembers}
use Rattle.loop_scan.specs.declared.range.Range.{Range}
use Rattle.loop_scan.specs.declared.level.Level.{Level}
use Rattle.loop_scan.specs.declared.nest.Nest.{Nest}
use Rattle.loop_scan.specs.declared.walk.Walk.{Walk}
use Rattle.loop_scan.specs.declared.head.Head.{Head}
use Rattle.loop_scan.specs.Members.{Scan, IsPoint, IsScan, indices}
use Rattle.loop_scan.specs.Hulls.{HasNumber, IsSmall, IsLarge}
use Rattle.loop_scan.specs.Nest.Levels.{IsIn}
use Rattle.loop_scan.specs.Nest.Walks.{walk, Passes, to_come, IsWalk}
use Rattle.loop_scan.specs.Nest.Merges.{merged, ahead}
use Rattle.loop_scan.specs.Nest.Nests.{IsNest, Accepts}
use Rattle.loop_scan.specs.Nest.Parts.{IsWalkOver, IsWalkOf, SomeWalkGives, AreWalksOf}
use Rattle.loop_scan.specs.Nest.Scans.{SomeHeadGives}
use Rattle.loop_scan.specs.Nest.Answered.{ranges_of}
use Rattle.loop_scan.specs.Nest.Located.{IsLocated, IsScanOver}
use Rattle.loop_scan.specs.Boxes.{Refuses}
use Rattle.loop_scan.specs.Answers.{ScanAnswers, PointsAnswers, PassesPoints}
use Rattle.az_lin.specs.declared.limit.Limit.TheVariants.{BoxPoints}
use Rattle.loop_scan.specs.declared.located.Located.{Located}
use Rattle.loop_scan.specs.declared.fault.ScanFault.{ScanFault}
use Rattle.loop_scan.specs.declared.fault.ScanFault.TheVariants.{Limit, Memory}
use Rattle.loop_scan.proofs.Lists.{first_or_rest, Contains-first, Contains-rest, none_contained, Contains-same, all_of_members, Any-push}
use Rattle.loop_scan.proofs.WalkLaws.{walk-has, walk-only, walk-increasing, walk-coordinates, length-passes}
use Rattle.loop_scan.proofs.Merging.{merged-has, merged-only}

-- the walk of a nest goes through the points that the nest accepts
module _ (width : ℕ) (nest : Nest) (it : Walk) (is : IsNest width nest) (state : IsWalk it) (levels : it.levels ≡ nest.levels) (all : to_come it ≡ walk nest.levels.items []) where
  gives-passes : (y : List ℤ) → Contains (to_come it) y → Passes nest.levels.items [] y
  gives-passes y c =
      let found = walk-only nest.levels.items [] y (Contains-same (to_come it) (walk nest.levels.items []) y all c) in
      let P : List ℤ → Type 0 = Passes nest.levels.items [] in subst P (sym found.1) found.2

  passes-gives : (y : List ℤ) → Passes nest.levels.items [] y → Contains (to_come it) y
  passes-gives y p = Contains-same (walk nest.levels.items []) (to_come it) y (sym all) (walk-has nest.levels.items [] y p)

  pub walk_over : IsWalkOver width it
  walk_over = record {
    state = state;
    levels = ap (λ (ls : Vec Level). length ls.items) levels ∙ is.indices;
    increasing = subst IsIncreasing (sym all) (walk-increasing nest.levels.items []);
    points = λ y c. (
      length-passes nest.levels.items [] y (gives-passes y c) ∙ is.indices,
      walk-coordinates nest.levels.items y is.levels (Contains-same (to_come it) (walk nest.levels.items []) y all c),
    );
  }

  pub walk_of_nest : (system : Polyhedron) → nest.refuted ≡ false → ((y : List ℤ) → length y ≡ width → Accepts nest y ↔ Holds system y) → IsWalkOf width system (Some it)
  walk_of_nest system alive points =
      (walk_over, λ y e. (λ c. (points y e).0 (alive, gives-passes y c), λ h. passes-gives y ((points y e).1 h).1))

-- a box with a point is full
pub full_of_point : (ranges : List Range) (y : List ℤ) → AllZip IsIn ranges y → All HasNumber ranges
full_of_point [] y h = All-nil HasNumber
full_of_point (range ∷ ranges) [] h = absurd h
full_of_point (range ∷ ranges) (x ∷ y) h = All-cons HasNumber range ranges (between range.low x range.high h.0.0 h.0.1) (full_of_point ranges y h.1)
  where
    between : (low x high : ℤ) → low ≤ℤ x → x ≤ℤ high → low ≤ℤ high
    between low x high p q = omega (arith, ints)

-- one more disjunct, without points or with a walk
module _ (width : ℕ) (disjuncts : List Polyhedron) (system : Polyhedron) (walks : List Walk) (are : AreWalksOf width disjuncts walks) where
  pub none_more : ((y : List ℤ) → length y ≡ width → Holds system y → ⊥) → AreWalksOf width (disjuncts ++ system ∷ []) walks
  none_more none = record {
    each = are.each;
    points = λ y e.
        let before = are.points y e in
        let new = Any-push (λ disjunct. Holds disjunct y) disjuncts system in
        (λ s. new.1 (inl (before.0 s)), λ a. ⊎_elim (λ l. before.1 l) (λ r. absurd (none y e r)) (new.0 a));
  }

  pub one_more : (it : Walk) → IsWalkOf width system (Some it) → AreWalksOf width (disjuncts ++ system ∷ []) (walks ++ it ∷ [])
  one_more it is = record {
    each = All-push (IsWalkOver width) walks it are.each is.0;
    points = λ y e.
        let before = are.points y e in
        let here = is.1 y e in
        let new = Any-push (λ disjunct. Holds disjunct y) disjuncts system in
        let given = Any-push (λ w. Contains (to_come w) y) walks it in (
          λ s. new.1 (⊎_elim (λ l. inl (before.0 l)) (λ r. inr (here.0 r)) (given.0 s)),
          λ a. given.1 (⊎_elim (λ l. inl (before.1 l)) (λ r. inr (here.1 r)) (new.0 a)),
        );
  }

pub no_walks : (width : ℕ) → AreWalksOf width [] []
no_walks width = record {
  each = All-nil (IsWalkOver width);
  points = λ y e. (λ s. absurd (Any-nil (λ it. Contains (to_come it) y) s), λ a. absurd (Any-nil (λ disjunct. Holds disjunct y) a));
}

-- a walk that becomes a head
pub heads_more : (y : List ℤ) (heads : List Head) (walks : List Walk) (it : Walk) (head : Head) → ahead head ≡ to_come it
    → (SomeHeadGives (heads ++ head ∷ []) y ⊎ SomeWalkGives walks y) ↔ (SomeHeadGives heads y ⊎ SomeWalkGives (walks ++ it ∷ []) y)
heads_more y heads walks it head same =
    let given = Any-push (λ h. Contains (ahead h) y) heads head in
    let left = Any-push (λ w. Contains (to_come w) y) walks it in (
      λ s. ⊎_elim (λ h. ⊎_elim (λ l. inl l) (λ r. inr (left.1 (inr (Contains-same (ahead head) (to_come it) y same r)))) (given.0 h)) (λ w. inr (left.1 (inl w))) s,
      λ s. ⊎_elim (λ h. inl (given.1 (inl h))) (λ w. ⊎_elim (λ l. inr l) (λ r. inl (given.1 (inr (Contains-same (to_come it) (ahead head) y (sym same) r)))) (left.0 w)) s,
    )

-- a merge gives what its heads give
pub merge_gives : (y : List ℤ) (heads : List Head) → Contains (merged (map ahead heads)) y ↔ SomeHeadGives heads y
merge_gives y heads =
    (λ c. let found = merged-only (map ahead heads) y c in from_list heads found.0 found.1 found.2, λ s. to_merge heads (some_list heads s))
  where
    from_list : (hs : List Head) (l : List (List ℤ)) → Contains (map ahead hs) l → Contains l y → Any (λ head. Contains (ahead head) y) hs
    from_list [] l c d = absurd (none_contained l c)
    from_list (h ∷ hs) l c d =
        ⊎_elim (λ e. Any-here (λ head. Contains (ahead head) y) h hs (Contains-same l (ahead h) y e d))
        (λ r. Any-there (λ head. Contains (ahead head) y) h hs (from_list hs l r d)) (first_or_rest (ahead h) (map ahead hs) l c)

    some_list : (hs : List Head) → Any (λ head. Contains (ahead head) y) hs → (l : List (List ℤ)) × Contains (map ahead hs) l × Contains l y
    some_list [] s = absurd (Any-nil (λ head. Contains (ahead head) y) s)
    some_list (h ∷ hs) s =
        ⊎_elim (λ here. (ahead h, Contains-first (ahead h) (map ahead hs), here))
        (λ r. let found = some_list hs r in (found.0, Contains-rest (ahead h) (map ahead hs) found.0 found.1, found.2)) (Any-cons (λ head. Contains (ahead head) y) h hs s)

    to_merge : (hs : List Head) → (l : List (List ℤ)) × Contains (map ahead hs) l × Contains l y → Contains (merged (map ahead hs)) y
    to_merge hs found = merged-has (map ahead hs) found.0 y found.1 found.2

-- a walk that gives a point is over the indices
pub given_point : (width : ℕ) (walks : List Walk) (y : List ℤ) → All (IsWalkOver width) walks → SomeWalkGives walks y → IsPoint width y
given_point width [] y all s = absurd (Any-nil (λ it. Contains (to_come it) y) s)
given_point width (it ∷ walks) y all s =
    ⊎_elim (λ here. (All-head (IsWalkOver width) it walks all).points y here)
    (λ r. given_point width walks y (All-tail (IsWalkOver width) it walks all) r) (Any-cons (λ w. Contains (to_come w) y) it walks s)

-- the members at parameters
pub is_scan : (domain : Union) (params : List ℤ) (scan : Scan) → IsScanOver (domain_at_params params domain) scan → IsScan domain params scan
is_scan domain params scan is =
    let holds = λ (y : List ℤ). domain_at_params_holds params domain y in
    record {
      width = is.indices;
      members = record {
        increasing = is.increasing;
        only = all_of_members (IsMember domain params (indices domain params)) scan.to_come
            (λ y c. let point = is.points y c in (point.0, (holds y).0 ((is.members y point.0).0 c)));
        every = λ y member. (is.members y member.0).1 ((holds y).1 member.1);
      };
      points = All-from_recursion (IsPoint (indices domain params)) scan.to_come (all_of_members (IsPoint (indices domain params)) scan.to_come is.points);
    }

pub scan_answers : (domain : Union) (params : List ℤ) (located : Located) (result : Result Scan ScanFault) → IsLocated domain params located
    → IfOk result (IsScanOver located.domain) → IfErr result (λ fault. fault ≡ Memory) → ScanAnswers domain params result
scan_answers domain params located (Ok scan) is ok cause =
    (is_scan domain params scan (subst (λ (d : Union). IsScanOver d scan) is.at ok), (map ranges_of located.boxes.items, is.found))
scan_answers domain params located (Err fault) is ok cause = subst (λ f. Refuses domain params f) (sym cause) tt

-- one walk alone
pub alone_gives : (y : List ℤ) (walks rest : List Walk) (it : Walk) → walks ≡ rest ++ it ∷ [] → length walks ≡ 1 → Contains (to_come it) y ↔ SomeWalkGives walks y
alone_gives y walks rest it is one =
    let none : length rest ≡ 0 = omega (arith, ap length is, length_push rest it) in
    let alone : walks ≡ it ∷ [] = is ∙ ap (λ ws. ws ++ it ∷ []) (nil_from_length rest none) in
    let P : List Walk → Type 0 = λ ws. SomeWalkGives ws y in (
      λ c. subst P (sym alone) (Any-here (λ w. Contains (to_come w) y) it [] c),
      λ s. ⊎_elim (λ c. c) (λ r. absurd (Any-nil (λ w. Contains (to_come w) y) r)) (Any-cons (λ w. Contains (to_come w) y) it [] (subst P alone s)),
    )

pub points_answers : (domain : Union) (params : List ℤ) (located : Located) (width : ℕ) (scan : Scan) (result : Result (List (List ℤ)) ScanFault) → IsLocated domain params located
    → width ≡ located.domain.width → IsSmall width (map ranges_of located.boxes.items) → IsScanOver located.domain scan
    → IfOk result (λ points. points ≡ scan.to_come) → IfErr result (λ fault. fault ≡ Memory) → PointsAnswers domain params result
points_answers domain params located width scan (Ok points) is same small over ok cause =
    let scanned = is_scan domain params scan (subst (λ (d : Union). IsScanOver d scan) is.at over) in (
      subst (λ ps. AreMembers domain params (indices domain params) ps) (sym ok) scanned.members,
      subst (λ ps. All (IsPoint (indices domain params)) ps) (sym ok) scanned.points,
      (map ranges_of located.boxes.items, is.found, subst (λ n. IsSmall n (map ranges_of located.boxes.items)) (same ∙ ap (λ (d : Union). d.width) is.at) small),
    )
points_answers domain params located width scan (Err fault) is same small over ok cause = inl (subst (λ f. Refuses domain params f) (sym cause) tt)

pub points_passed : (domain : Union) (params : List ℤ) (located : Located) (width : ℕ) → IsLocated domain params located
    → width ≡ located.domain.width → IsLarge width (map ranges_of located.boxes.items) → PassesPoints domain params (Limit BoxPoints)
points_passed domain params located width is same large =
    (refl, (map ranges_of located.boxes.items, is.found, subst (λ n. IsLarge n (map ranges_of located.boxes.items)) (same ∙ ap (λ (d : Union). d.width) is.at) large))
