-- The points of all variables, their states at first and at the end, and the tables of their values.
use Rattle.std.proofs.Common.{◌≡◌, ℕ, ◌+◌, ◌-◌, ◌<◌, ◌≤◌, List, [], ◌∷◌, ◌++◌, length, Option, Some, None, refl, sym, ap, subst, ◌∙◌, arith, inl, inr, length-append, false, cond, eq-eqb, ne_eqb}
use Rattle.std.specs.Prelude.{ℤ, slice_index_or, slice_get, MatchOption, map, replicate, All}
use Rattle.std.specs.Cmp.{nat_cmp_total, unsigned_tied}
use Rattle.std.specs.FinMap.{get, insert, empty, get-insert, get-empty}
use Rattle.std.specs.Ordering.{nat_cmp}
use Rattle.std.proofs.Math.ListN.{get_or-map, get_or-append}
use Rattle.std.proofs.Math.Seq.{get_or-append_seam}
use Rattle.std.proofs.lemmas.Bool.{cases_lt}
use Rattle.std.proofs.lemmas.List.{get_or_past, get_or-replicate, length-replicate}
use Rattle.std.proofs.lemmas.Option.{slice_get_past, slice_get_within}
use Rattle.az_lin.specs.Affine.{Union}
use Rattle.az_ast.specs.Meaning.{RoleGives, Means}
use Rattle.az_ast.specs.Shapes.{is_input}
use Rattle.az_ast.specs.Tables.{Tables, Rows}
use Rattle.az_ast.specs.Points.{AreMembers}
use Rattle.az_ast.specs.System.{System}
use Rattle.az_ast.specs.declared.program.Role.{Role}
use Rattle.az_ast.specs.declared.program.Role.TheVariants.{Input, Output, Local}
use Rattle.az_ast.specs.declared.program.Variable.{Variable}
use Rattle.value_walk.specs.Boxes.{BoxRefuses, UnlessMemory}
use Rattle.value_walk.specs.Inner.Slots.{ArePointsOf, IsOwnRefused, IsOwnRefusedIn, IsOwnUnrefused, IsUnrefusedAt, States, states_of, state_of, IsMeant, IsSettledAt, unknown_for}
use Rattle.value_walk.specs.Points.{Points, points_of, IsCoveredBy, AreCovered, ArePoints, AreCoordinates}
use Rattle.value_walk.specs.Inner.Walks.{IsGood}
use Rattle.value_walk.specs.Meanings.{IsRefused, IsOwnBox, IsMeaningTable, HasTable}
use Rattle.loop_scan.specs.Answers.{IsUnrefused}
use Rattle.loop_scan.specs.declared.fault.ScanFault.{ScanFault}
use Rattle.loop_scan.specs.declared.fault.ScanFault.TheVariants.{Overflow, Entry, Limit, Memory}
use Rattle.value_walk.specs.declared.scene.Scene.{Scene}
use Rattle.value_walk.specs.declared.slot.Slot.{Slot}
use Rattle.value_walk.specs.declared.slot.State.{State}
use Rattle.value_walk.specs.declared.slot.State.TheVariants.{Unknown, Known}

-- ---- points

module _ (p : System) (params : List ℤ) (same : length params ≡ length p.params) where
  pub covered-by : (x : ℕ) (v : Variable) (list : List (List ℤ)) → slice_get p.variables x ≡ Some v → ArePointsOf v params list → IsCoveredBy p params x list
  covered-by x v list e h =
      subst (λ o. MatchOption o (list ≡ []) (λ (w : Variable). RoleGives w.role (list ≡ []) (AreMembers w.domain params (w.domain.width - length p.params) list × AreCoordinates params list))) (sym e)
      (subst (λ n. RoleGives v.role (list ≡ []) (AreMembers v.domain params (v.domain.width - n) list × AreCoordinates params list)) same h)

  pub covered-more :
      (points : Points) (i : ℕ) (v : Variable) (list : List (List ℤ)) → length points ≡ i → slice_get p.variables i ≡ Some v → ArePointsOf v params list → ((x : ℕ) → x < i → AreCovered p params points x) →
      (x : ℕ) → x < i + 1 → AreCovered p params (points ++ list ∷ []) x
  covered-more points i v list n e h before x l = elim (cases_lt x i) [
    | inl less ↦ subst (λ ps. IsCoveredBy p params x ps) (sym (get_or-append points (list ∷ []) [] x (omega arith))) (before x less)
    | inr more ↦ (
        let at : x ≡ length points = omega arith in
        let here : points_of (points ++ list ∷ []) x ≡ list = ap (λ q. points_of (points ++ list ∷ []) q) at ∙ get_or-append_seam points list [] [] in
        let own : slice_get p.variables x ≡ Some v = ap (slice_get p.variables) (at ∙ n) ∙ e in
        subst (λ ps. IsCoveredBy p params x ps) (sym here) (covered-by x v list own h))
  ]

  pub covered-all : (points : Points) → length points ≡ length p.variables → ((x : ℕ) → x < length points → AreCovered p params points x) → ArePoints p params points
  covered-all points n before x = elim (cases_lt x (length points)) [
    | inl less ↦ before x less
    | inr more ↦ (
        subst (λ o. MatchOption o (points_of points x ≡ []) (λ (w : Variable). RoleGives w.role (points_of points x ≡ []) (AreMembers w.domain params (w.domain.width - length p.params) (points_of points x) × AreCoordinates params (points_of points x))))
        (sym (slice_get_past p.variables x (omega arith))) (get_or_past points x [] more))
  ]

-- a refused box of a variable's domain
own-box : (p : System) (params : List ℤ) (fault : ScanFault) → IsOwnRefusedIn p params fault → IsRefused p params fault
own-box p params fault (x, h) = by (slice_get p.variables x) refl h
  where
    own : (v : Variable) → slice_get p.variables x ≡ Some v → RoleGives v.role ⊥ (v.domain ≡ v.domain) → IsOwnBox p params v.domain params
    own v e r = (x, refl, subst (λ o. MatchOption o ⊥ (λ (w : Variable). RoleGives w.role ⊥ (w.domain ≡ v.domain))) (sym e) r)

    give : (v : Variable) (role : Role) → slice_get p.variables x ≡ Some v → v.role ≡ role → RoleGives role ⊥ (BoxRefuses v.domain params fault) → IsRefused p params fault
    give v Input e r h = absurd h
    give v Output e r h = (v.domain, params, inl (own v e (subst (λ (q : Role). RoleGives q ⊥ (v.domain ≡ v.domain)) (sym r) refl)), h)
    give v Local e r h = (v.domain, params, inl (own v e (subst (λ (q : Role). RoleGives q ⊥ (v.domain ≡ v.domain)) (sym r) refl)), h)

    by : (o : Option Variable) → slice_get p.variables x ≡ o → MatchOption o ⊥ (λ (v : Variable). RoleGives v.role ⊥ (BoxRefuses v.domain params fault)) → IsRefused p params fault
    by None e h = absurd h
    by (Some v) e h = give v v.role e refl h

pub own-refused : (p : System) (params : List ℤ) (fault : ScanFault) → UnlessMemory (IsOwnRefusedIn p params) fault → UnlessMemory (IsRefused p params) fault
own-refused p params Overflow h = own-box p params Overflow h
own-refused p params Entry h = own-box p params Entry h
own-refused p params (Limit limit) h = own-box p params (Limit limit) h
own-refused p params Memory h = tt

pub own-refused-in : (p : System) (params : List ℤ) (x : ℕ) (v : Variable) (fault : ScanFault) → slice_get p.variables x ≡ Some v → UnlessMemory (IsOwnRefused v params) fault → UnlessMemory (IsOwnRefusedIn p params) fault
own-refused-in p params x v Overflow e h = (x, subst (λ o. MatchOption o ⊥ (λ (w : Variable). IsOwnRefused w params Overflow)) (sym e) h)
own-refused-in p params x v Entry e h = (x, subst (λ o. MatchOption o ⊥ (λ (w : Variable). IsOwnRefused w params Entry)) (sym e) h)
own-refused-in p params x v (Limit limit) e h = (x, subst (λ o. MatchOption o ⊥ (λ (w : Variable). IsOwnRefused w params (Limit limit))) (sym e) h)
own-refused-in p params x v Memory e h = tt

-- boxes that aren't refused
module _ (p : System) (params : List ℤ) where
  pub unrefused-more :
      (i : ℕ) (v : Variable) → slice_get p.variables i ≡ Some v → IsOwnUnrefused v params → ((x : ℕ) → x < i → IsUnrefusedAt p params x) → (x : ℕ) → x < i + 1 → IsUnrefusedAt p params x
  unrefused-more i v e h before x l = elim (cases_lt x i) [
    | inl less ↦ before x less
    | inr more ↦ (
        let at : x ≡ i = omega arith in
        subst (λ o. MatchOption o (Unit {0}) (λ (w : Variable). IsOwnUnrefused w params)) (sym (ap (slice_get p.variables) at ∙ e)) h)
  ]

  pub own-unrefused : ((x : ℕ) → x < length p.variables → IsUnrefusedAt p params x) → (domain : Union) (outer : List ℤ) → IsOwnBox p params domain outer → IsUnrefused domain outer
  own-unrefused all domain outer (x, same, h) = by (slice_get p.variables x) refl h
    where
      give : (v : Variable) (role : Role) → RoleGives role ⊥ (v.domain ≡ domain) → RoleGives role (Unit {0}) (IsUnrefused v.domain params) → IsUnrefused domain outer
      give v Input e u = absurd e
      give v Output e u = subst (λ (d : Union). IsUnrefused d outer) e (subst (λ o. IsUnrefused v.domain o) (sym same) u)
      give v Local e u = subst (λ (d : Union). IsUnrefused d outer) e (subst (λ o. IsUnrefused v.domain o) (sym same) u)

      by : (o : Option Variable) → slice_get p.variables x ≡ o → MatchOption o ⊥ (λ (v : Variable). RoleGives v.role ⊥ (v.domain ≡ domain)) → IsUnrefused domain outer
      by None e h = absurd h
      by (Some v) e h =
          give v v.role h (subst (λ o. MatchOption o (Unit {0}) (λ (w : Variable). IsOwnUnrefused w params)) e (all x (slice_get_within p.variables x v e)))

-- ---- states at first

first-states : (points : Points) (x : ℕ) → states_of (map unknown_for points) x ≡ unknown_for (points_of points x)
first-states points x = get_or-map unknown_for points x []

all-unknown : (n place : ℕ) → slice_index_or (replicate n Unknown) place Unknown ≡ Unknown
all-unknown n place = elim (cases_lt place n) [
  | inl less ↦ get_or-replicate n place Unknown Unknown less
  | inr more ↦ get_or_past (replicate n Unknown) place Unknown (omega (arith, length-replicate n Unknown))
]

first-state : (points : Points) (slot : Slot) → state_of (map unknown_for points) slot ≡ Unknown
first-state points slot =
    ap (λ l. slice_index_or l slot.place Unknown) (first-states points slot.variable) ∙ all-unknown (length (points_of points slot.variable)) slot.place

pub first-good : (scene : Scene) (states : States) → ArePoints scene.program.now scene.params.now scene.points.now → states ≡ map unknown_for scene.points.now → IsGood scene states []
first-good scene states points e =
    subst (λ s. IsGood scene s []) (sym e)
    (record {
      stated = record {
        points = points;
        aligned = λ x. ap length (first-states scene.points.now x) ∙ length-replicate (length (points_of scene.points.now x)) Unknown;
        meant = λ slot h. subst (IsMeant _) (sym (first-state scene.points.now slot)) tt;
      };
      linked = tt;
      open_ones = λ slot h o. (let first = first-state scene.points.now slot in cc);
    })

-- ---- rows

module _ (means : List ℤ → ℤ → Type 0) (whole rest rows : List (List ℤ)) (point : List ℤ) (states : List State) (parts : whole ≡ (rest ++ point ∷ []) ++ rows) where
  pub rest-within : length rest < length whole
  rest-within = omega (arith, ap length parts, length-append (rest ++ point ∷ []) rows, length-append rest (point ∷ []))

  last-point : slice_index_or whole (length rest) [] ≡ point
  last-point =
      ap (λ l. slice_index_or l (length rest) []) parts ∙ (get_or-append (rest ++ point ∷ []) rows [] (length rest) (omega (arith, length-append rest (point ∷ []))) ∙ get_or-append_seam rest point [] [])

  pub row-means : (v : ℤ) → IsSettledAt means whole states (length rest) → slice_index_or states (length rest) Unknown ≡ Known v → means point v
  row-means v settled e =
      subst (λ q. means q v) last-point (subst (λ s. IsMeant (means (slice_index_or whole (length rest) [])) s) e settled.1)

-- ---- tables

pub get-own : (m : Tables) (x : ℕ) (rows : Rows) → get (insert m x rows) x ≡ Some rows
get-own m x rows = get-insert nat_cmp_total m x rows x ∙ ap (λ b. cond b (Some rows) (get m x)) (unsigned_tied x x ∙ eq-eqb x x refl)

pub get-other : (m : Tables) (x : ℕ) (rows : Rows) (y : ℕ) → (y ≡ x → ⊥) → get (insert m x rows) y ≡ get m y
get-other m x rows y n = get-insert nat_cmp_total m x rows y ∙ ap (λ b. cond b (Some rows) (get m y)) (unsigned_tied y x ∙ ne_eqb y x n)

module _ (p : System) (tables : Tables) (params : List ℤ) (x : ℕ) (v : Variable) (declared : slice_get p.variables x ≡ Some v) where
  pub put-table :
      (role : Role) → v.role ≡ role → is_input role ≡ false → (points : List (List ℤ)) (rows table : Rows) (values after : Tables) → IsCoveredBy p params x points → map (λ row. row.0) rows ≡ points →
      All (λ row. Means p tables params x row.0 row.1) rows → table ≡ rows → after ≡ insert values x table → HasTable p tables params after x
  put-table role r i points rows table values after covered firsts means same e =
      subst (λ o. MatchOption o (get after x ≡ None) (λ (w : Variable). RoleGives w.role (get after x ≡ None) (MatchOption (get after x) ⊥ (IsMeaningTable p tables params x w)))) (sym declared)
      (subst (λ (q : Role). RoleGives q (get after x ≡ None) (MatchOption (get after x) ⊥ (IsMeaningTable p tables params x v))) (sym r)
      (by role i (subst (λ (q : Role). RoleGives q (points ≡ []) (AreMembers v.domain params (v.domain.width - length p.params) points × AreCoordinates params points)) r
      (subst (λ o. MatchOption o (points ≡ []) (λ (w : Variable). RoleGives w.role (points ≡ []) (AreMembers w.domain params (w.domain.width - length p.params) points × AreCoordinates params points))) declared covered))))
    where
      here : get after x ≡ Some rows
      here = ap (λ (m : Tables). get m x) (e ∙ ap (λ (t : Rows). insert values x t) same) ∙ get-own values x rows

      table_of : AreMembers v.domain params (v.domain.width - length p.params) points → MatchOption (get after x) ⊥ (IsMeaningTable p tables params x v)
      table_of m =
          subst (λ o. MatchOption o ⊥ (IsMeaningTable p tables params x v)) (sym here)
          (record { points = subst (λ ps. AreMembers v.domain params (v.domain.width - length p.params) ps) (sym firsts) m; values = means })

      by : (role : Role) → is_input role ≡ false → RoleGives role (points ≡ []) (AreMembers v.domain params (v.domain.width - length p.params) points × AreCoordinates params points) →
          RoleGives role (get after x ≡ None) (MatchOption (get after x) ⊥ (IsMeaningTable p tables params x v))
      by Input i h = cc
      by Output i h = table_of h.0
      by Local i h = table_of h.0

-- before the first table is put
pub empty-beyond : (p : System) (tables : Tables) (params : List ℤ) (values : Tables) (x : ℕ) → values ≡ empty → length p.variables ≤ x → HasTable p tables params values x
empty-beyond p tables params values x e h =
    subst (λ o. MatchOption o (get values x ≡ None) (λ (w : Variable). RoleGives w.role (get values x ≡ None) (MatchOption (get values x) ⊥ (IsMeaningTable p tables params x w)))) (sym (slice_get_past p.variables x h))
    (ap (λ (m : Tables). get m x) e ∙ get-empty nat_cmp x)

pub empty-none : (values : Tables) (x : ℕ) → values ≡ empty → get values x ≡ None
empty-none values x e = ap (λ (m : Tables). get m x) e ∙ get-empty nat_cmp x

-- the last of the lists that are left
pub last-points : (whole points rest : Points) (list : List (List ℤ)) → points ≡ rest ++ list ∷ [] → ((x : ℕ) → x < length points → points_of points x ≡ points_of whole x) → list ≡ points_of whole (length rest)
last-points whole points rest list e same =
    let here : points_of points (length rest) ≡ list = ap (λ ps. points_of ps (length rest)) e ∙ get_or-append_seam rest list [] [] in
    sym here ∙ same (length rest) (omega (arith, ap length e, length-append rest (list ∷ [])))
