-- With a local under other coordinates, each variable means what it meant, the local where its points have gone.
use Rattle.std.proofs.Common.{◌≡◌, ◌↔◌, ℕ, ◌+◌, ◌-◌, ◌≤◌, List, ◌++◌, length, take, map, Bool, true, false, cond, Option, Some, None, All, refl, sym, ap, subst, ◌∙◌, arith, length-append}
use Rattle.std.specs.Prelude.{ℤ, slice_get, MatchOption, ◌==◌, option_map}
use Rattle.std.specs.Option.{option_map_or}
use Rattle.std.proofs.Math.Seq.{take-append_seam}
use Rattle.std.proofs.lemmas.Bool.{eqb-true}
use Rattle.std.proofs.lemmas.List.{length-map}
use Rattle.std.proofs.lemmas.List.FromFn.{length-map-range_with_len}
use Rattle.az_lin.proofs.Columns.{image_of-reading}
use Rattle.az_lin.proofs.Substitution.{image_of-composed}
use Rattle.az_lin.specs.Affine.{AffineMap, HasWidth, image_of, value_at}
use Rattle.az_lin.specs.Columns.{reading, unit_row, unit_rows}
use Rattle.az_lin.specs.Substitution.{composed_map}
use Rattle.az_ast.proofs.FixedPoint.{Meant, With}
use Rattle.az_ast.specs.Meaning.{Reads, Means, IsInput, ReadGives, TermGives, body_of}
use Rattle.az_ast.specs.Placed.{IsAtWidth}
use Rattle.az_ast.specs.Points.{IsPointOf}
use Rattle.az_ast.specs.Shapes.{IsProgram, indices}
use Rattle.az_ast.specs.System.{System}
use Rattle.az_ast.specs.Tables.{Tables, InputGives}
use Rattle.az_ast.specs.Term.{Term}
use Rattle.az_ast.specs.declared.program.Variable.{Variable}
use Rattle.expr_maps.proofs.ColumnLaws.{put-placed}
use Rattle.expr_maps.proofs.PutLaws.{put-to, put-from, carries-reading, domain_same}
use Rattle.expr_maps.proofs.Replaced.{Becomes, ComesFrom, replaced-to, replaced-from, AtAccesses-map}
use Rattle.expr_maps.specs.Put.{put, Carries}
use Rattle.expr_maps.specs.Replaced.{replaced}
use Rattle.expr_places.specs.Reached.{AtAccesses}
use Rattle.rewriting.proofs.Accesses.{IsAccess, IsReached, accesses-reached, put-accesses}
use Rattle.rewriting.proofs.Bodies.{IsBody, body-of, body-reached, accesses-of, wide-domain}
use Rattle.rewriting.proofs.Lookups.{body_of-defined, body_of-defining, defined_as-changed}
use Rattle.rewriting.proofs.Moved.{read_moved, Carried, Means-carried, Returned, Means-returned}
use Rattle.rewriting.specs.Definitions.{definitions, defined_as}
use Rattle.rewriting.specs.Promise.{KeepsMeaning, HasIndices}
use Rattle.change_basis.specs.Basis.{moved_map, moved_access, led_back, moved_body, moved_variable, rebased, moves_by}
use Rattle.change_basis.specs.Inner.{Undoes}
use Rattle.change_basis.proofs.Changed.{changed-at}

-- what a map and its inverse give
pub record AreInverse (p : System) (w : Variable) (basis inverse : AffineMap) : Type 0 where
  pub width : basis.width ≡ w.domain.width
  pub rows : length basis.rows ≡ indices (length p.params) w
  pub inverse_width : inverse.width ≡ w.domain.width
  pub inverse_rows : length inverse.rows ≡ indices (length p.params) w
  pub widths : All (HasWidth inverse.width) inverse.rows
  pub undone : (ps k : List ℤ) → length ps ≡ length p.params → length k ≡ length basis.rows → image_of inverse (ps ++ image_of basis (ps ++ k)) ≡ k

-- from the inversion of a map that has the target's columns and rows
pub inverse-from : (p : System) (w : Variable) (basis inverse : AffineMap) → Undoes (length p.params) basis inverse → basis.width ≡ w.domain.width → length basis.rows ≡ indices (length p.params) w → AreInverse p w basis inverse
inverse-from p w basis inverse undoes width rows = record {
  width = width;
  rows = rows;
  inverse_width = undoes.width ∙ width;
  inverse_rows = undoes.rows ∙ rows;
  widths = undoes.widths;
  undone = undoes.undone;
}

module _ (p : System) (program : IsProgram p) (target : ℕ) (w : Variable) (declared : slice_get p.variables target ≡ Some w) (written : IsInput w.role → ⊥)
    (basis inverse : AffineMap) (inverts : AreInverse p w basis inverse) (narrow : length p.params ≤ w.domain.width) where
  abbrev q : System
  q = rebased p target basis inverse

  abbrev n : ℕ
  n = length p.params

  abbrev At : ℕ → AffineMap → Term
  At = moved_access n target basis

  abbrev Moved : ℕ → List ℤ → List ℤ → List ℤ
  Moved x ps k = cond (x == target) (image_of basis (ps ++ k)) k

  abbrev Number : ℕ → ℕ
  Number x = x

  abbrev Allowed : ℕ → List ℤ → List ℤ → Type 0
  Allowed x ps k = HasIndices p x k

  abbrev Back : AffineMap
  Back = reading n inverse

  -- ---- points

  gone-long : (ps k : List ℤ) → length ps ≡ n → length (ps ++ image_of basis (ps ++ k)) ≡ w.domain.width
  gone-long ps k long = omega (arith, length-append ps (image_of basis (ps ++ k)), length-map basis.rows (λ row. value_at row (ps ++ k)), inverts.rows, long, narrow)

  back-rows : length Back.rows ≡ w.domain.width
  back-rows = omega (arith, length-append (unit_rows inverse.width 0 n) inverse.rows, length-map-range_with_len (λ column. unit_row inverse.width column) 0 n, inverts.inverse_rows, narrow)

  -- the inverse leads back
  carries : (ps k : List ℤ) → length ps ≡ n → length k ≡ indices n w → Carries n Back (ps ++ image_of basis (ps ++ k)) (ps ++ k)
  carries ps k long sized =
      let z = ps ++ image_of basis (ps ++ k) in
      let first : take n z ≡ ps = ap (λ m. take m z) (sym long) ∙ take-append_seam ps (image_of basis (ps ++ k)) in
      let rest : image_of inverse z ≡ k = inverts.undone ps k long (sized ∙ sym inverts.rows) in
      subst (λ y. Carries n Back z y) (ap (λ a. a ++ image_of inverse z) first ∙ ap (λ a. ps ++ a) rest)
      (carries-reading n inverse z inverts.widths (gone-long ps k long ∙ sym inverts.inverse_width) (omega (arith, inverts.inverse_width, narrow)))

  -- a variable's points go to the points that it then has
  point-there : (ps k : List ℤ) → length k ≡ indices n w → IsPointOf n w.domain ps k ↔ IsPointOf n (moved_variable n inverse w).domain ps (image_of basis (ps ++ k))
  point-there ps k sized = (
    λ point.
        let over = domain_same n Back w.domain (ps ++ image_of basis (ps ++ k)) (ps ++ k) (carries ps k point.parameters sized) in
        record { parameters = point.parameters; member = (there, over.1 point.member.1) },
    λ point.
        let over = domain_same n Back w.domain (ps ++ image_of basis (ps ++ k)) (ps ++ k) (carries ps k point.parameters sized) in
        record { parameters = point.parameters; member = (sized, over.0 point.member.1) },
  )
    where
      there : length (image_of basis (ps ++ k)) ≡ inverse.width - n
      there = length-map basis.rows (λ row. value_at row (ps ++ k)) ∙ (inverts.rows ∙ ap (λ m. m - n) (sym inverts.inverse_width))

  -- ---- variables and bodies

  abbrev Changed : ℕ → Variable → Variable
  Changed x u = cond (x == target) (moved_variable n inverse u) u

  variable-there : (x : ℕ) (u : Variable) → slice_get p.variables x ≡ Some u → slice_get q.variables x ≡ Some (Changed x u)
  variable-there x u here = changed-at (moved_variable n inverse) p.variables target x ∙ ap (option_map (λ v. Changed x v)) here

  variable-was : (x : ℕ) (u : Variable) → slice_get q.variables x ≡ Some u → (v : Variable) × (slice_get p.variables x ≡ Some v) × (Changed x v ≡ u)
  variable-was x u there = by (slice_get p.variables x) refl (sym (changed-at (moved_variable n inverse) p.variables target x) ∙ there)
    where
      by : (o : Option Variable) → slice_get p.variables x ≡ o → option_map (λ v. Changed x v) o ≡ Some u → (v : Variable) × (slice_get p.variables x ≡ Some v) × (Changed x v ≡ u)
      by None is h = cc
      by (Some v) is h = (v, is, ap (λ o. option_map_or (λ a. a) o u) h)

  same-role : (b : Bool) (u : Variable) → u.role ≡ (cond b (moved_variable n inverse u) u).role
  same-role true u = refl
  same-role false u = refl

  body-there : (x : ℕ) → body_of q.equations x ≡ option_map (moved_body n target basis inverse x) (body_of p.equations x)
  body-there x =
      body_of-defining (map (λ d. (d.0, moved_body n target basis inverse d.0 d.1)) (definitions p)) x
      ∙ (defined_as-changed (moved_body n target basis inverse) (definitions p) x
      ∙ ap (option_map (moved_body n target basis inverse x)) (sym (body_of-defined p.equations x)))

  is-target : (x : ℕ) (u : Variable) → slice_get p.variables x ≡ Some u → (x == target) ≡ true → w ≡ u
  is-target x u here same = ap (λ o. option_map_or (λ a. a) o w) (sym declared ∙ (ap (λ y. slice_get p.variables y) (sym (eqb-true x target same)) ∙ here))

  sized-at : (x : ℕ) (u : Variable) (k : List ℤ) → slice_get p.variables x ≡ Some u → HasIndices p x k → length k ≡ indices n u
  sized-at x u k here h = subst (λ o. MatchOption o ⊥ (λ v. length k ≡ indices n v)) here h

  -- a point of a variable, forth and back
  moved-point : (x : ℕ) (u : Variable) (ps k : List ℤ) → slice_get p.variables x ≡ Some u → HasIndices p x k → IsPointOf n u.domain ps k ↔ IsPointOf n (Changed x u).domain ps (Moved x ps k)
  moved-point x u ps k here sized = by (x == target) refl
    where
      by : (b : Bool) → (x == target) ≡ b → IsPointOf n u.domain ps k ↔ IsPointOf n (cond b (moved_variable n inverse u) u).domain ps (cond b (image_of basis (ps ++ k)) k)
      by true same =
          let is = is-target x u here same in
          subst (λ (v : Variable). IsPointOf n v.domain ps k ↔ IsPointOf n (moved_variable n inverse v).domain ps (image_of basis (ps ++ k))) is
          (point-there ps k (subst (λ (v : Variable). length k ≡ indices n v) (sym is) (sized-at x u k here sized)))
      by false same = (λ h. h, λ h. h)

  -- an input stays
  input-stays : (x : ℕ) (u : Variable) (ps k : List ℤ) → slice_get p.variables x ≡ Some u → IsInput u.role → Moved x ps k ≡ k
  input-stays x u ps k here input = by (x == target) refl
    where
      by : (b : Bool) → (x == target) ≡ b → cond b (image_of basis (ps ++ k)) k ≡ k
      by true same = absurd (written (subst (λ (v : Variable). IsInput v.role) (sym (is-target x u here same)) input))
      by false same = refl

  -- ---- what an access reads

  map-image : (x : ℕ) (f : AffineMap) (z y : List ℤ) → IsReached n z (IsAccess n p.variables) x f y → image_of (moved_map n target basis x f) y ≡ Moved x (take n y) (image_of f y)
  map-image x f z y reached = by (x == target)
    where
      by : (b : Bool) → image_of (cond b (composed_map basis (reading n f)) f) y ≡ cond b (image_of basis (take n y ++ image_of f y)) (image_of f y)
      by true =
          image_of-composed basis (reading n f) y (carries-reading n f y reached.own.widths (sym reached.width) (omega (arith, reached.width, reached.long))).rows
          ∙ ap (image_of basis) (image_of-reading n f y (omega (arith, reached.width, reached.long)) reached.long)
      by false = refl

  access-sized : (x : ℕ) (f : AffineMap) (y : List ℤ) → IsAccess n p.variables x f → HasIndices p x (image_of f y)
  access-sized x f y own = by (slice_get p.variables x) own.arity
    where
      by : (o : Option Variable) → MatchOption o ⊥ (λ (v : Variable). length f.rows ≡ indices n v) → MatchOption o ⊥ (λ (v : Variable). length (image_of f y) ≡ indices n v)
      by None h = absurd h
      by (Some v) h = length-map f.rows (λ row. value_at row y) ∙ h

  -- ---- the body over the new coordinates

  module _ (x : ℕ) (u : Variable) (here : slice_get p.variables x ≡ Some u) (e : Term) (defined : body_of p.equations x ≡ Some e) (ps k : List ℤ) (point : IsPointOf n u.domain ps k) where
    -- every access of it is reached at the point there
    led-reached : AtAccesses (IsReached n (ps ++ Moved x ps k) (IsAccess n p.variables)) (led_back n target inverse x e) (ps ++ Moved x ps k)
    led-reached = by (x == target) refl
      where
        by : (b : Bool) → (x == target) ≡ b
            → AtAccesses (IsReached n (ps ++ cond b (image_of basis (ps ++ k)) k) (IsAccess n p.variables)) (cond b (put Back e) e) (ps ++ cond b (image_of basis (ps ++ k)) k)
        by true same =
            let is = is-target x u here same in
            let z = ps ++ image_of basis (ps ++ k) in
            let long : length z ≡ inverse.width = gone-long ps k point.parameters ∙ sym inverts.inverse_width in
            let own = body-of p program x u here e defined in
            let width : u.domain.width ≡ length Back.rows = ap (λ (v : Variable). v.domain.width) (sym is) ∙ sym back-rows in
            accesses-reached n (length p.variables) z (IsAccess n p.variables) (put Back e) (omega (arith, long, inverts.inverse_width, narrow))
            (subst (λ m. IsAtWidth (length p.variables) (put Back e) m) (sym long) (put-placed (length p.variables) Back e (subst (λ m. IsAtWidth (length p.variables) e m) width own.placed)))
            (put-accesses n p.variables Back e (accesses-of p program x u here e defined))
        by false same = body-reached p program x u here e defined ps k point (IsAccess n p.variables) (accesses-of p program x u here e defined)

    -- and it has the values there that the body had
    led : (reads : Reads) (v : ℤ) → TermGives n reads e (ps ++ k) v ↔ TermGives n reads (led_back n target inverse x e) (ps ++ Moved x ps k) v
    led reads v = by (x == target) refl
      where
        by : (b : Bool) → (x == target) ≡ b → TermGives n reads e (ps ++ k) v ↔ TermGives n reads (cond b (put Back e) e) (ps ++ cond b (image_of basis (ps ++ k)) k) v
        by true same =
            let is = is-target x u here same in
            let sized : length k ≡ indices n w = subst (λ (a : Variable). length k ≡ indices n a) (sym is) point.member.0 in
            let over = carries ps k point.parameters sized in
            (λ g. put-from n reads e Back (ps ++ image_of basis (ps ++ k)) (ps ++ k) v over g, λ g. put-to n reads e Back (ps ++ image_of basis (ps ++ k)) (ps ++ k) v over g)
        by false same = (λ g. g, λ g. g)

  -- ---- one step, forth and back

  module _ (tables : Tables) where
    forth : (x : ℕ) (ps k : List ℤ) (v : ℤ) → Allowed x ps k → ReadGives p tables (With p (Carried p q tables Number Moved Allowed)) x ps k v → ReadGives q tables (With q (Meant q tables)) x ps (Moved x ps k) v
    forth x ps k v sized g =
        read_moved p q tables (With p (Carried p q tables Number Moved Allowed)) (With q (Meant q tables)) x ps k x (Moved x ps k) v
        (λ u here. (Changed x u, variable-there x u here.0, same-role (x == target) u, (moved-point x u ps k here.0 sized).0 here.1))
        (λ u here input t. subst (λ l. InputGives tables x l v) (sym (input-stays x u ps k here.0 input)) t)
        (λ u here writes e is. (
          moved_body n target basis inverse x e,
          body-there x ∙ ap (option_map (moved_body n target basis inverse x)) is,
          λ h. replaced-to n (Carried p q tables Number Moved Allowed) (Meant q tables) At (led_back n target inverse x e) (ps ++ Moved x ps k) v
              (AtAccesses-map (IsReached n (ps ++ Moved x ps k) (IsAccess n p.variables)) (Becomes n (Carried p q tables Number Moved Allowed) (Meant q tables) At)
              (λ y f z own c m. subst (λ l. Means q tables (take n z) y l c) (sym (map-image y f (ps ++ Moved x ps k) z own)) (m (access-sized y f z own.own)))
              (led_back n target inverse x e) (ps ++ Moved x ps k) (led-reached x u here.0 e is ps k here.1))
              ((led x u here.0 e is ps k here.1 (Carried p q tables Number Moved Allowed) v).0 h),
        ))
        g

    back : (x : ℕ) (ps k : List ℤ) (v : ℤ) → Allowed x ps k → ReadGives q tables (With q (Returned p q tables Number Moved Allowed)) x ps (Moved x ps k) v → ReadGives p tables (With p (Meant p tables)) x ps k v
    back x ps k v sized g =
        read_moved q p tables (With q (Returned p q tables Number Moved Allowed)) (With p (Meant p tables)) x ps (Moved x ps k) x k v
        (λ a here. let was = variable-was x a here.0 in (was.0, was.1, role-was was.0 a was.2, point-was was.0 a was.1 was.2 here.1))
        (λ a here input t.
        let was = variable-was x a here.0 in
        subst (λ l. InputGives tables x l v) (input-stays x was.0 ps k was.1 (subst IsInput (role-was was.0 a was.2) input)) t)
        (λ a here writes f there.
        let was = variable-was x a here.0 in
        let old = body-was f there in
        let point = point-was was.0 a was.1 was.2 here.1 in (
          old.0,
          old.1,
          λ h. (led x was.0 was.1 old.0 old.1 ps k point (Meant p tables) v).1
              (replaced-from n (Meant p tables) (Returned p q tables Number Moved Allowed) At (led_back n target inverse x old.0) (ps ++ Moved x ps k) v
              (AtAccesses-map (IsReached n (ps ++ Moved x ps k) (IsAccess n p.variables)) (ComesFrom n (Meant p tables) (Returned p q tables Number Moved Allowed) At)
              (λ y m z own c r. r y (image_of m z) (access-sized y m z own.own) refl (map-image y m (ps ++ Moved x ps k) z own))
              (led_back n target inverse x old.0) (ps ++ Moved x ps k) (led-reached x was.0 was.1 old.0 old.1 ps k point))
              (subst (λ t. With q (Returned p q tables Number Moved Allowed) t (ps ++ Moved x ps k) v) (sym old.2) h)),
        ))
        g
      where
        role-was : (u a : Variable) → Changed x u ≡ a → a.role ≡ u.role
        role-was u a is = ap (λ (b : Variable). b.role) (sym is) ∙ sym (same-role (x == target) u)

        point-was : (u a : Variable) → slice_get p.variables x ≡ Some u → Changed x u ≡ a → IsPointOf n a.domain ps (Moved x ps k) → IsPointOf n u.domain ps k
        point-was u a here is point = (moved-point x u ps k here sized).1 (subst (λ (b : Variable). IsPointOf n b.domain ps (Moved x ps k)) (sym is) point)

        body-was : (f : Term) → body_of q.equations x ≡ Some f → (e : Term) × (body_of p.equations x ≡ Some e) × (moved_body n target basis inverse x e ≡ f)
        body-was f there = by (body_of p.equations x) refl (sym (body-there x) ∙ there)
          where
            by : (o : Option Term) → body_of p.equations x ≡ o → option_map (moved_body n target basis inverse x) o ≡ Some f → (e : Term) × (body_of p.equations x ≡ Some e) × (moved_body n target basis inverse x e ≡ f)
            by None is h = cc
            by (Some e) is h = (e, is, ap (λ o. option_map_or (λ t. t) o f) h)

  pub basis-keeps : KeepsMeaning p q (moves_by target basis)
  basis-keeps tables params x k v held sized = (
    Means-carried p q tables Number Moved Allowed (forth tables) x params k v sized,
    Means-returned p q tables Number Moved Allowed (back tables) x params k v sized,
  )
