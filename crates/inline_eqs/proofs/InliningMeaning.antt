-- With the body of a local put in where another equation reads it, each variable means what it meant.
use Rattle.std.proofs.Common.{◌≡◌, ℕ, List, ◌++◌, length, take, map, Bool, true, false, cond, Option, Some, None, refl, sym, ap, subst, ◌∙◌, arith}
use Rattle.std.specs.Prelude.{ℤ, pos, slice_get, MatchOption, ◌==◌, option_map}
use Rattle.std.specs.Option.{option_map_or}
use Rattle.std.proofs.lemmas.Bool.{eqb-true, eqb-false, ne_eqb}
use Rattle.az_lin.specs.Affine.{AffineMap, image_of, HoldsSome}
use Rattle.az_lin.specs.Columns.{reading}
use Rattle.az_ast.proofs.FixedPoint.{Meant, With}
use Rattle.az_ast.proofs.TermShapes.{within-point}
use Rattle.az_ast.specs.Certified.{IsCertified, ReadsWithin}
use Rattle.az_ast.specs.Meaning.{Means, IsInput, ReadGives, TermGives, body_of}
use Rattle.az_ast.specs.Points.{IsPointOf}
use Rattle.az_ast.specs.Shapes.{IsProgram}
use Rattle.az_ast.specs.System.{System}
use Rattle.az_ast.specs.Tables.{Tables}
use Rattle.az_ast.specs.Term.{Term, constant, access}
use Rattle.az_ast.specs.declared.program.Variable.{Variable}
use Rattle.expr_maps.proofs.PutLaws.{put-to, put-from, carries-reading}
use Rattle.expr_maps.proofs.Replaced.{Becomes, ComesFrom, TermGives-at, replaced-to, replaced-from, AtAccesses-map}
use Rattle.expr_maps.specs.Put.{put}
use Rattle.expr_maps.specs.Replaced.{replaced}
use Rattle.rewriting.proofs.Accesses.{IsAccess, IsReached}
use Rattle.rewriting.proofs.Bodies.{body-reached, accesses-of, first-of_point, sound-at_point, AtAccesses-sound}
use Rattle.rewriting.proofs.Lookups.{body_of-defined, body_of-defining, defined_as-changed}
use Rattle.rewriting.proofs.Moved.{read_moved, Carried, Means-carried, Returned, Means-returned, body-of_meaning, meaning-of_body}
use Rattle.rewriting.specs.Definitions.{definitions}
use Rattle.rewriting.specs.Promise.{KeepsMeaning, stays}
use Rattle.inline_eqs.specs.Inlining.{put_in, body_with, body_at, inlined}

module _ (p : System) (program : IsProgram p) (certified : IsCertified p) (into target : ℕ) (apart : (into == target) ≡ false)
    (w : Variable) (declared : slice_get p.variables target ≡ Some w) (written : IsInput w.role → ⊥) (body : Term) (defined : body_of p.equations target ≡ Some body) where
  abbrev q : System
  q = inlined p into target

  abbrev n : ℕ
  n = length p.params

  abbrev At : ℕ → AffineMap → Term
  At = put_in n target (body_at p target)

  abbrev Same : ℕ → List ℤ → List ℤ → List ℤ
  Same x ps k = k

  abbrev Number : ℕ → ℕ
  Number x = x

  abbrev Allowed : ℕ → List ℤ → List ℤ → Type 0
  Allowed x ps k = HoldsSome p.pdom ps

  body-is : body_at p target ≡ body
  body-is = ap (λ o. option_map_or (λ t. t) o (constant (pos 0))) defined

  body-there : (x : ℕ) → body_of q.equations x ≡ option_map (body_with n into target (body_at p target) x) (body_of p.equations x)
  body-there x =
      body_of-defining (map (λ d. (d.0, body_with n into target (body_at p target) d.0 d.1)) (definitions p)) x
      ∙ (defined_as-changed (body_with n into target (body_at p target)) (definitions p) x
      ∙ ap (option_map (body_with n into target (body_at p target) x)) (sym (body_of-defined p.equations x)))

  -- the target's own body stays
  target-there : body_of q.equations target ≡ Some (body_at p target)
  target-there =
      body-there target
      ∙ (ap (option_map (body_with n into target (body_at p target) target)) defined
      ∙ (ap (λ b. Some (cond b (replaced At body) body)) (ne_eqb target into (λ s. eqb-false into target apart (sym s))) ∙ ap Some (sym body-is)))

  target-here : body_of p.equations target ≡ Some (body_at p target)
  target-here = defined ∙ ap Some (sym body-is)

  module _ (tables : Tables) where
    -- an access to the target has what the target's body has where it reads
    put-has : (f : AffineMap) (ps k y : List ℤ) (v : ℤ) → IsReached n (ps ++ k) (IsAccess n p.variables) target f y
        → Means q tables (take n y) target (image_of f y) v → With q (Meant q tables) (put (reading n f) (body_at p target)) y v
    put-has f ps k y v reached m =
        put-from n (Meant q tables) (body_at p target) (reading n f) y (take n y ++ image_of f y) v
        (carries-reading n f y reached.own.widths (sym reached.width) (omega (arith, reached.width, reached.long)))
        (body-of_meaning q tables target w declared written (body_at p target) target-there (take n y) (image_of f y) v m)

    has-put : (f : AffineMap) (ps k y : List ℤ) (v : ℤ) → HoldsSome p.pdom (take n y) → IsReached n (ps ++ k) (IsAccess n p.variables) target f y → ReadsWithin p target f y
        → With q (Returned p q tables Number Same Allowed) (put (reading n f) (body_at p target)) y v → Means p tables (take n y) target (image_of f y) v
    has-put f ps k y v held reached within g =
        let e = body_at p target in
        let there = take n y ++ image_of f y in
        let point : IsPointOf n w.domain (take n y) (image_of f y)
        = subst (λ o. MatchOption o ⊥ (λ (u : Variable). IsPointOf n u.domain (take n y) (image_of f y))) declared (within-point p target f y reached.long reached.own.arity within) in
        let over : With q (Returned p q tables Number Same Allowed) e there v
        = put-to n (Returned p q tables Number Same Allowed) e (reading n f) y there v
        (carries-reading n f y reached.own.widths (sym reached.width) (omega (arith, reached.width, reached.long))) g in
        meaning-of_body p tables target w declared written e target-here (take n y) (image_of f y) v point
        (TermGives-at n (Returned p q tables Number Same Allowed) (Meant p tables) e there v
        (AtAccesses-map (IsReached n there (IsAccess n p.variables)) (λ x m z. (u : ℤ) → Returned p q tables Number Same Allowed x (take n z) (image_of m z) u → Means p tables (take n z) x (image_of m z) u)
        (λ x m z own u r. r x (image_of m z) (subst (HoldsSome p.pdom) (sym (own.kept ∙ first-of_point p program target w declared e target-here (take n y) (image_of f y) point)) held) refl refl) e there
        (body-reached p program target w declared e target-here (take n y) (image_of f y) point (IsAccess n p.variables) (accesses-of p program target w declared e target-here)))
        over)

    -- each access, forth and back
    becomes : (ps k : List ℤ) → HoldsSome p.pdom ps → take n (ps ++ k) ≡ ps → (x : ℕ) (f : AffineMap) (y : List ℤ) → IsReached n (ps ++ k) (IsAccess n p.variables) x f y
        → Becomes n (Carried p q tables Number Same Allowed) (Meant q tables) At x f y
    becomes ps k held first x f y reached v m = by (x == target) refl (m (subst (HoldsSome p.pdom) (sym (reached.kept ∙ first)) held))
      where
        by : (b : Bool) → (x == target) ≡ b → Means q tables (take n y) x (image_of f y) v → TermGives n (Meant q tables) (cond b (put (reading n f) (body_at p target)) (access x f)) y v
        by true same m =
            let is = eqb-true x target same in
            put-has f ps k y v (subst (λ z. IsReached n (ps ++ k) (IsAccess n p.variables) z f y) is reached) (subst (λ z. Means q tables (take n y) z (image_of f y) v) is m)
        by false same m = m

    comes : (ps k : List ℤ) → HoldsSome p.pdom ps → take n (ps ++ k) ≡ ps → (x : ℕ) (f : AffineMap) (y : List ℤ) → IsReached n (ps ++ k) (IsAccess n p.variables) x f y → ReadsWithin p x f y
        → ComesFrom n (Meant p tables) (Returned p q tables Number Same Allowed) At x f y
    comes ps k held first x f y reached within v g = by (x == target) refl g
      where
        allowed : HoldsSome p.pdom (take n y)
        allowed = subst (HoldsSome p.pdom) (sym (reached.kept ∙ first)) held

        by : (b : Bool) → (x == target) ≡ b → TermGives n (Returned p q tables Number Same Allowed) (cond b (put (reading n f) (body_at p target)) (access x f)) y v → Means p tables (take n y) x (image_of f y) v
        by true same g =
            let is = eqb-true x target same in
            subst (λ z. Means p tables (take n y) z (image_of f y) v) (sym is)
            (has-put f ps k y v allowed (subst (λ z. IsReached n (ps ++ k) (IsAccess n p.variables) z f y) is reached) (subst (λ z. ReadsWithin p z f y) is within) g)
        by false same g = g x (image_of f y) allowed refl refl

    forth : (x : ℕ) (ps k : List ℤ) (v : ℤ) → Allowed x ps k → ReadGives p tables (With p (Carried p q tables Number Same Allowed)) x ps k v → ReadGives q tables (With q (Meant q tables)) x ps k v
    forth x ps k v held g =
        read_moved p q tables (With p (Carried p q tables Number Same Allowed)) (With q (Meant q tables)) x ps k x k v
        (λ u here. (u, here.0, refl, here.1))
        (λ u here input t. t)
        (λ u here writes e is.
        let first = first-of_point p program x u here.0 e is ps k here.1 in
        let reached = body-reached p program x u here.0 e is ps k here.1 (IsAccess n p.variables) (accesses-of p program x u here.0 e is) in (
          body_with n into target (body_at p target) x e,
          body-there x ∙ ap (option_map (body_with n into target (body_at p target) x)) is,
          λ h. into-or_not (x == into) e (ps ++ k) v
              (replaced-to n (Carried p q tables Number Same Allowed) (Meant q tables) At e (ps ++ k) v
              (AtAccesses-map (IsReached n (ps ++ k) (IsAccess n p.variables)) (Becomes n (Carried p q tables Number Same Allowed) (Meant q tables) At) (becomes ps k held first) e (ps ++ k) reached) h)
              (TermGives-at n (Carried p q tables Number Same Allowed) (Meant q tables) e (ps ++ k) v
              (AtAccesses-map (IsReached n (ps ++ k) (IsAccess n p.variables)) (λ y f z. (c : ℤ) → Carried p q tables Number Same Allowed y (take n z) (image_of f z) c → Means q tables (take n z) y (image_of f z) c)
              (λ y f z own c m. m (subst (HoldsSome p.pdom) (sym (own.kept ∙ first)) held)) e (ps ++ k) reached) h),
        ))
        g
      where
        into-or_not : (b : Bool) (e : Term) (z : List ℤ) (c : ℤ) → With q (Meant q tables) (replaced At e) z c → With q (Meant q tables) e z c → With q (Meant q tables) (cond b (replaced At e) e) z c
        into-or_not true e z c h g = h
        into-or_not false e z c h g = g

    back : (x : ℕ) (ps k : List ℤ) (v : ℤ) → Allowed x ps k → ReadGives q tables (With q (Returned p q tables Number Same Allowed)) x ps k v → ReadGives p tables (With p (Meant p tables)) x ps k v
    back x ps k v held g =
        read_moved q p tables (With q (Returned p q tables Number Same Allowed)) (With p (Meant p tables)) x ps k x k v
        (λ u here. (u, here.0, refl, here.1))
        (λ u here input t. t)
        (λ u here writes f there.
        let old = body-was f there in
        let e = old.0 in
        let first = first-of_point p program x u here.0 e old.1 ps k here.1 in
        let reached = body-reached p program x u here.0 e old.1 ps k here.1 (IsAccess n p.variables) (accesses-of p program x u here.0 e old.1) in
        let sound = sound-at_point p program x u here.0 e old.1 ps k here.1 certified held in (
          e,
          old.1,
          λ h. into-or_not (x == into) e (ps ++ k) v
              (λ r. replaced-from n (Meant p tables) (Returned p q tables Number Same Allowed) At e (ps ++ k) v
              (AtAccesses-sound p (IsReached n (ps ++ k) (IsAccess n p.variables)) (ComesFrom n (Meant p tables) (Returned p q tables Number Same Allowed) At) (comes ps k held first) e (ps ++ k) reached sound) r)
              (λ r. TermGives-at n (Returned p q tables Number Same Allowed) (Meant p tables) e (ps ++ k) v
              (AtAccesses-map (IsReached n (ps ++ k) (IsAccess n p.variables)) (λ y m z. (c : ℤ) → Returned p q tables Number Same Allowed y (take n z) (image_of m z) c → Means p tables (take n z) y (image_of m z) c)
              (λ y m z own c r. r y (image_of m z) (subst (HoldsSome p.pdom) (sym (own.kept ∙ first)) held) refl refl) e (ps ++ k) reached) r)
              (subst (λ t. With q (Returned p q tables Number Same Allowed) t (ps ++ k) v) (sym old.2) h),
        ))
        g
      where
        into-or_not : (b : Bool) (e : Term) (z : List ℤ) (c : ℤ) → (With q (Returned p q tables Number Same Allowed) (replaced At e) z c → With p (Meant p tables) e z c)
            → (With q (Returned p q tables Number Same Allowed) e z c → With p (Meant p tables) e z c) → With q (Returned p q tables Number Same Allowed) (cond b (replaced At e) e) z c → With p (Meant p tables) e z c
        into-or_not true e z c h g r = h r
        into-or_not false e z c h g r = g r

        body-was : (f : Term) → body_of q.equations x ≡ Some f → (e : Term) × (body_of p.equations x ≡ Some e) × (body_with n into target (body_at p target) x e ≡ f)
        body-was f there = by (body_of p.equations x) refl (sym (body-there x) ∙ there)
          where
            by : (o : Option Term) → body_of p.equations x ≡ o → option_map (body_with n into target (body_at p target) x) o ≡ Some f → (e : Term) × (body_of p.equations x ≡ Some e) × (body_with n into target (body_at p target) x e ≡ f)
            by None is h = cc
            by (Some e) is h = (e, is, ap (λ o. option_map_or (λ t. t) o f) h)

  pub inlining-keeps : KeepsMeaning p q stays
  inlining-keeps tables params x k v held sized = (
    Means-carried p q tables Number Same Allowed (forth tables) x params k v held,
    Means-returned p q tables Number Same Allowed (back tables) x params k v held,
  )
