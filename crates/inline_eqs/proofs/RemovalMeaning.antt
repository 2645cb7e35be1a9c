-- Without a local that no other equation reads, all other variables mean what they meant.
use Rattle.std.proofs.Common.{◌≡◌, ℕ, ◌<◌, List, ◌++◌, length, Bool, true, false, cond, Option, Some, None, refl, sym, ap, subst, ◌∙◌, arith, inl, inr}
use Rattle.std.specs.Prelude.{ℤ, slice_get, MatchOption, ◌==◌, ◌↔◌, option_map, filter_map}
use Rattle.std.specs.Option.{option_map_or}
use Rattle.std.proofs.lemmas.Bool.{cases_order}
use Rattle.az_lin.specs.Affine.{image_of}
use Rattle.az_ast.proofs.FixedPoint.{Meant, With}
use Rattle.az_ast.specs.Meaning.{Means, IsInput, ReadGives, body_of}
use Rattle.az_ast.specs.Placed.{rank}
use Rattle.az_ast.specs.Shapes.{IsProgram}
use Rattle.az_ast.specs.System.{System}
use Rattle.az_ast.specs.Tables.{Tables, InputGives}
use Rattle.az_ast.specs.Term.{Term}
use Rattle.az_ast.specs.declared.program.Role.{Role}
use Rattle.az_ast.specs.declared.program.Role.TheVariants.{Input, Output, Local}
use Rattle.az_ast.specs.declared.program.Variable.{Variable}
use Rattle.expr_maps.proofs.Replaced.{Becomes, ComesFrom, replaced-to, replaced-from, AtAccesses-map}
use Rattle.expr_maps.specs.Replaced.{replaced}
use Rattle.rewriting.proofs.Accesses.{IsOther, IsReached, others-unread}
use Rattle.rewriting.proofs.Bodies.{body-reached}
use Rattle.rewriting.proofs.Lookups.{body_of-defined, body_of-defining}
use Rattle.rewriting.proofs.Moved.{read_moved, Carried, Means-carried, Returned, Means-returned}
use Rattle.rewriting.specs.Definitions.{definitions}
use Rattle.rewriting.specs.Named.{has_local_role}
use Rattle.rewriting.specs.Promise.{KeepsMeaning}
use Rattle.rewriting.specs.Reads.{reads}
use Rattle.inline_eqs.specs.Removal.{closed_up, renumbered, definition_without, without, moves_up}
use Rattle.inline_eqs.proofs.ClosedUp.{closed-before, item-same, defined-same, ranks}

rank-of_local : (role : Role) → has_local_role role ≡ true → rank role ≡ 2
rank-of_local Input h = cc
rank-of_local Output h = cc
rank-of_local Local h = refl

rank-of_input : (role : Role) → IsInput role → rank role ≡ 0
rank-of_input Input h = refl
rank-of_input Output h = absurd h
rank-of_input Local h = absurd h

module _ (p : System) (program : IsProgram p) (gone : ℕ) (left : Variable) (declared : slice_get p.variables gone ≡ Some left) (local : has_local_role left.role ≡ true)
    (unread : (y : ℕ) → (y == gone) ≡ false → (e : Term) → body_of p.equations y ≡ Some e → reads gone e ≡ false) where
  abbrev q : System
  q = without p gone

  abbrev n : ℕ
  n = length p.params

  -- inputs stand before it, so they keep their numbers
  input-stays : (x : ℕ) (u : Variable) → slice_get p.variables x ≡ Some u → IsInput u.role → closed_up gone x ≡ x
  input-stays x u here input = elim (cases_order x gone) [
    | inl same ↦ closed-before gone x (omega (arith, same))
    | inr apart ↦ elim apart [
      | inl l ↦ closed-before gone x (omega (arith, l))
      | inr l ↦ absurd (never l)
    ]
  ]
    where
      never : gone < x → ⊥
      never l =
          let order = ranks p.variables program.placed.order gone x left u l declared here in
          let two = rank-of_local left.role local in
          let zero = rank-of_input u.role input in
          omega (arith, order, two, zero)

  body-there : (x : ℕ) → (x == gone) ≡ false → body_of q.equations (closed_up gone x) ≡ option_map (replaced (renumbered gone)) (body_of p.equations x)
  body-there x other =
      body_of-defining (filter_map (definition_without gone) (definitions p)) (closed_up gone x)
      ∙ (defined-same gone (definitions p) x other ∙ ap (option_map (replaced (renumbered gone))) (sym (body_of-defined p.equations x)))

  abbrev Allowed : ℕ → List ℤ → List ℤ → Type 0
  Allowed x ps k = (x == gone) ≡ false

  abbrev Same : ℕ → List ℤ → List ℤ → List ℤ
  Same x ps k = k

  module _ (tables : Tables) where
    forth : (x : ℕ) (ps k : List ℤ) (v : ℤ) → Allowed x ps k → ReadGives p tables (With p (Carried p q tables (closed_up gone) Same Allowed)) x ps k v → ReadGives q tables (With q (Meant q tables)) (closed_up gone x) ps k v
    forth x ps k v other g =
        read_moved p q tables (With p (Carried p q tables (closed_up gone) Same Allowed)) (With q (Meant q tables)) x ps k (closed_up gone x) k v
        (λ u here. (u, item-same p.variables gone x other ∙ here.0, refl, here.1))
        (λ u here input t. subst (λ y. InputGives tables y k v) (sym (input-stays x u here.0 input)) t)
        (λ u here written e defined. (
          replaced (renumbered gone) e,
          body-there x other ∙ ap (option_map (replaced (renumbered gone))) defined,
          λ h. replaced-to n (Carried p q tables (closed_up gone) Same Allowed) (Meant q tables) (renumbered gone) e (ps ++ k) v
              (AtAccesses-map (IsReached n (ps ++ k) (IsOther gone)) (Becomes n (Carried p q tables (closed_up gone) Same Allowed) (Meant q tables) (renumbered gone))
              (λ y f z reached w m. m reached.own) e (ps ++ k)
              (body-reached p program x u here.0 e defined ps k here.1 (IsOther gone) (others-unread gone e (unread x other e defined)))) h,
        ))
        g

    back : (x : ℕ) (ps k : List ℤ) (v : ℤ) → Allowed x ps k → ReadGives q tables (With q (Returned p q tables (closed_up gone) Same Allowed)) (closed_up gone x) ps k v → ReadGives p tables (With p (Meant p tables)) x ps k v
    back x ps k v other g =
        read_moved q p tables (With q (Returned p q tables (closed_up gone) Same Allowed)) (With p (Meant p tables)) (closed_up gone x) ps k x k v
        (λ u here. (u, was u here.0, refl, here.1))
        (λ u here input t. subst (λ y. InputGives tables y k v) (input-stays x u (was u here.0) input) t)
        (λ u here written f defined.
        let old = body-was f defined in (
          old.0,
          old.1,
          λ h. replaced-from n (Meant p tables) (Returned p q tables (closed_up gone) Same Allowed) (renumbered gone) old.0 (ps ++ k) v
              (AtAccesses-map (IsReached n (ps ++ k) (IsOther gone)) (ComesFrom n (Meant p tables) (Returned p q tables (closed_up gone) Same Allowed) (renumbered gone))
              (λ y m z reached w r. r y (image_of m z) reached.own refl refl) old.0 (ps ++ k)
              (body-reached p program x u (was u here.0) old.0 old.1 ps k here.1 (IsOther gone) (others-unread gone old.0 (unread x other old.0 old.1))))
              (subst (λ t. With q (Returned p q tables (closed_up gone) Same Allowed) t (ps ++ k) v) (sym old.2) h),
        ))
        g
      where
        was : (u : Variable) → slice_get q.variables (closed_up gone x) ≡ Some u → slice_get p.variables x ≡ Some u
        was u there = sym (item-same p.variables gone x other) ∙ there

        body-was : (f : Term) → body_of q.equations (closed_up gone x) ≡ Some f → (e : Term) × (body_of p.equations x ≡ Some e) × (replaced (renumbered gone) e ≡ f)
        body-was f defined = by (body_of p.equations x) refl (sym (body-there x other) ∙ defined)
          where
            by : (o : Option Term) → body_of p.equations x ≡ o → option_map (replaced (renumbered gone)) o ≡ Some f → (e : Term) × (body_of p.equations x ≡ Some e) × (replaced (renumbered gone) e ≡ f)
            by None is h = cc
            by (Some e) is h = (e, is, ap (λ o. option_map_or (λ t. t) o f) h)

  abbrev There : Bool → ℕ → List ℤ → Option (ℕ × List ℤ)
  There b x k = cond b None (Some (closed_up gone x, k))

  pub removal-keeps : KeepsMeaning p q (moves_up gone)
  removal-keeps tables params x k v allowed sized = by (x == gone) refl
    where
      by : (b : Bool) → (x == gone) ≡ b → MatchOption (There b x k) (Unit {0}) (λ there. Means p tables params x k v ↔ Means q tables params there.0 there.1 v)
      by true h = tt
      by false h = (
        Means-carried p q tables (closed_up gone) Same Allowed (forth tables) x params k v h,
        Means-returned p q tables (closed_up gone) Same Allowed (back tables) x params k v h,
      )
