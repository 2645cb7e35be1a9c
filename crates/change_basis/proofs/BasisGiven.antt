-- What there being no reason against it gives: the target is a local of the map's columns and rows, and all that is
-- made of it can be made.
use Rattle.std.proofs.Common.{◌≡◌, ℕ, ◌+◌, ◌-◌, ◌<◌, ◌≤◌, List, [], ◌∷◌, ◌++◌, length, map, Bool, true, false, cond, not, ◌||◌, Option, Some, None, All, refl, sym, ap, subst, ◌∙◌, arith}
use Rattle.std.specs.Prelude.{slice_get, slice_index_or, MatchOption, IsTrue, ◌==◌}
use Rattle.std.specs.Option.{option_map_or}
use Rattle.std.proofs.lemmas.Bool.{eqb-true, not-false}
use Rattle.std.proofs.lemmas.Option.{get_or_from_slice_get, slice_get_within}
use Rattle.az_lin.specs.Affine.{AffineMap}
use Rattle.az_lin.specs.Columns.{reading}
use Rattle.az_ast.proofs.ProgramLaws.{few_parts, few_indices}
use Rattle.az_ast.proofs.ShapeParts.{none_holds, neither}
use Rattle.az_ast.specs.Meaning.{IsInput}
use Rattle.az_ast.specs.Placed.{IsAtWidth}
use Rattle.az_ast.specs.Shapes.{IsProgram, indices, of_variable}
use Rattle.az_ast.specs.System.{System}
use Rattle.az_ast.specs.Term.{Term, term}
use Rattle.az_ast.specs.Walks.{extra_under}
use Rattle.az_ast.specs.declared.program.Equation.{Equation}
use Rattle.az_ast.specs.declared.program.Variable.{Variable}
use Rattle.az_ast.specs.declared.reason.Reason.TheVariants.{Interface, Width}
use Rattle.expr_maps.proofs.ColumnLaws.{can_put, put-placed}
use Rattle.expr_maps.specs.Answers.{EachAccess}
use Rattle.expr_maps.specs.Columns.{CanPut}
use Rattle.expr_maps.specs.Put.{put}
use Rattle.rewriting.proofs.Accesses.{IsAccess, HasPlaceColumns, place-columns, put-accesses, EachAccess-both}
use Rattle.rewriting.proofs.FineParts.{AreFine}
use Rattle.rewriting.proofs.Locals.{local-declared, local-written, reading-rows}
use Rattle.rewriting.proofs.PlaceColumns.{equation-columns, equation-accesses}
use Rattle.rewriting.specs.Definitions.{Definition, definition_of, definitions}
use Rattle.rewriting.specs.Named.{name_of, is_local, has_local_role}
use Rattle.rewriting.specs.Promise.{KeepsMeaning}
use Rattle.change_basis.specs.Basis.{led_back, moved_body, moved_variable, with_changed, rebased, moves_by, basis_refusal}
use Rattle.change_basis.specs.Inner.{CanMove, CanLead, Undoes}
use Rattle.change_basis.proofs.BasisFine.{basis-fine}
use Rattle.change_basis.proofs.BasisMeaning.{AreInverse, inverse-from, basis-keeps}

module _ (p : System) (program : IsProgram p) (target : ℕ) (basis : AffineMap) (free : basis_refusal p target basis ≡ None) where
  abbrev n : ℕ
  n = length p.params

  abbrev IsMisfit : Variable → Bool
  IsMisfit v = not (basis.width == v.domain.width) || not (length basis.rows == indices n v)

  tests : (not (is_local p target) ≡ false) × (of_variable p.variables IsMisfit target ≡ false)
  tests =
      let rows = none_holds ((not (is_local p target), Interface (name_of p target)) ∷ (of_variable p.variables IsMisfit target, Width) ∷ []) free in
      (rows.0, rows.1.0)

  pub own : (w : Variable) × (slice_get p.variables target ≡ Some w) × (has_local_role w.role ≡ true)
  own = local-declared p target (not-false (is_local p target) tests.0)

  fitting : (not (basis.width == own.0.domain.width) ≡ false) × (not (length basis.rows == indices n own.0) ≡ false)
  fitting =
      neither (not (basis.width == own.0.domain.width)) (not (length basis.rows == indices n own.0))
      (subst (λ o. option_map_or IsMisfit o false ≡ false) own.1 tests.1)

  pub own-width : basis.width ≡ own.0.domain.width
  own-width = eqb-true basis.width own.0.domain.width (not-false (basis.width == own.0.domain.width) fitting.0)

  pub own-rows : length basis.rows ≡ indices n own.0
  own-rows = eqb-true (length basis.rows) (indices n own.0) (not-false (length basis.rows == indices n own.0) fitting.1)

  pub own-wide : n ≤ own.0.domain.width
  own-wide =
      subst (λ (v : Variable). n ≤ v.domain.width) (get_or_from_slice_get p.variables target own.0 own.0 own.1) (program.placed.domains target own.0 (slice_get_within p.variables target own.0 own.1))

  pub own-narrow : own.0.domain.width ≤ 16
  own-narrow =
      let few : indices n own.0 ≤ 8 = subst (λ (v : Variable). indices n v ≤ 8) (get_or_from_slice_get p.variables target own.0 own.0 own.1) (few_indices p program target own.0 (slice_get_within p.variables target own.0 own.1)) in
      omega (arith, few, (few_parts p program).1, own-wide)

  -- the map can be inverted
  pub square : basis.width ≡ n + length basis.rows
  square = omega (arith, own-width, own-rows, own-wide)

  pub narrow : basis.width ≤ 64
  narrow = omega (arith, own-width, own-narrow)

  module _ (inverse : AffineMap) (undoes : Undoes n basis inverse) where
    inverts : AreInverse p own.0 basis inverse
    inverts = inverse-from p own.0 basis inverse undoes own-width own-rows

    same-target : (x : ℕ) → (x == target) ≡ true → slice_get p.variables x ≡ Some own.0
    same-target x same = ap (λ y. slice_get p.variables y) (eqb-true x target same) ∙ own.1

    leads : (k : ℕ) (d : Equation) → k < length p.equations → CanLead n target inverse (slice_index_or p.equations k d).variable (term (slice_index_or p.equations k d).body)
    leads k d within same = (
      omega (arith, inverts.inverse_width, own-wide),
      can_put p program k d within own.0 (same-target (slice_index_or p.equations k d).variable same) (reading n inverse)
          (omega (arith, reading-rows n inverse, inverts.inverse_rows, own-wide)) (omega (arith, inverts.inverse_width, own-narrow)),
    )

    moves-at : (x : ℕ) (f : AffineMap) (most : ℕ) → IsAccess n p.variables x f → HasPlaceColumns n most x f → CanMove n target basis x f
    moves-at x f most a columns same =
        let arity : length f.rows ≡ indices n own.0 = subst (λ o. MatchOption o ⊥ (λ (v : Variable). length f.rows ≡ indices n v)) (same-target x same) a.arity in
        (columns.enough, omega (arith, arity, own-width, own-wide), omega (arith, own-width, own-narrow))

    moves : (k : ℕ) (d : Equation) → k < length p.equations → EachAccess (CanMove n target basis) (led_back n target inverse (slice_index_or p.equations k d).variable (term (slice_index_or p.equations k d).body))
    moves k d within = by ((slice_index_or p.equations k d).variable == target) refl
      where
        at-target : (x : ℕ) → (x == target) ≡ true → (e : Term) → MatchOption (slice_get p.variables x) ⊥ (λ v. IsAtWidth (length p.variables) e v.domain.width) → IsAtWidth (length p.variables) e (length (reading n inverse).rows)
        at-target x same e h =
            subst (λ m. IsAtWidth (length p.variables) e m) (omega (arith, reading-rows n inverse, inverts.inverse_rows, own-wide))
            (subst (λ o. MatchOption o ⊥ (λ (v : Variable). IsAtWidth (length p.variables) e v.domain.width)) (same-target x same) h)

        by : (b : Bool) → ((slice_index_or p.equations k d).variable == target) ≡ b → EachAccess (CanMove n target basis) (cond b (put (reading n inverse) (term (slice_index_or p.equations k d).body)) (term (slice_index_or p.equations k d).body))
        by true same =
            let e = term (slice_index_or p.equations k d).body in
            let led = put (reading n inverse) e in
            let most = inverse.width + extra_under led in
            EachAccess-both (IsAccess n p.variables) (HasPlaceColumns n most) (CanMove n target basis) (λ x f a columns. moves-at x f most a columns) led
            (put-accesses n p.variables (reading n inverse) e (equation-accesses p program k d within))
            (place-columns (length p.variables) led n inverse.width most (put-placed (length p.variables) (reading n inverse) e (at-target (slice_index_or p.equations k d).variable same e (program.placed.bodies k d within)))
            (omega (arith, inverts.inverse_width, own-wide)) (omega arith))
        by false same =
            EachAccess-both (IsAccess n p.variables) (HasPlaceColumns n 24) (CanMove n target basis) (λ x f a columns. moves-at x f 24 a columns) (term (slice_index_or p.equations k d).body)
            (equation-accesses p program k d within) (equation-columns p program k d within)

    pub can-rebase : All (λ (q : Equation). CanLead n target inverse q.variable (term q.body) × EachAccess (CanMove n target basis) (led_back n target inverse q.variable (term q.body))) p.equations
    can-rebase k d within = (leads k d within, moves k d within)

    pub given-fine : AreFine p (with_changed (moved_variable n inverse) target p.variables) (map (λ (d : Definition). (d.0, moved_body n target basis inverse d.0 d.1)) (definitions p))
    given-fine = basis-fine p program target own.0 own.1 basis inverse inverts own-wide

    pub given-keeps : KeepsMeaning p (rebased p target basis inverse) (moves_by target basis)
    given-keeps = basis-keeps p program target own.0 own.1 (local-written own.0.role own.2) basis inverse inverts own-wide

    pub inside : n ≤ inverse.width
    inside = omega (arith, inverts.inverse_width, own-wide)

    pub moved-rows : MatchOption (slice_get p.variables target) ⊥ (λ variable. n + length inverse.rows ≡ variable.domain.width)
    moved-rows = subst (λ o. MatchOption o ⊥ (λ (v : Variable). n + length inverse.rows ≡ v.domain.width)) (sym own.1) (omega (arith, inverts.inverse_rows, own-wide))

    pub moved-narrow : MatchOption (slice_get p.variables target) ⊥ (λ variable. variable.domain.width ≤ 64)
    moved-narrow = subst (λ o. MatchOption o ⊥ (λ (v : Variable). v.domain.width ≤ 64)) (sym own.1) (omega (arith, own-narrow))
