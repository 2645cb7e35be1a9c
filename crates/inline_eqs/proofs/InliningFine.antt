-- With a body put in, a program keeps the rules on places and shapes.
use Rattle.std.proofs.Common.{◌≡◌, ℕ, ◌+◌, length, Bool, true, false, cond, Option, Some, None, refl, subst, arith, length-append}
use Rattle.std.specs.Prelude.{slice_get, MatchOption, map, ◌==◌}
use Rattle.std.proofs.lemmas.Bool.{eqb-true}
use Rattle.std.proofs.lemmas.List.FromFn.{length-map-range_with_len}
use Rattle.az_lin.specs.Affine.{AffineMap}
use Rattle.az_lin.specs.Columns.{reading, unit_row, unit_rows}
use Rattle.az_ast.proofs.TermShapes.{HasShape}
use Rattle.az_ast.specs.Meaning.{body_of}
use Rattle.az_ast.specs.Placed.{IsAtWidth}
use Rattle.az_ast.specs.Shapes.{IsProgram, indices, is_input}
use Rattle.az_ast.specs.System.{System}
use Rattle.az_ast.specs.Term.{access}
use Rattle.az_ast.specs.declared.program.Variable.{Variable}
use Rattle.expr_maps.proofs.BranchSteps.{EachAccess-all}
use Rattle.expr_maps.proofs.ColumnLaws.{put-placed}
use Rattle.expr_maps.specs.Put.{put}
use Rattle.expr_maps.specs.Replaced.{replaced}
use Rattle.rewriting.proofs.Bodies.{body-of, wide-domain}
use Rattle.rewriting.proofs.FineParts.{AreFine, Defines, parts-fine, redefined-fine}
use Rattle.rewriting.proofs.Locals.{reading-rows}
use Rattle.rewriting.proofs.Shaped.{Suits, replaced-suits, put-shaped}
use Rattle.rewriting.specs.Definitions.{Definition, definitions, defined_as}
use Rattle.inline_eqs.specs.Inlining.{put_in, body_with, body_at}

module _ (p : System) (program : IsProgram p) (into target : ℕ) (w : Variable) (declared : slice_get p.variables target ≡ Some w) (defined : body_of p.equations target ≡ Some (body_at p target)) where
  abbrev n : ℕ
  n = length p.params

  put-suits : (f : AffineMap) (width : ℕ) → Suits n p.variables (access target f) width → Suits n p.variables (put (reading n f) (body_at p target)) width
  put-suits f width h =
      let own = body-of p program target w declared (body_at p target) defined in
      let wide = wide-domain p program target w declared (body_at p target) defined in
      let arity : length f.rows ≡ indices n w = subst (λ o. MatchOption o ⊥ (λ (v : Variable). length f.rows ≡ indices n v)) declared h.1 in
      let rows : w.domain.width ≡ length (reading n f).rows = omega (arith, reading-rows n f, arity, wide) in (
        subst (λ m. IsAtWidth (length p.variables) (put (reading n f) (body_at p target)) m) h.0.1
            (put-placed (length p.variables) (reading n f) (body_at p target) (subst (λ m. IsAtWidth (length p.variables) (body_at p target) m) rows own.placed)),
        put-shaped n p.variables (reading n f) (body_at p target) own.shape,
      )

  access-suits : (x : ℕ) (f : AffineMap) (width : ℕ) → Unit {0} → Suits n p.variables (access x f) width → Suits n p.variables (put_in n target (body_at p target) x f) width
  access-suits x f width u h = by (x == target) refl
    where
      by : (b : Bool) → (x == target) ≡ b → Suits n p.variables (cond b (put (reading n f) (body_at p target)) (access x f)) width
      by true same = put-suits f width (subst (λ y. Suits n p.variables (access y f) width) (eqb-true x target same) h)
      by false same = h

  defines : (d : Definition) → Defines n p.variables d → defined_as (definitions p) d.0 ≡ Some d.1 → Defines n p.variables (d.0, body_with n into target (body_at p target) d.0 d.1)
  defines d h found = by (slice_get p.variables d.0) h
    where
      by : (o : Option Variable) → MatchOption o ⊥ (λ (v : Variable). (is_input v.role ≡ false) × IsAtWidth (length p.variables) d.1 v.domain.width × HasShape n p.variables d.1)
          → MatchOption o ⊥ (λ (v : Variable). (is_input v.role ≡ false) × IsAtWidth (length p.variables) (body_with n into target (body_at p target) d.0 d.1) v.domain.width × HasShape n p.variables (body_with n into target (body_at p target) d.0 d.1))
      by None m = absurd m
      by (Some v) m = chosen (d.0 == into)
        where
          chosen : (b : Bool) → (is_input v.role ≡ false) × IsAtWidth (length p.variables) (cond b (replaced (put_in n target (body_at p target)) d.1) d.1) v.domain.width × HasShape n p.variables (cond b (replaced (put_in n target (body_at p target)) d.1) d.1)
          chosen true =
              let suits = replaced-suits n p.variables p.variables (λ x f. Unit {0}) (put_in n target (body_at p target)) access-suits d.1 v.domain.width (EachAccess-all (λ x f. Unit {0}) (λ x f. tt) d.1) m.1 m.2 in
              (m.0, suits.0, suits.1)
          chosen false = m

  pub inlining-fine : AreFine p p.variables (map (λ (d : Definition). (d.0, body_with n into target (body_at p target) d.0 d.1)) (definitions p))
  inlining-fine =
      let fine = parts-fine p program in
      redefined-fine p program (body_with n into target (body_at p target)) p.variables fine.order fine.widths fine.names fine.named_apart (λ x v here. (v, here, refl)) defines
