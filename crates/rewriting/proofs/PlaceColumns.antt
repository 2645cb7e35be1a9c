-- Maps that can be put into a program's bodies, and the columns of its accesses.
use Rattle.std.proofs.Common.{◌≡◌, ℕ, ◌<◌, ◌≤◌, length, Option, Some, None, All, refl, sym, ap, subst, ◌∙◌}
use Rattle.std.specs.Prelude.{slice_get, slice_index_or, MatchOption}
use Rattle.std.proofs.lemmas.List.Elements.{recursion_from_All}
use Rattle.std.proofs.lemmas.Option.{get_or_from_slice_get, slice_get_within}
use Rattle.az_lin.specs.Affine.{AffineMap}
use Rattle.az_ast.proofs.TermShapes.{few_columns_at, HasShape, bodies-shaped}
use Rattle.az_ast.specs.Meaning.{body_of}
use Rattle.az_ast.specs.Placed.{IsAtWidth}
use Rattle.az_ast.specs.Rows.{HasRowsAt}
use Rattle.az_ast.specs.Shapes.{IsProgram}
use Rattle.az_ast.specs.System.{System}
use Rattle.az_ast.specs.Term.{Term, term}
use Rattle.az_ast.specs.declared.program.Equation.{Equation}
use Rattle.az_ast.specs.declared.program.Variable.{Variable}
use Rattle.expr_maps.proofs.ColumnLaws.{can_put}
use Rattle.expr_maps.specs.Answers.{EachAccess}
use Rattle.expr_maps.specs.Columns.{CanPut}
use Rattle.rewriting.proofs.Accesses.{IsAccess, HasPlaceColumns, place-columns, accesses-of_rows}
use Rattle.rewriting.proofs.Bodies.{body-found}

module _ (p : System) (program : IsProgram p) where
  abbrev Takes : Equation → Type 0
  Takes q = (v : Variable) → slice_get p.variables q.variable ≡ Some v → (f : AffineMap) → length f.rows ≡ v.domain.width → f.width ≤ 40 → CanPut f (term q.body)

  takes : All Takes p.equations
  takes k d within = λ v declared f rows narrow. can_put p program k d within v declared f rows narrow

  pub can-put_into : (x : ℕ) (u : Variable) → slice_get p.variables x ≡ Some u → (e : Term) → body_of p.equations x ≡ Some e → (f : AffineMap) → length f.rows ≡ u.domain.width → f.width ≤ 40 → CanPut f e
  can-put_into x u declared e defined f rows narrow =
      let found = body-found Takes p.equations (recursion_from_All Takes p.equations takes) x e defined in
      subst (CanPut f) found.2 (found.3 u (ap (λ y. slice_get p.variables y) found.1 ∙ declared) f rows narrow)

  wide : (x : ℕ) (u : Variable) → slice_get p.variables x ≡ Some u → length p.params ≤ u.domain.width
  wide x u declared = subst (λ (v : Variable). length p.params ≤ v.domain.width) (get_or_from_slice_get p.variables x u u declared) (program.placed.domains x u (slice_get_within p.variables x u declared))

  pub equation-columns : All (λ (q : Equation). EachAccess (HasPlaceColumns (length p.params) 24) (term q.body)) p.equations
  equation-columns k d within = by (slice_get p.variables (slice_index_or p.equations k d).variable) refl (program.placed.bodies k d within)
    where
      by : (o : Option Variable) → slice_get p.variables (slice_index_or p.equations k d).variable ≡ o → MatchOption o ⊥ (λ (v : Variable). IsAtWidth (length p.variables) (term (slice_index_or p.equations k d).body) v.domain.width)
          → EachAccess (HasPlaceColumns (length p.params) 24) (term (slice_index_or p.equations k d).body)
      by None is h = absurd h
      by (Some v) is h =
          place-columns (length p.variables) (term (slice_index_or p.equations k d).body) (length p.params) v.domain.width 24 h (wide (slice_index_or p.equations k d).variable v is) (few_columns_at p program k d within v is)

  pub equation-accesses : All (λ (q : Equation). EachAccess (IsAccess (length p.params) p.variables) (term q.body)) p.equations
  equation-accesses k d within = by (slice_get p.variables (slice_index_or p.equations k d).variable) (program.rows.bodies k d within)
    where
      by : (o : Option Variable) → MatchOption o ⊥ (λ (v : Variable). HasRowsAt (term (slice_index_or p.equations k d).body) v.domain.width) → EachAccess (IsAccess (length p.params) p.variables) (term (slice_index_or p.equations k d).body)
      by None h = absurd h
      by (Some v) h = accesses-of_rows (length p.params) p.variables (term (slice_index_or p.equations k d).body) v.domain.width (bodies-shaped p program k d within) h
