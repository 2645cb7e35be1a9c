-- What a program gives: maps can be put into its expressions, and the results are placed again.
use Rattle.std.specs.Prelude.{slice_get, slice_index_or, MatchOption}
use Rattle.std.proofs.Common.{arith, ◌<◌, ◌≤◌, Some, ◌≡◌, ℕ, ◌+◌, length, sym, subst, ◌∙◌}
use Rattle.std.proofs.lemmas.List.{length-map}
use Rattle.std.proofs.lemmas.List.FromFn.{length-map-range_with_len}
use Rattle.std.proofs.lemmas.List.Elements.{All-weaker}
use Rattle.az_lin.specs.Affine.{AffineMap, Union, HasEntries, HasEntryConj, HasEntryDomain, dot}
use Rattle.az_lin.specs.Columns.{extended}
use Rattle.az_lin.specs.Substitution.{column}
use Rattle.az_ast.specs.Placed.{IsAtWidth, AreAtWidth}
use Rattle.az_ast.specs.Rows.{IsRowAt, IsConjAt, IsDomainAt, HasRowsAt, HaveRowsAt}
use Rattle.az_ast.proofs.TermShapes.{few_columns_at}
use Rattle.az_ast.specs.Shapes.{IsProgram}
use Rattle.az_ast.specs.System.{System}
use Rattle.az_ast.specs.Walks.{extra_under}
use Rattle.az_ast.specs.declared.program.Equation.{Equation}
use Rattle.az_ast.specs.declared.program.Variable.{Variable}
use Rattle.az_ast.specs.Term.{term, Term, constant, index, access, negation, binary, cases, reduction, Choices, none, choice}
use Rattle.az_poly.specs.Operations.{conj_before, domain_before}
use Rattle.expr_maps.specs.Columns.{CanPut, HasColumns, HaveColumns, HasEntriesIn, HaveEntriesIn}
use Rattle.expr_maps.specs.Put.{put, put_below}
use Rattle.expr_maps.proofs.ReductionSteps.{extended-rows}

mutual
  pub HasColumns-from_placed : (count : ℕ) (e : Term) (width : ℕ) → IsAtWidth count e width → HasColumns e width
  HasColumns-from_placed count (constant c) width at = tt
  HasColumns-from_placed count (index row) width at = at
  HasColumns-from_placed count (access x f) width at = at.1
  HasColumns-from_placed count (negation e) width at = HasColumns-from_placed count e width at
  HasColumns-from_placed count (binary op a b) width at = (HasColumns-from_placed count a width at.0, HasColumns-from_placed count b width at.1)
  HasColumns-from_placed count (cases branches) width at = HaveColumns-from_placed count branches width at
  HasColumns-from_placed count (reduction op extra domain e) width at = (at.0, HasColumns-from_placed count e (width + extra) at.2)

  HaveColumns-from_placed : (count : ℕ) (branches : Choices) (width : ℕ) → AreAtWidth count branches width → HaveColumns branches width
  HaveColumns-from_placed count none width at = tt
  HaveColumns-from_placed count (choice domain e rest) width at = (at.0, HasColumns-from_placed count e width at.1, HaveColumns-from_placed count rest width at.2)

-- the entries of a program's expressions are in range
entries_of : (width : ℕ) (domain : Union) → IsDomainAt width domain → HasEntryDomain domain
entries_of width domain at =
    All-weaker (IsConjAt width) HasEntryConj (λ conj h. All-weaker (IsRowAt width) HasEntries (λ row r. r.1) conj.rows h.rows) domain.disjuncts at.disjuncts

mutual
  pub HasEntriesIn-from_rows : (e : Term) (width : ℕ) → HasRowsAt e width → HasEntriesIn e
  HasEntriesIn-from_rows (constant c) width at = tt
  HasEntriesIn-from_rows (index row) width at = at.1
  HasEntriesIn-from_rows (access x f) width at = All-weaker (IsRowAt width) HasEntries (λ row r. r.1) f.rows at.rows
  HasEntriesIn-from_rows (negation e) width at = HasEntriesIn-from_rows e width at
  HasEntriesIn-from_rows (binary op a b) width at = (HasEntriesIn-from_rows a width at.0, HasEntriesIn-from_rows b width at.1)
  HasEntriesIn-from_rows (cases branches) width at = HaveEntriesIn-from_rows branches width at
  HasEntriesIn-from_rows (reduction op extra domain e) width at = (entries_of (width + extra) domain at.0, HasEntriesIn-from_rows e (width + extra) at.1)

  HaveEntriesIn-from_rows : (branches : Choices) (width : ℕ) → HaveRowsAt branches width → HaveEntriesIn branches
  HaveEntriesIn-from_rows none width at = tt
  HaveEntriesIn-from_rows (choice domain e rest) width at = (entries_of width domain at.0, HasEntriesIn-from_rows e width at.1, HaveEntriesIn-from_rows rest width at.2)

-- with a map put in, an expression stands at the map's columns
one_disjunct : (f : AffineMap) (domain : Union) → length (domain_before f domain).disjuncts ≡ length domain.disjuncts
one_disjunct f domain = length-map domain.disjuncts (λ conj. conj_before f conj)

mutual
  pub put-placed : (count : ℕ) (f : AffineMap) (e : Term) → IsAtWidth count e (length f.rows) → IsAtWidth count (put f e) f.width
  put-placed count f (constant c) at = tt
  put-placed count f (index row) at = length-map-range_with_len (λ j. dot row.coefs (column j f.rows)) 0 f.width
  put-placed count f (access x g) at = (at.0, λ i. f.width)
  put-placed count f (negation e) at = put-placed count f e at
  put-placed count f (binary op a b) at = (put-placed count f a at.0, put-placed count f b at.1)
  put-placed count f (cases branches) at = put_below-placed count f branches at
  put-placed count f (reduction op extra domain e) at =
      (λ i. f.width + extra, one_disjunct (extended extra f) domain ∙ at.1, put-placed count (extended extra f) e (subst (λ n. IsAtWidth count e n) (sym (extended-rows extra f)) at.2))

  put_below-placed : (count : ℕ) (f : AffineMap) (branches : Choices) → AreAtWidth count branches (length f.rows) → AreAtWidth count (put_below f branches) f.width
  put_below-placed count f none at = tt
  put_below-placed count f (choice domain e rest) at = (λ i. f.width, put-placed count f e at.1, put_below-placed count f rest at.2)

-- a map with a row for each column of an equation, and not too many columns, can be put into its body
pub can_put : (p : System) → IsProgram p → (k : ℕ) (d : Equation) → k < length p.equations → (variable : Variable) → slice_get p.variables (slice_index_or p.equations k d).variable ≡ Some variable
    → (f : AffineMap) → length f.rows ≡ variable.domain.width → f.width ≤ 40 → CanPut f (term (slice_index_or p.equations k d).body)
can_put p program k d within variable declared f rows narrow =
    let e = term (slice_index_or p.equations k d).body in
    let few : variable.domain.width + extra_under e ≤ 24 = few_columns_at p program k d within variable declared in
    let at : IsAtWidth (length p.variables) e variable.domain.width
    = subst (λ o. MatchOption o ⊥ (λ variable. IsAtWidth (length p.variables) e variable.domain.width)) declared (program.placed.bodies k d within) in
    record { columns = subst (λ n. HasColumns e n) (sym rows) (HasColumns-from_placed (length p.variables) e variable.domain.width at); few_rows = omega (arith, few, rows); few_columns = omega (arith, few, narrow) }
