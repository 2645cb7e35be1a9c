-- Maps and domains that are written with names are read as those maps and domains.
use Rattle.std.proofs.Common.{◌≡◌, ℕ, ◌+◌, ◌<◌, List, [], ◌∷◌, ◌++◌, length, false, refl, sym, ap, subst, ◌∙◌, arith}
use Rattle.std.specs.Prelude.{map, flat_map, All}
use Rattle.std.specs.List.{AllByRecursion}
use Rattle.std.proofs.lemmas.List.Elements.{recursion_from_All}
use Rattle.az_lin.specs.Affine.{Affine, AffineMap, Polyhedron, Union}
use Rattle.az_ast.specs.Rows.{IsRowAt, IsMapAt, IsConjAt, IsDomainAt}
use Rattle.az_ast.specs.Shapes.{has_twice}
use Rattle.alphabets_show.specs.Sides.{Names}
use Rattle.program_grammar.specs.declared.tree.Chain.{Chain}
use Rattle.program_names.specs.Sides.{of_chain, of_chains, written, map_of, conjunction_of, union_of, alone, less}
use Rattle.program_names.specs.Sides as names
use Rattle.show_grammar.specs.WrittenOf.{zero_side, row_of, chain_of, chains_of, disjuncts_of, only_chains}
use Rattle.show_means.proofs.RowsBack.{nothing_zero, zero_side_zero, row_back}
use Rattle.show_means.proofs.Scopes.{length-columns}
use Rattle.show_means.specs.Kept.{columns}

module _ (params : Names) (count width : ℕ) (once : has_twice (columns params count) ≡ false) (at : width ≡ length params + count) where
  abbrev scope : Names
  scope = columns params count

  scope-width : length scope ≡ width
  scope-width = length-columns params count ∙ sym at

  pub side_back : (row : Affine) → IsRowAt width row → names.row_of scope (alone (row_of params row)) ≡ row
  side_back row is = row_back params count once row (is.0 ∙ at) [] nothing_zero

  comparison_back : (row : Affine) → IsRowAt width row → names.row_of scope (less (row_of params row) zero_side false) ≡ row
  comparison_back row is = row_back params count once row (is.0 ∙ at) zero_side zero_side_zero

  -- the rows of a map
  sides_back : (rows : List Affine) → AllByRecursion (IsRowAt width) rows → map (λ side. names.row_of scope (alone side)) (map (row_of params) rows) ≡ rows
  sides_back [] is = refl
  sides_back (row ∷ rows) is = (λ i. side_back row is.0 i ∷ sides_back rows is.1 i)

  pub map_back : (f : AffineMap) → IsMapAt width f → map_of scope (map (row_of params) f.rows) ≡ f
  map_back f is =
      let wide : length scope ≡ f.width = scope-width ∙ sym is.columns in
      let rows = sides_back f.rows (recursion_from_All (IsRowAt width) f.rows is.rows) in
      (λ i. record { width = wide i; rows = rows i })

  -- the rows of a conjunction
  comparisons_back : (rows : List Affine) → AllByRecursion (IsRowAt width) rows → map (names.row_of scope) (of_chains (map (chain_of params) rows)) ≡ rows
  comparisons_back [] is = refl
  comparisons_back (row ∷ rows) is = (λ i. comparison_back row is.0 i ∷ comparisons_back rows is.1 i)

  conjunction_back : (conj : Polyhedron) → IsConjAt width conj → conjunction_of scope (chains_of params conj) ≡ conj
  conjunction_back conj is =
      let wide : length scope ≡ conj.width = scope-width ∙ sym is.columns in
      let rows = comparisons_back conj.rows (recursion_from_All (IsRowAt width) conj.rows is.rows) in
      (λ i. record { width = wide i; rows = rows i })

  conjunctions_back : (ds : List Polyhedron) → AllByRecursion (IsConjAt width) ds → map (conjunction_of scope) (map (chains_of params) ds) ≡ ds
  conjunctions_back [] is = refl
  conjunctions_back (d ∷ ds) is = (λ i. conjunction_back d is.0 i ∷ conjunctions_back ds is.1 i)

  -- there is a disjunct, so what is written is kept
  some_written : (ds : List Polyhedron) → 0 < length ds → written (map (chains_of params) ds) ≡ map (chains_of params) ds
  some_written [] some = absurd (omega arith)
  some_written (d ∷ ds) some = refl

  pub domain_back : (d : Union) → IsDomainAt width d → union_of scope (disjuncts_of params d) ≡ d
  domain_back d is =
      let wide : length scope ≡ d.width = scope-width ∙ sym is.columns in
      let rows = ap (map (conjunction_of scope)) (some_written d.disjuncts is.some)
      ∙ conjunctions_back d.disjuncts (recursion_from_All (IsConjAt width) d.disjuncts is.disjuncts) in
      (λ i. record { width = wide i; disjuncts = rows i })

  -- a domain of one disjunct
  only_one : (ds : List Polyhedron) → length ds ≡ 1 → only_chains params ds ∷ [] ≡ map (chains_of params) ds
  only_one [] one = absurd (omega arith)
  only_one (d ∷ []) one = refl
  only_one (d ∷ other ∷ ds) one = absurd (omega arith)

  pub single_back : (d : Union) → IsDomainAt width d → length d.disjuncts ≡ 1 → union_of scope (only_chains params d.disjuncts ∷ []) ≡ d
  single_back d is one = ap (union_of scope) (only_one d.disjuncts one) ∙ domain_back d is
