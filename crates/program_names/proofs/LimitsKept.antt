-- The program of a text without a refusal is within the limits.
use Rattle.std.proofs.Common.{◌≡◌, ℕ, ◌+◌, ◌-◌, List, [], ◌∷◌, ◌++◌, length, Bool, false, ◌||◌, Option, Some, None, refl, ap, ◌∙◌, arith}
use Rattle.std.specs.Prelude.{map, flat_map, nat_lt, slice_get, MatchOption}
use Rattle.std.specs.List.{list_any, AllByRecursion}
use Rattle.std.specs.Option.{option_map_or}
use Rattle.std.proofs.lemmas.List.{length-append, length-map}
use Rattle.std.proofs.lemmas.List.Folds.{list_any-append}
use Rattle.az_ast.specs.declared.program.Equation as program
use Rattle.az_ast.specs.declared.program.Variable.{Variable}
use Rattle.az_ast.specs.Nodes as ast_nodes
use Rattle.az_ast.specs.Shapes as ast
use Rattle.az_ast.specs.Shapes.{indices}
use Rattle.az_ast.specs.Term.{term}
use Rattle.az_ast.specs.Walks as walks
use Rattle.az_ast.proofs.ShapeParts as parts
use Rattle.az_ast.proofs.ShapeParts.{none_holds}
use Rattle.az_ast.proofs.Walks.{list_any-flat_map}
use Rattle.program_grammar.specs.declared.tree.Declaration.{Declaration}
use Rattle.program_grammar.specs.declared.tree.Equation.{Equation}
use Rattle.program_grammar.specs.declared.tree.ProgramText.{ProgramText}
use Rattle.program_grammar.specs.Nodes.{nodes}
use Rattle.program_names.specs.Pieces.{place, names, pieces, declaration_pieces}
use Rattle.program_names.specs.Refusals.{is_other_arity, written_kind, meant_kind, equation_kind, has_many_names, has_many_indices, has_many_nodes, has_many_disjuncts, has_many_columns, any_declaration, stands_under_many, some_declared, some_equated, refusal_of}
use Rattle.program_names.specs.Resolved.{number_of, declarations, declared_names, equation_of, variables_of, system_of}
use Rattle.program_names.proofs.Accepted.{kinds-all, equated, no_limit}
use Rattle.program_names.proofs.DisjunctLaws.{is_long, domain-kept, domains-kept}
use Rattle.program_names.proofs.EquationPlaces.{equation-width}
use Rattle.program_names.proofs.ExtraLaws.{extras-kept}
use Rattle.program_names.proofs.FirstRows.{none_answered}
use Rattle.program_names.proofs.ItemLaws.{both-none, meant-none, variable-declared}
use Rattle.program_names.proofs.ItemParts.{count_parts, limits}
use Rattle.program_names.proofs.RowLists.{any-same}
use Rattle.program_names.proofs.Sums.{or-left, list_any-map}
use Rattle.program_names.proofs.TermLaws.{nodes-kept}
use Rattle.program_names.proofs.VariableMaps.{variables-map, any-variable}

any-alike : {A : Type 0} (p q : A → Bool) (xs : List A) → AllByRecursion (λ x. p x ≡ q x) xs → list_any p xs ≡ list_any q xs
any-alike p q [] h = refl
any-alike p q (x ∷ xs) h = ap (λ b. b || list_any p xs) h.0 ∙ ap (λ b. q x || b) (any-alike p q xs h.1)

-- a test of a variable of known columns
of-width : (params count extra : ℕ) (o : Option Variable) → MatchOption o ⊥ (λ v. v.domain.width ≡ params + count) →
    option_map_or (λ (v : Variable). nat_lt 16 (indices params v + extra)) o false ≡ nat_lt 16 (count + extra)
of-width params count extra None m = absurd m
of-width params count extra (Some v) m = let own : v.domain.width - params + extra ≡ count + extra = omega (arith, m) in ap (nat_lt 16) own

module _ (text : ProgramText) where
  count : length (variables_of text) ≡ length text.inputs + length text.outputs + length text.locals
  count =
      let name = λ (d : Declaration). d.name in
      let variables = length-map (variables_of text) (λ (v : Variable). v.name) in
      let names = ap length (variables-map text (λ (v : Variable). v.name) name (λ role d. refl)) in
      let declared = length-map (declarations text) name in
      let parts = count_parts text in
      omega (arith, variables, names, declared, parts)

  names-kept : ast.has_many_names (system_of text) ≡ has_many_names text
  names-kept = ap (λ n. nat_lt 256 n || nat_lt 8 (length text.params)) count

  indices-kept : list_any (λ (v : Variable). nat_lt 8 (indices (length text.params) v)) (variables_of text) ≡ any_declaration has_many_indices text
  indices-kept =
      any-variable text (λ (v : Variable). nat_lt 8 (indices (length text.params) v)) has_many_indices
      (λ role d. let wide = length-append text.params d.indices in let own : length (text.params ++ d.indices) - length text.params ≡ length d.indices = omega (arith, wide) in ap (nat_lt 8) own)

  abbrev resolved : Equation → program.Equation
  resolved = equation_of (declared_names text) text.params

  abbrev StandsAlike : Equation → Type 0
  StandsAlike e = ast.stands_under_many (length text.params) (variables_of text) (resolved e) ≡ stands_under_many e

  stands-kept : (earlier : List Equation) (e : Equation) → equation_kind text earlier e ≡ None → StandsAlike e
  stands-kept earlier e h =
      let meant = meant-none text earlier e (both-none (written_kind text e) (meant_kind text earlier e) h).1 in
      let rest = names text.params e.indices ∷ pieces e.body (text.params ++ e.indices) in
      let arity = or-left (is_other_arity text (place e.variable (length e.indices))) (list_any (is_other_arity text) rest) meant.0 in
      let wide = equation-width text e.variable (length e.indices) (variable-declared text earlier e h) arity in
      let variable = slice_get (variables_of text) (number_of (declared_names text) e.variable) in
      let extra = walks.extra_under (term (resolved e).body) in
      of-width (length text.params) (length e.indices) extra variable wide
      ∙ ap (λ n. nat_lt 16 (length e.indices + n)) (extras-kept (declared_names text) e.body (text.params ++ e.indices))

  size-kept : ast.has_many_nodes (system_of text) ≡ has_many_nodes text
  size-kept =
      let own = λ (e : program.Equation). nat_lt 512 (ast_nodes.nodes (term e.body)) in
      list_any-map own resolved text.equations
      ∙ any-same (λ (e : Equation). own (resolved e)) (λ (e : Equation). nat_lt 512 (nodes e.body))
      (λ e. ap (nat_lt 512) (nodes-kept (declared_names text) e.body (text.params ++ e.indices))) text.equations

  disjuncts-kept : ast.has_many_disjuncts (system_of text) ≡ (some_declared has_many_disjuncts text || some_equated has_many_disjuncts text)
  disjuncts-kept =
      let own = λ (v : Variable). v.domain in
      let inside = λ (e : program.Equation). walks.domains (term e.body) in
      let declared = list_any is_long (map own (variables_of text)) in
      let equated = list_any is_long (flat_map inside (map resolved text.equations)) in
      let first : declared ≡ some_declared has_many_disjuncts text =
      list_any-map is_long own (variables_of text)
      ∙ any-variable text (λ (v : Variable). is_long v.domain) (λ (d : Declaration). list_any has_many_disjuncts (declaration_pieces text.params d))
      (λ role d. domain-kept (text.params ++ d.indices) d.disjuncts) in
      let second : equated ≡ some_equated has_many_disjuncts text =
      list_any-flat_map is_long inside (map resolved text.equations)
      ∙ (list_any-map (λ (e : program.Equation). list_any is_long (inside e)) resolved text.equations
      ∙ any-same (λ (e : Equation). list_any is_long (inside (resolved e))) (λ (e : Equation). list_any has_many_disjuncts (pieces e.body (text.params ++ e.indices)))
      (λ e. domains-kept (declared_names text) e.body (text.params ++ e.indices)) text.equations) in
      list_any-append is_long (map own (variables_of text)) (flat_map inside (map resolved text.equations))
      ∙ (ap (λ b. b || equated) first ∙ ap (λ b. some_declared has_many_disjuncts text || b) second)

  module _ (accepted : refusal_of text ≡ None) where
    columns-kept : ast.has_many_columns (system_of text) ≡ has_many_columns text
    columns-kept =
        let stands = ast.stands_under_many (length text.params) (variables_of text) in
        let under = list_any-map stands resolved text.equations
        ∙ any-alike (λ (e : Equation). stands (resolved e)) stands_under_many text.equations
        (kinds-all (equation_kind text) StandsAlike stands-kept [] text.equations (equated text accepted)) in
        ap (λ b. b || list_any stands (map resolved text.equations)) indices-kept ∙ ap (λ b. any_declaration has_many_indices text || b) under

    pub limits_kept : ast.limit_of (system_of text) ≡ None
    limits_kept =
        let tests = none_holds (limits text) (no_limit text accepted) in
        none_answered (parts.limits (system_of text)) (names-kept ∙ tests.0, (columns-kept ∙ tests.1.0, (size-kept ∙ tests.1.1.0, (disjuncts-kept ∙ tests.1.1.1.0, tt))))
