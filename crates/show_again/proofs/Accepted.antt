-- What is written of a program is never refused.
use Rattle.std.proofs.Common.{◌≡◌, ℕ, suc, ◌+◌, ◌<◌, ◌≤◌, Bool, true, false, true≢false, ◌||◌, List, [], ◌∷◌, ◌++◌, length, Option, Some, None, refl, sym, ap, subst, ◌∙◌, arith, append-nil, length-append}
use Rattle.std.specs.Prelude.{◌==◌, map, max, slice_get, nat_lt, bytes_eq, option_map, unsigned_abs}
use Rattle.std.specs.List.{list_any, AllByRecursion}
use Rattle.std.specs.Option.{option_or, option_map_or}
use Rattle.std.proofs.lemmas.Bool.{eq-eqb, le-ltb, or_from}
use Rattle.std.proofs.lemmas.List.{length-map, map-append}
use Rattle.std.proofs.lemmas.List.Folds.{list_any-append}
use Rattle.az_lin.specs.declared.limit.Limit.TheVariants.{Names as NamesLimit, Columns, Size, Disjuncts}
use Rattle.az_ast.specs.declared.fault.ShapeFault.TheVariants.{Shape, Limit}
use Rattle.az_ast.specs.declared.fault.ShapeKind.{ShapeKind}
use Rattle.az_ast.specs.declared.fault.ShapeKind.TheVariants.{Reserved, TwiceName, UnknownName, Literal, Entry, Arity, InputEquation, TwoEquations, BadReduce}
use Rattle.az_ast.specs.declared.program.Equation as program
use Rattle.az_ast.specs.declared.program.Role.{Role}
use Rattle.az_ast.specs.declared.program.Role.TheVariants.{Output, Local}
use Rattle.az_ast.specs.declared.program.Variable.{Variable}
use Rattle.az_ast.specs.Rows.{HasDomainRows}
use Rattle.az_ast.specs.Shapes.{has_twice, is_index_name, is_input, of_variable, first_of, first_kind, kinds_after, IsProgram}
use Rattle.az_ast.specs.Shapes as shapes
use Rattle.az_ast.specs.System.{System}
use Rattle.az_ast.specs.Term.{Term, Choices, constant, index, access, negation, binary, cases, reduction, none, choice, term}
use Rattle.az_ast.specs.Walks.{extra_under, extra_below}
use Rattle.az_ast.specs.Nodes.{nodes}
use Rattle.az_ast.proofs.ProgramLaws.{of_none, all_none, no_faults, few_parts}
use Rattle.az_ast.proofs.ShapeParts.{none_holds, equation_tests}
use Rattle.alphabets_show.specs.Expressions.{name_of}
use Rattle.alphabets_show.specs.Shown.{count_of}
use Rattle.alphabets_show.specs.Sides.{Names, indices}
use Rattle.program_grammar.specs.declared.tree.Declaration.{Declaration}
use Rattle.program_grammar.specs.declared.tree.Equation.{Equation}
use Rattle.program_grammar.specs.declared.tree.ProgramText.{ProgramText}
use Rattle.program_grammar.specs.Nodes as tree
use Rattle.program_names.specs.Extras as tree_extras
use Rattle.program_names.specs.Pieces.{Piece, rows, header_pieces, declaration_pieces, equation_pieces}
use Rattle.program_names.specs.Refusals.{is_twice, is_unknown, is_wide_literal, is_wide_row, is_other_arity, is_bad_operator, has_many_disjuncts, header_kind, declaration_kind, written_kind, meant_kind, equation_kind, item_kinds, missing_kinds, missing_kind, any_declaration, some_declared, some_equated, has_many_indices, limit_of, shape_of, refusal_of}
use Rattle.program_names.specs.Refusals as refusals
use Rattle.program_names.specs.Resolved.{number_of, declarations}
use Rattle.program_names.proofs.ExtraLemmas.{extra-Constant, extra-Index, extra-Access, extra-Negation, extra-Binary, extra-Cases, extra-Reduction}
use Rattle.program_names.proofs.FirstRows.{none_answered}
use Rattle.program_names.proofs.Sums.{or-left, or-right, not-true, list_any-map}
use Rattle.show_grammar.specs.WrittenOf.{is_negative, row_of, only_chains, operator_of, expression_of, branches_of, equation_of, declaration_of, declarations_of, written_of}
use Rattle.show_grammar.proofs.WrittenNodes.{nodes_written}
use Rattle.show_again.proofs.Clean.{IsClean, none_passes, clean_place, clean_names, no_repeats, domain_clean, single_clean, expression_clean}
use Rattle.show_means.proofs.ExpressionsBack.{number_back}
use Rattle.show_again.proofs.Found.{found_at, name_at, no_input_named, none_missing}
use Rattle.show_again.proofs.Parts.{each, all_append, all_map, EachPart, IsFew, IsProper}
use Rattle.show_means.proofs.Scopes.{length-indices, same_bytes}
use Rattle.show_means.proofs.SystemBack.{HasVariable, within_at, count_is}
use Rattle.show_means.proofs.VariablesBack.{declarations_back}
use Rattle.show_means.specs.Kept.{IsKept, columns, names_of}

-- the extra indices of what is written
module _ (params : Names) (variables : List Variable) where
  mutual
    extra_written : (t : Term) (count : ℕ) → tree_extras.extra_under (expression_of params variables t count) ≡ extra_under t
    extra_written (constant c) count = extra-Constant (is_negative c) (unsigned_abs c)
    extra_written (index row) count = extra-Index (row_of params row)
    extra_written (access x f) count = extra-Access (name_of variables x) (map (row_of params) f.rows)
    extra_written (negation e) count = extra-Negation (expression_of params variables e count) ∙ extra_written e count
    extra_written (binary op a b) count =
        extra-Binary (operator_of op) (expression_of params variables a count) (expression_of params variables b count) ∙ (λ i. max (extra_written a count i) (extra_written b count i))
    extra_written (cases branches) count = extra-Cases (branches_of params variables branches count) ∙ below_written branches count
    extra_written (reduction op extra d e) count =
        extra-Reduction (operator_of op) (indices count extra) (only_chains params d.disjuncts) (expression_of params variables e (count + extra))
        ∙ (λ i. length-indices count extra i + extra_written e (count + extra) i)

    below_written : (branches : Choices) (count : ℕ) → tree_extras.extra_below (branches_of params variables branches count) ≡ extra_below branches
    below_written none count = refl
    below_written (choice d e rest) count = (λ i. max (extra_written e count i) (below_written rest count i))

abbrev IsNone : Option ShapeKind → Type 0
IsNone k = k ≡ None

itself : (n : ℕ) → (n == n) ≡ true
itself n = eq-eqb n n refl

at_most : (most n : ℕ) → n ≤ most → nat_lt most n ≡ false
at_most most n le = le-ltb most n le

-- items that are made of items without a kind have none, where more is known of each
kinds_kept : {A B : Type 0} (P : A → Type 0) (kind : List A → A → Option ShapeKind) (made : List B → B → Option ShapeKind) (f : A → B)
    → ((earlier : List A) (x : A) → AllByRecursion P earlier → P x → kind earlier x ≡ None → made (map f earlier) (f x) ≡ None)
    → (earlier xs : List A) → AllByRecursion P earlier → AllByRecursion P xs → AllByRecursion IsNone (kinds_after kind earlier xs) → AllByRecursion IsNone (kinds_after made (map f earlier) (map f xs))
kinds_kept P kind made f kept earlier [] before are h = tt
kinds_kept P kind made f kept earlier (x ∷ xs) before are h = (
  kept earlier x before are.0 h.0,
  subst (λ all. AllByRecursion IsNone (kinds_after made all (map f xs))) (map-append f earlier (x ∷ []))
      (kinds_kept P kind made f kept (earlier ++ x ∷ []) xs (all_append P earlier (x ∷ []) before (are.0, tt)) are.1 h.1),
)

neither : {A : Type 0} (a b : Option A) → a ≡ None → b ≡ None → option_or a b ≡ None
neither a b first second = ap (λ o. option_or o b) first ∙ second

none_first : (n : ℕ) (kinds : List (Option ShapeKind)) → AllByRecursion IsNone kinds → first_kind n kinds ≡ None
none_first n [] h = refl
none_first n (kind ∷ kinds) h = neither (option_map (λ k. Shape k n) kind) (first_kind (suc n) kinds) (ap (option_map (λ k. Shape k n)) h.0) (none_first (suc n) kinds h.1)

-- what is known of each variable and equation
pub record IsGoodVariable (params : Names) (v : Variable) : Type 0 where
  pub rows : HasDomainRows v
  pub wide : length params ≤ v.domain.width
  pub indices : shapes.indices (length params) v ≤ 8
  pub few : IsFew v.domain

pub record IsGoodEquation (p : System) (e : program.Equation) : Type 0 where
  pub variable : (v : Variable) × HasVariable p e v
  pub proper : EachPart (IsProper (length p.params) p.variables) (term e.body)
  pub small : nodes (term e.body) ≤ 512

module _ (p : System) (is : IsProgram p) (kept : IsKept p) where
  abbrev text : ProgramText
  text = written_of p

  abbrev decl : Variable → Declaration
  decl = declaration_of p.params

  abbrev eq : program.Equation → Equation
  eq = equation_of p.params p.variables

  declared : declarations text ≡ map decl p.variables
  declared = declarations_back p.params p.variables is.placed.order

  found : (x : ℕ) (v : Variable) → slice_get p.variables x ≡ Some v → refusals.declaration_of text (name_of p.variables x) ≡ Some (decl v)
  found = found_at text p.params p.variables declared kept.names

  -- the pieces of each item
  header_clean : AllByRecursion (IsClean text) (header_pieces text)
  header_clean =
      let whole : columns p.params 0 ≡ p.params = append-nil p.params in
      let once : has_twice p.params ≡ false = ap has_twice (sym whole) ∙ kept.scopes 0 (omega arith) in (
        clean_names text [] p.params (no_repeats [] p.params once),
        subst (λ (scope : Names). AllByRecursion (IsClean text) (rows scope (only_chains p.params p.pdom.disjuncts))) whole
            (single_clean text p.params 0 (length p.params) (kept.scopes 0 (omega arith)) (omega arith) p.pdom is.rows.parameters),
      )

  declaration_clean : (v : Variable) → IsGoodVariable p.params v → AllByRecursion (IsClean text) (declaration_pieces p.params (decl v))
  declaration_clean v good =
      let count = shapes.indices (length p.params) v in
      let few : count ≤ 8 = good.indices in
      let wide : length p.params ≤ v.domain.width = good.wide in
      let once = kept.scopes count (omega arith) in
      (clean_names text p.params (indices 0 count) (no_repeats p.params (indices 0 count) once), domain_clean text p.params count v.domain.width once (omega arith) v.domain good.rows good.few)

  equation_clean : (e : program.Equation) → IsGoodEquation p e → AllByRecursion (IsClean text) (equation_pieces p.params (eq e))
  equation_clean e good =
      let v = good.variable.0 in
      let facts = good.variable.1 in
      let count = count_of p.params p.variables e.variable in
      let same : count ≡ shapes.indices (length p.params) v = count_is p is kept e.variable v facts.found in
      let wide = facts.wide in
      let under = facts.under in
      let place = clean_place text (name_of p.variables e.variable) (length (indices 0 count)) (decl v) (found e.variable v facts.found)
      (length-indices 0 (shapes.indices (length p.params) v) ∙ (sym same ∙ sym (length-indices 0 count))) in (
        place,
        (
          clean_names text p.params (indices 0 count) (no_repeats p.params (indices 0 count) (kept.scopes count (omega (arith, same, under)))),
          expression_clean text p.params p.variables kept.scopes found (term e.body) count v.domain.width (omega (arith, same, wide)) (omega (arith, same, under)) facts.placed facts.rows good.proper,
        ),
      )

  -- the kinds of the items
  header_none : list_any is_index_name p.params ≡ false → header_kind text ≡ None
  header_none plain =
      let some = λ (test : Piece → Bool). list_any test (header_pieces text) in
      none_answered ((list_any is_index_name p.params, Reserved) ∷ (some is_twice, TwiceName) ∷ (some (is_unknown text), UnknownName) ∷ (some is_wide_row, Entry) ∷ []) (
        plain,
        (
          none_passes text is_twice (λ piece clean. clean.once) (header_pieces text) header_clean,
          (
            none_passes text (is_unknown text) (λ piece clean. clean.known) (header_pieces text) header_clean,
            (none_passes text is_wide_row (λ piece clean. clean.narrow) (header_pieces text) header_clean, tt),
          ),
        ),
      )

  declaration_none : (earlier : List Variable) (v : Variable) → AllByRecursion (IsGoodVariable p.params) earlier → IsGoodVariable p.params v
      → shapes.declaration_kind earlier v ≡ None → declaration_kind text (map decl earlier) (decl v) ≡ None
  declaration_none earlier v before good h =
      let tests = none_holds ((is_index_name v.name, Reserved) ∷ (list_any (λ (other : Variable). bytes_eq other.name v.name) earlier, TwiceName) ∷ []) h in
      let ps = declaration_pieces p.params (decl v) in
      let clean = declaration_clean v good in
      let once = list_any-map (λ (other : Declaration). bytes_eq other.name v.name) decl earlier ∙ tests.1.0 in
      none_answered ((is_index_name v.name, Reserved) ∷ (list_any (λ (other : Declaration). bytes_eq other.name v.name) (map decl earlier), TwiceName) ∷ (list_any is_twice ps, TwiceName)
      ∷ (list_any (is_unknown text) ps, UnknownName) ∷ (list_any is_wide_row ps, Entry) ∷ []) (
        tests.0,
        (
          once,
          (
            none_passes text is_twice (λ piece c. c.once) ps clean,
            (
              none_passes text (is_unknown text) (λ piece c. c.known) ps clean,
              (none_passes text is_wide_row (λ piece c. c.narrow) ps clean, tt),
            ),
          ),
        ),
      )

  -- equations of other variables have other names
  other_name : (x y : ℕ) → x < length p.variables → y < length p.variables → (y == x) ≡ false → bytes_eq (name_of p.variables y) (name_of p.variables x) ≡ false
  other_name x y one two differs =
      not-true (bytes_eq (name_of p.variables y) (name_of p.variables x))
      (λ h. let same = same_bytes (name_of p.variables y) (name_of p.variables x) h in
      let equal : y ≡ x = sym (number_back p.variables y kept.names two) ∙ (ap (number_of (names_of p.variables)) same ∙ number_back p.variables x kept.names one) in
      true≢false (sym (subst (λ (n : ℕ). (y == n) ≡ true) equal (itself y)) ∙ differs))

  no_other : (e : program.Equation) → e.variable < length p.variables → (earlier : List program.Equation) → AllByRecursion (IsGoodEquation p) earlier
      → list_any (λ (other : program.Equation). other.variable == e.variable) earlier ≡ false → list_any (λ (other : Equation). bytes_eq other.variable (name_of p.variables e.variable)) (map eq earlier) ≡ false
  no_other e within [] good differs = refl
  no_other e within (o ∷ earlier) good differs =
      let others = list_any (λ (other : program.Equation). other.variable == e.variable) earlier in
      or_from (bytes_eq (name_of p.variables o.variable) (name_of p.variables e.variable)) (list_any (λ (other : Equation). bytes_eq other.variable (name_of p.variables e.variable)) (map eq earlier))
      (other_name e.variable o.variable within (within_at p.variables o.variable good.0.variable.0 good.0.variable.1.found) (or-left (o.variable == e.variable) others differs))
      (no_other e within earlier good.1 (or-right (o.variable == e.variable) others differs))

  equation_none : (earlier : List program.Equation) (e : program.Equation) → AllByRecursion (IsGoodEquation p) earlier → IsGoodEquation p e
      → shapes.equation_kind (length p.params) p.variables earlier e ≡ None → equation_kind text (map eq earlier) (eq e) ≡ None
  equation_none earlier e before good h =
      let ps = equation_pieces p.params (eq e) in
      let clean = equation_clean e good in
      let v = good.variable.0 in
      let at = good.variable.1.found in
      let tests = none_holds (equation_tests (length p.params) p.variables earlier e) h in
      let no_input : is_input v.role ≡ false = ap (λ (o : Option Variable). option_map_or (λ (w : Variable). is_input w.role) o false) (sym at) ∙ tests.1.0 in
      let x = name_of p.variables e.variable in
      let input = ap (λ (name : List ℕ). list_any (λ (input : Declaration). bytes_eq input.name name) text.inputs) (name_at p.variables e.variable v at)
      ∙ no_input_named p.params p.variables e.variable v at no_input kept.names in
      let other = no_other e (within_at p.variables e.variable v at) earlier before tests.1.1.0 in
      neither (written_kind text (eq e)) (meant_kind text (map eq earlier) (eq e))
      (none_answered ((list_any is_twice ps, TwiceName) ∷ (list_any (is_unknown text) ps, UnknownName) ∷ (list_any is_wide_literal ps, Literal) ∷ (list_any is_wide_row ps, Entry) ∷ []) (
        none_passes text is_twice (λ piece c. c.once) ps clean,
        (
          none_passes text (is_unknown text) (λ piece c. c.known) ps clean,
          (none_passes text is_wide_literal (λ piece c. c.literal) ps clean, (none_passes text is_wide_row (λ piece c. c.narrow) ps clean, tt)),
        ),
      ))
      (none_answered ((list_any (is_other_arity text) ps, Arity) ∷ (list_any (λ (input : Declaration). bytes_eq input.name x) text.inputs, InputEquation)
      ∷ (list_any (λ (other : Equation). bytes_eq other.variable x) (map eq earlier), TwoEquations) ∷ (list_any is_bad_operator ps, BadReduce) ∷ [])
      (none_passes text (is_other_arity text) (λ piece c. c.arity) ps clean, (input, (other, (none_passes text is_bad_operator (λ piece c. c.folds) ps clean, tt)))))

  module _ (plain : list_any is_index_name p.params ≡ false) (variables : AllByRecursion (IsGoodVariable p.params) p.variables) (equations : AllByRecursion (IsGoodEquation p) p.equations) where
    items_none : AllByRecursion IsNone (item_kinds text)
    items_none =
        let faults = no_faults p is in
        let declared_kinds = kinds_kept (IsGoodVariable p.params) shapes.declaration_kind (declaration_kind text) decl declaration_none [] p.variables tt variables (all_none 1 (kinds_after shapes.declaration_kind [] p.variables) faults.2) in
        let equated_kinds = kinds_kept (IsGoodEquation p) (shapes.equation_kind (length p.params) p.variables) (equation_kind text) eq equation_none [] p.equations tt equations
        (all_none (1 + length p.variables) (kinds_after (shapes.equation_kind (length p.params) p.variables) [] p.equations) faults.3) in (
          header_none plain,
          all_append IsNone (kinds_after (declaration_kind text) [] (declarations text)) (kinds_after (equation_kind text) [] text.equations)
              (subst (λ (ds : List Declaration). AllByRecursion IsNone (kinds_after (declaration_kind text) [] ds)) (sym declared) declared_kinds) equated_kinds,
        )

    missing_none : AllByRecursion IsNone (missing_kinds text)
    missing_none =
        let faults = all_none 1 (shapes.missing_kinds p.equations 0 p.variables) (no_faults p is).4 in
        all_map IsNone (missing_kind text.equations) (text.outputs ++ text.locals)
        (all_append (λ (d : Declaration). missing_kind text.equations d ≡ None) text.outputs text.locals (of Output refl faults) (of Local refl faults))
      where
        name_of_start : (i : ℕ) (v : Variable) → slice_get p.variables i ≡ Some v → name_of p.variables (0 + i) ≡ v.name
        name_of_start i v at = let start : 0 + i ≡ i = omega arith in ap (name_of p.variables) start ∙ name_at p.variables i v at

        of : (role : Role) → is_input role ≡ false → AllByRecursion IsNone (shapes.missing_kinds p.equations 0 p.variables) → AllByRecursion (λ (d : Declaration). missing_kind text.equations d ≡ None) (declarations_of p.params role p.variables)
        of role other faults = none_missing p.params p.variables eq (λ e. refl) p.equations role other 0 p.variables name_of_start faults

    shape_none : shape_of text ≡ None
    shape_none =
        neither (first_kind 0 (item_kinds text)) (first_kind (1 + length text.inputs) (missing_kinds text)) (none_first 0 (item_kinds text) items_none)
        (none_first (1 + length text.inputs) (missing_kinds text) missing_none)

    -- the limits
    any_declared : (test : Declaration → Bool) → any_declaration test text ≡ list_any (λ v. test (decl v)) p.variables
    any_declared test =
        sym (list_any-append test text.inputs (text.outputs ++ text.locals) ∙ ap (λ b. list_any test text.inputs || b) (list_any-append test text.outputs text.locals))
        ∙ (ap (list_any test) declared ∙ list_any-map test decl p.variables)

    names_few : refusals.has_many_names text ≡ false
    names_few =
        let few = few_parts p is in
        let whole : length text.inputs + length text.outputs + length text.locals ≡ length p.variables =
        let all = sym (ap length declared) in let made = length-map p.variables decl in
        let first = length-append text.inputs (text.outputs ++ text.locals) in let second = length-append text.outputs text.locals in omega (arith, all, made, first, second) in
        or_from (nat_lt 256 (length text.inputs + length text.outputs + length text.locals)) (nat_lt 8 (length p.params)) (at_most 256 (length text.inputs + length text.outputs + length text.locals) (let n = few.0 in omega (arith, whole, n))) (at_most 8 (length p.params) few.1)

    indices_few : (v : Variable) → IsGoodVariable p.params v → has_many_indices (decl v) ≡ false
    indices_few v good =
        let count = shapes.indices (length p.params) v in
        let few : count ≤ 8 = good.indices in
        let same = length-indices 0 count in
        at_most 8 (length (indices 0 count)) (omega (arith, same, few))

    under_few : (e : program.Equation) → IsGoodEquation p e → refusals.stands_under_many (eq e) ≡ false
    under_few e good =
        let facts = good.variable.1 in
        let count = count_of p.params p.variables e.variable in
        let same : count ≡ shapes.indices (length p.params) good.variable.0 = count_is p is kept e.variable good.variable.0 facts.found in
        let under = facts.under in
        let brought = length-indices 0 count in
        let extra = extra_written p.params p.variables (term e.body) count in
        at_most 16 (length (indices 0 count) + tree_extras.extra_under (expression_of p.params p.variables (term e.body) count)) (omega (arith, same, under, brought, extra))

    small : (e : program.Equation) → IsGoodEquation p e → nat_lt 512 (tree.nodes (eq e).body) ≡ false
    small e good =
        let count = count_of p.params p.variables e.variable in
        let same = nodes_written p.params p.variables (term e.body) count in
        let few = good.small in
        at_most 512 (tree.nodes (expression_of p.params p.variables (term e.body) count)) (omega (arith, same, few))

    -- a test that no variable or equation passes
    of_variables : (test : Declaration → Bool) → ((v : Variable) → IsGoodVariable p.params v → test (decl v) ≡ false) → any_declaration test text ≡ false
    of_variables test fails = any_declared test ∙ of_none (λ v. test (decl v)) p.variables (each (IsGoodVariable p.params) (λ v. test (decl v) ≡ false) fails p.variables variables)

    of_equations : (test : Equation → Bool) → ((e : program.Equation) → IsGoodEquation p e → test (eq e) ≡ false) → list_any test text.equations ≡ false
    of_equations test fails = list_any-map test eq p.equations ∙ of_none (λ e. test (eq e)) p.equations (each (IsGoodEquation p) (λ e. test (eq e) ≡ false) fails p.equations equations)

    columns_few : refusals.has_many_columns text ≡ false
    columns_few =
        or_from (any_declaration has_many_indices text) (list_any refusals.stands_under_many text.equations) (of_variables has_many_indices indices_few) (of_equations refusals.stands_under_many under_few)

    nodes_few : refusals.has_many_nodes text ≡ false
    nodes_few = of_equations (λ (e : Equation). nat_lt 512 (tree.nodes e.body)) small

    disjuncts_few : (some_declared has_many_disjuncts text || some_equated has_many_disjuncts text) ≡ false
    disjuncts_few =
        let declared_few = of_variables (λ (d : Declaration). list_any has_many_disjuncts (declaration_pieces text.params d))
        (λ v good. none_passes text has_many_disjuncts (λ piece c. c.few) (declaration_pieces p.params (decl v)) (declaration_clean v good)) in
        let equated_few = of_equations (λ (e : Equation). list_any has_many_disjuncts (equation_pieces text.params e))
        (λ e good. none_passes text has_many_disjuncts (λ piece c. c.few) (equation_pieces p.params (eq e)) (equation_clean e good)) in
        or_from (some_declared has_many_disjuncts text) (some_equated has_many_disjuncts text) declared_few equated_few

    pub accepted : refusal_of text ≡ None
    accepted =
        neither (limit_of text) (shape_of text)
        (none_answered ((refusals.has_many_names text, Limit NamesLimit) ∷ (refusals.has_many_columns text, Limit Columns) ∷ (refusals.has_many_nodes text, Limit Size)
        ∷ (some_declared has_many_disjuncts text || some_equated has_many_disjuncts text, Limit Disjuncts) ∷ [])
        (names_few, (columns_few, (nodes_few, (disjuncts_few, tt))))) shape_none
