-- A program as it is shown, by the grammar.
use Rattle.std.proofs.Common.{◌≡◌, ℕ, zero, suc, ◌+◌, ◌-◌, ◌*◌, ◌<◌, ◌≤◌, Bool, true, false, ◌||◌, List, [], ◌∷◌, ◌++◌, length, refl, sym, ap, subst, ◌∙◌, append-nil, append_assoc, arith}
use Rattle.std.specs.Prelude.{map, flat_map, codes, if◌then◌else◌, nat_le}
use Rattle.std.specs.List.{list_any, AllByRecursion}
use Rattle.std.proofs.lemmas.Bool.{le-leb, false≢true}
use Rattle.az_ast.specs.declared.program.Equation as program
use Rattle.az_ast.specs.declared.program.Role.{Role}
use Rattle.az_ast.specs.declared.program.Role.TheVariants.{Input, Output, Local}
use Rattle.az_ast.specs.declared.program.Variable.{Variable}
use Rattle.az_ast.specs.Nodes.{nodes}
use Rattle.az_ast.specs.Shapes.{indices as number_of_indices}
use Rattle.az_ast.specs.System.{System}
use Rattle.az_ast.specs.Term.{term}
use Rattle.az_text.specs.Lumps.{Lump}
use Rattle.az_text.specs.declared.mark.MarkKind.TheVariants.{Colon, Semicolon, Dot, Equal}
use Rattle.az_text.specs.declared.token.Token.{Token}
use Rattle.alphabets_show.specs.Pieces.{mark, word, space, spaced, line_end, in_brackets, names}
use Rattle.alphabets_show.specs.Sides.{Names, indices, domain}
use Rattle.alphabets_show.specs.Expressions.{name_of, expression}
use Rattle.alphabets_show.specs.Shown.{declaration, has_role, declarations, section, count_of, equation}
use Rattle.alphabets_show.specs.Shown as shown
use Rattle.grammar_rules.specs.Rules.{Rule, many, list_of, TakesMany}
use Rattle.grammar_rules.proofs.Within.{Within, none_of, in_sequence, then_part, first_choice, second_choice, none_of_many, one_of_many, in_list, in_fresh, at_level}
use Rattle.grammar_rules.proofs.Within as within
use Rattle.program_grammar.specs.declared.tree.Declaration.{Declaration}
use Rattle.program_grammar.specs.declared.tree.Equation.{Equation}
use Rattle.program_grammar.specs.Grammar as grammar
use Rattle.program_grammar.specs.Grammar.{expr_body}
use Rattle.program_grammar.specs.Nodes as tree
use Rattle.program_grammar.specs.Values as value
use Rattle.program_grammar.specs.Values.{behind, before, pair}
use Rattle.program_grammar.specs.Words as words
use Rattle.program_grammar.specs.Written.{IsName}
use Rattle.show_grammar.specs.Showable.{IsShowableVariable, IsShowableEquation, IsShowableProgram}
use Rattle.show_grammar.specs.WrittenOf.{only_chains, expression_of, equation_of, disjuncts_of, declaration_of, declarations_of, written_of}
use Rattle.show_grammar.proofs.NameWithin.{name_within, mark_within, keyword_within, same_lumps, at_most, list_from_many}
use Rattle.show_grammar.proofs.SideWithin.{AreNames, indices_within}
use Rattle.show_grammar.proofs.DomainWithin.{domain_within, several_within, one_within}
use Rattle.show_grammar.proofs.ExpressionWithin.{expression_within, as_expression}
use Rattle.show_grammar.proofs.WrittenNodes.{nodes_written}

module _ (params : Names) (ok : AreNames params) (index_names : (from count : ℕ) → AllByRecursion IsName (indices from count)) where
  -- declarations, and sections of them
  declaration_within : (v : Variable) → IsShowableVariable v → Within grammar.declaration (declaration params v) 0 (declaration_of params v)
  declaration_within v is =
      let brought = indices 0 (number_of_indices (length params) v) in
      within.spaced 32 (within.spaced 32 (in_sequence behind (second_choice (none_of tt)) (in_sequence value.declared (name_within 0 v.name is.0)
      (within.spaced 32 (in_sequence before (domain_within params ok grammar.disjuncts brought v.domain (disjuncts_of params v.domain) (index_names 0 (number_of_indices (length params) v)) (several_within params ok v.domain is.1.0))
      (within.spaced_behind 10 (mark_within Semicolon 0)))))))

  declarations_within : (role : Role) (vs : List Variable) → AllByRecursion IsShowableVariable vs → Within (many grammar.declaration) (declarations params role vs) 0 (declarations_of params role vs)
  declarations_within role [] is = none_of_many
  declarations_within role (v ∷ vs) is = by (has_role role v) (declarations_within role vs is.1)
    where
      by : (b : Bool) → Within (many grammar.declaration) (declarations params role vs) 0 (declarations_of params role vs)
          → Within (many grammar.declaration) ((if b then declaration params v else []) ++ declarations params role vs) 0 ((if b then declaration_of params v ∷ [] else []) ++ declarations_of params role vs)
      by true rest = one_of_many (declaration_within v is.0) rest
      by false rest = rest

  -- declarations are there exactly where some variable has the role
  some_declared : (role : Role) (vs : List Variable) → list_any (has_role role) vs ≡ true → declarations_of params role vs ≡ [] → ⊥
  some_declared role [] some none = absurd (false≢true some)
  some_declared role (v ∷ vs) some none = by (has_role role v) some none (some_declared role vs)
    where
      by : (b : Bool) → (b || list_any (has_role role) vs) ≡ true → ((if b then declaration_of params v ∷ [] else []) ++ declarations_of params role vs) ≡ []
          → (list_any (has_role role) vs ≡ true → declarations_of params role vs ≡ [] → ⊥) → ⊥
      by true some none rest = cc
      by false some none rest = rest some none

  none_declared : (role : Role) (vs : List Variable) → list_any (has_role role) vs ≡ false → declarations_of params role vs ≡ []
  none_declared role [] none = refl
  none_declared role (v ∷ vs) none = by (has_role role v) none (none_declared role vs)
    where
      by : (b : Bool) → (b || list_any (has_role role) vs) ≡ false → (list_any (has_role role) vs ≡ false → declarations_of params role vs ≡ [])
          → ((if b then declaration_of params v ∷ [] else []) ++ declarations_of params role vs) ≡ []
      by true none rest = absurd (cc)
      by false none rest = rest none

  section_within : (heading : List ℕ) (role : Role) (vs : List Variable) → AllByRecursion IsShowableVariable vs → Within (grammar.section heading) (section heading role params vs) 0 (declarations_of params role vs)
  section_within heading role vs is = by (list_any (has_role role) vs) refl
    where
      some : (ds : List Declaration) → declarations_of params role vs ≡ ds → (ds ≡ [] → ⊥) → Within (grammar.section heading) (word heading ∷ line_end ∷ declarations params role vs) 0 ds
      some [] same differs = absurd (differs refl)
      some (d ∷ ds) same differs =
          first_choice (in_sequence behind (keyword_within heading 0) (within.spaced 10
          (list_from_many d ds (subst (λ (all : List Declaration). Within (many grammar.declaration) (declarations params role vs) 0 all) same (declarations_within role vs is)))))

      by : (b : Bool) → list_any (has_role role) vs ≡ b → Within (grammar.section heading) (if b then word heading ∷ line_end ∷ declarations params role vs else []) 0 (declarations_of params role vs)
      by true there = some (declarations_of params role vs) refl (some_declared role vs there)
      by false none = subst (λ (all : List Declaration). Within (grammar.section heading) [] 0 all) (sym (none_declared role vs none)) (second_choice (none_of []))

  -- equations
  module _ (variables : List Variable) where
    equation_within : (e : program.Equation) → IsShowableEquation variables e → Within grammar.equation (equation params variables e) 0 (equation_of params variables e)
    equation_within e is =
        let brought = count_of params variables e.variable in
        let body = expression_of params variables (term e.body) brought in
        let same = nodes_written params variables (term e.body) brought in
        let small : nodes (term e.body) ≤ 512 = is.1 in
        let few : tree.nodes body ≤ 512 = omega (arith, same, small) in
        let no_weight : grammar.weight_of_end body ≡ 0 = ap (λ b. if b then 0 else 1) (le-leb (tree.nodes body) 512 few) in
        let end = subst (λ (w : ℕ). Within (words.mark Semicolon w) (mark Semicolon ∷ line_end ∷ []) 0 tt) (sym no_weight) (within.spaced_behind 10 (mark_within Semicolon 0)) in
        let expr = at_level expr_body (suc (nodes (term e.body))) (as_expression (nodes (term e.body)) (expression_within params variables ok index_names (term e.body) brought (nodes (term e.body)) is.2 (omega arith))) in
        let whole = within.spaced 32 (within.spaced 32 (in_sequence value.equation (name_within 0 (name_of variables e.variable) is.0)
        (in_sequence pair (indices_within (indices 0 brought) (index_names 0 brought)) (within.spaced 32 (in_sequence behind (mark_within Equal 0) (within.spaced 32 expr)))))) in
        let lumps = expression params variables (term e.body) brought in
        let regrouped = ap (λ (r : List Lump). space ∷ space ∷ word (name_of variables e.variable) ∷ r) (append_assoc (in_brackets (names (indices 0 brought))) (spaced Equal lumps) (mark Semicolon ∷ line_end ∷ [])) in
        at_most 0 (same_lumps regrouped (then_part before (λ (written : Equation). words.mark Semicolon (grammar.weight_of_end written.body)) (in_fresh grammar.nodes_and_parentheses whole) end)) (omega arith)

    equations_within : (es : List program.Equation) → AllByRecursion (IsShowableEquation variables) es → Within (many grammar.equation) (flat_map (equation params variables) es) 0 (map (equation_of params variables) es)
    equations_within [] is = none_of_many
    equations_within (e ∷ es) is = one_of_many (equation_within e is.0) (equations_within es is.1)

-- the whole program
pub program_within : (p : System) → IsShowableProgram p → AreNames p.params → ((from count : ℕ) → AllByRecursion IsName (indices from count)) → Within grammar.program (shown.program p) 0 (written_of p)
program_within p is ok index_names =
    let inputs = section (codes "input") Input p.params p.variables in
    let outputs = section (codes "output") Output p.params p.variables in
    let locals = section (codes "local") Local p.params p.variables in
    let parameters = domain p.params p.params p.pdom in
    let equations = word (codes "let") ∷ line_end ∷ (flat_map (equation p.params p.variables) p.equations ++ mark Dot ∷ line_end ∷ []) in
    let regrouped = ap (λ (r : List Lump). word (codes "affine") ∷ space ∷ word p.name ∷ space ∷ r) (append_assoc parameters (line_end ∷ (inputs ++ (outputs ++ locals))) equations
    ∙ ap (λ (r : List Lump). parameters ++ line_end ∷ r) (append_assoc inputs (outputs ++ locals) equations ∙ ap (λ (r : List Lump). inputs ++ r) (append_assoc outputs locals equations))) in
    let first = section_within p.params ok index_names (codes "input") Input p.variables is.variables in
    let second = section_within p.params ok index_names (codes "output") Output p.variables is.variables in
    let third = section_within p.params ok index_names (codes "local") Local p.variables is.variables in
    let header = in_sequence behind (keyword_within (codes "affine") 0) (within.spaced 32 (in_sequence pair (name_within 0 p.name is.name) (within.spaced 32
    (in_sequence pair (domain_within p.params ok grammar.rows p.params p.pdom (only_chains p.params p.pdom.disjuncts) is.params (one_within p.params ok p.pdom is.domain.0))
    (within.spaced 10 (in_sequence pair first (in_sequence pair second third))))))) in
    let rest = in_sequence behind (keyword_within (codes "let") 0) (within.spaced 10
    (in_sequence before (equations_within p.params ok index_names p.variables p.equations is.equations) (within.spaced_behind 10 (mark_within Dot 0)))) in
    same_lumps regrouped (in_sequence value.program header rest)
