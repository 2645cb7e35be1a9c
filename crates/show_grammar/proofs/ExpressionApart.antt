-- Expressions and programs as they are shown stand apart.
use Rattle.std.proofs.Common.{◌≡◌, ℕ, zero, suc, ◌+◌, ◌<◌, ◌≤◌, ◌^◌, Bool, true, false, List, [], ◌∷◌, ◌++◌, length, refl, sym, ap, subst, ◌∙◌, append_assoc, arith}
use Rattle.std.specs.Prelude.{if◌then◌else◌, flat_map, codes, ℤ, pos, negsuc, unsigned_abs}
use Rattle.std.specs.List.{list_any, AllByRecursion}
use Rattle.az_lin.specs.Affine.{Union}
use Rattle.az_ast.specs.declared.op.Op.{Op}
use Rattle.az_ast.specs.declared.op.Op.TheVariants.{Add, Sub, Mul, And, Or, Xor, Max, Min}
use Rattle.az_ast.specs.declared.program.Equation.{Equation}
use Rattle.az_ast.specs.declared.program.Role.{Role}
use Rattle.az_ast.specs.declared.program.Role.TheVariants.{Input, Output, Local}
use Rattle.az_ast.specs.declared.program.Variable.{Variable}
use Rattle.az_ast.specs.Shapes.{indices as number_of_indices}
use Rattle.az_ast.specs.System.{System}
use Rattle.az_ast.specs.Term.{Term, constant, index, access, negation, binary, cases, reduction, Choices, none, choice, term}
use Rattle.az_text.specs.Lumps.{Lump, bytes_of}
use Rattle.az_text.specs.Pieces.{mark_goes_on}
use Rattle.az_text.specs.Tokens.{IsWord}
use Rattle.az_text.specs.declared.mark.MarkKind.{MarkKind}
use Rattle.az_text.specs.declared.mark.MarkKind.TheVariants.{Plus, Minus, Star, Colon, Semicolon, Dot, Equal}
use Rattle.alphabets_show.specs.Pieces.{mark, word, number, space, line_end, spaced, comma_space, in_parentheses, in_brackets, names}
use Rattle.alphabets_show.specs.Sides.{Names, indices, affine, affines, restriction, domain}
use Rattle.alphabets_show.specs.Expressions.{literal, infix_form, call_form, operation, operator, name_of, expression, branch_list}
use Rattle.alphabets_show.specs.Shown.{declaration, has_role, declarations, section, count_of, equation}
use Rattle.alphabets_show.specs.Shown as shown
use Rattle.program_grammar.specs.Written.{IsName}
use Rattle.show_grammar.specs.Showable.{IsSpelled, IsShowable, AreShowable, IsShowableVariable, IsShowableEquation, IsShowableProgram}
use Rattle.show_grammar.proofs.Apart.{IsOpen, Spelled, Opens, nothing_spelled, nothing_opens, spelled_append, word_spelled, number_spelled, mark_spelled, blank_spelled, number_no_arrow, minus_spelled, spaced_spelled, comma_space_spelled, parentheses_spelled, brackets_spelled, many_open, many_spelled}
use Rattle.show_grammar.proofs.SideWithin.{AreNames}
use Rattle.show_grammar.proofs.SidesApart.{affine_spelled, affines_spelled, restriction_spelled, names_spelled, domain_spelled}

literal_spelled : (c : ℤ) → IsSpelled c → Spelled (literal c)
literal_spelled (pos n) few = number_spelled n [] few nothing_opens nothing_spelled
literal_spelled (negsuc n) few =
    minus_spelled (number (suc n) ∷ []) (λ after opened. number_no_arrow (suc n) [] after few) (number_spelled (suc n) [] few nothing_opens nothing_spelled)

infix_spelled : (kind : MarkKind) (left right : List Lump) → mark_goes_on kind 32 ≡ false → Spelled left → Spelled right → Spelled (infix_form kind left right)
infix_spelled kind left right ends one two =
    parentheses_spelled (left ++ spaced kind right) (spelled_append left (spaced kind right) one (λ after opened. refl) (spaced_spelled kind right ends two))

call_spelled : (function : List ℕ) (left right : List Lump) → IsWord function → Spelled left → Spelled right → Spelled (call_form function left right)
call_spelled function left right is one two =
    word_spelled function (in_parentheses (left ++ comma_space right)) is (λ after opened. refl)
    (parentheses_spelled (left ++ comma_space right) (spelled_append left (comma_space right) one (λ after opened. refl) (comma_space_spelled right two)))

operation_spelled : (op : Op) (left right : List Lump) → Spelled left → Spelled right → Spelled (operation op left right)
operation_spelled Add left right one two = infix_spelled Plus left right refl one two
operation_spelled Sub left right one two = infix_spelled Minus left right refl one two
operation_spelled Mul left right one two = infix_spelled Star left right refl one two
operation_spelled And left right one two = call_spelled (codes "and") left right (refl, (refl, (refl, tt))) one two
operation_spelled Or left right one two = call_spelled (codes "or") left right (refl, (refl, tt)) one two
operation_spelled Xor left right one two = call_spelled (codes "xor") left right (refl, (refl, (refl, tt))) one two
operation_spelled Max left right one two = call_spelled (codes "max") left right (refl, (refl, (refl, tt))) one two
operation_spelled Min left right one two = call_spelled (codes "min") left right (refl, (refl, (refl, tt))) one two

-- the operator of a reduction, before a comma
operator_spelled : (op : Op) (rest : List Lump) → Spelled rest → Spelled (operator op ∷ comma_space rest)
operator_spelled Add rest spelled = mark_spelled Plus (comma_space rest) (λ b. refl) (comma_space_spelled rest spelled)
operator_spelled Sub rest spelled = minus_spelled (comma_space rest) (λ after opened. refl) (comma_space_spelled rest spelled)
operator_spelled Mul rest spelled = mark_spelled Star (comma_space rest) (λ b. refl) (comma_space_spelled rest spelled)
operator_spelled And rest spelled = word_spelled (codes "and") (comma_space rest) (refl, (refl, (refl, tt))) (λ after opened. refl) (comma_space_spelled rest spelled)
operator_spelled Or rest spelled = word_spelled (codes "or") (comma_space rest) (refl, (refl, tt)) (λ after opened. refl) (comma_space_spelled rest spelled)
operator_spelled Xor rest spelled = word_spelled (codes "xor") (comma_space rest) (refl, (refl, (refl, tt))) (λ after opened. refl) (comma_space_spelled rest spelled)
operator_spelled Max rest spelled = word_spelled (codes "max") (comma_space rest) (refl, (refl, (refl, tt))) (λ after opened. refl) (comma_space_spelled rest spelled)
operator_spelled Min rest spelled = word_spelled (codes "min") (comma_space rest) (refl, (refl, (refl, tt))) (λ after opened. refl) (comma_space_spelled rest spelled)

module _ (params : Names) (variables : List Variable) (named : AreNames params) (index_names : (from count : ℕ) → AllByRecursion IsName (indices from count)) where
  mutual
    expression_spelled : (t : Term) (count : ℕ) → IsShowable variables t → Spelled (expression params variables t count)
    expression_spelled (constant c) count is = literal_spelled c is
    expression_spelled (index row) count is = brackets_spelled (affine params row) (affine_spelled params named row is)
    expression_spelled (access x f) count is =
        word_spelled (name_of variables x) (in_brackets (affines params f.rows)) is.0.0 (λ after opened. refl) (brackets_spelled (affines params f.rows) (affines_spelled params named f.rows is.1))
    expression_spelled (negation e) count is =
        minus_spelled (in_parentheses (expression params variables e count)) (λ after opened. refl) (parentheses_spelled (expression params variables e count) (expression_spelled e count is))
    expression_spelled (binary op a b) count is =
        operation_spelled op (expression params variables a count) (expression params variables b count) (expression_spelled a count is.0) (expression_spelled b count is.1)
    expression_spelled (cases branches) count is =
        let all = branch_list params variables branches count in
        let esac = word_spelled (codes "esac") [] (refl, (refl, (refl, (refl, tt)))) nothing_opens nothing_spelled in
        word_spelled (codes "case") (space ∷ (all ++ word (codes "esac") ∷ [])) (refl, (refl, (refl, (refl, tt)))) (λ after opened. refl)
        (blank_spelled 32 (all ++ word (codes "esac") ∷ []) refl (branches_spelled branches count (word (codes "esac") ∷ []) is.1 esac))
    expression_spelled (reduction op extra d e) count is =
        let brought = in_brackets (names (indices count extra)) in
        let limits = restriction params d in
        let body = expression params variables e (count + extra) in
        let last = spelled_append limits (spaced Colon body) (restriction_spelled params named d is.1.1) (λ after opened. refl) (spaced_spelled Colon body refl (expression_spelled e (count + extra) is.2)) in
        let middle = spelled_append brought (comma_space (limits ++ spaced Colon body)) (brackets_spelled (names (indices count extra)) (names_spelled params named (indices count extra) (index_names count extra))) (λ after opened. refl)
        (comma_space_spelled (limits ++ spaced Colon body) last) in
        word_spelled (codes "reduce") (in_parentheses (operator op ∷ comma_space (brought ++ comma_space (limits ++ spaced Colon body)))) (refl, (refl, (refl, (refl, (refl, (refl, tt)))))) (λ after opened. refl)
        (parentheses_spelled (operator op ∷ comma_space (brought ++ comma_space (limits ++ spaced Colon body))) (operator_spelled op (brought ++ comma_space (limits ++ spaced Colon body)) middle))

    -- branches, before what needs no opening
    branches_spelled : (branches : Choices) (count : ℕ) (rest : List Lump) → AreShowable variables branches → Spelled rest → Spelled (branch_list params variables branches count ++ rest)
    branches_spelled none count rest is spelled = spelled
    branches_spelled (choice d e others) count rest is spelled =
        let limits = restriction params d in
        let body = expression params variables e count in
        let end = mark Semicolon ∷ space ∷ [] in
        let more = branch_list params variables others count ++ rest in
        let regrouped : ((limits ++ spaced Colon (body ++ end)) ++ branch_list params variables others count) ++ rest ≡ limits ++ spaced Colon (body ++ (mark Semicolon ∷ space ∷ more)) =
        append_assoc (limits ++ spaced Colon (body ++ end)) (branch_list params variables others count) rest
        ∙ (append_assoc limits (spaced Colon (body ++ end)) more ∙ ap (λ (r : List Lump). limits ++ spaced Colon r) (append_assoc body end more)) in
        let behind = mark_spelled Semicolon (space ∷ more) (λ b. refl) (blank_spelled 32 more refl (branches_spelled others count rest is.2 spelled)) in
        subst Spelled (sym regrouped)
        (spelled_append limits (spaced Colon (body ++ (mark Semicolon ∷ space ∷ more))) (restriction_spelled params named d is.0.1) (λ after opened. refl)
        (spaced_spelled Colon (body ++ (mark Semicolon ∷ space ∷ more)) refl (spelled_append body (mark Semicolon ∷ space ∷ more) (expression_spelled e count is.1) (λ after opened. refl) behind)))

  -- lines, each before any lumps
  end_spelled : (rest : List Lump) → Spelled rest → Spelled (mark Semicolon ∷ line_end ∷ rest)
  end_spelled rest spelled = mark_spelled Semicolon (line_end ∷ rest) (λ b. refl) (blank_spelled 10 rest refl spelled)

  declaration_spelled : (v : Variable) (rest : List Lump) → IsShowableVariable v → Spelled rest → Spelled (declaration params v ++ rest)
  declaration_spelled v rest is spelled =
      let brought = indices 0 (number_of_indices (length params) v) in
      let all = domain brought params v.domain in
      subst (λ (r : List Lump). Spelled (space ∷ space ∷ word v.name ∷ space ∷ r)) (sym (append_assoc all (mark Semicolon ∷ line_end ∷ []) rest))
      (blank_spelled 32 (space ∷ word v.name ∷ space ∷ (all ++ (mark Semicolon ∷ line_end ∷ rest))) refl (blank_spelled 32 (word v.name ∷ space ∷ (all ++ (mark Semicolon ∷ line_end ∷ rest))) refl
      (word_spelled v.name (space ∷ (all ++ (mark Semicolon ∷ line_end ∷ rest))) is.0.0 (λ after opened. refl) (blank_spelled 32 (all ++ (mark Semicolon ∷ line_end ∷ rest)) refl
      (spelled_append all (mark Semicolon ∷ line_end ∷ rest) (domain_spelled params named brought v.domain (index_names 0 (number_of_indices (length params) v)) is.1.1) (λ after opened. refl) (end_spelled rest spelled))))))

  declarations_spelled : (role : Role) (vs : List Variable) (rest : List Lump) → AllByRecursion IsShowableVariable vs → Spelled rest → Spelled (declarations params role vs ++ rest)
  declarations_spelled role [] rest is spelled = spelled
  declarations_spelled role (v ∷ vs) rest is spelled =
      subst Spelled (sym (append_assoc (if has_role role v then declaration params v else []) (declarations params role vs) rest)) (by (has_role role v) (declarations_spelled role vs rest is.1 spelled))
    where
      by : (b : Bool) → Spelled (declarations params role vs ++ rest) → Spelled ((if b then declaration params v else []) ++ (declarations params role vs ++ rest))
      by true later = declaration_spelled v (declarations params role vs ++ rest) is.0 later
      by false later = later

  section_spelled : (heading : List ℕ) (role : Role) (vs : List Variable) (rest : List Lump) → IsWord heading → AllByRecursion IsShowableVariable vs → Spelled rest → Spelled (section heading role params vs ++ rest)
  section_spelled heading role vs rest word_ is spelled = by (list_any (has_role role) vs)
    where
      by : (b : Bool) → Spelled ((if b then word heading ∷ line_end ∷ declarations params role vs else []) ++ rest)
      by true =
          word_spelled heading (line_end ∷ (declarations params role vs ++ rest)) word_ (λ after opened. refl)
          (blank_spelled 10 (declarations params role vs ++ rest) refl (declarations_spelled role vs rest is spelled))
      by false = spelled

  equation_spelled : (e : Equation) (rest : List Lump) → IsShowableEquation variables e → Spelled rest → Spelled (equation params variables e ++ rest)
  equation_spelled e rest is spelled =
      let count = count_of params variables e.variable in
      let x = name_of variables e.variable in
      let brought = in_brackets (names (indices 0 count)) in
      let body = expression params variables (term e.body) count in
      let end = mark Semicolon ∷ line_end ∷ rest in
      let regrouped : (brought ++ spaced Equal (body ++ mark Semicolon ∷ line_end ∷ [])) ++ rest ≡ brought ++ spaced Equal (body ++ end) =
      append_assoc brought (spaced Equal (body ++ mark Semicolon ∷ line_end ∷ [])) rest ∙ ap (λ (r : List Lump). brought ++ spaced Equal r) (append_assoc body (mark Semicolon ∷ line_end ∷ []) rest) in
      subst (λ (r : List Lump). Spelled (space ∷ space ∷ word x ∷ r)) (sym regrouped)
      (blank_spelled 32 (space ∷ word x ∷ (brought ++ spaced Equal (body ++ end))) refl (blank_spelled 32 (word x ∷ (brought ++ spaced Equal (body ++ end))) refl
      (word_spelled x (brought ++ spaced Equal (body ++ end)) is.0.0 (λ after opened. refl)
      (spelled_append brought (spaced Equal (body ++ end)) (brackets_spelled (names (indices 0 count)) (names_spelled params named (indices 0 count) (index_names 0 count))) (λ after opened. refl)
      (spaced_spelled Equal (body ++ end) refl (spelled_append body end (expression_spelled (term e.body) count is.2) (λ after opened. refl) (end_spelled rest spelled)))))))

  equations_spelled : (es : List Equation) (rest : List Lump) → AllByRecursion (IsShowableEquation variables) es → Spelled rest → Spelled (flat_map (equation params variables) es ++ rest)
  equations_spelled [] rest is spelled = spelled
  equations_spelled (e ∷ es) rest is spelled =
      subst Spelled (sym (append_assoc (equation params variables e) (flat_map (equation params variables) es) rest))
      (equation_spelled e (flat_map (equation params variables) es ++ rest) is.0 (equations_spelled es rest is.1 spelled))

pub program_spelled : (p : System) → IsShowableProgram p → AreNames p.params → ((from count : ℕ) → AllByRecursion IsName (indices from count)) → Spelled (shown.program p)
program_spelled p is named index_names =
    let params = p.params in
    let vs = p.variables in
    let end = mark Dot ∷ line_end ∷ [] in
    let equations = flat_map (equation params vs) p.equations ++ end in
    let body = word (codes "let") ∷ line_end ∷ equations in
    let last = equations_spelled params vs named index_names p.equations end is.equations (mark_spelled Dot (line_end ∷ []) (λ b. refl) (blank_spelled 10 [] refl nothing_spelled)) in
    let rest = word_spelled (codes "let") (line_end ∷ equations) (refl, (refl, (refl, tt))) (λ after opened. refl) (blank_spelled 10 equations refl last) in
    let locals = section_spelled params vs named index_names (codes "local") Local vs body (refl, (refl, (refl, (refl, (refl, tt))))) is.variables rest in
    let outputs = section_spelled params vs named index_names (codes "output") Output vs (section (codes "local") Local params vs ++ body) (refl, (refl, (refl, (refl, (refl, (refl, tt)))))) is.variables locals in
    let inputs = section_spelled params vs named index_names (codes "input") Input vs (section (codes "output") Output params vs ++ (section (codes "local") Local params vs ++ body))
    (refl, (refl, (refl, (refl, (refl, tt))))) is.variables outputs in
    let sections = section (codes "input") Input params vs ++ (section (codes "output") Output params vs ++ (section (codes "local") Local params vs ++ body)) in
    let parameters = domain params params p.pdom in
    word_spelled (codes "affine") (space ∷ word p.name ∷ space ∷ (parameters ++ line_end ∷ sections)) (refl, (refl, (refl, (refl, (refl, (refl, tt)))))) (λ after opened. refl)
    (blank_spelled 32 (word p.name ∷ space ∷ (parameters ++ line_end ∷ sections)) refl
    (word_spelled p.name (space ∷ (parameters ++ line_end ∷ sections)) is.name.0 (λ after opened. refl)
    (blank_spelled 32 (parameters ++ line_end ∷ sections) refl
    (spelled_append parameters (line_end ∷ sections) (domain_spelled params named params p.pdom is.params is.domain.1) (λ after opened. refl) (blank_spelled 10 sections refl inputs)))))
