-- The resolved expression of each form, and what is known of the parts of one that is in range.
use Rattle.std.proofs.Common.{◌≡◌, ℕ, ◌-◌, ◌≤◌, List, [], ◌∷◌, ◌++◌, length, Bool, false, sym, ap, ◌∙◌, arith, get_or, take, drop, rules}
use Rattle.std.specs.Prelude.{map}
use Rattle.std.specs.List.{list_any}
use Rattle.std.proofs.lemmas.List.Folds.{list_any-append}
use Rattle.az_ast.specs.declared.expr.Branch as program
use Rattle.az_ast.specs.declared.expr.Expr.TheVariants as form
use Rattle.program_grammar.specs.declared.tree.Branch.{Branch}
use Rattle.program_grammar.specs.declared.tree.Chain.{Chain}
use Rattle.program_grammar.specs.declared.tree.Expr as tree
use Rattle.program_grammar.specs.declared.tree.Expr.TheVariants.{Constant, Index, Access, Negation, Binary, Cases, Reduction}
use Rattle.program_grammar.specs.declared.tree.Expr.TheFolds.{the_lemmas}
use Rattle.program_grammar.specs.declared.tree.Operator.{Operator}
use Rattle.grammar_rules.specs.declared.term.Term.{Term}
use Rattle.program_grammar.specs.Nodes.{nodes}
use Rattle.program_names.specs.Pieces.{Piece, row, place, names, operator, rows, domain_pieces, pieces, pieces_of_branches}
use Rattle.program_names.specs.Branches.{resolved_branch}
use Rattle.program_names.specs.Resolved.{op_of, number_of, expression}
use Rattle.program_names.specs.Sides.{Scope, alone, signed, row_of, map_of, union_of}
use Rattle.program_names.proofs.PieceLemmas.{pieces-Access, pieces-Negation, pieces-Binary, pieces-Cases, pieces-Reduction}
use Rattle.std.proofs.Math.Seq.{take-length}
use Rattle.std.proofs.lemmas.Simd.{map-map}
use Rattle.program_names.specs.Refusals.{has_entry_out, is_wide_row}
use Rattle.program_names.proofs.Sums.{or-left, or-right, list_any-map}

module _ (variables : List (List ℕ)) where
  pub expression-Constant : (negative : Bool) (n : ℕ) (scope : Scope) → expression variables (Constant negative n) scope ≡ form.Const (signed negative n)
  expression-Constant negative n scope = search (rules, the_lemmas)

  pub expression-Index : (side : List Term) (scope : Scope) → expression variables (Index side) scope ≡ form.Index (row_of scope (alone side))
  expression-Index side scope = search (rules, the_lemmas)

  pub expression-Access : (x : List ℕ) (sides : List (List Term)) (scope : Scope) → expression variables (Access x sides) scope ≡ form.Access (number_of variables x) (map_of scope sides)
  expression-Access x sides scope = search (rules, the_lemmas)

  pub expression-Negation : (e : tree.Expr) (scope : Scope) → expression variables (Negation e) scope ≡ form.Neg (expression variables e scope)
  expression-Negation e scope = search (rules, the_lemmas)

  pub expression-Binary : (op : Operator) (a b : tree.Expr) (scope : Scope) →
      expression variables (Binary op a b) scope ≡ form.Bin (op_of op) (expression variables a scope) (expression variables b scope)
  expression-Binary op a b scope = search (rules, the_lemmas)

  cases-layer : (branches : List Branch) (scope : Scope) →
      expression variables (Cases branches) scope ≡ form.Cases (map (λ (b : Scope → program.Branch). b scope) (map (λ (b : Branch) (s : Scope). resolved_branch variables s b) branches))
  cases-layer branches scope = search (rules, the_lemmas)

  pub expression-Cases : (branches : List Branch) (scope : Scope) → expression variables (Cases branches) scope ≡ form.Cases (map (resolved_branch variables scope) branches)
  expression-Cases branches scope =
      cases-layer branches scope ∙ ap form.Cases (map-map (λ (b : Scope → program.Branch). b scope) (λ (b : Branch) (s : Scope). resolved_branch variables s b) branches)

  pub expression-Reduction : (op : Operator) (extra : List (List ℕ)) (chains : List Chain) (e : tree.Expr) (scope : Scope) →
      expression variables (Reduction op extra chains e) scope
      ≡ form.Reduce (op_of op) (length extra) (union_of (scope ++ extra) (chains ∷ [])) (expression variables e (scope ++ extra))
  expression-Reduction op extra chains e scope = search (rules, the_lemmas)

-- where no piece passes a test, none of a part does
module _ (test : Piece → Bool) (scope : Scope) where
  pub first-part : (xs ys : List Piece) → list_any test (xs ++ ys) ≡ false → list_any test xs ≡ false
  first-part xs ys h = or-left (list_any test xs) (list_any test ys) (sym (list_any-append test xs ys) ∙ h)

  pub second-part : (xs ys : List Piece) → list_any test (xs ++ ys) ≡ false → list_any test ys ≡ false
  second-part xs ys h = or-right (list_any test xs) (list_any test ys) (sym (list_any-append test xs ys) ∙ h)

  pub rest-part : (x : Piece) (xs : List Piece) → list_any test (x ∷ xs) ≡ false → list_any test xs ≡ false
  rest-part x xs h = or-right (test x) (list_any test xs) h

  pub none_in_left : (op : Operator) (a b : tree.Expr) → list_any test (pieces (Binary op a b) scope) ≡ false → list_any test (pieces a scope) ≡ false
  none_in_left op a b h = first-part (pieces a scope) (pieces b scope) (ap (list_any test) (sym (pieces-Binary op a b scope)) ∙ h)

  pub none_in_right : (op : Operator) (a b : tree.Expr) → list_any test (pieces (Binary op a b) scope) ≡ false → list_any test (pieces b scope) ≡ false
  none_in_right op a b h = second-part (pieces a scope) (pieces b scope) (ap (list_any test) (sym (pieces-Binary op a b scope)) ∙ h)

  pub none_in_negation : (e : tree.Expr) → list_any test (pieces (Negation e) scope) ≡ false → list_any test (pieces e scope) ≡ false
  none_in_negation e h = ap (list_any test) (sym (pieces-Negation e scope)) ∙ h

  pub none_in_cases : (branches : List Branch) → list_any test (pieces (Cases branches) scope) ≡ false → list_any test (pieces_of_branches branches scope) ≡ false
  none_in_cases branches h = ap (list_any test) (sym (pieces-Cases branches scope)) ∙ h

  module _ (op : Operator) (extra : List (List ℕ)) (chains : List Chain) (e : tree.Expr) (h : list_any test (pieces (Reduction op extra chains e) scope) ≡ false) where
    inside : list_any test (rows (scope ++ extra) chains ++ pieces e (scope ++ extra)) ≡ false
    inside =
        let inner = rows (scope ++ extra) chains ++ pieces e (scope ++ extra) in
        rest-part (names scope extra) inner (rest-part (operator op) (names scope extra ∷ inner) (ap (list_any test) (sym (pieces-Reduction op extra chains e scope)) ∙ h))

    pub none_in_domain : list_any test (rows (scope ++ extra) chains) ≡ false
    none_in_domain = first-part (rows (scope ++ extra) chains) (pieces e (scope ++ extra)) inside

    pub none_in_body : list_any test (pieces e (scope ++ extra)) ≡ false
    none_in_body = second-part (rows (scope ++ extra) chains) (pieces e (scope ++ extra)) inside

  -- the first of some branches, and the others
  module _ (b : Branch) (branches : List Branch) (h : list_any test (pieces_of_branches (b ∷ branches) scope) ≡ false) where
    here : list_any test (domain_pieces scope b.disjuncts ++ pieces b.body scope) ≡ false
    here = first-part (domain_pieces scope b.disjuncts ++ pieces b.body scope) (pieces_of_branches branches scope) h

    pub none_in_first_domain : list_any test (domain_pieces scope b.disjuncts) ≡ false
    none_in_first_domain = first-part (domain_pieces scope b.disjuncts) (pieces b.body scope) here

    pub none_in_first_body : list_any test (pieces b.body scope) ≡ false
    none_in_first_body = second-part (domain_pieces scope b.disjuncts) (pieces b.body scope) here

    pub none_in_others : list_any test (pieces_of_branches branches scope) ≡ false
    none_in_others = second-part (domain_pieces scope b.disjuncts ++ pieces b.body scope) (pieces_of_branches branches scope) h

-- the rows of an access
pub access-fits : (scope : Scope) (e : tree.Expr) (x : List ℕ) (sides got : List (List Term)) → e ≡ Access x sides → got ≡ sides →
    list_any is_wide_row (pieces e scope) ≡ false → list_any (λ (side : List Term). has_entry_out (row_of scope (alone side))) got ≡ false
access-fits scope e x sides got is same h =
    ap (list_any (λ (side : List Term). has_entry_out (row_of scope (alone side)))) same
    ∙ (sym (list_any-map is_wide_row (λ (side : List Term). row scope (alone side)) sides)
    ∙ rest-part is_wide_row scope (place x (length sides)) (map (λ (side : List Term). row scope (alone side)) sides)
    (ap (list_any is_wide_row) (sym (pieces-Access x sides scope)) ∙ (ap (λ e. list_any is_wide_row (pieces e scope)) (sym is) ∙ h)))

pub domain-fits : (scope inner : Scope) (e : tree.Expr) (op : Operator) (extra : List (List ℕ)) (chains got : List Chain) (body : tree.Expr) →
    e ≡ Reduction op extra chains body → inner ≡ scope ++ extra → got ≡ chains → list_any is_wide_row (pieces e scope) ≡ false → list_any is_wide_row (rows inner got) ≡ false
domain-fits scope inner e op extra chains got body is wide same h =
    ap (λ s. list_any is_wide_row (rows s got)) wide
    ∙ (ap (λ g. list_any is_wide_row (rows (scope ++ extra) g)) same
    ∙ none_in_domain is_wide_row scope op extra chains body (ap (λ e. list_any is_wide_row (pieces e scope)) (sym is) ∙ h))

module _ (test : Piece → Bool) (scope : Scope) where
  pub left-fits : (e got : tree.Expr) (op : Operator) (a b : tree.Expr) → e ≡ Binary op a b → got ≡ a → list_any test (pieces e scope) ≡ false → list_any test (pieces got scope) ≡ false
  left-fits e got op a b is same h =
      ap (λ g. list_any test (pieces g scope)) same ∙ none_in_left test scope op a b (ap (λ e. list_any test (pieces e scope)) (sym is) ∙ h)

  pub cases-fit : (e : tree.Expr) (got branches : List Branch) → e ≡ Cases branches → got ≡ branches → list_any test (pieces e scope) ≡ false → list_any test (pieces_of_branches got scope) ≡ false
  cases-fit e got branches is same h =
      ap (λ g. list_any test (pieces_of_branches g scope)) same ∙ none_in_cases test scope branches (ap (λ e. list_any test (pieces e scope)) (sym is) ∙ h)

  pub rest-fits : (branches rest : List Branch) (b : Branch) → branches ≡ b ∷ rest → list_any test (pieces_of_branches branches scope) ≡ false → list_any test (pieces_of_branches rest scope) ≡ false
  rest-fits branches rest b is h = none_in_others test scope b rest (ap (λ bs. list_any test (pieces_of_branches bs scope)) (sym is) ∙ h)

-- the first of some branches and the others
pub first-and-rest : (branches : List Branch) (b : Branch) → 1 ≤ length branches → b ≡ get_or branches 0 b → branches ≡ b ∷ take (length branches - 1) (drop 1 branches)
first-and-rest [] b some at = absurd (omega (arith, some))
first-and-rest (x ∷ branches) b some at =
    let n : length branches ≡ length (x ∷ branches) - 1 = omega arith in
    ap (λ y. y ∷ branches) (sym at) ∙ ap (λ r. b ∷ r) (sym (take-length branches) ∙ ap (λ k. take k branches) n)

-- every expression has a node
pub nodes-positive : (e : tree.Expr) → 1 ≤ nodes e
nodes-positive e = first_of (search (rules, the_lemmas), grind (arith, the_lemmas), grind (arith, rules, the_lemmas))
