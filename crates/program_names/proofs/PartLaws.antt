-- A test of the parts of a resolved expression that no part passes, where no piece of the text passes one.
use Rattle.std.proofs.Common.{◌≡◌, ℕ, List, [], ◌∷◌, ◌++◌, length, Bool, false, sym, ap, refl, ◌∙◌}
use Rattle.std.specs.Prelude.{ℤ, map}
use Rattle.std.specs.List.{list_any, AllByRecursion}
use Rattle.std.proofs.lemmas.Bool.{or_from}
use Rattle.std.proofs.lemmas.List.Folds.{list_any-append}
use Rattle.az_lin.specs.Affine.{Affine, Union}
use Rattle.az_ast.specs.declared.expr.Branch as program
use Rattle.az_ast.specs.declared.op.Op.{Op}
use Rattle.az_ast.specs.Term as ast
use Rattle.az_ast.specs.Walks.{parts, parts_below}
use Rattle.az_ast.proofs.Terms.{term-Const, term-Index, term-Access, term-Neg, term-Bin, term-Cases, term-Reduce}
use Rattle.program_grammar.specs.declared.tree.Branch.{Branch}
use Rattle.program_grammar.specs.declared.tree.Expr as tree
use Rattle.program_grammar.specs.declared.tree.Operator.{Operator}
use Rattle.grammar_rules.specs.declared.term.Term.{Term}
use Rattle.program_names.specs.Branches.{resolved_branch}
use Rattle.program_names.specs.Pieces.{Piece, row, place, names, operator, rows, pieces, pieces_of_branches}
use Rattle.program_names.specs.Resolved.{op_of, number_of, expression}
use Rattle.program_names.specs.Sides.{Scope, alone, signed, row_of, map_of, union_of}
use Rattle.program_names.proofs.ExpressionLemmas.{expression-Constant, expression-Index, expression-Access, expression-Negation, expression-Binary, expression-Cases, expression-Reduction, none_in_left, none_in_right, none_in_negation, none_in_cases, none_in_body, none_in_first_body, none_in_others}
use Rattle.program_names.proofs.PieceLemmas.{pieces-Access, pieces-Reduction}
use Rattle.program_names.proofs.Sums.{or-left}
use Rattle.program_names.proofs.TreeInduction.{induct}

-- only an access and a reduction may pass, and these only by the variable's place and the operator
module _ (variables : List (List ℕ)) (test : Piece → Bool) (asks : ast.Term → Bool)
    (constants : (v : ℤ) → asks (ast.constant v) ≡ false)
    (indices : (r : Affine) → asks (ast.index r) ≡ false)
    (accesses : (x : List ℕ) (sides : List (List Term)) (scope : Scope) → test (place x (length sides)) ≡ false → asks (ast.access (number_of variables x) (map_of scope sides)) ≡ false)
    (negations : (e : ast.Term) → asks (ast.negation e) ≡ false)
    (binaries : (op : Op) (a b : ast.Term) → asks (ast.binary op a b) ≡ false)
    (choices : (branches : ast.Choices) → asks (ast.cases branches) ≡ false)
    (reductions : (op : Operator) (extra : ℕ) (domain : Union) (e : ast.Term) → test (operator op) ≡ false → asks (ast.reduction (op_of op) extra domain e) ≡ false) where
  abbrev asked : ast.Term → Bool
  asked t = list_any asks (parts t)

  abbrev IsFree : tree.Expr → Type 0
  IsFree e = (scope : Scope) → list_any test (pieces e scope) ≡ false → asked (ast.term (expression variables e scope)) ≡ false

  both-parts : (xs ys : List ast.Term) → list_any asks xs ≡ false → list_any asks ys ≡ false → list_any asks (xs ++ ys) ≡ false
  both-parts xs ys h k = list_any-append asks xs ys ∙ or_from (list_any asks xs) (list_any asks ys) h k

  branches-free : (scope : Scope) (branches : List Branch) → AllByRecursion (λ (b : Branch). IsFree b.body) branches → list_any test (pieces_of_branches branches scope) ≡ false →
      list_any asks (parts_below (ast.choices (map (λ (b : program.Branch). (b.domain, ast.term b.body)) (map (resolved_branch variables scope) branches)))) ≡ false
  branches-free scope [] h k = refl
  branches-free scope (b ∷ branches) h k =
      both-parts (parts (ast.term (expression variables b.body scope)))
      (parts_below (ast.choices (map (λ (b : program.Branch). (b.domain, ast.term b.body)) (map (resolved_branch variables scope) branches))))
      (h.0 scope (none_in_first_body test scope b branches k)) (branches-free scope branches h.1 (none_in_others test scope b branches k))

  pub no-part : (e : tree.Expr) → IsFree e
  no-part =
      induct IsFree
      (λ negative n scope k.
      ap asked (ap ast.term (expression-Constant variables negative n scope) ∙ term-Const (signed negative n)) ∙ or_from (asks (ast.constant (signed negative n))) false (constants (signed negative n)) refl)
      (λ side scope k.
      let r = row_of scope (alone side) in
      ap asked (ap ast.term (expression-Index variables side scope) ∙ term-Index r) ∙ or_from (asks (ast.index r)) false (indices r) refl)
      (λ x sides scope k.
      let t = ast.access (number_of variables x) (map_of scope sides) in
      let passes = or-left (test (place x (length sides))) (list_any test (map (λ side. row scope (alone side)) sides)) (ap (list_any test) (sym (pieces-Access x sides scope)) ∙ k) in
      ap asked (ap ast.term (expression-Access variables x sides scope) ∙ term-Access (number_of variables x) (map_of scope sides)) ∙ or_from (asks t) false (accesses x sides scope passes) refl)
      (λ e h scope k.
      let body = ast.term (expression variables e scope) in
      ap asked (ap ast.term (expression-Negation variables e scope) ∙ term-Neg (expression variables e scope))
      ∙ or_from (asks (ast.negation body)) (asked body) (negations body) (h scope (none_in_negation test scope e k)))
      (λ op a b h g scope k.
      let left = ast.term (expression variables a scope) in
      let right = ast.term (expression variables b scope) in
      ap asked (ap ast.term (expression-Binary variables op a b scope) ∙ term-Bin (op_of op) (expression variables a scope) (expression variables b scope))
      ∙ or_from (asks (ast.binary (op_of op) left right)) (list_any asks (parts left ++ parts right)) (binaries (op_of op) left right)
      (both-parts (parts left) (parts right) (h scope (none_in_left test scope op a b k)) (g scope (none_in_right test scope op a b k))))
      (λ branches h scope k.
      let items = map (resolved_branch variables scope) branches in
      let below = ast.choices (map (λ (b : program.Branch). (b.domain, ast.term b.body)) items) in
      ap asked (ap ast.term (expression-Cases variables branches scope) ∙ term-Cases items)
      ∙ or_from (asks (ast.cases below)) (list_any asks (parts_below below)) (choices below) (branches-free scope branches h (none_in_cases test scope branches k)))
      (λ op extra chains e h scope k.
      let inner = scope ++ extra in
      let domain = union_of inner (chains ∷ []) in
      let body = ast.term (expression variables e inner) in
      let passes = or-left (test (operator op)) (list_any test (names scope extra ∷ (rows inner chains ++ pieces e inner))) (ap (list_any test) (sym (pieces-Reduction op extra chains e scope)) ∙ k) in
      ap asked (ap ast.term (expression-Reduction variables op extra chains e scope) ∙ term-Reduce (op_of op) (length extra) domain (expression variables e inner))
      ∙ or_from (asks (ast.reduction (op_of op) (length extra) domain body)) (asked body) (reductions op (length extra) domain body passes) (h inner (none_in_body test scope op extra chains e k)))
