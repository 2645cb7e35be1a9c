-- The resolved expression has as many nodes as the one of the text.
use Rattle.std.proofs.Common.{◌≡◌, ℕ, ◌+◌, List, [], ◌∷◌, ◌++◌, length, refl, sym, ap, ◌∙◌, arith}
use Rattle.std.specs.Prelude.{map}
use Rattle.std.specs.List.{AllByRecursion}
use Rattle.az_ast.specs.declared.expr.Branch as program
use Rattle.az_ast.specs.Nodes as ast
use Rattle.az_ast.specs.Term.{choices, term}
use Rattle.az_ast.proofs.Terms.{term-Const, term-Index, term-Access, term-Neg, term-Bin, term-Cases, term-Reduce}
use Rattle.program_grammar.specs.declared.tree.Branch.{Branch}
use Rattle.program_grammar.specs.declared.tree.Expr as tree
use Rattle.program_grammar.specs.declared.tree.Expr.TheVariants.{Negation, Binary, Cases, Reduction}
use Rattle.program_grammar.specs.Nodes.{nodes, nodes_of_bodies}
use Rattle.program_grammar.proofs.NodeLemmas.{nodes-Constant, nodes-Index, nodes-Access, nodes-Negation, nodes-Binary, nodes-Cases, nodes-Reduction}
use Rattle.program_names.specs.Branches.{resolved_branch}
use Rattle.program_names.specs.Resolved.{op_of, number_of, expression}
use Rattle.program_names.specs.Sides.{Scope, alone, signed, row_of, map_of, union_of}
use Rattle.program_names.proofs.ExpressionLemmas.{expression-Constant, expression-Index, expression-Access, expression-Negation, expression-Binary, expression-Cases, expression-Reduction}
use Rattle.program_names.proofs.TreeInduction.{induct}

module _ (variables : List (List ℕ)) where
  abbrev HasSameNodes : tree.Expr → Type 0
  HasSameNodes e = (scope : Scope) → ast.nodes (term (expression variables e scope)) ≡ nodes e

  nodes-below : (scope : Scope) (branches : List Branch) → AllByRecursion (λ (b : Branch). HasSameNodes b.body) branches →
      ast.nodes_below (choices (map (λ (b : program.Branch). (b.domain, term b.body)) (map (resolved_branch variables scope) branches))) ≡ nodes_of_bodies branches
  nodes-below scope [] h = refl
  nodes-below scope (b ∷ branches) h =
      let first = h.0 scope in
      let rest = nodes-below scope branches h.1 in
      omega (arith, first, rest)

  pub nodes-kept : (e : tree.Expr) → HasSameNodes e
  nodes-kept =
      induct HasSameNodes
      (λ negative n scope. ap (λ x. ast.nodes (term x)) (expression-Constant variables negative n scope) ∙ (ap ast.nodes (term-Const (signed negative n)) ∙ sym (nodes-Constant negative n)))
      (λ side scope. ap (λ x. ast.nodes (term x)) (expression-Index variables side scope) ∙ (ap ast.nodes (term-Index (row_of scope (alone side))) ∙ sym (nodes-Index side)))
      (λ x sides scope. ap (λ x. ast.nodes (term x)) (expression-Access variables x sides scope) ∙ (ap ast.nodes (term-Access (number_of variables x) (map_of scope sides)) ∙ sym (nodes-Access x sides)))
      (λ e h scope.
      let whole : ast.nodes (term (expression variables (Negation e) scope)) ≡ ast.nodes (term (expression variables e scope)) + 1 =
      ap (λ x. ast.nodes (term x)) (expression-Negation variables e scope) ∙ ap ast.nodes (term-Neg (expression variables e scope)) in
      let part = h scope in
      let text = nodes-Negation e in
      omega (arith, whole, part, text))
      (λ op a b h k scope.
      let whole : ast.nodes (term (expression variables (Binary op a b) scope)) ≡ ast.nodes (term (expression variables a scope)) + ast.nodes (term (expression variables b scope)) + 1 =
      ap (λ x. ast.nodes (term x)) (expression-Binary variables op a b scope) ∙ ap ast.nodes (term-Bin (op_of op) (expression variables a scope) (expression variables b scope)) in
      let left = h scope in
      let right = k scope in
      let text = nodes-Binary op a b in
      omega (arith, whole, left, right, text))
      (λ branches h scope.
      let items = map (resolved_branch variables scope) branches in
      let whole : ast.nodes (term (expression variables (Cases branches) scope)) ≡ ast.nodes_below (choices (map (λ (b : program.Branch). (b.domain, term b.body)) items)) + 1 =
      ap (λ x. ast.nodes (term x)) (expression-Cases variables branches scope) ∙ ap ast.nodes (term-Cases items) in
      let parts = nodes-below scope branches h in
      let text = nodes-Cases branches in
      omega (arith, whole, parts, text))
      (λ op extra chains e h scope.
      let whole : ast.nodes (term (expression variables (Reduction op extra chains e) scope)) ≡ ast.nodes (term (expression variables e (scope ++ extra))) + 1 =
      ap (λ x. ast.nodes (term x)) (expression-Reduction variables op extra chains e scope)
      ∙ ap ast.nodes (term-Reduce (op_of op) (length extra) (union_of (scope ++ extra) (chains ∷ [])) (expression variables e (scope ++ extra))) in
      let part = h (scope ++ extra) in
      let text = nodes-Reduction op extra chains e in
      omega (arith, whole, part, text))
