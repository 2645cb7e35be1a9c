-- A domain of the resolved expression has many disjuncts where one of the text has.
use Rattle.std.proofs.Common.{◌≡◌, ℕ, List, [], ◌∷◌, ◌++◌, length, Bool, true, false, ◌||◌, refl, sym, ap, ◌∙◌}
use Rattle.std.specs.Prelude.{map, flat_map, nat_lt}
use Rattle.std.specs.List.{list_any, AllByRecursion}
use Rattle.std.proofs.Math.Bool.{or-false}
use Rattle.std.proofs.lemmas.List.{length-map}
use Rattle.std.proofs.lemmas.List.Folds.{list_any-append}
use Rattle.az_lin.specs.Affine.{Union}
use Rattle.az_ast.specs.declared.expr.Expr.{Expr}
use Rattle.az_ast.specs.Term.{Term, term}
use Rattle.az_ast.specs.Walks.{parts, parts_below, own_domains, branch_domains, domains}
use Rattle.az_ast.proofs.Terms.{term-Const, term-Index, term-Access, term-Neg, term-Bin, term-Cases, term-Reduce}
use Rattle.az_ast.proofs.Walks.{list_any-flat_map, below}
use Rattle.program_grammar.specs.declared.tree.Branch.{Branch}
use Rattle.program_grammar.specs.declared.tree.Chain.{Chain}
use Rattle.program_grammar.specs.declared.tree.Expr as tree
use Rattle.program_names.specs.Branches.{resolved_branch}
use Rattle.program_names.specs.Pieces.{row, rows, domain_pieces, pieces, pieces_of_branches}
use Rattle.program_names.specs.Refusals.{has_many_disjuncts}
use Rattle.program_names.specs.Resolved.{op_of, number_of, expression}
use Rattle.program_names.specs.Sides.{Scope, Difference, alone, signed, row_of, map_of, conjunction_of, of_chain, written, union_of}
use Rattle.program_names.proofs.ExpressionLemmas.{expression-Constant, expression-Index, expression-Access, expression-Negation, expression-Binary, expression-Cases, expression-Reduction}
use Rattle.program_names.proofs.PieceLemmas.{pieces-Constant, pieces-Index, pieces-Access, pieces-Negation, pieces-Binary, pieces-Cases, pieces-Reduction}
use Rattle.program_names.proofs.TreeInduction.{induct}

abbrev pub is_long : Union → Bool
is_long domain = nat_lt 8 (length domain.disjuncts)

-- rows are no domains
no-row : {A : Type 0} (scope : Scope) (f : A → Difference) (xs : List A) → list_any has_many_disjuncts (map (λ x. row scope (f x)) xs) ≡ false
no-row scope f [] = refl
no-row scope f (x ∷ xs) = no-row scope f xs

no-rows : (scope : Scope) (chains : List Chain) → list_any has_many_disjuncts (rows scope chains) ≡ false
no-rows scope [] = refl
no-rows scope (chain ∷ chains) =
    list_any-append has_many_disjuncts (map (row scope) (of_chain chain)) (rows scope chains)
    ∙ (ap (λ b. b || list_any has_many_disjuncts (rows scope chains)) (no-row scope (λ d. d) (of_chain chain)) ∙ no-rows scope chains)

no-disjunct : (scope : Scope) (disjuncts : List (List Chain)) → list_any has_many_disjuncts (flat_map (rows scope) disjuncts) ≡ false
no-disjunct scope [] = refl
no-disjunct scope (chains ∷ disjuncts) =
    list_any-append has_many_disjuncts (rows scope chains) (flat_map (rows scope) disjuncts)
    ∙ (ap (λ b. b || list_any has_many_disjuncts (flat_map (rows scope) disjuncts)) (no-rows scope chains) ∙ no-disjunct scope disjuncts)

-- nothing is written as one disjunct, which isn't many
written-long : (disjuncts : List (List Chain)) → nat_lt 8 (length (written disjuncts)) ≡ nat_lt 8 (length disjuncts)
written-long [] = refl
written-long (chains ∷ disjuncts) = refl

pub domain-kept : (scope : Scope) (disjuncts : List (List Chain)) → is_long (union_of scope disjuncts) ≡ list_any has_many_disjuncts (domain_pieces scope disjuncts)
domain-kept scope disjuncts =
    ap (nat_lt 8) (length-map (written disjuncts) (conjunction_of scope))
    ∙ (written-long disjuncts ∙ sym (ap (λ b. nat_lt 8 (length disjuncts) || b) (no-disjunct scope disjuncts) ∙ or-false (nat_lt 8 (length disjuncts))))

-- the domains of the parts
abbrev has_long : List Term → Bool
has_long ts = list_any is_long (flat_map own_domains ts)

long-append : (ts us : List Term) → has_long (ts ++ us) ≡ (has_long ts || has_long us)
long-append ts us =
    list_any-flat_map is_long own_domains (ts ++ us)
    ∙ (list_any-append (λ t. list_any is_long (own_domains t)) ts us
    ∙ (ap (λ b. b || list_any (λ t. list_any is_long (own_domains t)) us) (sym (list_any-flat_map is_long own_domains ts))
    ∙ ap (λ b. has_long ts || b) (sym (list_any-flat_map is_long own_domains us))))

exchange : (a b c d : Bool) → ((a || b) || (c || d)) ≡ ((a || c) || (b || d))
exchange true b c d = refl
exchange false true true d = refl
exchange false true false d = refl
exchange false false c d = refl

module _ (variables : List (List ℕ)) where
  abbrev HasSameDomains : tree.Expr → Type 0
  HasSameDomains e = (scope : Scope) → list_any is_long (domains (term (expression variables e scope))) ≡ list_any has_many_disjuncts (pieces e scope)

  -- the domains of the branches come first in the resolved case, each before its body in the text
  branches-kept : (scope : Scope) (branches : List Branch) → AllByRecursion (λ (b : Branch). HasSameDomains b.body) branches →
      let choices = below (map (resolved_branch variables scope) branches) in
      (list_any is_long (branch_domains choices) || has_long (parts_below choices)) ≡ list_any has_many_disjuncts (pieces_of_branches branches scope)
  branches-kept scope [] h = refl
  branches-kept scope (b ∷ branches) h =
      let choices = below (map (resolved_branch variables scope) branches) in
      let body = parts (term (expression variables b.body scope)) in
      let own = domain_pieces scope b.disjuncts in
      let first = is_long (union_of scope b.disjuncts) in
      let rest = pieces_of_branches branches scope in
      ap (λ x. (first || list_any is_long (branch_domains choices)) || x) (long-append body (parts_below choices))
      ∙ (exchange first (list_any is_long (branch_domains choices)) (has_long body) (has_long (parts_below choices))
      ∙ (ap (λ x. (first || has_long body) || x) (branches-kept scope branches h.1)
      ∙ (ap (λ x. (x || has_long body) || list_any has_many_disjuncts rest) (domain-kept scope b.disjuncts)
      ∙ (ap (λ x. (list_any has_many_disjuncts own || x) || list_any has_many_disjuncts rest) (h.0 scope)
      ∙ (ap (λ x. x || list_any has_many_disjuncts rest) (sym (list_any-append has_many_disjuncts own (pieces b.body scope)))
      ∙ sym (list_any-append has_many_disjuncts (own ++ pieces b.body scope) rest))))))

  abbrev of_text : tree.Expr → Scope → Bool
  of_text e scope = list_any has_many_disjuncts (pieces e scope)

  pub domains-kept : (e : tree.Expr) → HasSameDomains e
  domains-kept =
      let long = λ (t : Term). list_any is_long (domains t) in
      let long_of = λ (x : Expr). list_any is_long (domains (term x)) in
      let many = list_any has_many_disjuncts in
      induct HasSameDomains
      (λ negative n scope. ap long_of (expression-Constant variables negative n scope) ∙ (ap long (term-Const (signed negative n)) ∙ sym (ap many (pieces-Constant negative n scope))))
      (λ side scope. ap long_of (expression-Index variables side scope) ∙ (ap long (term-Index (row_of scope (alone side))) ∙ sym (ap many (pieces-Index side scope))))
      (λ x sides scope.
      ap long_of (expression-Access variables x sides scope)
      ∙ (ap long (term-Access (number_of variables x) (map_of scope sides)) ∙ sym (ap many (pieces-Access x sides scope) ∙ no-row scope alone sides)))
      (λ e h scope.
      ap long_of (expression-Negation variables e scope)
      ∙ (ap long (term-Neg (expression variables e scope)) ∙ (h scope ∙ sym (ap many (pieces-Negation e scope)))))
      (λ op a b h k scope.
      let left = expression variables a scope in
      let right = expression variables b scope in
      ap long_of (expression-Binary variables op a b scope)
      ∙ (ap long (term-Bin (op_of op) left right)
      ∙ (long-append (parts (term left)) (parts (term right))
      ∙ (ap (λ x. x || long_of right) (h scope)
      ∙ (ap (λ x. of_text a scope || x) (k scope)
      ∙ sym (ap many (pieces-Binary op a b scope) ∙ list_any-append has_many_disjuncts (pieces a scope) (pieces b scope)))))))
      (λ branches h scope.
      let items = map (resolved_branch variables scope) branches in
      ap long_of (expression-Cases variables branches scope)
      ∙ (ap long (term-Cases items)
      ∙ (list_any-append is_long (branch_domains (below items)) (flat_map own_domains (parts_below (below items)))
      ∙ (branches-kept scope branches h ∙ sym (ap many (pieces-Cases branches scope))))))
      (λ op extra chains e h scope.
      let inner = scope ++ extra in
      let chained = list_any-append has_many_disjuncts (rows inner chains) (pieces e inner) ∙ ap (λ b. b || of_text e inner) (no-rows inner chains) in
      ap long_of (expression-Reduction variables op extra chains e scope)
      ∙ (ap long (term-Reduce (op_of op) (length extra) (union_of inner (chains ∷ [])) (expression variables e inner))
      ∙ (h inner ∙ sym (ap many (pieces-Reduction op extra chains e scope) ∙ chained))))
