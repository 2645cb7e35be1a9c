-- An expression that is written with names is read as that expression.
use Rattle.std.proofs.Common.{◌≡◌, ℕ, zero, suc, ◌+◌, ◌<◌, ◌≤◌, ◌^◌, Bool, true, false, cond, not, List, [], ◌∷◌, ◌++◌, length, Some, refl, sym, ap, subst, ◌∙◌, arith}
use Rattle.std.specs.Prelude.{map, max, ℤ, unsigned_abs, bytes_eq}
use Rattle.std.specs.List.{list_any, AllByRecursion}
use Rattle.std.proofs.Math.Nat.{le-max_left, le-max_right}
use Rattle.az_lin.specs.Affine.{Union}
use Rattle.az_ast.specs.declared.expr.Branch as program
use Rattle.az_ast.specs.declared.expr.Expr.{Expr}
use Rattle.az_ast.specs.declared.op.Op.{Op}
use Rattle.az_ast.specs.declared.op.Op.TheVariants as op
use Rattle.az_ast.specs.declared.program.Variable.{Variable}
use Rattle.az_ast.specs.Placed.{IsAtWidth, AreAtWidth}
use Rattle.az_ast.specs.Rows.{HasRowsAt, HaveRowsAt}
use Rattle.az_ast.specs.Shapes.{has_twice}
use Rattle.az_ast.specs.Term.{Term, constant, index, access, negation, binary, cases, reduction, Choices, none, choice, choices, term}
use Rattle.az_ast.specs.Walks.{extra_under, extra_below}
use Rattle.az_ast.proofs.Terms.{term-Const, term-Index, term-Access, term-Neg, term-Bin, term-Cases, term-Reduce}
use Rattle.alphabets_show.specs.Expressions.{name_of}
use Rattle.alphabets_show.specs.Sides.{Names, indices}
use Rattle.program_grammar.specs.declared.tree.Branch.{Branch}
use Rattle.program_names.specs.Branches.{resolved_branch}
use Rattle.program_names.specs.Resolved.{op_of, number_of, expression}
use Rattle.program_names.specs.Sides.{signed, alone, map_of, union_of}
use Rattle.program_names.specs.Sides as names
use Rattle.program_names.proofs.ExpressionLemmas.{expression-Constant, expression-Index, expression-Access, expression-Negation, expression-Binary, expression-Cases, expression-Reduction}
use Rattle.program_names.proofs.NameNumbers.{equal-bytes, number-behind}
use Rattle.program_names.proofs.Sums.{or-left, or-right}
use Rattle.show_grammar.specs.WrittenOf.{is_negative, row_of, operator_of, only_chains, disjuncts_of, expression_of, branches_of}
use Rattle.show_means.proofs.DomainsBack.{side_back, map_back, domain_back, single_back}
use Rattle.show_means.proofs.RowsBack.{signed-back}
use Rattle.show_means.proofs.Scopes.{columns-more, length-indices}
use Rattle.show_means.specs.Kept.{columns, names_of}

pub op-back : (o : Op) → op_of (operator_of o) ≡ o
op-back op.Add = refl
op-back op.Sub = refl
op-back op.Mul = refl
op-back op.And = refl
op-back op.Or = refl
op-back op.Xor = refl
op-back op.Max = refl
op-back op.Min = refl

-- the number of the name of a variable
absent_at : (test : List ℕ → Bool) (variables : List Variable) (x : ℕ) → x < length variables → list_any test (names_of variables) ≡ false → test (name_of variables x) ≡ false
absent_at test [] x within absent = absurd (omega arith)
absent_at test (v ∷ variables) zero within absent = or-left (test v.name) (list_any test (names_of variables)) absent
absent_at test (v ∷ variables) (suc x) within absent = absent_at test variables x (omega arith) (or-right (test v.name) (list_any test (names_of variables)) absent)

pub number_back : (variables : List Variable) (x : ℕ) → has_twice (names_of variables) ≡ false → x < length variables → number_of (names_of variables) (name_of variables x) ≡ x
number_back [] x once within = absurd (omega arith)
number_back (v ∷ variables) zero once within = ap (λ b. cond (not b) (1 + number_of (names_of variables) v.name) 0) (equal-bytes v.name v.name refl)
number_back (v ∷ variables) (suc x) once within =
    let differs = absent_at (bytes_eq v.name) variables x (omega arith) (or-left (list_any (bytes_eq v.name) (names_of variables)) (has_twice (names_of variables)) once) in
    number-behind v.name (name_of variables x) (names_of variables) differs
    ∙ ap suc (number_back variables x (or-right (list_any (bytes_eq v.name) (names_of variables)) (has_twice (names_of variables)) once) (omega arith))

module _ (params : Names) (variables : List Variable) (distinct : (count : ℕ) → count ≤ 16 → has_twice (columns params count) ≡ false) (once : has_twice (names_of variables) ≡ false) where
  abbrev back : Term → ℕ → Term
  back t count = term (expression (names_of variables) (expression_of params variables t count) (columns params count))

  mutual
    pub expression_back : (t : Term) (count width : ℕ) → width ≡ length params + count → count + extra_under t ≤ 16 → IsAtWidth (length variables) t width → HasRowsAt t width → back t count ≡ t
    expression_back (constant c) count width at few placed rows =
        ap term (expression-Constant (names_of variables) (is_negative c) (unsigned_abs c) (columns params count)) ∙ (term-Const (signed (is_negative c) (unsigned_abs c)) ∙ ap constant (signed-back c))
    expression_back (index row) count width at few placed rows =
        ap term (expression-Index (names_of variables) (row_of params row) (columns params count)) ∙ (term-Index (names.row_of (columns params count) (alone (row_of params row)))
        ∙ ap index (side_back params count width (distinct count (omega arith)) at row rows))
    expression_back (access x f) count width at few placed rows =
        let scope = columns params count in
        ap term (expression-Access (names_of variables) (name_of variables x) (map (row_of params) f.rows) scope)
        ∙ (term-Access (number_of (names_of variables) (name_of variables x)) (map_of scope (map (row_of params) f.rows))
        ∙ (λ i. access (number_back variables x once placed.0 i) (map_back params count width (distinct count (omega arith)) at f rows i)))
    expression_back (negation e) count width at few placed rows =
        let inner = expression_of params variables e count in
        ap term (expression-Negation (names_of variables) inner (columns params count)) ∙ (term-Neg (expression (names_of variables) inner (columns params count))
        ∙ ap negation (expression_back e count width at few placed rows))
    expression_back (binary o a b) count width at few placed rows =
        let left = expression_of params variables a count in
        let right = expression_of params variables b count in
        let scope = columns params count in
        let one = le-max_left (extra_under a) (extra_under b) in
        let two = le-max_right (extra_under a) (extra_under b) in
        ap term (expression-Binary (names_of variables) (operator_of o) left right scope)
        ∙ (term-Bin (op_of (operator_of o)) (expression (names_of variables) left scope) (expression (names_of variables) right scope)
        ∙ (λ i. binary (op-back o i) (expression_back a count width at (omega (arith, one)) placed.0 rows.0 i) (expression_back b count width at (omega (arith, two)) placed.1 rows.1 i)))
    expression_back (cases branches) count width at few placed rows =
        let written = branches_of params variables branches count in
        let scope = columns params count in
        ap term (expression-Cases (names_of variables) written scope)
        ∙ (term-Cases (map (resolved_branch (names_of variables) scope) written) ∙ ap cases (branches_back branches count width at few placed rows))
    expression_back (reduction o extra d e) count width at few placed rows =
        let scope = columns params count in
        let brought = indices count extra in
        let chains = only_chains params d.disjuncts in
        let body = expression_of params variables e (count + extra) in
        let next : width + extra ≡ length params + (count + extra) = omega arith in
        let more : scope ++ brought ≡ columns params (count + extra) = columns-more params count extra in
        ap term (expression-Reduction (names_of variables) (operator_of o) brought chains body scope)
        ∙ (term-Reduce (op_of (operator_of o)) (length brought) (union_of (scope ++ brought) (chains ∷ [])) (expression (names_of variables) body (scope ++ brought))
        ∙ (λ i. reduction (op-back o i) (length-indices count extra i)
        ((ap (λ (s : Names). union_of s (chains ∷ [])) more ∙ single_back params (count + extra) (width + extra) (distinct (count + extra) (omega arith)) next d rows.0 placed.1) i)
        ((ap (λ (s : Names). term (expression (names_of variables) body s)) more ∙ expression_back e (count + extra) (width + extra) next (omega arith) placed.2 rows.1) i)))

    branches_back : (branches : Choices) (count width : ℕ) → width ≡ length params + count → count + extra_below branches ≤ 16 → AreAtWidth (length variables) branches width → HaveRowsAt branches width
        → choices (map (λ (b : program.Branch). (b.domain, term b.body)) (map (resolved_branch (names_of variables) (columns params count)) (branches_of params variables branches count))) ≡ branches
    branches_back none count width at few placed rows = refl
    branches_back (choice d e rest) count width at few placed rows =
        let one = le-max_left (extra_under e) (extra_below rest) in
        let two = le-max_right (extra_under e) (extra_below rest) in
        (λ i. choice (domain_back params count width (distinct count (omega arith)) at d rows.0 i)
        (expression_back e count width at (omega (arith, one)) placed.1 rows.1 i) (branches_back rest count width at (omega (arith, two)) placed.2 rows.2 i))
