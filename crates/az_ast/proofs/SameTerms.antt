-- Equal terms come from equal expressions: an expression is read off its data.
use Rattle.std.proofs.Common.{◌≡◌, List, [], ◌∷◌, refl, sym, ap, subst, ◌∙◌}
use Rattle.std.specs.Prelude.{map}
use Rattle.az_ast.specs.declared.expr.Expr.{Expr}
use Rattle.az_ast.specs.declared.expr.Branch.{Branch}
use Rattle.az_ast.specs.declared.expr.Expr.TheVariants.{Const, Index, Access, Neg, Bin, Cases, Reduce, rolls-Const, rolls-Index, rolls-Access, rolls-Neg, rolls-Bin, rolls-Cases, rolls-Reduce}
use Rattle.az_ast.specs.declared.expr.Expr.TheFolds.{ind-Expr, map-Expr, map-Branch}
use Rattle.az_ast.specs.declared.expr.Expr.TheViews.{roll-Expr}
use Rattle.az_ast.specs.declared.expr.Expr.TheOpen.{Expr-F, Branch-F}
use Rattle.az_ast.specs.Term.{Term, constant, index, access, negation, binary, cases, reduction, Choices, none, choice, choices, term}
use Rattle.az_ast.proofs.Terms.{term-Const, term-Index, term-Access, term-Neg, term-Bin, term-Cases, term-Reduce}

abbrev mutual
  expr_of : Term → Expr
  expr_of (constant v) = Const v
  expr_of (index row) = Index row
  expr_of (access x f) = Access x f
  expr_of (negation e) = Neg (expr_of e)
  expr_of (binary op a b) = Bin op (expr_of a) (expr_of b)
  expr_of (cases branches) = Cases (branches_of branches)
  expr_of (reduction op extra domain e) = Reduce op extra domain (expr_of e)

  branches_of : Choices → List Branch
  branches_of none = []
  branches_of (choice domain e rest) = record { domain = domain; body = expr_of e } ∷ branches_of rest

abbrev Returns : Expr → Type 0
Returns e = expr_of (term e) ≡ e

-- an expression, and a branch, with the fact for its expression
abbrev Kept : Type 0
Kept = (e : Expr) × Returns e

abbrev KeptBranch : Type 0
KeptBranch = (b : Branch) × Returns b.body

branches_back : (bs : List KeptBranch) → branches_of (choices (map (λ (b : Branch). (b.domain, term b.body)) (map (λ (b : KeptBranch). b.0) bs))) ≡ map (λ (b : KeptBranch). b.0) bs
branches_back [] = refl
branches_back (b ∷ bs) =
    let first : record { domain = b.0.domain; body = expr_of (term b.0.body) } ≡ b.0 = ap (λ e. record { domain = b.0.domain; body = e }) b.1 in
    (λ i. first i ∷ branches_back bs i)

layer_back : (y : Expr-F Kept KeptBranch) → Returns (roll-Expr (map-Expr Kept KeptBranch Expr Branch (λ e. e.0) (λ b. b.0) y))
layer_back (Expr-F.Const v) = subst Returns (sym (rolls-Const v)) (ap expr_of (term-Const v))
layer_back (Expr-F.Index row) = subst Returns (sym (rolls-Index row)) (ap expr_of (term-Index row))
layer_back (Expr-F.Access x f) = subst Returns (sym (rolls-Access x f)) (ap expr_of (term-Access x f))
layer_back (Expr-F.Neg e) = subst Returns (sym (rolls-Neg e.0)) (ap expr_of (term-Neg e.0) ∙ ap Neg e.1)
layer_back (Expr-F.Bin op a b) = subst Returns (sym (rolls-Bin op a.0 b.0)) (ap expr_of (term-Bin op a.0 b.0) ∙ (λ i. Bin op (a.1 i) (b.1 i)))
layer_back (Expr-F.Cases bs) = subst Returns (sym (rolls-Cases (map (λ (b : KeptBranch). b.0) bs))) (ap expr_of (term-Cases (map (λ (b : KeptBranch). b.0) bs)) ∙ ap Cases (branches_back bs))
layer_back (Expr-F.Reduce op extra domain e) = subst Returns (sym (rolls-Reduce op extra domain e.0)) (ap expr_of (term-Reduce op extra domain e.0) ∙ ap (Reduce op extra domain) e.1)

branch_back : (y : Branch-F Kept KeptBranch) → Returns (map-Branch Kept KeptBranch Expr Branch (λ e. e.0) (λ b. b.0) y).body
branch_back y = y.body.1

back : (e : Expr) → Returns e
back = ind-Expr Returns (λ (b : Branch). Returns b.body) (λ x y is. subst (λ l. Returns (roll-Expr l)) is (layer_back y)) (λ x y is. subst (λ (l : Branch-F Expr Branch). Returns l.body) is (branch_back y))

pub term-injective : (e f : Expr) → term e ≡ term f → e ≡ f
term-injective e f same = sym (back e) ∙ (ap expr_of same ∙ back f)
