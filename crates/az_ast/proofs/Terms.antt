-- The data of each form of expression.
use Rattle.std.proofs.Common.{◌≡◌, ℕ, List, rules}
use Rattle.std.specs.Prelude.{ℤ, map}
use Rattle.az_lin.specs.Affine.{Affine, AffineMap, Union}
use Rattle.az_ast.specs.declared.op.Op.{Op}
use Rattle.az_ast.specs.declared.expr.Expr.{Expr}
use Rattle.az_ast.specs.declared.expr.Branch.{Branch}
use Rattle.az_ast.specs.declared.expr.Expr.TheVariants.{Const, Index, Access, Neg, Bin, Cases, Reduce}
use Rattle.az_ast.specs.declared.expr.Expr.TheFolds.{the_lemmas}
use Rattle.az_ast.specs.Term.{constant, index, access, negation, binary, cases, reduction, choices, term}

pub term-Const : (v : ℤ) → term (Const v) ≡ constant v
term-Const v = search (rules, the_lemmas)

pub term-Index : (row : Affine) → term (Index row) ≡ index row
term-Index row = search (rules, the_lemmas)

pub term-Access : (x : ℕ) (f : AffineMap) → term (Access x f) ≡ access x f
term-Access x f = search (rules, the_lemmas)

pub term-Neg : (e : Expr) → term (Neg e) ≡ negation (term e)
term-Neg e = search (rules, the_lemmas)

pub term-Bin : (op : Op) (a b : Expr) → term (Bin op a b) ≡ binary op (term a) (term b)
term-Bin op a b = search (rules, the_lemmas)

pub term-Cases : (branches : List Branch) → term (Cases branches) ≡ cases (choices (map (λ (b : Branch). (b.domain, term b.body)) branches))
term-Cases branches = search (rules, the_lemmas)

pub term-Reduce : (op : Op) (extra : ℕ) (domain : Union) (e : Expr) → term (Reduce op extra domain e) ≡ reduction op extra domain (term e)
term-Reduce op extra domain e = search (rules, the_lemmas)
