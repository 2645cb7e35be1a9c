-- The parts of an expression are smaller than it.
use Rattle.std.proofs.Common.{◌≡◌, ℕ, ◌+◌, ◌<◌, ◌≤◌, List, length, ap, ◌∙◌, arith}
use Rattle.std.specs.Prelude.{map, slice_index_or}
use Rattle.az_lin.specs.Affine.{Union}
use Rattle.az_ast.specs.declared.op.Op.{Op}
use Rattle.az_ast.specs.declared.expr.Expr.{Expr}
use Rattle.az_ast.specs.declared.expr.Expr.TheVariants.{Cases, Reduce}
use Rattle.az_ast.specs.declared.expr.Branch.{Branch}
use Rattle.az_ast.specs.Nodes.{nodes}
use Rattle.az_ast.specs.Term.{Choices, choices, term}
use Rattle.az_ast.proofs.Terms.{term-Cases, term-Reduce}
use Rattle.value_walk.proofs.Steps.{nodes-within}

abbrev pub branches_of : List Branch → Choices
branches_of branches = choices (map (λ (b : Branch). (b.domain, term b.body)) branches)

pub branch-smaller : (e : Expr) (branches : List Branch) (i : ℕ) (branch : Branch) → e ≡ Cases branches → i < length branches → branch ≡ slice_index_or branches i branch → nodes (term branch.body) < nodes (term e)
branch-smaller e branches i branch is h found =
    let below = nodes-within (λ (b : Branch). (b.domain, term b.body)) branches i branch h in
    let same = ap (λ (b : Branch). nodes (term b.body)) found in
    let form = ap nodes (ap term is ∙ term-Cases branches) in
    omega (arith, below, same, form)

pub body-smaller : (e : Expr) (op : Op) (extra : ℕ) (domain : Union) (body : Expr) → e ≡ Reduce op extra domain body → nodes (term body) < nodes (term e)
body-smaller e op extra domain body is =
    let form = ap nodes (ap term is ∙ term-Reduce op extra domain body) in
    omega (arith, form)
