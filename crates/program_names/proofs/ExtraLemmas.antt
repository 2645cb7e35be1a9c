-- The most extra indices in a case.
use Rattle.std.proofs.Common.{Bool, length, ◌+◌, ◌≡◌, ℕ, ◌≤◌, List, ◌∷◌, ap, ◌∙◌, arith, rules}
use Rattle.std.specs.Prelude.{max}
use Rattle.std.proofs.Math.Nat.{le-max_left, le-max_right}
use Rattle.program_grammar.specs.declared.tree.Branch.{Branch}
use Rattle.program_grammar.specs.declared.tree.Expr.{Expr}
use Rattle.program_grammar.specs.declared.tree.Expr.TheVariants.{Constant, Index, Access, Negation, Cases, Binary, Reduction}
use Rattle.program_grammar.specs.declared.tree.Chain.{Chain}
use Rattle.grammar_rules.specs.declared.term.Term.{Term}
use Rattle.program_grammar.specs.declared.tree.Operator.{Operator}
use Rattle.program_grammar.specs.declared.tree.Expr.TheFolds.{the_lemmas}
use Rattle.program_names.specs.Extras.{extra_under, extra_below}

pub extra-Cases : (branches : List Branch) → extra_under (Cases branches) ≡ extra_below branches
extra-Cases branches = search (rules, the_lemmas)

pub extra-Binary : (op : Operator) (a b : Expr) → extra_under (Binary op a b) ≡ max (extra_under a) (extra_under b)
extra-Binary op a b = search (rules, the_lemmas)

pub extra-Constant : (negative : Bool) (n : ℕ) → extra_under (Constant negative n) ≡ 0
extra-Constant negative n = search (rules, the_lemmas)

pub extra-Index : (side : List Term) → extra_under (Index side) ≡ 0
extra-Index side = search (rules, the_lemmas)

pub extra-Access : (x : List ℕ) (sides : List (List Term)) → extra_under (Access x sides) ≡ 0
extra-Access x sides = search (rules, the_lemmas)

pub extra-Negation : (e : Expr) → extra_under (Negation e) ≡ extra_under e
extra-Negation e = search (rules, the_lemmas)

pub extra-Reduction : (op : Operator) (extra : List (List ℕ)) (chains : List Chain) (e : Expr) → extra_under (Reduction op extra chains e) ≡ length extra + extra_under e
extra-Reduction op extra chains e = search (rules, the_lemmas)

-- a part of what stands under few indices does so too
pub narrow-left : (most : ℕ) (e got : Expr) (op : Operator) (a b : Expr) → e ≡ Binary op a b → got ≡ a → extra_under e ≤ most → extra_under got ≤ most
narrow-left most e got op a b is same h =
    let whole = ap extra_under is ∙ extra-Binary op a b in
    let part = ap extra_under same in
    let below = le-max_left (extra_under a) (extra_under b) in
    omega (arith, whole, part, below, h)

pub narrow-cases : (most : ℕ) (e : Expr) (got branches : List Branch) → e ≡ Cases branches → got ≡ branches → extra_under e ≤ most → extra_below got ≤ most
narrow-cases most e got branches is same h =
    let whole = ap extra_under is ∙ extra-Cases branches in
    let part = ap extra_below same in
    omega (arith, whole, part, h)

pub narrow-rest : (most : ℕ) (branches rest : List Branch) (b : Branch) → branches ≡ b ∷ rest → extra_below branches ≤ most → extra_below rest ≤ most
narrow-rest most branches rest b is h =
    let whole = ap extra_below is in
    let below = le-max_right (extra_under b.body) (extra_below rest) in
    omega (arith, whole, below, h)
