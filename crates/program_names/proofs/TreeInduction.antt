-- Induction over expressions of a text: what holds of each form, where it holds of the parts, holds of all.
use Rattle.std.proofs.Common.{ℕ, List, [], ◌∷◌, Bool, sym, subst}
use Rattle.std.specs.Prelude.{map}
use Rattle.std.specs.List.{AllByRecursion}
use Rattle.program_grammar.specs.declared.tree.Branch.{Branch, roll-Branch}
use Rattle.program_grammar.specs.declared.tree.Chain.{Chain}
use Rattle.program_grammar.specs.declared.tree.Expr.{Expr, roll-Expr, map-Expr}
use Rattle.program_grammar.specs.declared.tree.Expr.TheOpen.{Expr-F}
use Rattle.program_grammar.specs.declared.tree.Expr.TheVariants.{Constant, Index, Access, Negation, Binary, Cases, Reduction, rolls-Constant, rolls-Index, rolls-Access, rolls-Negation, rolls-Binary, rolls-Cases, rolls-Reduction}
use Rattle.program_grammar.specs.declared.tree.Expr.TheFolds.{ind-Expr}
use Rattle.program_grammar.specs.declared.tree.Operator.{Operator}
use Rattle.grammar_rules.specs.declared.term.Term.{Term}

module _ (P : Expr → Type 0)
    (constant : (negative : Bool) (n : ℕ) → P (Constant negative n))
    (index : (side : List Term) → P (Index side))
    (access : (x : List ℕ) (sides : List (List Term)) → P (Access x sides))
    (negation : (e : Expr) → P e → P (Negation e))
    (binary : (op : Operator) (a b : Expr) → P a → P b → P (Binary op a b))
    (cases : (branches : List Branch) → AllByRecursion (λ (b : Branch). P b.body) branches → P (Cases branches))
    (reduction : (op : Operator) (extra : List (List ℕ)) (chains : List Chain) (e : Expr) → P e → P (Reduction op extra chains e)) where
  abbrev Under : Branch → Type 0
  Under b = P b.body

  all-under : (branches : List ((b : Branch) × Under b)) → AllByRecursion Under (map (λ b. b.0) branches)
  all-under [] = tt
  all-under (b ∷ branches) = (b.1, all-under branches)

  layer : (y : Expr-F ((e : Expr) × P e) ((b : Branch) × Under b)) → P (roll-Expr (map-Expr ((e : Expr) × P e) ((b : Branch) × Under b) Expr Branch (λ e. e.0) (λ b. b.0) y))
  layer (Expr-F.Constant negative n) = subst P (sym (rolls-Constant negative n)) (constant negative n)
  layer (Expr-F.Index side) = subst P (sym (rolls-Index side)) (index side)
  layer (Expr-F.Access x sides) = subst P (sym (rolls-Access x sides)) (access x sides)
  layer (Expr-F.Negation e) = subst P (sym (rolls-Negation e.0)) (negation e.0 e.1)
  layer (Expr-F.Binary op a b) = subst P (sym (rolls-Binary op a.0 b.0)) (binary op a.0 b.0 a.1 b.1)
  layer (Expr-F.Cases branches) = subst P (sym (rolls-Cases (map (λ b. b.0) branches))) (cases (map (λ b. b.0) branches) (all-under branches))
  layer (Expr-F.Reduction op extra chains e) = subst P (sym (rolls-Reduction op extra chains e.0)) (reduction op extra chains e.0 e.1)

  pub induct : (e : Expr) → P e
  induct = ind-Expr P Under (λ x y is. subst (λ z. P (roll-Expr z)) is (layer y)) (λ x y is. subst (λ z. Under (roll-Branch z)) is y.body.1)
