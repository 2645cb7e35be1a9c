use Rattle.std.proofs.Common.{◌++◌, ⊎_elim, inl, inr, sym, subst}
use Rattle.std.specs.Prelude.{ℤ, List}
use Rattle.az_lin.specs.Affine.{HoldsSome}
use Rattle.az_ast.specs.Meaning.{ValueTo}
use Rattle.az_ast.specs.Operators.{applied, identity}
use Rattle.az_ast.specs.Points.{IsMember}
use Rattle.expr_places.proofs.Branches.{held_or_not}
use Rattle.expr_maps.specs.Folds.{FoldOver}
use Rattle.expr_maps.proofs.Folds.{operator-foldable, FoldOver-split, FoldOver-joined, FoldOver-from_gives, FoldGives-from_over}
use Rattle.expr_maps.proofs.laws.reductions_split.Goals as goal

pub returns : goal.returns
returns c = λ p tables depth op folds extra domain part e z v.
    let f = applied op in
    let unit = identity op in
    let P : List ℤ → Type 0 = IsMember domain z extra in
    let D : List ℤ → Type 0 = λ k. HoldsSome part (z ++ k) in
    let body : List ℤ → ℤ → Type 0 = λ k w. ValueTo p tables depth e (z ++ k) w in
    let foldable = operator-foldable op folds in (
      λ gives. FoldOver-split f unit foldable body P D v (λ k member. held_or_not part (z ++ k)) (FoldOver-from_gives op extra domain (λ y w. ValueTo p tables depth e y w) z v gives),
      λ parts. FoldGives-from_over op extra domain (λ y w. ValueTo p tables depth e y w) z v
          (subst (λ n. FoldOver f unit P body n) (sym parts.4)
          (FoldOver-joined f unit foldable body (λ k. P k × D k) (λ k. P k × (D k → ⊥)) P parts.0 parts.1
          (λ k. (λ member. ⊎_elim (λ held. inl (member, held)) (λ fails. inr (member, fails)) (held_or_not part (z ++ k)), λ either. ⊎_elim (λ l. l.0) (λ r. r.0) either))
          (λ k l r. r.1 l.1) parts.2 parts.3)),
    )
