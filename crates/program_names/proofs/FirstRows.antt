-- The first of some rows, where the earlier tests fail.
use Rattle.std.proofs.Common.{◌≡◌, ◌∷◌, [], List, Bool, true, false, if◌then◌else◌, Option, Some, None, refl, ap, ◌∙◌}
use Rattle.std.specs.List.{AllByRecursion}
use Rattle.az_ast.specs.Shapes.{first_of}
use Rattle.az_ast.specs.declared.fault.ShapeKind.{ShapeKind}

skip : (a : Bool) (v : ShapeKind) (rest : Option ShapeKind) → a ≡ false → (if a then Some v else rest) ≡ rest
skip a v rest h = ap (λ (x : Bool). if x then Some v else rest) h

hit : (a : Bool) (v : ShapeKind) (rest : Option ShapeKind) → a ≡ true → (if a then Some v else rest) ≡ Some v
hit a v rest h = ap (λ (x : Bool). if x then Some v else rest) h

module _ (a b c d : Bool) (v w x y : ShapeKind) (ha : a ≡ false) where
  abbrev kind : Option ShapeKind
  kind = first_of ((a, v) ∷ (b, w) ∷ (c, x) ∷ (d, y) ∷ [])

  pub second-hit : b ≡ true → kind ≡ Some w
  second-hit hb = skip a v _ ha ∙ hit b w _ hb

  module _ (hb : b ≡ false) where
    pub third-hit : c ≡ true → kind ≡ Some x
    third-hit hc = skip a v _ ha ∙ (skip b w _ hb ∙ hit c x _ hc)

    module _ (hc : c ≡ false) where
      pub fourth-hit : d ≡ true → kind ≡ Some y
      fourth-hit hd = skip a v _ ha ∙ (skip b w _ hb ∙ (skip c x _ hc ∙ hit d y _ hd))

      pub no-hit : d ≡ false → kind ≡ None
      no-hit hd = skip a v _ ha ∙ (skip b w _ hb ∙ (skip c x _ hc ∙ skip d y _ hd))

pub fifth : (a b c d e : Bool) (v w x y z : ShapeKind) → a ≡ false → b ≡ false → c ≡ false → d ≡ false → first_of ((a, v) ∷ (b, w) ∷ (c, x) ∷ (d, y) ∷ (e, z) ∷ []) ≡ (if e then Some z else None)
fifth a b c d e v w x y z ha hb hc hd = skip a v _ ha ∙ (skip b w _ hb ∙ (skip c x _ hc ∙ skip d y _ hd))

-- where no test holds, nothing is answered
pub none_answered : {A : Type 0} (rows : List (Bool × A)) → AllByRecursion (λ row. row.0 ≡ false) rows → first_of rows ≡ None
none_answered [] h = refl
none_answered (row ∷ rows) h = ap (λ (x : Bool). if x then Some row.1 else first_of rows) h.0 ∙ none_answered rows h.1
