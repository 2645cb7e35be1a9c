-- Expressions of a program's shape: their parts have no fault, and so it is with a map put in and with accesses
-- replaced.
use Rattle.std.proofs.Common.{◌≡◌, ℕ, ◌+◌, List, [], ◌∷◌, ◌++◌, length, Bool, true, false, not, ◌||◌, Option, Some, None, refl, sym, ap, subst, ◌∙◌}
use Rattle.std.specs.Prelude.{slice_get, MatchOption, map, ◌==◌}
use Rattle.std.specs.List.{list_any}
use Rattle.std.specs.Option.{option_map_or}
use Rattle.std.proofs.lemmas.Bool.{eq-eqb}
use Rattle.std.proofs.lemmas.List.{length-map}
use Rattle.std.proofs.lemmas.List.Folds.{list_any-append}
use Rattle.az_lin.specs.Affine.{AffineMap}
use Rattle.az_lin.specs.Columns.{extended}
use Rattle.az_lin.specs.Substitution.{composed}
use Rattle.az_ast.proofs.TermShapes.{HasShape, HaveShape}
use Rattle.az_ast.specs.Operators.{FoldsFromIdentity}
use Rattle.az_ast.specs.Placed.{IsAtWidth, AreAtWidth}
use Rattle.az_ast.specs.Shapes.{indices, is_sub, has_other_arity, reduces_by_sub}
use Rattle.az_ast.specs.Term.{Term, constant, index, access, negation, binary, cases, reduction, Choices, none, choice}
use Rattle.az_ast.specs.Walks.{parts, parts_below}
use Rattle.az_ast.specs.declared.op.Op.{Op}
use Rattle.az_ast.specs.declared.op.Op.TheVariants.{Add, Sub, Mul, And, Or, Xor, Max, Min}
use Rattle.az_ast.specs.declared.program.Variable.{Variable}
use Rattle.expr_maps.specs.Answers.{EachAccess, EachBelow}
use Rattle.expr_maps.specs.Put.{put, put_below}
use Rattle.expr_maps.specs.Replaced.{replaced, replaced_below}

joined : (test : Term → Bool) (xs ys : List Term) → list_any test xs ≡ false → list_any test ys ≡ false → list_any test (xs ++ ys) ≡ false
joined test xs ys h g = list_any-append test xs ys ∙ (ap (λ b. b || list_any test ys) h ∙ g)

module _ (params : ℕ) (variables : List Variable) where
  arity : (x : ℕ) (f : AffineMap) → HasShape params variables (access x f) → has_other_arity params variables (access x f) ≡ false
  arity x f h = by (slice_get variables x) h
    where
      by : (o : Option Variable) → MatchOption o ⊥ (λ (v : Variable). length f.rows ≡ indices params v) → option_map_or (λ (v : Variable). not (length f.rows == indices params v)) o false ≡ false
      by None h = absurd h
      by (Some v) h = ap not (eq-eqb (length f.rows) (indices params v) h)

  mutual
    pub arities-of_shape : (e : Term) → HasShape params variables e → list_any (has_other_arity params variables) (parts e) ≡ false
    arities-of_shape (constant c) h = refl
    arities-of_shape (index row) h = refl
    arities-of_shape (access x f) h = ap (λ b. b || false) (arity x f h)
    arities-of_shape (negation e) h = arities-of_shape e h
    arities-of_shape (binary op a b) h = joined (has_other_arity params variables) (parts a) (parts b) (arities-of_shape a h.0) (arities-of_shape b h.1)
    arities-of_shape (cases branches) h = arities-of_shapes branches h
    arities-of_shape (reduction op extra domain e) h = arities-of_shape e h.1

    arities-of_shapes : (branches : Choices) → HaveShape params variables branches → list_any (has_other_arity params variables) (parts_below branches) ≡ false
    arities-of_shapes none h = refl
    arities-of_shapes (choice domain e rest) h = joined (has_other_arity params variables) (parts e) (parts_below rest) (arities-of_shape e h.0) (arities-of_shapes rest h.1)

  folded : (op : Op) → FoldsFromIdentity op → is_sub op ≡ false
  folded Add h = refl
  folded Sub h = absurd (h refl)
  folded Mul h = refl
  folded And h = refl
  folded Or h = refl
  folded Xor h = refl
  folded Max h = refl
  folded Min h = refl

  mutual
    pub folds-of_shape : (e : Term) → HasShape params variables e → list_any reduces_by_sub (parts e) ≡ false
    folds-of_shape (constant c) h = refl
    folds-of_shape (index row) h = refl
    folds-of_shape (access x f) h = refl
    folds-of_shape (negation e) h = folds-of_shape e h
    folds-of_shape (binary op a b) h = joined reduces_by_sub (parts a) (parts b) (folds-of_shape a h.0) (folds-of_shape b h.1)
    folds-of_shape (cases branches) h = folds-of_shapes branches h
    folds-of_shape (reduction op extra domain e) h = ap (λ b. b || list_any reduces_by_sub (parts e)) (folded op h.0) ∙ folds-of_shape e h.1

    folds-of_shapes : (branches : Choices) → HaveShape params variables branches → list_any reduces_by_sub (parts_below branches) ≡ false
    folds-of_shapes none h = refl
    folds-of_shapes (choice domain e rest) h = joined reduces_by_sub (parts e) (parts_below rest) (folds-of_shape e h.0) (folds-of_shapes rest h.1)

  -- a map put in
  mutual
    pub put-shaped : (f : AffineMap) (e : Term) → HasShape params variables e → HasShape params variables (put f e)
    put-shaped f (constant c) h = tt
    put-shaped f (index row) h = tt
    put-shaped f (access x g) h = by (slice_get variables x) h
      where
        by : (o : Option Variable) → MatchOption o ⊥ (λ (v : Variable). length g.rows ≡ indices params v) → MatchOption o ⊥ (λ (v : Variable). length (map (λ row. composed row f) g.rows) ≡ indices params v)
        by None h = absurd h
        by (Some v) h = length-map g.rows (λ row. composed row f) ∙ h
    put-shaped f (negation e) h = put-shaped f e h
    put-shaped f (binary op a b) h = (put-shaped f a h.0, put-shaped f b h.1)
    put-shaped f (cases branches) h = put_below-shaped f branches h
    put-shaped f (reduction op extra domain e) h = (h.0, put-shaped (extended extra f) e h.1)

    put_below-shaped : (f : AffineMap) (branches : Choices) → HaveShape params variables branches → HaveShape params variables (put_below f branches)
    put_below-shaped f none h = tt
    put_below-shaped f (choice domain e rest) h = (put-shaped f e h.0, put_below-shaped f rest h.1)

-- an expression at a place of so many columns, of a program's shape
abbrev pub Suits : ℕ → List Variable → Term → ℕ → Type 0
Suits params variables e width = IsAtWidth (length variables) e width × HasShape params variables e

-- accesses replaced by expressions that suit their places
module _ (params : ℕ) (variables others : List Variable) (P : ℕ → AffineMap → Type 0) (at : ℕ → AffineMap → Term)
    (each : (x : ℕ) (f : AffineMap) (width : ℕ) → P x f → Suits params variables (access x f) width → Suits params others (at x f) width) where
  mutual
    pub replaced-suits : (e : Term) (width : ℕ) → EachAccess P e → IsAtWidth (length variables) e width → HasShape params variables e → Suits params others (replaced at e) width
    replaced-suits (constant c) width a p h = (tt, tt)
    replaced-suits (index row) width a p h = (p, tt)
    replaced-suits (access x f) width a p h = each x f width a (p, h)
    replaced-suits (negation e) width a p h = replaced-suits e width a p h
    replaced-suits (binary op left right) width a p h =
        let first = replaced-suits left width a.0 p.0 h.0 in
        let second = replaced-suits right width a.1 p.1 h.1 in
        ((first.0, second.0), (first.1, second.1))
    replaced-suits (cases branches) width a p h = replaced_below-suits branches width a p h
    replaced-suits (reduction op extra domain e) width a p h =
        let body = replaced-suits e (width + extra) a p.2 h.1 in
        ((p.0, p.1, body.0), (h.0, body.1))

    replaced_below-suits : (branches : Choices) (width : ℕ) → EachBelow P branches → AreAtWidth (length variables) branches width → HaveShape params variables branches →
        AreAtWidth (length others) (replaced_below at branches) width × HaveShape params others (replaced_below at branches)
    replaced_below-suits none width a p h = (tt, tt)
    replaced_below-suits (choice domain e rest) width a p h =
        let body = replaced-suits e width a.0 p.1 h.0 in
        let below = replaced_below-suits rest width a.1 p.2 h.1 in
        ((p.0, body.0, below.0), (body.1, below.1))
