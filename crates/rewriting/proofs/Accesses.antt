-- What is known of the accesses of a program's expressions: at each that is reached from a point, and with a map put
-- in.
use Rattle.std.proofs.Common.{◌≡◌, ℕ, ◌+◌, ◌≤◌, List, [], ◌∷◌, ◌++◌, length, take, map, Bool, true, false, ◌||◌, Option, Some, None, All, refl, sym, ap, subst, ◌∙◌, arith, length-append, ⊎_elim}
use Rattle.std.specs.Prelude.{ℤ, slice_get, MatchOption, ◌==◌}
use Rattle.std.specs.List.{list_any}
use Rattle.std.proofs.lemmas.List.{length-map, take-append-le}
use Rattle.std.proofs.lemmas.List.Folds.{list_any-append}
use Rattle.std.proofs.lemmas.List.Elements.{All-weaker}
use Rattle.az_lin.proofs.Substitution.{widths_composed}
use Rattle.az_lin.specs.Affine.{AffineMap, HasWidth, HoldsSome}
use Rattle.az_lin.specs.Columns.{extended}
use Rattle.az_lin.specs.Substitution.{composed, composed_map}
use Rattle.az_ast.proofs.ShapeParts.{neither}
use Rattle.az_ast.proofs.TermShapes.{HasShape, HaveShape}
use Rattle.az_ast.specs.Placed.{IsAtWidth, AreAtWidth}
use Rattle.az_ast.specs.Points.{IsMember}
use Rattle.az_ast.specs.Rows.{IsRowAt, HasRowsAt, HaveRowsAt}
use Rattle.az_ast.specs.Shapes.{indices}
use Rattle.az_ast.specs.Term.{Term, constant, index, access, negation, binary, cases, reduction, Choices, none, choice}
use Rattle.az_ast.specs.Walks.{parts, parts_below, extra_under, extra_below}
use Rattle.std.proofs.Math.Nat.{le-max_left, le-max_right}
use Rattle.az_ast.specs.declared.program.Variable.{Variable}
use Rattle.expr_maps.specs.Answers.{EachAccess, EachBelow}
use Rattle.expr_maps.specs.Put.{put, put_below}
use Rattle.expr_places.specs.Reached.{AtAccesses, AtBranches, OnAccess}
use Rattle.rewriting.specs.Reads.{is_access_to, reads}

-- an access of a program: as many rows as the variable has indices, each with the map's width
pub record IsAccess (params : ℕ) (variables : List Variable) (x : ℕ) (f : AffineMap) : Type 0 where
  pub arity : MatchOption (slice_get variables x) ⊥ (λ variable. length f.rows ≡ indices params variable)
  pub widths : All (HasWidth f.width) f.rows

-- and where it is reached from a point: at one with the same parameters, and of the map's width
pub record IsReached (params : ℕ) (z : List ℤ) (P : ℕ → AffineMap → Type 0) (x : ℕ) (f : AffineMap) (y : List ℤ) : Type 0 where
  pub own : P x f
  pub width : f.width ≡ length y
  pub long : params ≤ length y
  pub kept : take params y ≡ take params z

module _ (params : ℕ) (variables : List Variable) where
  mutual
    pub accesses-of_rows : (e : Term) (width : ℕ) → HasShape params variables e → HasRowsAt e width → EachAccess (IsAccess params variables) e
    accesses-of_rows (constant c) width h r = tt
    accesses-of_rows (index row) width h r = tt
    accesses-of_rows (access x f) width h r = record {
      arity = h;
      widths = All-weaker (IsRowAt width) (HasWidth f.width) (λ row w. w.0 ∙ sym r.columns) f.rows r.rows;
    }
    accesses-of_rows (negation e) width h r = accesses-of_rows e width h r
    accesses-of_rows (binary op a b) width h r = (accesses-of_rows a width h.0 r.0, accesses-of_rows b width h.1 r.1)
    accesses-of_rows (cases branches) width h r = accesses-of_branches branches width h r
    accesses-of_rows (reduction op extra domain e) width h r = accesses-of_rows e (width + extra) h.1 r.1

    accesses-of_branches : (branches : Choices) (width : ℕ) → HaveShape params variables branches → HaveRowsAt branches width → EachBelow (IsAccess params variables) branches
    accesses-of_branches none width h r = tt
    accesses-of_branches (choice domain e rest) width h r = (accesses-of_rows e width h.0 r.1, accesses-of_branches rest width h.1 r.2)

  composed-access : (x : ℕ) (g f : AffineMap) → IsAccess params variables x g → IsAccess params variables x (composed_map g f)
  composed-access x g f own = record { arity = by (slice_get variables x) own.arity; widths = widths_composed g.rows f }
    where
      by : (o : Option Variable) → MatchOption o ⊥ (λ (v : Variable). length g.rows ≡ indices params v) → MatchOption o ⊥ (λ (v : Variable). length (map (λ row. composed row f) g.rows) ≡ indices params v)
      by None h = absurd h
      by (Some v) h = length-map g.rows (λ row. composed row f) ∙ h

  mutual
    pub put-accesses : (f : AffineMap) (e : Term) → EachAccess (IsAccess params variables) e → EachAccess (IsAccess params variables) (put f e)
    put-accesses f (constant c) each = tt
    put-accesses f (index row) each = tt
    put-accesses f (access x g) each = composed-access x g f each
    put-accesses f (negation e) each = put-accesses f e each
    put-accesses f (binary op a b) each = (put-accesses f a each.0, put-accesses f b each.1)
    put-accesses f (cases branches) each = put_below-accesses f branches each
    put-accesses f (reduction op extra domain e) each = put-accesses (extended extra f) e each

    put_below-accesses : (f : AffineMap) (branches : Choices) → EachBelow (IsAccess params variables) branches → EachBelow (IsAccess params variables) (put_below f branches)
    put_below-accesses f none each = tt
    put_below-accesses f (choice domain e rest) each = (put-accesses f e each.0, put_below-accesses f rest each.1)

-- what each access has is known where it is reached
module _ (params count : ℕ) (z : List ℤ) (P : ℕ → AffineMap → Type 0) where
  mutual
    reached-at : (e : Term) (y : List ℤ) → params ≤ length y → take params y ≡ take params z → IsAtWidth count e (length y) → EachAccess P e → AtAccesses (IsReached params z P) e y
    reached-at (constant c) y long kept p each = tt
    reached-at (index row) y long kept p each = tt
    reached-at (access x f) y long kept p each = record { own = each; width = p.1; long = long; kept = kept }
    reached-at (negation e) y long kept p each = reached-at e y long kept p each
    reached-at (binary op a b) y long kept p each = (reached-at a y long kept p.0 each.0, reached-at b y long kept p.1 each.1)
    reached-at (cases branches) y long kept p each = (tt, reached-below branches y long kept p each)
    reached-at (reduction op extra domain e) y long kept p each = (
      tt,
      λ k member.
          let wide : length (y ++ k) ≡ length y + extra = omega (arith, length-append y k, member.0) in
          reached-at e (y ++ k) (omega (arith, wide, long)) (take-append-le params y k long ∙ kept) (subst (λ n. IsAtWidth count e n) (sym wide) p.2) each,
    )

    reached-below : (branches : Choices) (y : List ℤ) → params ≤ length y → take params y ≡ take params z → AreAtWidth count branches (length y) → EachBelow P branches → AtBranches (OnAccess (IsReached params z P)) branches y
    reached-below none y long kept p each = tt
    reached-below (choice domain e rest) y long kept p each = (λ held. reached-at e y long kept p.1 each.0, reached-below rest y long kept p.2 each.1)

  pub accesses-reached : (e : Term) → params ≤ length z → IsAtWidth count e (length z) → EachAccess P e → AtAccesses (IsReached params z P) e z
  accesses-reached e long p each = reached-at e z long refl p each

-- an expression that doesn't read a variable
abbrev pub IsOther : ℕ → ℕ → AffineMap → Type 0
IsOther x y f = (y == x) ≡ false

module _ (x : ℕ) where
  apart : (xs ys : List Term) → list_any (is_access_to x) (xs ++ ys) ≡ false → (list_any (is_access_to x) xs ≡ false) × (list_any (is_access_to x) ys ≡ false)
  apart xs ys h = neither (list_any (is_access_to x) xs) (list_any (is_access_to x) ys) (sym (list_any-append (is_access_to x) xs ys) ∙ h)

  mutual
    pub others-unread : (e : Term) → reads x e ≡ false → EachAccess (IsOther x) e
    others-unread (constant c) h = tt
    others-unread (index row) h = tt
    others-unread (access y f) h = (neither (y == x) false h).0
    others-unread (negation e) h = others-unread e h
    others-unread (binary op a b) h = let two = apart (parts a) (parts b) h in (others-unread a two.0, others-unread b two.1)
    others-unread (cases branches) h = others-below branches h
    others-unread (reduction op extra domain e) h = others-unread e h

    others-below : (branches : Choices) → list_any (is_access_to x) (parts_below branches) ≡ false → EachBelow (IsOther x) branches
    others-below none h = tt
    others-below (choice domain e rest) h = let two = apart (parts e) (parts_below rest) h in (others-unread e two.0, others-below rest two.1)

-- two facts on each access
mutual
  pub EachAccess-both : (P Q R : ℕ → AffineMap → Type 0) → ((x : ℕ) (f : AffineMap) → P x f → Q x f → R x f) → (e : Term) → EachAccess P e → EachAccess Q e → EachAccess R e
  EachAccess-both P Q R to (constant c) p q = tt
  EachAccess-both P Q R to (index row) p q = tt
  EachAccess-both P Q R to (access x f) p q = to x f p q
  EachAccess-both P Q R to (negation e) p q = EachAccess-both P Q R to e p q
  EachAccess-both P Q R to (binary op a b) p q = (EachAccess-both P Q R to a p.0 q.0, EachAccess-both P Q R to b p.1 q.1)
  EachAccess-both P Q R to (cases branches) p q = EachBelow-both P Q R to branches p q
  EachAccess-both P Q R to (reduction op extra domain e) p q = EachAccess-both P Q R to e p q

  EachBelow-both : (P Q R : ℕ → AffineMap → Type 0) → ((x : ℕ) (f : AffineMap) → P x f → Q x f → R x f) → (branches : Choices) → EachBelow P branches → EachBelow Q branches → EachBelow R branches
  EachBelow-both P Q R to none p q = tt
  EachBelow-both P Q R to (choice domain e rest) p q = (EachAccess-both P Q R to e p.0 q.0, EachBelow-both P Q R to rest p.1 q.1)

-- an access's map has the columns of its place: no fewer than those around it, and no more than the expression's most
pub record HasPlaceColumns (least most : ℕ) (x : ℕ) (f : AffineMap) : Type 0 where
  pub enough : least ≤ f.width
  pub few : f.width ≤ most

mutual
  pub place-columns : (count : ℕ) (e : Term) (least width most : ℕ) → IsAtWidth count e width → least ≤ width → width + extra_under e ≤ most → EachAccess (HasPlaceColumns least most) e
  place-columns count (constant c) least width most p l m = tt
  place-columns count (index row) least width most p l m = tt
  place-columns count (access x f) least width most p l m = record { enough = omega (arith, p.1, l); few = omega (arith, p.1, m) }
  place-columns count (negation e) least width most p l m = place-columns count e least width most p l m
  place-columns count (binary op a b) least width most p l m = (
    place-columns count a least width most p.0 l (omega (arith, m, le-max_left (extra_under a) (extra_under b))),
    place-columns count b least width most p.1 l (omega (arith, m, le-max_right (extra_under a) (extra_under b))),
  )
  place-columns count (cases branches) least width most p l m = place-columns_below count branches least width most p l m
  place-columns count (reduction op extra domain e) least width most p l m = place-columns count e least (width + extra) most p.2 (omega (arith, l)) (omega (arith, m))

  place-columns_below : (count : ℕ) (branches : Choices) (least width most : ℕ) → AreAtWidth count branches width → least ≤ width → width + extra_below branches ≤ most → EachBelow (HasPlaceColumns least most) branches
  place-columns_below count none least width most p l m = tt
  place-columns_below count (choice domain e rest) least width most p l m = (
    place-columns count e least width most p.1 l (omega (arith, m, le-max_left (extra_under e) (extra_below rest))),
    place-columns_below count rest least width most p.2 l (omega (arith, m, le-max_right (extra_under e) (extra_below rest))),
  )
