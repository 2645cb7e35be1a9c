-- The pieces of a program's expression: each value has no case, keeps the rules on places and shapes, and stands at
-- the columns of the expression.
use Rattle.std.proofs.Common.{◌≡◌, ⊎_elim, ℕ, ◌+◌, List, [], ◌∷◌, ◌++◌, length, map, refl, subst}
use Rattle.std.specs.Prelude.{ℤ, flat_map}
use Rattle.std.specs.List.{AllByRecursion}
use Rattle.az_lin.specs.Affine.{Union}
use Rattle.az_ast.proofs.TermShapes.{HasShape, HaveShape}
use Rattle.az_ast.specs.Operators.{FoldsFromIdentity}
use Rattle.az_ast.specs.Placed.{IsConjunction, IsAtWidth, AreAtWidth}
use Rattle.az_ast.specs.Term.{Term, constant, index, access, negation, binary, cases, reduction, Choices, none, choice}
use Rattle.az_ast.specs.Walks.{parts, parts_below, own_domains, branch_domains, domains}
use Rattle.az_ast.specs.declared.op.Op.{Op}
use Rattle.az_ast.specs.declared.program.Variable.{Variable}
use Rattle.normalize_eqs.specs.Pieces.{Piece, negated, within, both, pairs, rows_of, over_piece, joined, all_joined, pieces, pieces_below}
use Rattle.normalize_eqs.proofs.Outlining.{IsFlat}
use Rattle.normalize_eqs.proofs.Picked.{Picks}
use Rattle.normalize_eqs.proofs.PiecesSame.{CanSplit, CanSplitBelow}

-- what all pieces have, the one that counts has
pub picks-of_all : (P : Piece → Type 0) (ps : List Piece) (z : List ℤ) (q : Piece) → AllByRecursion P ps → Picks ps z q → P q
picks-of_all P [] z q all picks = absurd picks
picks-of_all P (piece ∷ ps) z q all picks = ⊎_elim (λ here. subst P here.0 all.0) (λ there. picks-of_all P ps z q all.1 there.1) picks

each-append : (P : Piece → Type 0) (xs ys : List Piece) → AllByRecursion P xs → AllByRecursion P ys → AllByRecursion P (xs ++ ys)
each-append P [] ys h g = g
each-append P (x ∷ xs) ys h g = (h.0, each-append P xs ys h.1 g)

each-of_map : (P Q : Piece → Type 0) (f : Piece → Piece) → ((piece : Piece) → P piece → Q (f piece)) → (ps : List Piece) → AllByRecursion P ps → AllByRecursion Q (map f ps)
each-of_map P Q f to [] h = tt
each-of_map P Q f to (piece ∷ ps) h = (to piece h.0, each-of_map P Q f to ps h.1)

each-of_pairs : (P Q R : Piece → Type 0) (op : Op) → ((a b : Piece) → P a → Q b → R (both op a b)) → (lefts rights : List Piece) → AllByRecursion P lefts → AllByRecursion Q rights → AllByRecursion R (pairs op lefts rights)
each-of_pairs P Q R op to [] rights h g = tt
each-of_pairs P Q R op to (a ∷ lefts) rights h g =
    each-append R (map (both op a) rights) (pairs op lefts rights) (each-of_map Q R (both op a) (λ b q. to a b h.0 q) rights g) (each-of_pairs P Q R op to lefts rights h.1 g)

-- a value without a case, placed and shaped
module _ (params : ℕ) (variables : List Variable) where
  pub record Fits (e : Term) (width : ℕ) : Type 0 where
    pub flat : IsFlat e
    pub placed : IsAtWidth (length variables) e width
    pub shape : HasShape params variables e

  abbrev pub FitsAt : ℕ → Piece → Type 0
  FitsAt width piece = Fits piece.value width

  module _ (op : Op) (folds : FoldsFromIdentity op) (extra : ℕ) (domain : Union) (width : ℕ) (wide : domain.width ≡ width + extra) where
    part-fits : (piece : Piece) → FitsAt (width + extra) piece → Fits (over_piece op extra domain piece) width
    part-fits piece fits = record { flat = (refl, fits.flat); placed = (wide, refl, fits.placed); shape = (folds, fits.shape) }

    joined-fits : (so_far : Term) (ps : List Piece) → Fits so_far width → AllByRecursion (FitsAt (width + extra)) ps → Fits (joined op so_far (map (over_piece op extra domain) ps)) width
    joined-fits so_far [] first all = first
    joined-fits so_far (piece ∷ ps) first all =
        let part = part-fits piece all.0 in
        joined-fits (binary op so_far (over_piece op extra domain piece)) ps
        (record { flat = (first.flat, part.flat); placed = (first.placed, part.placed); shape = (first.shape, part.shape) }) all.1

    pub all_joined-fits : (ps : List Piece) → AllByRecursion (FitsAt (width + extra)) ps → Fits (all_joined op (map (over_piece op extra domain) ps)) width
    all_joined-fits [] all = record { flat = tt; placed = tt; shape = tt }
    all_joined-fits (piece ∷ ps) all = joined-fits (over_piece op extra domain piece) ps (part-fits piece all.0) all.1

  mutual
    pub pieces-fit : (e : Term) (width : ℕ) → IsAtWidth (length variables) e width → HasShape params variables e → AllByRecursion (FitsAt width) (pieces e)
    pieces-fit (constant c) width placed shape = (record { flat = tt; placed = tt; shape = tt }, tt)
    pieces-fit (index row) width placed shape = (record { flat = tt; placed = placed; shape = tt }, tt)
    pieces-fit (access x f) width placed shape = (record { flat = tt; placed = placed; shape = shape }, tt)
    pieces-fit (negation e) width placed shape =
        each-of_map (FitsAt width) (FitsAt width) negated (λ piece fits. record { flat = fits.flat; placed = fits.placed; shape = fits.shape }) (pieces e) (pieces-fit e width placed shape)
    pieces-fit (binary op a b) width placed shape =
        each-of_pairs (FitsAt width) (FitsAt width) (FitsAt width) op
        (λ x y left right. record { flat = (left.flat, right.flat); placed = (left.placed, right.placed); shape = (left.shape, right.shape) })
        (pieces a) (pieces b) (pieces-fit a width placed.0 shape.0) (pieces-fit b width placed.1 shape.1)
    pieces-fit (cases branches) width placed shape = pieces_below-fit branches width placed shape
    pieces-fit (reduction op extra domain e) width placed shape =
        (all_joined-fits op shape.0 extra domain width placed.0 (pieces e) (pieces-fit e (width + extra) placed.2 shape.1), tt)

    pieces_below-fit : (branches : Choices) (width : ℕ) → AreAtWidth (length variables) branches width → HaveShape params variables branches → AllByRecursion (FitsAt width) (pieces_below branches)
    pieces_below-fit none width placed shape = tt
    pieces_below-fit (choice domain e rest) width placed shape =
        each-append (FitsAt width) (map (within (rows_of domain)) (pieces e)) (pieces_below rest)
        (each-of_map (FitsAt width) (FitsAt width) (within (rows_of domain)) (λ piece fits. fits) (pieces e) (pieces-fit e width placed.1 shape.0))
        (pieces_below-fit rest width placed.2 shape.1)

-- an expression whose domains have one disjunct can be split
module _ (params : ℕ) (variables : List Variable) where
  domains-left : (xs ys : List Union) → AllByRecursion IsConjunction (xs ++ ys) → AllByRecursion IsConjunction xs × AllByRecursion IsConjunction ys
  domains-left [] ys h = (tt, h)
  domains-left (x ∷ xs) ys h = let rest = domains-left xs ys h.1 in ((h.0, rest.0), rest.1)

  parts-left : (xs ys : List Term) → AllByRecursion IsConjunction (flat_map own_domains (xs ++ ys)) → AllByRecursion IsConjunction (flat_map own_domains xs) × AllByRecursion IsConjunction (flat_map own_domains ys)
  parts-left [] ys h = (tt, h)
  parts-left (x ∷ xs) ys h =
      let two = domains-left (own_domains x) (flat_map own_domains (xs ++ ys)) h in
      let rest = parts-left xs ys two.1 in
      (domains-joined (own_domains x) (flat_map own_domains xs) two.0 rest.0, rest.1)
    where
      domains-joined : (ds es : List Union) → AllByRecursion IsConjunction ds → AllByRecursion IsConjunction es → AllByRecursion IsConjunction (ds ++ es)
      domains-joined [] es h g = g
      domains-joined (d ∷ ds) es h g = (h.0, domains-joined ds es h.1 g)

  mutual
    pub can-split : (e : Term) → HasShape params variables e → AllByRecursion IsConjunction (domains e) → CanSplit e
    can-split (constant c) shape plain = tt
    can-split (index row) shape plain = tt
    can-split (access x f) shape plain = tt
    can-split (negation e) shape plain = can-split e shape plain
    can-split (binary op a b) shape plain = let two = parts-left (parts a) (parts b) plain in (can-split a shape.0 two.0, can-split b shape.1 two.1)
    can-split (cases branches) shape plain =
        let two = domains-left (branch_domains branches) (flat_map own_domains (parts_below branches)) plain in
        can-split_below branches shape two.0 two.1
    can-split (reduction op extra domain e) shape plain = (shape.0, plain.0, can-split e shape.1 plain.1)

    can-split_below : (branches : Choices) → HaveShape params variables branches → AllByRecursion IsConjunction (branch_domains branches) → AllByRecursion IsConjunction (flat_map own_domains (parts_below branches)) → CanSplitBelow branches
    can-split_below none shape own plain = tt
    can-split_below (choice domain e rest) shape own plain =
        let two = parts-left (parts e) (parts_below rest) plain in
        (own.0, can-split e shape.0 two.0, can-split_below rest shape.1 own.1 two.1)
