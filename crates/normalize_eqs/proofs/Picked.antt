-- The one piece of a list that counts at a point.
use Rattle.std.proofs.Common.{◌≡◌, ◌⊎◌, inl, inr, ⊎_elim, List, [], ◌∷◌, ◌++◌, map, ap, subst}
use Rattle.std.specs.Prelude.{ℤ}
use Rattle.std.specs.List.{AllByRecursion}
use Rattle.az_ast.specs.declared.op.Op.{Op}
use Rattle.normalize_eqs.specs.Pieces.{Piece, both, pairs}
use Rattle.normalize_eqs.proofs.Held.{Hold, hold-append, hold-parts}

abbrev pub Counts : Piece → List ℤ → Type 0
Counts piece z = Hold piece.rows z

abbrev pub NoneCount : List Piece → List ℤ → Type 0
NoneCount ps z = AllByRecursion (λ piece. Counts piece z → ⊥) ps

abbrev pub Picks : List Piece → List ℤ → Piece → Type 0
Picks [] z q = ⊥
Picks (piece ∷ ps) z q = ((piece ≡ q) × Counts piece z × NoneCount ps z) ⊎ ((Counts piece z → ⊥) × Picks ps z q)

pub picks-counts : (ps : List Piece) (z : List ℤ) (q : Piece) → Picks ps z q → Counts q z
picks-counts [] z q h = absurd h
picks-counts (piece ∷ ps) z q h = ⊎_elim (λ here. subst (λ (r : Piece). Counts r z) here.0 here.1) (λ there. picks-counts ps z q there.1) h

pub none-append : (xs ys : List Piece) (z : List ℤ) → NoneCount xs z → NoneCount ys z → NoneCount (xs ++ ys) z
none-append [] ys z h g = g
none-append (x ∷ xs) ys z h g = (h.0, none-append xs ys z h.1 g)

pub picks-left : (xs ys : List Piece) (z : List ℤ) (q : Piece) → Picks xs z q → NoneCount ys z → Picks (xs ++ ys) z q
picks-left [] ys z q h g = absurd h
picks-left (x ∷ xs) ys z q h g = ⊎_elim (λ here. inl (here.0, here.1, none-append xs ys z here.2 g)) (λ there. inr (there.0, picks-left xs ys z q there.1 g)) h

pub picks-right : (xs ys : List Piece) (z : List ℤ) (q : Piece) → NoneCount xs z → Picks ys z q → Picks (xs ++ ys) z q
picks-right [] ys z q h g = g
picks-right (x ∷ xs) ys z q h g = inr (h.0, picks-right xs ys z q h.1 g)

-- pieces that are changed
module _ (change : Piece → Piece) (z : List ℤ) where
  pub none-of : ((piece : Piece) → Counts (change piece) z → ⊥) → (ps : List Piece) → NoneCount (map change ps) z
  none-of never [] = tt
  none-of never (piece ∷ ps) = (never piece, none-of never ps)

  module _ (back : (piece : Piece) → Counts (change piece) z → Counts piece z) where
    pub none-map : (ps : List Piece) → NoneCount ps z → NoneCount (map change ps) z
    none-map [] h = tt
    none-map (piece ∷ ps) h = (λ counts. h.0 (back piece counts), none-map ps h.1)

    pub picks-map : ((piece : Piece) → Counts piece z → Counts (change piece) z) → (ps : List Piece) (q : Piece) → Picks ps z q → Picks (map change ps) z (change q)
    picks-map to [] q h = h
    picks-map to (piece ∷ ps) q h =
        ⊎_elim
        (λ here. inl (ap change here.0, to piece here.1, none-map ps here.2))
        (λ there. inr (λ counts. there.0 (back piece counts), picks-map to ps q there.1))
        h

-- pairs of pieces
module _ (op : Op) (z : List ℤ) where
  left-counts : (a b : Piece) → Counts (both op a b) z → Counts a z
  left-counts a b h = (hold-parts a.rows b.rows z h).0

  right-counts : (a b : Piece) → Counts (both op a b) z → Counts b z
  right-counts a b h = (hold-parts a.rows b.rows z h).1

  pub none-pairs : (lefts rights : List Piece) → NoneCount lefts z → NoneCount (pairs op lefts rights) z
  none-pairs [] rights h = tt
  none-pairs (a ∷ lefts) rights h =
      none-append (map (both op a) rights) (pairs op lefts rights) z
      (none-of (both op a) z (λ b counts. h.0 (left-counts a b counts)) rights)
      (none-pairs lefts rights h.1)

  pub picks-pairs : (lefts rights : List Piece) (a b : Piece) → Picks lefts z a → Picks rights z b → Picks (pairs op lefts rights) z (both op a b)
  picks-pairs [] rights a b h g = absurd h
  picks-pairs (first ∷ lefts) rights a b h g =
      ⊎_elim
      (λ here. picks-left (map (both op first) rights) (pairs op lefts rights) z (both op a b)
      (subst (λ (r : Piece). Picks (map (both op first) rights) z (both op r b)) here.0
      (picks-map (both op first) z (λ other counts. right-counts first other counts) (λ other counts. hold-append first.rows other.rows z here.1 counts) rights b g))
      (none-pairs lefts rights here.2))
      (λ there. picks-right (map (both op first) rights) (pairs op lefts rights) z (both op a b)
      (none-of (both op first) z (λ other counts. there.0 (left-counts first other counts)) rights)
      (picks-pairs lefts rights a b there.1 g))
      h
