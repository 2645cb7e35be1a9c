-- An expression at a point where it is sound has the values of its one piece that counts there.
use Rattle.std.proofs.Common.{◌↔◌, inl, inr, ⊎_elim, List, [], ◌∷◌, ◌++◌, length, map, refl}
use Rattle.std.specs.Prelude.{ℤ}
use Rattle.az_ast.specs.Certified.{NoneHolds, OneHolds}
use Rattle.az_ast.specs.Meaning.{Reads, TermGives}
use Rattle.az_ast.specs.Operators.{FoldsFromIdentity}
use Rattle.az_ast.specs.Placed.{IsConjunction}
use Rattle.az_ast.specs.System.{System}
use Rattle.az_ast.specs.Term.{Term, constant, index, access, negation, binary, cases, reduction, Choices, none, choice}
use Rattle.expr_maps.proofs.Folds.{FoldOver-from_gives, FoldGives-from_over}
use Rattle.expr_places.specs.Reached.{AtPlaces, AtBranches, IsSoundHere}
use Rattle.expr_places.proofs.Branches.{one_branch}
use Rattle.normalize_eqs.specs.Pieces.{Piece, everywhere, negated, within, both, rows_of, over_piece, all_joined, pieces, pieces_below}
use Rattle.normalize_eqs.proofs.Held.{hold-append, hold-parts, plain_holds}
use Rattle.normalize_eqs.proofs.Picked.{NoneCount, Picks, none-append, picks-left, picks-right, none-of, picks-map, picks-pairs}
use Rattle.normalize_eqs.proofs.Splits.{split-same}

-- each operator of a reduction folds, and each domain has one disjunct
abbrev mutual
  pub CanSplit : Term → Type 0
  CanSplit (constant c) = Unit {0}
  CanSplit (index row) = Unit {0}
  CanSplit (access x f) = Unit {0}
  CanSplit (negation e) = CanSplit e
  CanSplit (binary op a b) = CanSplit a × CanSplit b
  CanSplit (cases branches) = CanSplitBelow branches
  CanSplit (reduction op extra domain e) = FoldsFromIdentity op × IsConjunction domain × CanSplit e

  pub CanSplitBelow : Choices → Type 0
  CanSplitBelow none = Unit {0}
  CanSplitBelow (choice domain e rest) = IsConjunction domain × CanSplit e × CanSplitBelow rest

none-below : (branches : Choices) (z : List ℤ) → CanSplitBelow branches → NoneHolds branches z → NoneCount (pieces_below branches) z
none-below none z can fails = tt
none-below (choice domain e rest) z can fails =
    none-append (map (within (rows_of domain)) (pieces e)) (pieces_below rest) z
    (none-of (within (rows_of domain)) z (λ piece counts. fails.0 ((plain_holds domain z can.0).1 (hold-parts (rows_of domain) piece.rows z counts).0)) (pieces e))
    (none-below rest z can.2 fails.1)

module _ (p : System) (reads : Reads) where
  abbrev Has : Term → List ℤ → ℤ → Type 0
  Has e z v = TermGives (length p.params) reads e z v

  -- the one piece that counts, and that it has the same values
  abbrev pub IsPiece : List Piece → Term → List ℤ → Type 0
  IsPiece ps e z = (q : Piece) × Picks ps z q × ((v : ℤ) → Has e z v ↔ Has q.value z v)

  alone : (e : Term) (z : List ℤ) → IsPiece (everywhere e ∷ []) e z
  alone e z = (everywhere e, inl (refl, tt, tt), λ v. (λ g. g, λ g. g))

  mutual
    pub pieces-same : (e : Term) (z : List ℤ) → CanSplit e → AtPlaces (IsSoundHere p) e z → IsPiece (pieces e) e z
    pieces-same (constant c) z can sound = alone (constant c) z
    pieces-same (index row) z can sound = alone (index row) z
    pieces-same (access x f) z can sound = alone (access x f) z
    pieces-same (negation e) z can sound =
        let one = pieces-same e z can sound in (
          negated one.0,
          picks-map negated z (λ piece counts. counts) (λ piece counts. counts) (pieces e) one.0 one.1,
          λ v. (λ g. (g.0, (one.2 g.0).0 g.1, g.2), λ g. (g.0, (one.2 g.0).1 g.1, g.2)),
        )
    pieces-same (binary op a b) z can sound =
        let left = pieces-same a z can.0 sound.0 in
        let right = pieces-same b z can.1 sound.1 in (
          both op left.0 right.0,
          picks-pairs op z (pieces a) (pieces b) left.0 right.0 left.1 right.1,
          λ v. (
            λ g. (g.0, g.1, (left.2 g.0).0 g.2, (right.2 g.1).0 g.3, g.4),
            λ g. (g.0, g.1, (left.2 g.0).1 g.2, (right.2 g.1).1 g.3, g.4),
          ),
        )
    pieces-same (cases branches) z can sound = below-same branches z can ((one_branch branches z).0 sound.0) sound.1
    pieces-same (reduction op extra domain e) z can sound =
        let whole = all_joined op (map (over_piece op extra domain) (pieces e)) in
        let split = split-same (length p.params) reads op can.0 extra domain can.1 z (λ k w. Has e (z ++ k) w) (pieces e) (λ k member. pieces-same e (z ++ k) can.2 (sound.1 k member)) in (
          everywhere whole,
          inl (refl, tt, tt),
          λ v. (
            λ g. (split v).0 (FoldOver-from_gives op extra domain (Has e) z v g),
            λ g. FoldGives-from_over op extra domain (Has e) z v ((split v).1 g),
          ),
        )

    below-same : (branches : Choices) (z : List ℤ) → CanSplitBelow branches → OneHolds branches z → AtBranches (IsSoundHere p) branches z → IsPiece (pieces_below branches) (cases branches) z
    below-same none z can one sound = absurd one
    below-same (choice domain e rest) z can one sound =
        ⊎_elim
        (λ here.
        let chosen = pieces-same e z can.1 (sound.0 here.0) in
        let rows = (plain_holds domain z can.0).0 here.0 in (
          within (rows_of domain) chosen.0,
          picks-left (map (within (rows_of domain)) (pieces e)) (pieces_below rest) z (within (rows_of domain) chosen.0)
              (picks-map (within (rows_of domain)) z (λ piece counts. (hold-parts (rows_of domain) piece.rows z counts).1) (λ piece counts. hold-append (rows_of domain) piece.rows z rows counts) (pieces e) chosen.0 chosen.1)
              (none-below rest z can.2 here.1),
          λ v. (
            λ g. ⊎_elim (λ first. (chosen.2 v).0 first.1) (λ later. absurd (later.0 here.0)) g,
            λ g. inl (here.0, (chosen.2 v).1 g),
          ),
        ))
        (λ there.
        let chosen = below-same rest z can.2 there.1 sound.1 in (
          chosen.0,
          picks-right (map (within (rows_of domain)) (pieces e)) (pieces_below rest) z chosen.0
              (none-of (within (rows_of domain)) z (λ piece counts. there.0 ((plain_holds domain z can.0).1 (hold-parts (rows_of domain) piece.rows z counts).0)) (pieces e))
              chosen.1,
          λ v. (
            λ g. ⊎_elim (λ first. absurd (there.0 first.0)) (λ later. (chosen.2 v).0 later.1) g,
            λ g. inr (there.0, (chosen.2 v).1 g),
          ),
        ))
        one
