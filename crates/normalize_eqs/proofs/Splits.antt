-- A reduction split over the pieces of its body: if at each of its points one piece counts and has the body's values,
-- the reduction has the values of the reductions over the pieces, joined by its operator.
use Rattle.std.proofs.Common.{◌≡◌, ◌↔◌, ◌⊎◌, inl, inr, ⊎_elim, ℕ, List, [], ◌∷◌, ◌++◌, map, refl, sym, ap, subst, ◌∙◌}
use Rattle.std.specs.Prelude.{ℤ, fold}
use Rattle.std.specs.List.{AllByRecursion, AllZip}
use Rattle.az_lin.specs.Affine.{Union}
use Rattle.az_ast.specs.Meaning.{Values, Reads, TermGives}
use Rattle.az_ast.specs.Operators.{applied, identity, FoldsFromIdentity}
use Rattle.az_ast.specs.Placed.{IsConjunction}
use Rattle.az_ast.specs.Points.{IsMember}
use Rattle.az_ast.specs.Term.{Term, binary}
use Rattle.az_ast.specs.declared.op.Op.{Op}
use Rattle.az_ast.proofs.OperatorLaws.{applied-assoc, applied-comm, applied-identity, applied-IsWord, wrapped-word}
use Rattle.expr_maps.specs.Folds.{FoldOver, IsFoldable}
use Rattle.expr_maps.proofs.Folds.{fold-unit, FoldOver-joined, FoldOver-split, FoldOver-same, FoldOver-from_gives, FoldGives-from_over, operator-foldable}
use Rattle.normalize_eqs.specs.Pieces.{Piece, rows_of, region, over_piece, joined, all_joined}
use Rattle.normalize_eqs.proofs.Held.{hold-append, hold-parts, region_holds, plain_holds, hold_or_not}
use Rattle.normalize_eqs.proofs.Picked.{Counts, NoneCount, Picks}

-- a fold over no points
pub over-none : (f : ℤ → ℤ → ℤ) (unit : ℤ) (P : List ℤ → Type 0) (body : Values) → ((k : List ℤ) → P k → ⊥) → FoldOver f unit P body unit
over-none f unit P body none = record {
  points = [];
  values = [];
  increasing = tt;
  only = tt;
  every = λ k h. absurd (none k h);
  bodies = tt;
  result = refl;
}

pub value-of_none : (f : ℤ → ℤ → ℤ) (unit : ℤ) (P : List ℤ → Type 0) (body : Values) (w : ℤ) → ((k : List ℤ) → P k → ⊥) → FoldOver f unit P body w → w ≡ unit
value-of_none f unit P body w none over = by over.points over.values over.only over.bodies over.result
  where
    by : (points : List (List ℤ)) (values : List ℤ) → AllByRecursion P points → AllZip body points values → w ≡ fold f unit values → w ≡ unit
    by [] [] only bodies result = result
    by [] (v ∷ values) only bodies result = absurd bodies
    by (k ∷ points) values only bodies result = absurd (none k only.0)

module _ (params : ℕ) (reads : Reads) (op : Op) (folds : FoldsFromIdentity op) (extra : ℕ) (domain : Union) (plain : IsConjunction domain) (z : List ℤ) (body : Values) where
  abbrev f : ℤ → ℤ → ℤ
  f = applied op

  abbrev unit : ℤ
  unit = identity op

  abbrev Has : Term → Values
  Has e y v = TermGives params reads e y v

  abbrev Member : List ℤ → Type 0
  Member k = IsMember domain z extra k

  abbrev At : Piece → List ℤ → Type 0
  At piece k = Counts piece (z ++ k)

  abbrev Part : Piece → Term
  Part piece = over_piece op extra domain piece

  abbrev Own : Piece → Values
  Own piece k w = Has piece.value (z ++ k) w

  foldable : IsFoldable f unit
  foldable = operator-foldable op folds

  -- what an operator gives is a word, which the identity leaves
  unit-after : (a b : ℤ) → f (f a b) unit ≡ f a b
  unit-after a b = applied-comm op folds (f a b) unit ∙ (applied-identity op folds (f a b) ∙ wrapped-word (f a b) (applied-IsWord op a b))

  abbrev IsSettled : Term → Type 0
  IsSettled e = (a : ℤ) → Has e z a → f a unit ≡ a

  binary-settled : (a b : Term) → IsSettled (binary op a b)
  binary-settled a b v g = subst (λ c. f c unit ≡ c) (sym g.4) (unit-after g.0 g.1)

  part-settled : (piece : Piece) → IsSettled (Part piece)
  part-settled piece v g = subst (λ c. f c unit ≡ c) (sym g.result) (fold-unit f unit foldable g.values)

  -- the points of a part
  point_same : (piece : Piece) (k : List ℤ) → IsMember (region domain.width (rows_of domain ++ piece.rows)) z extra k ↔ (Member k × At piece k)
  point_same piece k =
      let whole = region_holds domain.width (rows_of domain ++ piece.rows) (z ++ k) in
      let own = plain_holds domain (z ++ k) plain in (
        λ member. let two = hold-parts (rows_of domain) piece.rows (z ++ k) (whole.0 member.1) in ((member.0, own.1 two.0), two.1),
        λ both. (both.0.0, whole.1 (hold-append (rows_of domain) piece.rows (z ++ k) (own.0 both.0.1) both.1)),
      )

  -- one piece of those left counts at each point, and has there what the body has
  abbrev pub HasOne : List Piece → List ℤ → Type 0
  HasOne ps k = (q : Piece) × Picks ps (z ++ k) q × ((w : ℤ) → body k w ↔ Own q k w)

  own-same : (piece : Piece) (ps : List Piece) (k : List ℤ) → HasOne (piece ∷ ps) k → At piece k → (w : ℤ) → body k w ↔ Own piece k w
  own-same piece ps k one counts w =
      ⊎_elim
      (λ here. subst (λ (r : Piece). body k w ↔ Own r k w) (sym here.0) (one.2 w))
      (λ there. absurd (there.0 counts))
      one.1

  none-after : (piece : Piece) (ps : List Piece) (k : List ℤ) → HasOne (piece ∷ ps) k → At piece k → NoneCount ps (z ++ k)
  none-after piece ps k one counts = ⊎_elim (λ here. here.2) (λ there. absurd (there.0 counts)) one.1

  one-after : (piece : Piece) (ps : List Piece) (k : List ℤ) → HasOne (piece ∷ ps) k → (At piece k → ⊥) → HasOne ps k
  one-after piece ps k one fails = (one.0, ⊎_elim (λ here. absurd (fails here.1)) (λ there. there.1) one.1, one.2)

  -- points left for pieces: members where one of them counts, beside others where none does
  module _ (P : List ℤ → Type 0) (piece : Piece) (ps : List Piece) (inside : (k : List ℤ) → P k → Member k) (one : (k : List ℤ) → P k → HasOne (piece ∷ ps) k)
      (all : (k : List ℤ) → Member k → P k ⊎ NoneCount (piece ∷ ps) (z ++ k)) where
    abbrev Rest : List ℤ → Type 0
    Rest k = P k × (At piece k → ⊥)

    there : (k : List ℤ) → Member k → At piece k → P k
    there k member counts = ⊎_elim (λ own. own) (λ none. absurd (none.0 counts)) (all k member)

    pub rest-one : (k : List ℤ) → Rest k → HasOne ps k
    rest-one k rest = one-after piece ps k (one k rest.0) rest.1

    pub rest-all : (k : List ℤ) → Member k → Rest k ⊎ NoneCount ps (z ++ k)
    rest-all k member =
        ⊎_elim
        (λ own. ⊎_elim (λ counts. inr (none-after piece ps k (one k own) counts)) (λ fails. inl (own, fails)) (hold_or_not piece.rows (z ++ k)))
        (λ none. inr none.1)
        (all k member)

    -- the part's value beside that of the others
    pub with_part : (y w : ℤ) → Has (Part piece) z y → FoldOver f unit Rest body w → FoldOver f unit P body (f y w)
    with_part y w part rest =
        FoldOver-joined f unit foldable body (λ k. Member k × At piece k) Rest P y w
        (λ k. (
          λ own. ⊎_elim (λ counts. inl (inside k own, counts)) (λ fails. inr (own, fails)) (hold_or_not piece.rows (z ++ k)),
          λ either. ⊎_elim (λ l. there k l.0 l.1) (λ r. r.0) either,
        ))
        (λ k l r. r.1 l.1)
        (FoldOver-same f unit (IsMember (region domain.width (rows_of domain ++ piece.rows)) z extra) (λ k. Member k × At piece k) (Own piece) body y
        (point_same piece)
        (λ k v member own. let at = (point_same piece k).0 member in (own-same piece ps k (one k (there k at.0 at.1)) at.1 v).1 own)
        (FoldOver-from_gives op extra (region domain.width (rows_of domain ++ piece.rows)) (Has piece.value) z y part))
        rest

    pub part-of : (w : ℤ) → FoldOver f unit P body w → (x : ℤ) × (y : ℤ) × Has (Part piece) z x × FoldOver f unit Rest body y × (w ≡ f x y)
    part-of w over =
        let two = FoldOver-split f unit foldable body P (λ k. At piece k) w (λ k own. hold_or_not piece.rows (z ++ k)) over in (
          two.0,
          two.1,
          FoldGives-from_over op extra (region domain.width (rows_of domain ++ piece.rows)) (Has piece.value) z two.0
              (FoldOver-same f unit (λ k. P k × At piece k) (IsMember (region domain.width (rows_of domain ++ piece.rows)) z extra) body (Own piece) two.0
              (λ k. (
                λ own. (point_same piece k).1 (inside k own.0, own.1),
                λ member. let at = (point_same piece k).0 member in (there k at.0 at.1, at.1),
              ))
              (λ k v own b. (own-same piece ps k (one k own.0) own.1 v).0 b)
              two.2),
          two.3,
          two.4,
        )

  -- what there is so far, and the pieces left
  pub joined-to : (ps : List Piece) (P : List ℤ → Type 0) (so_far : Term) → ((k : List ℤ) → P k → Member k) → ((k : List ℤ) → P k → HasOne ps k) → ((k : List ℤ) → Member k → P k ⊎ NoneCount ps (z ++ k))
      → IsSettled so_far → (v : ℤ) → Has (joined op so_far (map Part ps)) z v → (a : ℤ) × (w : ℤ) × Has so_far z a × FoldOver f unit P body w × (v ≡ f a w)
  joined-to [] P so_far inside one all settled v g = (v, unit, g, over-none f unit P body (λ k own. (one k own).1), sym (settled v g))
  joined-to (piece ∷ ps) P so_far inside one all settled v g =
      let rest = joined-to ps (Rest P piece ps inside one all) (binary op so_far (Part piece)) (λ k r. inside k r.0) (rest-one P piece ps inside one all) (rest-all P piece ps inside one all)
      (binary-settled so_far (Part piece)) v g in
      let first = rest.2 in (
        first.0,
        f first.1 rest.1,
        first.2,
        with_part P piece ps inside one all first.1 rest.1 first.3 rest.3,
        rest.4 ∙ (ap (λ c. f c rest.1) first.4 ∙ applied-assoc op folds first.0 first.1 rest.1),
      )

  pub joined-from : (ps : List Piece) (P : List ℤ → Type 0) (so_far : Term) → ((k : List ℤ) → P k → Member k) → ((k : List ℤ) → P k → HasOne ps k) → ((k : List ℤ) → Member k → P k ⊎ NoneCount ps (z ++ k))
      → IsSettled so_far → (v a w : ℤ) → Has so_far z a → FoldOver f unit P body w → v ≡ f a w → Has (joined op so_far (map Part ps)) z v
  joined-from [] P so_far inside one all settled v a w has over same =
      let nothing : w ≡ unit = value-of_none f unit P body w (λ k own. (one k own).1) over in
      subst (λ c. Has so_far z c) (sym (same ∙ (ap (f a) nothing ∙ settled a has))) has
  joined-from (piece ∷ ps) P so_far inside one all settled v a w has over same =
      let two = part-of P piece ps inside one all w over in
      joined-from ps (Rest P piece ps inside one all) (binary op so_far (Part piece)) (λ k r. inside k r.0) (rest-one P piece ps inside one all) (rest-all P piece ps inside one all)
      (binary-settled so_far (Part piece)) v (f a two.0) two.1 (a, two.0, has, two.2, refl) two.3
      (same ∙ (ap (f a) two.4 ∙ sym (applied-assoc op folds a two.0 two.1)))

  -- the whole
  module _ (ps : List Piece) where
    abbrev pub SplitOver : Type 0
    SplitOver = (v : ℤ) → FoldOver f unit Member body v ↔ Has (all_joined op (map Part ps)) z v

  pub split-same : (ps : List Piece) → ((k : List ℤ) → Member k → HasOne ps k) → SplitOver ps
  split-same [] one v = (
    λ over. value-of_none f unit Member body v (λ k own. (one k own).1) over,
    λ g. subst (λ c. FoldOver f unit Member body c) (sym g) (over-none f unit Member body (λ k own. (one k own).1)),
  )
  split-same (piece ∷ ps) one v = (
    λ over.
        let two = part-of Member piece ps (λ k own. own) one (λ k own. inl own) v over in
        joined-from ps (Rest Member piece ps (λ k own. own) one (λ k own. inl own)) (Part piece) (λ k r. r.0) (rest-one Member piece ps (λ k own. own) one (λ k own. inl own))
        (rest-all Member piece ps (λ k own. own) one (λ k own. inl own)) (part-settled piece) v two.0 two.1 two.2 two.3 two.4,
    λ g.
        let rest = joined-to ps (Rest Member piece ps (λ k own. own) one (λ k own. inl own)) (Part piece) (λ k r. r.0) (rest-one Member piece ps (λ k own. own) one (λ k own. inl own))
        (rest-all Member piece ps (λ k own. own) one (λ k own. inl own)) (part-settled piece) v g in
        subst (λ c. FoldOver f unit Member body c) (sym rest.4) (with_part Member piece ps (λ k own. own) one (λ k own. inl own) rest.0 rest.1 rest.2 rest.3),
  )
