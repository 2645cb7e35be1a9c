-- The expression of pieces has the values of the one that counts.
use Rattle.std.proofs.Common.{◌↔◌, inl, inr, ⊎_elim, ℕ, List, [], ◌∷◌, map, sym, subst}
use Rattle.std.specs.Prelude.{ℤ}
use Rattle.az_lin.specs.Affine.{Affine}
use Rattle.az_ast.specs.Meaning.{Reads, TermGives, ChoiceGives}
use Rattle.az_ast.specs.Term.{Term, choices}
use Rattle.normalize_eqs.specs.Pieces.{Piece, branch_of, alone_or_case, put_together}
use Rattle.normalize_eqs.proofs.Held.{region_holds}
use Rattle.normalize_eqs.proofs.Picked.{Picks}

module _ (params : ℕ) (reads : Reads) (width : ℕ) (z : List ℤ) where
  abbrev Has : Term → ℤ → Type 0
  Has e v = TermGives params reads e z v

  case-same : (ps : List Piece) (q : Piece) → Picks ps z q → (v : ℤ) → ChoiceGives params reads (choices (map (branch_of width) ps)) z v ↔ Has q.value v
  case-same [] q picks v = absurd picks
  case-same (piece ∷ ps) q picks v =
      let same = region_holds width piece.rows z in
      ⊎_elim
      (λ here. (
        λ g. ⊎_elim (λ first. subst (λ (r : Piece). Has r.value v) here.0 first.1) (λ later. absurd (later.0 (same.1 here.1))) g,
        λ g. inl (same.1 here.1, subst (λ (r : Piece). Has r.value v) (sym here.0) g),
      ))
      (λ there.
      let rest = case-same ps q there.1 v in (
        λ g. ⊎_elim (λ first. absurd (there.0 (same.0 first.0))) (λ later. rest.0 later.1) g,
        λ g. inr (λ held. there.0 (same.0 held), rest.1 g),
      ))
      picks

  pub together-same : (ps : List Piece) (q : Piece) → Picks ps z q → (v : ℤ) → Has (put_together width ps) v ↔ Has q.value v
  together-same [] q picks v = absurd picks
  together-same (piece ∷ []) q picks v = by piece.rows
    where
      own : Has piece.value v ↔ Has q.value v
      own = ⊎_elim (λ here. subst (λ (r : Piece). Has piece.value v ↔ Has r.value v) here.0 (λ g. g, λ g. g)) (λ there. absurd there.1) picks

      by : (rows : List Affine) → Has (alone_or_case width piece rows) v ↔ Has q.value v
      by [] = own
      by (row ∷ rows) = case-same (piece ∷ []) q picks v
  together-same (piece ∷ other ∷ rest) q picks v = case-same (piece ∷ other ∷ rest) q picks v
