-- What is left of pieces, and what was taken out, keep the rules on places and shapes.
use Rattle.std.proofs.Common.{◌≡◌, ℕ, suc, ◌+◌, ◌-◌, ◌<◌, ◌≤◌, List, [], ◌∷◌, ◌++◌, length, map, refl, sym, ap, subst, ◌∙◌, arith}
use Rattle.std.specs.Prelude.{slice_get, MatchOption}
use Rattle.std.specs.List.{AllByRecursion}
use Rattle.std.proofs.lemmas.List.FromFn.{length-map-range_with_len}
use Rattle.std.proofs.lemmas.Option.{slice_get_within}
use Rattle.az_lin.specs.Affine.{Affine, AffineMap, Union}
use Rattle.az_lin.specs.Columns.{unit_row, unit_rows}
use Rattle.az_ast.proofs.ReadLemmas.{at-MatchOption}
use Rattle.az_ast.proofs.TermShapes.{HaveShape}
use Rattle.az_ast.specs.Placed.{AreAtWidth}
use Rattle.az_ast.specs.Shapes.{indices}
use Rattle.az_ast.specs.System.{System}
use Rattle.az_ast.specs.Term.{Term, constant, index, access, negation, binary, cases, reduction, choices}
use Rattle.az_ast.specs.declared.program.Variable.{Variable}
use Rattle.rewriting.proofs.Shaped.{Suits}
use Rattle.normalize_eqs.specs.Outlines.{Scope, inside, holding, Fresh, Outlined, outline, outline_inside, outline_all}
use Rattle.normalize_eqs.specs.Pieces.{Piece, region, branch_of, alone_or_case, put_together}
use Rattle.normalize_eqs.proofs.Outlining.{IsDeclared, AreDeclared, declared-parts}
use Rattle.normalize_eqs.proofs.PiecesSuit.{Fits, FitsAt}

fresh-append : (P : Fresh → Type 0) (xs ys : List Fresh) → AllByRecursion P xs → AllByRecursion P ys → AllByRecursion P (xs ++ ys)
fresh-append P [] ys h g = g
fresh-append P (x ∷ xs) ys h g = (h.0, fresh-append P xs ys h.1 g)

-- the expression of pieces
module _ (params : ℕ) (variables : List Variable) (width : ℕ) where
  abbrev SuitsAt : Piece → Type 0
  SuitsAt piece = Suits params variables piece.value width

  cases-suit : (ps : List Piece) → AllByRecursion SuitsAt ps → AreAtWidth (length variables) (choices (map (branch_of width) ps)) width × HaveShape params variables (choices (map (branch_of width) ps))
  cases-suit [] all = (tt, tt)
  cases-suit (piece ∷ ps) all = let rest = cases-suit ps all.1 in ((refl, all.0.0, rest.0), (all.0.1, rest.1))

  pub together-suits : (ps : List Piece) → AllByRecursion SuitsAt ps → Suits params variables (put_together width ps) width
  together-suits [] all = cases-suit [] all
  together-suits (piece ∷ []) all = by piece.rows
    where
      by : (rows : List Affine) → Suits params variables (alone_or_case width piece rows) width
      by [] = all.0
      by (row ∷ rows) = cases-suit (piece ∷ []) all
  together-suits (piece ∷ other ∷ rest) all = cases-suit (piece ∷ other ∷ rest) all

module _ (params : ℕ) (variables : List Variable) (q : System) (enough : length variables ≤ length q.variables)
    (same : (x : ℕ) → x < length variables → slice_get q.variables x ≡ slice_get variables x) where
  pub record FreshSuits (fresh : Fresh) : Type 0 where
    pub suits : Suits params q.variables fresh.body fresh.domain.width
    pub wide : params ≤ fresh.domain.width

  abbrev Suit : Outlined → ℕ → Type 0
  Suit o width = Suits params q.variables o.value width × AllByRecursion FreshSuits o.fresh

  -- the access in place of a reduction
  taken-suits : (next : ℕ) (s : Scope) (body : Term) → params ≤ s.width → IsDeclared q next (record { domain = region s.width s.rows; body = body })
      → Suits params q.variables (access next (record { width = s.width; rows = unit_rows s.width params (s.width - params) })) s.width
  taken-suits next s body wide d = (
    (slice_get_within q.variables next d.variable d.found, refl),
    at-MatchOption (λ (v : Variable). length (unit_rows s.width params (s.width - params)) ≡ indices params v) (slice_get q.variables next) d.variable d.found
        (length-map-range_with_len (λ column. unit_row s.width column) params (s.width - params) ∙ ap (λ (domain : Union). domain.width - params) (sym d.domain)),
  )

  old-access : (x : ℕ) (f : AffineMap) (width : ℕ) → Fits params variables (access x f) width → Suits params q.variables (access x f) width
  old-access x f width fits = (
    (omega (arith, fits.placed.0, enough), fits.placed.1),
    subst (λ o. MatchOption o ⊥ (λ (v : Variable). length f.rows ≡ indices params v)) (sym (same x fits.placed.0)) fits.shape,
  )

  pub outlined-suits : (e : Term) (next : ℕ) (s : Scope) → Fits params variables e s.width → params ≤ s.width → AreDeclared q next (outline params next s e).fresh → Suit (outline params next s e) s.width
  outlined-suits (constant c) next s fits wide declared = ((tt, tt), tt)
  outlined-suits (index row) next s fits wide declared = ((fits.placed, tt), tt)
  outlined-suits (access x f) next s fits wide declared = (old-access x f s.width fits, tt)
  outlined-suits (negation e) next s fits wide declared = outlined-suits e next s (record { flat = fits.flat; placed = fits.placed; shape = fits.shape }) wide declared
  outlined-suits (binary op a b) next s fits wide declared =
      let left = outline params next s a in
      let right = outline params (next + length left.fresh) s b in
      let two = declared-parts q next left.fresh right.fresh declared in
      let first = outlined-suits a next s (record { flat = fits.flat.0; placed = fits.placed.0; shape = fits.shape.0 }) wide two.0 in
      let second = outlined-suits b (next + length left.fresh) s (record { flat = fits.flat.1; placed = fits.placed.1; shape = fits.shape.1 }) wide two.1 in
      (((first.0.0, second.0.0), (first.0.1, second.0.1)), fresh-append FreshSuits left.fresh right.fresh first.1 second.1)
  outlined-suits (cases branches) next s fits wide declared = absurd fits.flat
  outlined-suits (reduction op extra domain e) next s fits wide declared =
      let under = outline params (suc next) (inside s extra domain) e in
      let body = outlined-suits e (suc next) (inside s extra domain) (record { flat = fits.flat.1; placed = fits.placed.2; shape = fits.shape.1 }) (omega (arith, wide)) declared.1 in (
        taken-suits next s (reduction op extra domain under.value) wide declared.0,
        (record { suits = ((fits.placed.0, fits.placed.1, body.0.0), (fits.shape.0, body.0.1)); wide = wide }, body.1),
      )

  pub outlined_inside-suits : (e : Term) (next : ℕ) (s : Scope) → Fits params variables e s.width → params ≤ s.width → AreDeclared q next (outline_inside params next s e).fresh → Suit (outline_inside params next s e) s.width
  outlined_inside-suits (constant c) next s fits wide declared = outlined-suits (constant c) next s fits wide declared
  outlined_inside-suits (index row) next s fits wide declared = outlined-suits (index row) next s fits wide declared
  outlined_inside-suits (access x f) next s fits wide declared = outlined-suits (access x f) next s fits wide declared
  outlined_inside-suits (negation e) next s fits wide declared = outlined-suits (negation e) next s fits wide declared
  outlined_inside-suits (binary op a b) next s fits wide declared = outlined-suits (binary op a b) next s fits wide declared
  outlined_inside-suits (cases branches) next s fits wide declared = absurd fits.flat
  outlined_inside-suits (reduction op extra domain e) next s fits wide declared =
      let body = outlined-suits e next (inside s extra domain) (record { flat = fits.flat.1; placed = fits.placed.2; shape = fits.shape.1 }) (omega (arith, wide)) declared in
      (((fits.placed.0, fits.placed.1, body.0.0), (fits.shape.0, body.0.1)), body.1)

  pub outlined_all-suit : (ps : List Piece) (next : ℕ) (s : Scope) → AllByRecursion (FitsAt params variables s.width) ps → params ≤ s.width → AreDeclared q next (outline_all params next s ps).fresh
      → AllByRecursion (λ piece. Suits params q.variables piece.value s.width) (outline_all params next s ps).pieces × AllByRecursion FreshSuits (outline_all params next s ps).fresh
  outlined_all-suit [] next s all wide declared = (tt, tt)
  outlined_all-suit (piece ∷ ps) next s all wide declared =
      let first = outline_inside params next (holding s piece.rows) piece.value in
      let rest = outline_all params (next + length first.fresh) s ps in
      let two = declared-parts q next first.fresh rest.fresh declared in
      let own = outlined_inside-suits piece.value next (holding s piece.rows) (record { flat = all.0.flat; placed = all.0.placed; shape = all.0.shape }) wide two.0 in
      let others = outlined_all-suit ps (next + length first.fresh) s all.1 wide two.1 in
      ((own.0, others.0), fresh-append FreshSuits first.fresh rest.fresh own.1 others.1)
