-- The rows of the formulas have the width of their columns.
use Rattle.std.proofs.Common.{◌≡◌, ℕ, suc, ℤ, pos, List, [], ◌∷◌, ◌++◌, length, map, max, Bool, true, false, All, ◌∙◌, arith}
use Rattle.std.specs.Prelude.{◌==◌, if◌then◌else◌}
use lib.IntN.{neg_ℤ}
use Rattle.std.specs.List.{AllByRecursion, flat_map}
use Rattle.std.proofs.lemmas.List.{length-map, length-replicate}
use Rattle.std.proofs.lemmas.List.FromFn.{length-map-range_with_len}
use Rattle.std.proofs.lemmas.List.Elements.{All-nil, All-cons, All-head, All-tail, All-append}
use Rattle.az_lin.specs.Affine.{Affine, AffineMap, HasWidth, dot}
use Rattle.az_lin.specs.Difference.{differences, apart_by}
use Rattle.az_lin.specs.Substitution.{composed, column}
use Rattle.az_ast.specs.Shapes.{IsProgram}
use Rattle.az_ast.specs.System.{System}
use Rattle.az_ast.specs.declared.program.Equation.{Equation}
use Rattle.domain_check.specs.Context.{context}
use Rattle.domain_check.proofs.Widths.{each_join}
use Rattle.expr_places.specs.Reads.{ReadPlace, reads_of}
use Rattle.formula_refute.specs.Claims.{Claim, all_of, any_of, claims, EachRow, EachRowBelow, IsOver}
use Rattle.target_map.specs.Kinds.{is_outer, is_band, is_processor, is_inner, tile_sizes}
use Rattle.target_map.specs.Settings.{TargetMapping, order_number}
use Rattle.target_map.specs.Stamps.{Stamp, part}
use Rattle.target_map.specs.Times.{time_of}
use Rattle.target_map.specs.declared.kind.Kind.{Kind}
use Rattle.order_sets.specs.NotBefore.{at_least, greater, both_ways, each_pair, equal, less, less_after, exceeds, is_within, apart, unit_at_least, beside, not_ahead, in_one_step, not_before}
use Rattle.order_sets.specs.Orders.{order_claim, order_of, orders_from, dependences}
use Rattle.order_sets.specs.Reading.{IsReadOf, HasReads}
use Rattle.order_sets.specs.Stated.{IsRefutable}
use Rattle.order_sets.specs.Visits.{number_row, read_visit, own_visit, time_map, time_rows}
use Rattle.order_sets.specs.declared.visit.Visit.{Visit}
use Rattle.order_sets.proofs.ReadFacts.{ready_reads}

differences-length : (xs ys : List ℤ) → length (differences xs ys) ≡ max (length xs) (length ys)
differences-length [] ys = omega (arith, length-map ys neg_ℤ)
differences-length (x ∷ xs) [] = omega arith
differences-length (x ∷ xs) (y ∷ ys) = omega (arith, differences-length xs ys)

pub below_from : (P : Affine → Type 0) (cs : List Claim) → AllByRecursion (EachRow P) cs → EachRowBelow P (claims cs)
below_from P [] all = tt
below_from P (c ∷ cs) all = (all.0, below_from P cs all.1)

module _ (W : ℕ) where
  -- two rows whose difference has so many columns
  abbrev pub Fit : Affine → Affine → Type 0
  Fit u v = max (length u.coefs) (length v.coefs) ≡ W

  abbrev pub EachFit : List Affine → List Affine → Type 0
  EachFit [] vs = Unit {0}
  EachFit (u ∷ us) [] = Unit {0}
  EachFit (u ∷ us) (v ∷ vs) = Fit u v × EachFit us vs

  abbrev pub AreOver : List Claim → Type 0
  AreOver cs = AllByRecursion (IsOver W) cs

  turned : (u v : Affine) → Fit u v → Fit v u
  turned u v fit = omega (arith, fit)

  pub each_turned : (us vs : List Affine) → EachFit us vs → EachFit vs us
  each_turned [] [] fits = tt
  each_turned [] (v ∷ vs) fits = tt
  each_turned (u ∷ us) [] fits = tt
  each_turned (u ∷ us) (v ∷ vs) fits = (turned u v fits.0, each_turned us vs fits.1)

  pub apart_over : (less : ℤ) (u v : Affine) → Fit u v → HasWidth W (apart_by less u v)
  apart_over less u v fit = differences-length u.coefs v.coefs ∙ fit

  pub both_over : (u v : Affine) → Fit u v → AreOver (both_ways u v)
  both_over u v fit = (apart_over (pos 0) u v fit, (apart_over (pos 0) v u (turned u v fit), tt))

  exceeds_over : (u v : Affine) → Fit u v → AreOver (exceeds u v)
  exceeds_over u v fit = (apart_over (pos 1) u v fit, tt)

  within_over : (u v : Affine) → Fit u v → AreOver (is_within u v)
  within_over u v fit = (apart_over (pos 0) v u (turned u v fit), tt)

  pub apart_pair_over : (u v : Affine) → Fit u v → AreOver (apart u v)
  apart_pair_over u v fit = (apart_over (pos 1) v u (turned u v fit), (apart_over (pos 1) u v fit, tt))

  pub each_over : (f : Affine → Affine → List Claim) → ((u v : Affine) → Fit u v → AreOver (f u v)) → (us vs : List Affine) → EachFit us vs → AreOver (each_pair f us vs)
  each_over f over [] vs fits = tt
  each_over f over (u ∷ us) [] fits = tt
  each_over f over (u ∷ us) (v ∷ vs) fits = each_join (IsOver W) (f u v) (each_pair f us vs) (over u v fits.0) (each_over f over us vs fits.1)

  equal_over : (us vs : List Affine) → EachFit us vs → IsOver W (equal us vs)
  equal_over us vs fits = below_from (HasWidth W) (each_pair both_ways us vs) (each_over both_ways both_over us vs fits)

  less_after_over : (before : List Claim) (us vs : List Affine) → AreOver before → EachFit us vs → AreOver (less_after before us vs)
  less_after_over before [] vs over fits = tt
  less_after_over before (u ∷ us) [] over fits = tt
  less_after_over before (u ∷ us) (v ∷ vs) over fits = (
    below_from (HasWidth W) (before ++ greater v u ∷ []) (each_join (IsOver W) before (greater v u ∷ []) over (apart_over (pos 1) v u (turned u v fits.0), tt)),
    less_after_over (before ++ both_ways u v) us vs (each_join (IsOver W) before (both_ways u v) over (both_over u v fits.0)) fits.1,
  )

  less_over : (us vs : List Affine) → EachFit us vs → IsOver W (less us vs)
  less_over us vs fits = below_from (HasWidth W) (less_after [] us vs) (less_after_over [] us vs tt fits)

  if_over : (b : Bool) (c : Claim) (cs : List Claim) → IsOver W c → AreOver cs → AreOver (if b then c ∷ cs else cs)
  if_over true c cs here rest = (here, rest)
  if_over false c cs here rest = rest

  units_over : (sizes : List ℕ) (us vs : List Affine) → EachFit us vs → AreOver (unit_at_least sizes us vs)
  units_over [] us vs fits = tt
  units_over (size ∷ sizes) [] vs fits = tt
  units_over (size ∷ sizes) (u ∷ us) [] fits = tt
  units_over (size ∷ sizes) (u ∷ us) (v ∷ vs) fits =
      if_over (size == 1) (at_least u v) (unit_at_least sizes us vs) (apart_over (pos 0) u v fits.0) (units_over sizes us vs fits.1)

  -- stamps
  record StampsFit (u v : Stamp Affine) : Type 0 where
    pub outer : EachFit u.outer v.outer
    pub band : EachFit u.band v.band
    pub processor : EachFit u.processor v.processor
    pub tile : EachFit u.tile v.tile

  module _ (sizes : List ℕ) (u v : Stamp Affine) (fits : StampsFit u v) where
    beside_over : AreOver (beside u v)
    beside_over =
        each_join (IsOver W) (each_pair apart u.processor v.processor) (less v.tile u.tile ∷ equal u.tile v.tile ∷ [])
        (each_over apart apart_pair_over u.processor v.processor fits.processor)
        (less_over v.tile u.tile (each_turned u.tile v.tile fits.tile), (equal_over u.tile v.tile fits.tile, tt))

    ahead_over : AreOver (not_ahead sizes u v)
    ahead_over =
        let last : Claim = any_of (claims (beside u v)) in
        each_join (IsOver W) (each_pair is_within u.band v.band) (unit_at_least sizes u.band v.band ++ last ∷ [])
        (each_over is_within within_over u.band v.band fits.band)
        (each_join (IsOver W) (unit_at_least sizes u.band v.band) (last ∷ []) (units_over sizes u.band v.band fits.band) (below_from (HasWidth W) (beside u v) beside_over, tt))

    step_over : AreOver (in_one_step sizes u v)
    step_over =
        let last : Claim = all_of (claims (not_ahead sizes u v)) in
        each_join (IsOver W) (each_pair exceeds u.band v.band) (last ∷ []) (each_over exceeds exceeds_over u.band v.band fits.band)
        (below_from (HasWidth W) (not_ahead sizes u v) ahead_over, tt)

    not_before_over : IsOver W (not_before sizes u v)
    not_before_over = (
      less_over v.outer u.outer (each_turned u.outer v.outer fits.outer),
      ((equal_over u.outer v.outer fits.outer, (below_from (HasWidth W) (in_one_step sizes u v) step_over, tt)), tt),
    )

  -- rows of two widths
  pub all_fit : (a b : ℕ) → max a b ≡ W → (us vs : List Affine) → AllByRecursion (HasWidth a) us → AllByRecursion (HasWidth b) vs → EachFit us vs
  all_fit a b whole [] vs wide wide' = tt
  all_fit a b whole (u ∷ us) [] wide wide' = tt
  all_fit a b whole (u ∷ us) (v ∷ vs) wide wide' =
      let first = wide.0 in let second = wide'.0 in (omega (arith, first, second, whole), all_fit a b whole us vs wide.1 wide'.1)

-- the rows of a stamp have the columns of its visit
part_have : (P : Affine → Type 0) (test : Kind → Bool) (kinds : List Kind) (rows : List Affine) → AllByRecursion P rows → AllByRecursion P (part test kinds rows)
part_have P test [] rows all = tt
part_have P test (kind ∷ kinds) [] all = tt
part_have P test (kind ∷ kinds) (row ∷ rows) all = by (test kind) (part_have P test kinds rows all.1)
  where
    by : (b : Bool) → AllByRecursion P (part test kinds rows) → AllByRecursion P (if b then row ∷ part test kinds rows else part test kinds rows)
    by true rest = (all.0, rest)
    by false rest = rest

pub composed_wide : (rows : List Affine) (f : AffineMap) → AllByRecursion (HasWidth f.width) (map (λ row. composed row f) rows)
composed_wide [] f = tt
composed_wide (row ∷ rows) f = (length-map-range_with_len (λ j. dot row.coefs (column j f.rows)) 0 f.width, composed_wide rows f)

module _ (m : TargetMapping) (W : ℕ) (u v : Visit) (whole : max u.at.width v.at.width ≡ W) where
  abbrev U : Stamp Affine
  U = time_rows m u

  abbrev V : Stamp Affine
  V = time_rows m v

  abbrev IsWide : Visit → List Affine → Type 0
  IsWide visit rows = AllByRecursion (HasWidth visit.at.width) rows

  in_part : (test : Kind → Bool) (visit : Visit) → IsWide visit (part test m.kinds (time_map m visit).rows)
  in_part test visit = part_have (HasWidth visit.at.width) test m.kinds (time_map m visit).rows (composed_wide (time_of m visit.variable).rows visit.at)

  tile_wide : (visit : Visit) → IsWide visit (time_rows m visit).tile
  tile_wide visit =
      let wide = HasWidth visit.at.width in
      let number : Affine = number_row visit.at.width (order_number m.statements visit.variable) in
      let inner : List Affine = part is_inner m.kinds (time_map m visit).rows in
      each_join wide (part is_band m.kinds (time_map m visit).rows) (inner ++ number ∷ []) (in_part is_band visit)
      (each_join wide inner (number ∷ []) (in_part is_inner visit) (length-replicate visit.at.width (pos 0), tt))

  both_fit : (us vs : List Affine) → IsWide u us → IsWide v vs → EachFit W us vs
  both_fit us vs wide wide' = all_fit W u.at.width v.at.width whole us vs wide wide'

  pub visits_over : IsOver W (not_before (tile_sizes m.kinds) U V)
  visits_over =
      not_before_over W (tile_sizes m.kinds) U V
      (record {
        outer = both_fit U.outer V.outer (in_part is_outer u) (in_part is_outer v);
        band = both_fit U.band V.band (in_part is_band u) (in_part is_band v);
        processor = both_fit U.processor V.processor (in_part is_processor u) (in_part is_processor v);
        tile = both_fit U.tile V.tile (tile_wide u) (tile_wide v);
      })

-- the formulas in order
module _ (p : System) (m : TargetMapping) where
  order_over : (x : ℕ) (read : ReadPlace) → IsReadOf p x read → IsOver read.scope.width (order_claim p m x read)
  order_over x read of =
      let width = read.scope.width in
      let point : Visit = read_visit p read in
      let reader : Visit = own_visit p x width in
      let columns = of.at.columns in
      let last : Claim = not_before (tile_sizes m.kinds) (time_rows m point) (time_rows m reader) in
      below_from (HasWidth width) (context read.scope ++ last ∷ [])
      (each_join (IsOver width) (context read.scope) (last ∷ []) of.context (visits_over m width point reader (omega (arith, columns)), tt))

  orders_refutable : (x number : ℕ) (reads : List ReadPlace) → All (IsReadOf p x) reads → All IsRefutable (orders_from p m x number reads)
  orders_refutable x number [] of = All-nil IsRefutable
  orders_refutable x number (read ∷ reads) of =
      let here = All-head (IsReadOf p x) read reads of in
      let narrow = here.narrow in
      All-cons IsRefutable (order_of p m x number read) (orders_from p m x (suc number) reads) (omega (arith, narrow), order_over x read here)
      (orders_refutable x (suc number) reads (All-tail (IsReadOf p x) read reads of))

  abbrev Ready : Equation → Type 0
  Ready e = HasReads p e.variable (reads_of p e)

  equations_refutable : (equations : List Equation) → All Ready equations → All IsRefutable (flat_map (λ (e : Equation). orders_from p m e.variable 0 (reads_of p e)) equations)
  equations_refutable [] ready = All-nil IsRefutable
  equations_refutable (equation ∷ equations) ready =
      All-append IsRefutable (orders_from p m equation.variable 0 (reads_of p equation)) (flat_map (λ (e : Equation). orders_from p m e.variable 0 (reads_of p e)) equations)
      (orders_refutable equation.variable 0 (reads_of p equation) (All-head Ready equation equations ready).each)
      (equations_refutable equations (All-tail Ready equation equations ready))

  pub dependences_refutable : IsProgram p → All IsRefutable (dependences p m)
  dependences_refutable program = equations_refutable p.equations (ready_reads p program)
