-- The visits of a complete mapping's formulas have their space-time maps.
use Rattle.std.proofs.Common.{◌≡◌, ℕ, ◌+◌, ◌<◌, ◌≤◌, [], length, not, Option, Some, None, refl, sym, ap, ◌∙◌, arith, true, false}
use Rattle.std.specs.Prelude.{slice_get}
use Rattle.std.specs.FinMap.{get}
use Rattle.std.specs.Option.{option_map_or}
use Rattle.std.proofs.lemmas.Option.{slice_get_within}
use Rattle.az_lin.specs.Affine.{AffineMap, Union}
use Rattle.az_ast.specs.Shapes.{is_input}
use Rattle.az_ast.specs.System.{System}
use Rattle.az_ast.specs.declared.program.Variable.{Variable}
use Rattle.domain_check.proofs.Building.{reading_rows}
use Rattle.expr_places.specs.Reads.{ReadPlace}
use Rattle.target_map.specs.Settings.{TargetMapping, IsComplete, is_written, width_of}
use Rattle.target_map.specs.Times.{time_of, domain_of}
use Rattle.order_sets.specs.Reading.{IsReadOf}
use Rattle.order_sets.specs.Timed.{IsTimed}
use Rattle.order_sets.specs.Visits.{no_rows, read_visit, own_visit}
use Rattle.order_sets.specs.declared.visit.Visit.{Visit}

-- what is set is what the formulas take
pub time_is_set : (m : TargetMapping) (x : ℕ) (f : AffineMap) → get m.times x ≡ Some f → time_of m x ≡ f
time_is_set m x f is = ap (λ o. option_map_or (λ (f : AffineMap). f) o (record { width = 0; rows = [] })) is

module _ (p : System) where
  pub declared : (x : ℕ) → is_written p x → (v : Variable) × (slice_get p.variables x ≡ Some v)
  declared x written = by (slice_get p.variables x) refl written
    where
      by : (o : Option Variable) → slice_get p.variables x ≡ o → option_map_or (λ (v : Variable). not (is_input v.role)) o false ≡ true → (v : Variable) × (slice_get p.variables x ≡ Some v)
      by None is written = cc
      by (Some v) is written = (v, is)

  pub within : (x : ℕ) → is_written p x → x < length p.variables
  within x written = let there = declared x written in slice_get_within p.variables x there.0 there.1

  -- the columns of a variable's points
  pub width_is : (x : ℕ) → width_of p x ≡ (domain_of p x).width
  width_is x = by (slice_get p.variables x)
    where
      by : (o : Option Variable) → option_map_or (λ (v : Variable). v.domain.width) o 0 ≡ (let domain : Union = option_map_or (λ (v : Variable). v.domain) o (record { width = 0; disjuncts = [] }) in domain.width)
      by None = refl
      by (Some v) = refl

  pub width_at : (x : ℕ) (v : Variable) → slice_get p.variables x ≡ Some v → width_of p x ≡ v.domain.width
  width_at x v is = ap (λ o. option_map_or (λ (v : Variable). v.domain.width) o 0) is

  module _ (m : TargetMapping) (complete : IsComplete p m) where
    -- a visit of an output or local with a row for each column of its points
    pub timed : (visit : Visit) → is_written p visit.variable → length visit.at.rows ≡ width_of p visit.variable → width_of p visit.variable ≤ 64 → IsTimed m visit
    timed visit written rows narrow =
        let there = complete.times visit.variable written in
        let columns : there.0.width ≡ width_of p visit.variable = (complete.fits.times visit.variable there.0 there.1).columns in
        record { map = there.0; set = there.1; rows = rows ∙ sym columns; narrow = omega (arith, columns, narrow) }

    pub timed_read : (x : ℕ) (read : ReadPlace) → IsReadOf p x read → IsTimed m (read_visit p read)
    timed_read x read of =
        let width = width_at read.variable of.variable of.declared in
        let narrow = of.at.narrow in
        timed (read_visit p read) of.written (reading_rows (length p.params) read.map ∙ of.at.rows ∙ sym width) (omega (arith, width, narrow))

    pub timed_own : (x width : ℕ) → is_written p x → (domain_of p x).width ≤ 64 → IsTimed m (own_visit p x width)
    timed_own x width written narrow =
        let rows : length (own_visit p x width).at.rows ≡ (domain_of p x).width + 0 = reading_rows (domain_of p x).width (no_rows width) in
        let same = width_is x in
        timed (own_visit p x width) written (omega (arith, rows, same)) (omega (arith, same, narrow))
