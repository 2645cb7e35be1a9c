-- The instances of a complete mapping's formulas have both maps.
use Rattle.std.proofs.Common.{◌≡◌, ℕ, ◌+◌, ◌≤◌, List, [], ◌∷◌, length, All, sym, ◌∙◌, arith}
use Rattle.std.proofs.lemmas.List.Elements.{All-nil, All-cons, All-head, All-tail}
use Rattle.std.proofs.lemmas.List.FromFn.{length-map-range_with_len}
use Rattle.az_lin.specs.Affine.{AffineMap, Union}
use Rattle.az_lin.specs.Columns.{extended, unit_row, unit_rows}
use Rattle.az_ast.specs.System.{System}
use Rattle.domain_check.proofs.Building.{reading_rows}
use Rattle.expr_places.specs.Reads.{ReadPlace}
use Rattle.life_sets.specs.Beside.{IsWriter}
use Rattle.life_sets.specs.Ready.{IsOwn}
use Rattle.life_sets.specs.Stored.{IsStored}
use Rattle.order_sets.specs.Reading.{IsReadOf}
use Rattle.order_sets.specs.Visits.{no_rows, read_visit, own_visit, writer_visit}
use Rattle.order_sets.specs.declared.visit.Visit.{Visit}
use Rattle.order_sets.proofs.Timed.{width_is, width_at, timed}
use Rattle.target_map.specs.Settings.{TargetMapping, IsComplete, is_written, width_of}
use Rattle.target_map.specs.Times.{domain_of, indices_of}

module _ (p : System) where
  pub read_rows : (x : ℕ) (read : ReadPlace) → IsReadOf p x read → length (read_visit p read).at.rows ≡ width_of p read.variable
  read_rows x read of = reading_rows (length p.params) read.map ∙ of.at.rows ∙ sym (width_at p read.variable of.variable of.declared)

  pub own_rows : (x width : ℕ) → length (own_visit p x width).at.rows ≡ (domain_of p x).width
  own_rows x width =
      let rows : length (own_visit p x width).at.rows ≡ (domain_of p x).width + 0 = reading_rows (domain_of p x).width (no_rows width) in omega (arith, rows)

  pub writer_rows : (y width : ℕ) → length p.params ≤ (domain_of p y).width → length (writer_visit p y width).at.rows ≡ (domain_of p y).width
  writer_rows y width enough =
      let k = indices_of p y in
      let behind : AffineMap = extended k (no_rows width) in
      let units : length (unit_rows (width + k) width k) ≡ k = length-map-range_with_len (λ column. unit_row (width + k) column) width k in
      omega (arith, enough, units, reading_rows (length p.params) behind)

  -- a writer behind the columns of a place
  pub is_writer : (y width : ℕ) → IsOwn p y → length p.params ≤ width → width ≤ 64 → IsWriter p y width
  is_writer y width own params few =
      let narrow = own.narrow in
      record { declared = own.declared; params = params; inside = own.params; narrow = omega (arith, narrow, few) }

  pub are_writers : (ys : List ℕ) (width : ℕ) → All (IsOwn p) ys → length p.params ≤ width → width ≤ 64 → All (λ (y : ℕ). IsWriter p y width) ys
  are_writers [] width own params few = All-nil (λ (y : ℕ). IsWriter p y width)
  are_writers (y ∷ ys) width own params few =
      All-cons (λ (z : ℕ). IsWriter p z width) y ys (is_writer y width (All-head (IsOwn p) y ys own) params few) (are_writers ys width (All-tail (IsOwn p) y ys own) params few)

  -- the domains in force at an output
  pub output_inside : (x : ℕ) → IsOwn p x → p.pdom.width ≡ length p.params → All (λ (domain : Union). domain.width ≤ (domain_of p x).width) (p.pdom ∷ domain_of p x ∷ [])
  output_inside x own parameters =
      let Fits : Union → Type 0 = λ domain. domain.width ≤ (domain_of p x).width in
      let inside = own.params in
      All-cons Fits p.pdom (domain_of p x ∷ []) (omega (arith, inside, parameters)) (All-cons Fits (domain_of p x) [] (omega arith) (All-nil Fits))

  module _ (m : TargetMapping) (complete : IsComplete p m) where
    stored : (visit : Visit) → is_written p visit.variable → length visit.at.rows ≡ width_of p visit.variable → width_of p visit.variable ≤ 64 → IsStored m visit
    stored visit written rows narrow =
        let there = complete.storages visit.variable written in
        let columns = (complete.fits.storages visit.variable there.0 there.1).columns in
        record {
          timed = timed p m complete visit written rows narrow;
          storage = there.0;
          set = there.1;
          rows = rows ∙ sym columns;
          narrow = omega (arith, columns, narrow);
        }

    pub stored_read : (x : ℕ) (read : ReadPlace) → IsReadOf p x read → IsStored m (read_visit p read)
    stored_read x read of =
        let width = width_at p read.variable of.variable of.declared in
        let narrow = of.at.narrow in
        stored (read_visit p read) of.written (read_rows x read of) (omega (arith, width, narrow))

    pub stored_own : (x width : ℕ) → IsOwn p x → IsStored m (own_visit p x width)
    stored_own x width own =
        let same = width_is p x in
        let narrow = own.narrow in
        stored (own_visit p x width) own.written (own_rows x width ∙ sym same) (omega (arith, same, narrow))

    pub stored_writer : (y width : ℕ) → IsOwn p y → IsStored m (writer_visit p y width)
    stored_writer y width own =
        let same = width_is p y in
        let narrow = own.narrow in
        stored (writer_visit p y width) own.written (writer_rows y width own.params ∙ sym same) (omega (arith, same, narrow))
