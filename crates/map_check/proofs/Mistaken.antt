-- The first mistake at a place is the first of all, where the places before are in order.
use Rattle.std.proofs.Common.{◌≡◌, ℕ, zero, suc, List, [], ◌∷◌, map, Some, ap}
use Rattle.std.specs.Prelude.{slice_get}
use Rattle.az_lin.specs.Affine.{Affine, Polyhedron}
use Rattle.formula_refute.specs.Cases.{system_of}
use Rattle.map_verify.specs.Inner.Checked.{Mistakes}
use Rattle.map_verify.specs.declared.fault.BadCertificate.{BadCertificate}
use Rattle.map_verify.specs.declared.fault.BadCertificate.TheVariants.{Step, Missing, Extra, Entry, Limit, Memory}

pub mistakes_more : (P Q : BadCertificate → Type 0) (mistake : BadCertificate) → ((wrong : BadCertificate) → P wrong → Q wrong) → Mistakes P mistake → Mistakes Q mistake
mistakes_more P Q (Step which case_no step) more is = more (Step which case_no step) is
mistakes_more P Q (Missing which case_no) more is = more (Missing which case_no) is
mistakes_more P Q Extra more is = more Extra is
mistakes_more P Q Entry more is = is
mistakes_more P Q (Limit limit) more is = is
mistakes_more P Q Memory more is = is

-- a case, as rows and as a system
pub rows_here : (width : ℕ) (cases : List (List Affine)) (i : ℕ) (system : Polyhedron) → slice_get (map (system_of width) cases) i ≡ Some system → slice_get cases i ≡ Some system.rows
rows_here width [] i system here = absurd (cc)
rows_here width (rows ∷ cases) zero system here = let same : system_of width rows ≡ system = cc in ap (λ (s : Polyhedron). Some s.rows) same
rows_here width (rows ∷ cases) (suc i) system here = rows_here width cases i system here
