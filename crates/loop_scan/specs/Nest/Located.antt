-- What the code answers for a domain at parameters, and for the scanner over it.
use Rattle.std.specs.Prelude.{◌≡◌, List, length, map, All, Contains, Result, Ok, Err, ℤ, ◌↔◌}
use Rattle.az_lin.specs.Affine.{Union, HoldsSome, HasEntryDomain}
use Rattle.az_lin.specs.Columns.{domain_at_params}
use Rattle.az_ast.specs.Points.{IsIncreasing}
use Rattle.loop_scan.specs.declared.located.Located.{Located}
use Rattle.loop_scan.specs.declared.fault.ScanFault.{ScanFault}
use Rattle.loop_scan.specs.declared.fault.ScanFault.TheVariants.{Overflow, Entry, Limit, Memory}
use Rattle.loop_scan.specs.Members.{Scan, IsPoint}
use Rattle.loop_scan.specs.Boxes.{HasBoxes, Refuses}
use Rattle.loop_scan.specs.Nest.Joined.{IsBoxOver}
use Rattle.loop_scan.specs.Nest.Answered.{AllBound, ranges_of}

abbrev pub PutAnswers : Union → List ℤ → Result Union ScanFault → Type 0
PutAnswers domain params (Ok got) = (got ≡ domain_at_params params domain) × HasEntryDomain (domain_at_params params domain)
PutAnswers domain params (Err Entry) = HasEntryDomain (domain_at_params params domain) → ⊥
PutAnswers domain params (Err Overflow) = ⊥
PutAnswers domain params (Err (Limit limit)) = ⊥
PutAnswers domain params (Err Memory) = Unit {0}

pub record IsLocated (domain : Union) (params : List ℤ) (got : Located) : Type 0 where
  pub at : got.domain ≡ domain_at_params params domain
  pub found : HasBoxes domain params (map ranges_of got.boxes.items)
  pub bounds : AllBound got.domain.disjuncts (map ranges_of got.boxes.items)
  pub over : All (IsBoxOver got.domain.width) (map ranges_of got.boxes.items)

abbrev pub LocateAnswers : Union → List ℤ → Result Located ScanFault → Type 0
LocateAnswers domain params (Ok got) = IsLocated domain params got
LocateAnswers domain params (Err fault) = Refuses domain params fault

-- a scanner over a domain without parameters
pub record IsScanOver (domain : Union) (scan : Scan) : Type 0 where
  pub indices : scan.width ≡ domain.width
  pub increasing : IsIncreasing scan.to_come
  pub members : (y : List ℤ) → length y ≡ domain.width → Contains scan.to_come y ↔ HoldsSome domain y
  pub points : (y : List ℤ) → Contains scan.to_come y → IsPoint domain.width y
