-- What the walk promises: for each output and local the table of its meanings over its domain and nothing else, or why
-- there is none. A closed chain is a real one: no point of it has a meaning. Any other refusal is that of a box that was
-- asked for: of the domain of an output or local, or of a reduction that is evaluated at one of its points.
use Rattle.std.specs.Prelude.{◌≡◌, ℕ, ℤ, ◌-◌, List, length, map, All, slice_get, ◌⊎◌, None, MatchOption}
use Rattle.std.specs.FinMap.{get}
use Rattle.az_lin.specs.Affine.{Union}
use Rattle.az_ast.specs.Meaning.{Means, RoleGives}
use Rattle.az_ast.specs.Points.{AreMembers, IsMember}
use Rattle.az_ast.specs.System.{System}
use Rattle.az_ast.specs.Tables.{Tables, Rows, InputGives}
use Rattle.az_ast.specs.declared.program.Variable.{Variable}
use Rattle.value_walk.specs.Boxes.{BoxRefuses}
use Rattle.value_walk.specs.Chains.{IsClosedChain, PointEvaluates}
use Rattle.loop_scan.specs.declared.fault.ScanFault.{ScanFault}
use Rattle.loop_scan.specs.declared.fault.ScanFault.TheVariants as scan
use Rattle.value_walk.specs.declared.refusal.EvalRefusal.{EvalRefusal}
use Rattle.value_walk.specs.declared.refusal.EvalRefusal.TheVariants.{Cycle, Overflow, Entry, Limit, Memory}

pub record IsMeaningTable (p : System) (tables : Tables) (params : List ℤ) (x : ℕ) (variable : Variable) (rows : Rows) : Type 0 where
  pub points : AreMembers variable.domain params (variable.domain.width - length p.params) (map (λ row. row.0) rows)
  pub values : All (λ row. Means p tables params x row.0 row.1) rows

abbrev pub HasTable : System → Tables → List ℤ → Tables → ℕ → Type 0
HasTable p tables params values x =
    MatchOption (slice_get p.variables x) (get values x ≡ None) (λ variable.
    RoleGives variable.role (get values x ≡ None) (MatchOption (get values x) ⊥ (IsMeaningTable p tables params x variable)))

abbrev pub AreMeanings : System → Tables → List ℤ → Tables → Type 0
AreMeanings p tables params values = (x : ℕ) → HasTable p tables params values x

-- a table for each input over its domain
abbrev pub HaveInputs : System → Tables → List ℤ → Type 0
HaveInputs p tables params =
    (x : ℕ) (k : List ℤ) → MatchOption (slice_get p.variables x) (Unit {0}) (λ variable.
    RoleGives variable.role (IsMember variable.domain params (variable.domain.width - length p.params) k → (v : ℤ) × InputGives tables x k v) (Unit {0}))

-- the box of this domain over these outer coordinates is asked for
abbrev pub IsOwnBox : System → List ℤ → Union → List ℤ → Type 0
IsOwnBox p params domain outer =
    (x : ℕ) × (outer ≡ params) × MatchOption (slice_get p.variables x) ⊥ (λ variable. RoleGives variable.role ⊥ (variable.domain ≡ domain))

abbrev pub IsAsked : System → List ℤ → Union → List ℤ → Type 0
IsAsked p params domain outer =
    IsOwnBox p params domain outer ⊎ ((x : ℕ) × (k : List ℤ) × (extra : ℕ) × PointEvaluates p params x k extra domain outer)

abbrev pub IsRefused : System → List ℤ → ScanFault → Type 0
IsRefused p params fault = (domain : Union) × (outer : List ℤ) × IsAsked p params domain outer × BoxRefuses domain outer fault

abbrev pub IsCause : System → List ℤ → EvalRefusal → Type 0
IsCause p params (Cycle chain) = IsClosedChain p params chain
IsCause p params Overflow = IsRefused p params scan.Overflow
IsCause p params Entry = IsRefused p params scan.Entry
IsCause p params (Limit limit) = IsRefused p params (scan.Limit limit)
IsCause p params Memory = Unit {0}
