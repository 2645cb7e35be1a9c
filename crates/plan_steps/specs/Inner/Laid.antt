-- Bodies that are laid out behind others.
use Rattle.std.specs.Prelude.{◌≡◌, ℕ, ◌+◌, ◌<◌, ◌≤◌, ◌⊎◌, ℤ, List, [], ◌∷◌, ◌++◌, length, fold, flat_map, map, slice_get, MatchOption, Contains, Result, Ok, Err}
use Rattle.std.specs.List.{AllZip, sum}
use Rattle.az_lin.specs.Affine.{Union}
use Rattle.az_lin.specs.declared.limit.Limit.TheVariants.{Points, Loads}
use Rattle.az_ast.specs.Dependences.{Hits}
use Rattle.az_ast.specs.Meaning.{RoleGives}
use Rattle.az_ast.specs.Nodes.{nodes}
use Rattle.az_ast.specs.Operators.{applied, identity}
use Rattle.az_ast.specs.System.{System}
use Rattle.az_ast.specs.Tables.{Tables, InputGives}
use Rattle.az_ast.specs.Term.{Term, Choices}
use Rattle.az_ast.specs.declared.op.Op.{Op}
use Rattle.equation_meaning.specs.Counts.{TermCounts}
use Rattle.execution.specs.Bodies.{Machine, run}
use Rattle.execution.specs.declared.step.Step.{Step}
use Rattle.loop_scan.specs.declared.fault.ScanFault.{ScanFault}
use Rattle.loop_scan.specs.declared.fault.ScanFault.TheVariants.{Limit, Memory}
use Rattle.plan_words.specs.Makes.{Find, find_of, AccessMakes, TermMakes}
use Rattle.plan_steps.specs.Layouts.{Layout, joined, with_constant, with_load, finds_at}
use Rattle.plan_steps.specs.Runs.{Runs}
use Rattle.plan_steps.specs.Settled.{EvaluatesAt, IsScanned, IsScanRefused}
use Rattle.value_walk.specs.Needs.{IsReady, AreReady}

abbrev pub machine : List ℤ → List ℤ → List ℤ → Machine
machine constants loaded stack = record { constants = constants; loaded = loaded; stack = stack }

-- the steps take what the layout has and leave this value on the stack, whatever follows
abbrev pub Leaves : Layout → List ℤ → ℤ → Type 0
Leaves layout found v =
    (constants loaded stack : List ℤ) → run layout.steps (machine (layout.constants ++ constants) (found ++ loaded) stack) ≡ machine constants loaded (v ∷ stack)

-- they need no more room than so much, and leave one value
abbrev pub FitsIn : ℕ → Layout → Type 0
FitsIn height layout =
    (rest : List Step) (room constants loaded below : ℕ) → height + below ≤ room → Runs room rest constants loaded (below + 1) →
    Runs room (layout.steps ++ rest) (length layout.constants + constants) (length layout.loads + loaded) below

abbrev pub HasInput : Tables → ℕ → List ℤ → Type 0
HasInput tables x k = (v : ℤ) × InputGives tables x k v

module _ (p : System) (tables : Tables) where
  -- a read is of a variable, and an input's has a value
  abbrev pub IsAnswered : Hits
  IsAnswered x ps k = MatchOption (slice_get p.variables x) ⊥ (λ variable. RoleGives variable.role (HasInput tables x k) (Unit {0}))

  abbrev pub IsReadyAt : Term → List ℤ → Type 0
  IsReadyAt e z = IsReady (length p.params) IsAnswered (λ extra domain outer. Unit {0}) e z

  abbrev pub AreReadyAt : Choices → List ℤ → Type 0
  AreReadyAt branches z = AreReady (length p.params) IsAnswered (λ extra domain outer. Unit {0}) branches z

  pub record IsLaid (e : Term) (z : List ℤ) (layout : Layout) : Type 0 where
    pub value : (found : List ℤ) → length found ≡ length layout.loads → (v : ℤ) × TermMakes p tables e z (finds_at layout.loads found) v × Leaves layout found v
    pub room : FitsIn (nodes e) layout
    pub points : TermCounts e z layout.points
    pub scanned : (extra : ℕ) (domain : Union) (outer : List ℤ) → EvaluatesAt e z extra domain outer → IsScanned domain outer

  -- what is put behind a layout
  abbrev pub Lays : Term → List ℤ → Layout → Layout → Type 0
  Lays e z before after = (added : Layout) × IsLaid e z added × (after ≡ joined before added)

  -- the values of a body over members, folded from the operator's identity
  abbrev pub Parts : Term → List ℤ → List (List ℤ) → List (List Find × ℤ) → Type 0
  Parts e z points parts = AllZip (λ k part. TermMakes p tables e (z ++ k) part.0 part.1) points parts

  abbrev pub folded : Op → List (List Find × ℤ) → ℤ
  folded op parts = fold (applied op) (identity op) (map (λ part. part.1) parts)

  pub record IsFolded (op : Op) (e : Term) (z : List ℤ) (points : List (List ℤ)) (layout : Layout) : Type 0 where
    pub value :
        (found : List ℤ) → length found ≡ length layout.loads →
        (parts : List (List Find × ℤ)) × Parts e z points parts × (finds_at layout.loads found ≡ flat_map (λ part. part.0) parts) × Leaves layout found (folded op parts)
    pub room : FitsIn (nodes e + 1) layout
    pub counts : (numbers : List ℕ) × AllZip (λ k n. TermCounts e (z ++ k) n) points numbers × (layout.points ≡ length points + sum numbers)
    pub scanned :
        (k : List ℤ) → Contains points k → (extra : ℕ) (domain : Union) (outer : List ℤ) → EvaluatesAt e (z ++ k) extra domain outer → IsScanned domain outer

  -- members that are folded, and those that are to come
  pub record IsFolding (op : Op) (e : Term) (z : List ℤ) (all to_come : List (List ℤ)) (before now : Layout) : Type 0 where
    pub given : List (List ℤ)
    pub whole : given ++ to_come ≡ all
    pub added : Layout
    pub folded : IsFolded op e z given added
    pub laid : now ≡ joined before added

  -- why a body isn't laid out behind a layout
  abbrev pub HasMorePoints : Term → List ℤ → ℕ → ℕ → Type 0
  HasMorePoints e z before most = (points : ℕ) → TermCounts e z points → most < before + points

  abbrev pub HasMoreLoads : Term → List ℤ → ℕ → ℕ → Type 0
  HasMoreLoads e z before most = (finds : List Find) (v : ℤ) → TermMakes p tables e z finds v → most < before + length finds

  abbrev pub Fails : Term → List ℤ → ℕ → ℕ → Layout → ScanFault → Type 0
  Fails e z most_points most_loads before fault =
      (fault ≡ Memory) ⊎ (IsScanRefused p tables e z fault
      ⊎ (((fault ≡ Limit Points) × HasMorePoints e z before.points most_points) ⊎ ((fault ≡ Limit Loads) × HasMoreLoads e z (length before.loads) most_loads)))

  abbrev pub LaysFold : Op → Term → List ℤ → List (List ℤ) → Layout → Layout → Type 0
  LaysFold op e z points before after = (added : Layout) × IsFolded op e z points added × (after ≡ joined before added)

  abbrev pub IsMemberRefused : Term → List ℤ → List (List ℤ) → ScanFault → Type 0
  IsMemberRefused e z points fault = (k : List ℤ) × Contains points k × IsScanRefused p tables e (z ++ k) fault

  abbrev pub FoldHasMorePoints : Term → List ℤ → List (List ℤ) → ℕ → ℕ → Type 0
  FoldHasMorePoints e z points before most =
      (numbers : List ℕ) → AllZip (λ k n. TermCounts e (z ++ k) n) points numbers → most < before + (length points + sum numbers)

  abbrev pub FoldHasMoreLoads : Term → List ℤ → List (List ℤ) → ℕ → ℕ → Type 0
  FoldHasMoreLoads e z points before most = (parts : List (List Find × ℤ)) → Parts e z points parts → most < before + length (flat_map (λ part. part.0) parts)

  abbrev pub FailsFold : Term → List ℤ → List (List ℤ) → ℕ → ℕ → Layout → ScanFault → Type 0
  FailsFold e z points most_points most_loads before fault =
      (fault ≡ Memory) ⊎ (IsMemberRefused e z points fault
      ⊎ (((fault ≡ Limit Points) × FoldHasMorePoints e z points before.points most_points)
      ⊎ ((fault ≡ Limit Loads) × FoldHasMoreLoads e z points (length before.loads) most_loads)))

  -- layouts within the room
  pub record IsWithin (most_points most_loads : ℕ) (laid : Type 0) (now : Layout) : Type 0 where
    pub lays : laid
    pub few_points : now.points ≤ most_points
    pub few_loads : length now.loads ≤ most_loads

  abbrev pub LayAnswers : {U : Type 0} → Term → List ℤ → ℕ → ℕ → Layout → Layout → Result U ScanFault → Type 0
  LayAnswers e z most_points most_loads before after (Ok done) = IsWithin most_points most_loads (Lays e z before after) after
  LayAnswers e z most_points most_loads before after (Err fault) = Fails e z most_points most_loads before fault

  abbrev pub FoldAnswers : {U : Type 0} → Op → Term → List ℤ → List (List ℤ) → ℕ → ℕ → Layout → Layout → Result U ScanFault → Type 0
  FoldAnswers op e z points most_points most_loads before after (Ok done) = IsWithin most_points most_loads (LaysFold op e z points before after) after
  FoldAnswers op e z points most_points most_loads before after (Err fault) = FailsFold e z points most_points most_loads before fault

  -- a read: an input's value is a constant, and any other is loaded
  pub record TakesInput (x : ℕ) (k : List ℤ) (before after : Layout) : Type 0 where
    pub value : ℤ
    pub makes : AccessMakes p tables x k [] value
    pub laid : after ≡ with_constant before value

  abbrev pub MakesLoad : ℕ → List ℤ → Type 0
  MakesLoad x k = (v : ℤ) → AccessMakes p tables x k (find_of x k v ∷ []) v

  pub record TakesLoad (x : ℕ) (k : List ℤ) (most_loads : ℕ) (before after : Layout) : Type 0 where
    pub makes : MakesLoad x k
    pub laid : after ≡ with_load before (record { variable = x; point = k })
    pub room : length before.loads < most_loads

  pub record LacksLoad (x : ℕ) (k : List ℤ) (most_loads : ℕ) (before : Layout) : Type 0 where
    pub makes : MakesLoad x k
    pub full : most_loads ≤ length before.loads

  abbrev pub ReadAnswers : {U : Type 0} → ℕ → List ℤ → ℕ → Layout → Layout → Result U ScanFault → Type 0
  ReadAnswers x k most_loads before after (Ok done) = TakesInput x k before after ⊎ TakesLoad x k most_loads before after
  ReadAnswers x k most_loads before after (Err fault) = (fault ≡ Memory) ⊎ ((fault ≡ Limit Loads) × LacksLoad x k most_loads before)
