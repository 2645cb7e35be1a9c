-- What the evaluation of a scene's points needs and finds.
use Rattle.std.specs.Prelude.{◌≡◌, ◌≤◌, ℕ, ℤ, ◌+◌, List, ◌++◌, length, take, All, slice_get, Contains, MatchOption, Option, Some, None}
use Rattle.az_lin.specs.Affine.{Union, image_of, HoldsSome, IsCoordinate}
use Rattle.az_ast.specs.Dependences.{Hits, PointReads}
use Rattle.az_ast.specs.Meaning.{Means, RoleGives, TermGives, body_of}
use Rattle.az_ast.specs.Operators.{FoldsFromIdentity}
use Rattle.az_ast.specs.Points.{IsMember}
use Rattle.az_ast.specs.Tables.{InputGives}
use Rattle.az_ast.specs.Term.{Term, constant, index, access, negation, binary, cases, reduction, Choices, none, choice}
use Rattle.value_walk.specs.Boxes.{BoxRefuses, UnlessMemory}
use Rattle.value_walk.specs.Chains.{PointEvaluates}
use Rattle.value_walk.specs.Needs.{IsReady}
use Rattle.value_walk.specs.Points.{points_of, ArePoints}
use Rattle.value_walk.specs.Inner.Codes.{IsCodeAt}
use Rattle.value_walk.specs.Inner.Slots.{point_of, IsSlot, States, state_of, IsKnown, AreAligned, AreMeant}
use Rattle.value_walk.specs.Points.{points_of, ArePoints}
use Rattle.loop_scan.specs.declared.fault.ScanFault.{ScanFault}
use Rattle.value_walk.specs.declared.scene.Scene.{Scene}
use Rattle.value_walk.specs.declared.slot.Slot.{Slot}

-- the points are all there, each has a state, and known values are meanings
pub record AreStates (scene : Scene) (states : States) : Type 0 where
  pub points : ArePoints scene.program.now scene.params.now scene.points.now
  pub aligned : AreAligned scene.points.now states
  pub meant : AreMeant scene.program.now scene.inputs.now scene.params.now scene.points.now states

abbrev pub MeansIn : Scene → ℕ → List ℤ → ℤ → Type 0
MeansIn scene x k v = Means scene.program.now scene.inputs.now scene.params.now x k v

-- the value of an expression over the meanings
abbrev pub Gives : Scene → Term → List ℤ → ℤ → Type 0
Gives scene e z v = TermGives (length scene.program.now.params) (λ x ps k w. Means scene.program.now scene.inputs.now ps x k w) e z v

-- the equation of a slot's point reads point `k` of `x`, and evaluates this reduction
abbrev pub SlotReads : Scene → Slot → ℕ → List ℤ → Type 0
SlotReads scene slot x k = PointReads scene.program.now scene.params.now slot.variable (point_of scene.points.now slot) x k

abbrev pub SlotEvaluates : Scene → Slot → ℕ → Union → List ℤ → Type 0
SlotEvaluates scene slot extra domain outer =
    PointEvaluates scene.program.now scene.params.now slot.variable (point_of scene.points.now slot) extra domain outer

-- a read is answered by the table of an input, or it is one of the points
pub record InputAnswers (scene : Scene) (x : ℕ) (k : List ℤ) : Type 0 where
  pub some : (v : ℤ) × InputGives scene.inputs.now x k v
  pub means : (v : ℤ) → InputGives scene.inputs.now x k v → MeansIn scene x k v

pub record SlotAnswers (scene : Scene) (slot : Slot) (x : ℕ) (k : List ℤ) : Type 0 where
  pub listed : Contains (points_of scene.points.now x) k
  pub read : SlotReads scene slot x k

abbrev pub IsAnswered : Scene → Slot → Hits
IsAnswered scene slot x ps k =
    (ps ≡ scene.params.now) ×
    MatchOption (slice_get scene.program.now.variables x) ⊥ (λ variable. RoleGives variable.role (InputAnswers scene x k) (SlotAnswers scene slot x k))

abbrev pub IsReadyAt : Scene → Slot → Term → List ℤ → Type 0
IsReadyAt scene slot e z = IsReady (length scene.program.now.params) (IsAnswered scene slot) (SlotEvaluates scene slot) e z

-- each point's equation can be evaluated
abbrev pub HasReadyBody : Scene → Slot → Type 0
HasReadyBody scene slot =
    MatchOption (body_of scene.program.now.equations slot.variable) ⊥
    (λ body. IsReadyAt scene slot body (scene.params.now ++ point_of scene.points.now slot))

-- a slot's point is in range, its equation's body is made ready, and it has what the body has
pub record IsReadySlot (scene : Scene) (slot : Slot) : Type 0 where
  pub narrow : length (scene.params.now ++ point_of scene.points.now slot) ≤ 24
  pub range : All IsCoordinate (scene.params.now ++ point_of scene.points.now slot)
  pub body : HasReadyBody scene slot
  pub code : MatchOption (slice_get scene.bodies.now slot.variable) ⊥ (IsCodeAt scene.program.now slot.variable)
  pub means :
      (v : ℤ) → MatchOption (body_of scene.program.now.equations slot.variable) ⊥ (λ body. Gives scene body (scene.params.now ++ point_of scene.points.now slot) v) →
      MeansIn scene slot.variable (point_of scene.points.now slot) v

abbrev pub AreBodiesReady : Scene → Type 0
AreBodiesReady scene = (slot : Slot) → IsSlot scene.points.now slot → IsReadySlot scene slot

-- a point that a slot's equation reads and whose value isn't known
pub record IsPending (scene : Scene) (reader : Slot) (states : States) (slot : Slot) : Type 0 where
  pub listed : IsSlot scene.points.now slot
  pub read : SlotReads scene reader slot.variable (point_of scene.points.now slot)
  pub unknown : IsKnown (state_of states slot) → ⊥

abbrev pub IsBoxRefused : Scene → Slot → ScanFault → Type 0
IsBoxRefused scene slot fault = (extra : ℕ) × (domain : Union) × (outer : List ℤ) × SlotEvaluates scene slot extra domain outer × BoxRefuses domain outer fault

abbrev pub IsFault : Scene → Slot → ScanFault → Type 0
IsFault scene slot fault = UnlessMemory (IsBoxRefused scene slot) fault

-- the operator's value at two values that may be there
abbrev pub both : (ℤ → ℤ → ℤ) → Option ℤ → Option ℤ → Option ℤ
both f None b = None
both f (Some x) None = None
both f (Some x) (Some y) = Some (f x y)
