-- The points of a scene are ready to be evaluated: each read of their equations is answered.
use Rattle.std.proofs.Common.{◌≡◌, ℕ, zero, suc, ◌+◌, ◌-◌, ◌<◌, List, [], ◌∷◌, ◌++◌, length, take, Option, Some, None, refl, sym, ap, subst, ◌∙◌, arith, false}
use Rattle.std.proofs.lemmas.List.{length-map}
use Rattle.std.proofs.lemmas.List.Elements.{All-append}
use Rattle.std.specs.Prelude.{ℤ, Contains, MatchOption, slice_get, slice_index_or, is_none}
use Rattle.az_lin.specs.Affine.{AffineMap, HoldsSome, image_of, value_at, IsCoordinate}
use Rattle.az_ast.specs.Certified.{IsCertified, ReadsWithin}
use Rattle.az_ast.specs.Dependences.{TermReads, IsRead, Evaluates}
use Rattle.az_ast.specs.Meaning.{RoleGives, body_of, equation_of}
use Rattle.az_ast.specs.Points.{IsMember, IsPointOf, AreMembers}
use Rattle.az_ast.specs.Shapes.{indices, is_input, IsProgram}
use Rattle.az_ast.specs.System.{System}
use Rattle.az_ast.specs.Tables.{InputGives}
use Rattle.az_ast.specs.Term.{Term, term}
use Rattle.az_ast.specs.declared.program.Equation.{Equation}
use Rattle.az_ast.specs.declared.program.Role.{Role}
use Rattle.az_ast.specs.declared.program.Role.TheVariants.{Input, Output, Local}
use Rattle.az_ast.specs.declared.program.Variable.{Variable}
use Rattle.az_ast.proofs.FixedPoint.{With, Meant, Means-close}
use Rattle.az_ast.proofs.ProgramLaws.{equation_is}
use Rattle.az_ast.proofs.Members.{All-Contains}
use Rattle.value_walk.specs.Chains.{IsReduction}
use Rattle.value_walk.specs.Inner.Codes.{AreCodes}
use Rattle.std.proofs.lemmas.Option.{slice_get_within}
use Rattle.value_walk.specs.Inner.Ready.{IsAnswered, InputAnswers, SlotAnswers, IsReadyAt, IsReadySlot, SlotReads, SlotEvaluates, MeansIn}
use Rattle.value_walk.specs.Inner.Slots.{point_of, IsSlot}
use Rattle.value_walk.specs.Points.{points_of, ArePoints, AreCoordinates}
use Rattle.value_walk.specs.Meanings.{HaveInputs}
use Rattle.value_walk.specs.declared.scene.Scene.{Scene}
use Rattle.value_walk.specs.declared.slot.Slot.{Slot}
use Rattle.value_walk.proofs.Steps.{body-found}
use Rattle.value_walk.proofs.Bodies.{few-columns, body-ready as ready-body}

-- an element within is there, whatever stands for those beyond
get_or_same : (ks : List (List ℤ)) (i : ℕ) → i < length ks → slice_index_or ks i (slice_index_or ks i []) ≡ slice_index_or ks i []
get_or_same [] i h = absurd (omega arith)
get_or_same (k ∷ ks) zero h = refl
get_or_same (k ∷ ks) (suc i) h = let l : i < length ks = omega arith in get_or_same ks i l

module _ (scene : Scene) (program : IsProgram scene.program.now) (points : ArePoints scene.program.now scene.params.now scene.points.now) (inputs : HaveInputs scene.program.now scene.inputs.now scene.params.now) (long : length scene.params.now ≡ length scene.program.now.params) where
  abbrev p : System
  p = scene.program.now

  abbrev count : ℕ
  count = length scene.program.now.params

  abbrev params : List ℤ
  params = scene.params.now

  -- a read within a variable's domain is answered
  answered :
      (slot : Slot) (x : ℕ) (f : AffineMap) (z : List ℤ) → take count z ≡ params → MatchOption (slice_get p.variables x) ⊥ (λ (v : Variable). length f.rows ≡ indices count v) →
      ReadsWithin p x f z → SlotReads scene slot x (image_of f z) → IsAnswered scene slot x (take count z) (image_of f z)
  answered slot x f z same arity within read = (same, by (slice_get p.variables x) refl arity within (points x) (inputs x (image_of f z)))
    where
      member : (v : Variable) → length f.rows ≡ indices count v → HoldsSome v.domain (take count z ++ image_of f z) → IsMember v.domain params (v.domain.width - count) (image_of f z)
      member v a h = (length-map f.rows (λ row. value_at row z) ∙ a, subst (λ ps. HoldsSome v.domain (ps ++ image_of f z)) same h)

      means : (v : Variable) → slice_get p.variables x ≡ Some v → v.role ≡ Input → IsMember v.domain params (v.domain.width - count) (image_of f z) → (w : ℤ) → InputGives scene.inputs.now x (image_of f z) w → MeansIn scene x (image_of f z) w
      means v e role m w g =
          Means-close p scene.inputs.now params x (image_of f z) w
          (subst (λ o. MatchOption o ⊥ (λ (variable : Variable). IsPointOf count variable.domain params (image_of f z) × RoleGives variable.role (InputGives scene.inputs.now x (image_of f z) w) (MatchOption (body_of p.equations x) ⊥ (λ body. With p (Meant p scene.inputs.now) body (params ++ image_of f z) w))))
          (sym e) (record { parameters = long; member = m }, subst (λ r. RoleGives r (InputGives scene.inputs.now x (image_of f z) w) (MatchOption (body_of p.equations x) ⊥ (λ body. With p (Meant p scene.inputs.now) body (params ++ image_of f z) w))) (sym role) g))

      roles : (v : Variable) → slice_get p.variables x ≡ Some v → (role : Role) → v.role ≡ role → IsMember v.domain params (v.domain.width - count) (image_of f z) →
          RoleGives role (points_of scene.points.now x ≡ []) (AreMembers v.domain params (v.domain.width - count) (points_of scene.points.now x) × AreCoordinates params (points_of scene.points.now x)) →
          RoleGives role (IsMember v.domain params (v.domain.width - count) (image_of f z) → (w : ℤ) × InputGives scene.inputs.now x (image_of f z) w) (Unit {0}) →
          RoleGives role (InputAnswers scene x (image_of f z)) (SlotAnswers scene slot x (image_of f z))
      roles v e Input r m listed given = record { some = given m; means = means v e r m }
      roles v e Output r m listed given = record { listed = listed.0.every (image_of f z) m; read = read }
      roles v e Local r m listed given = record { listed = listed.0.every (image_of f z) m; read = read }

      by : (o : Option Variable) → slice_get p.variables x ≡ o → MatchOption o ⊥ (λ (v : Variable). length f.rows ≡ indices count v) →
          MatchOption o ⊥ (λ (v : Variable). HoldsSome v.domain (take count z ++ image_of f z)) →
          MatchOption o (points_of scene.points.now x ≡ []) (λ (v : Variable). RoleGives v.role (points_of scene.points.now x ≡ []) (AreMembers v.domain params (v.domain.width - count) (points_of scene.points.now x) × AreCoordinates params (points_of scene.points.now x))) →
          MatchOption o (Unit {0}) (λ (v : Variable). RoleGives v.role (IsMember v.domain params (v.domain.width - count) (image_of f z) → (w : ℤ) × InputGives scene.inputs.now x (image_of f z) w) (Unit {0})) →
          MatchOption o ⊥ (λ (v : Variable). RoleGives v.role (InputAnswers scene x (image_of f z)) (SlotAnswers scene slot x (image_of f z)))
      by None e a w l g = absurd a
      by (Some v) e a w l g = roles v e v.role refl (member v a w) l g

  module _ (certified : IsCertified p) (inside : HoldsSome p.pdom params) (codes : AreCodes p scene.bodies.now) where
    module _ (slot : Slot) (listed : IsSlot scene.points.now slot) where
      abbrev k : List ℤ
      k = point_of scene.points.now slot

      abbrev z : List ℤ
      z = params ++ point_of scene.points.now slot

      own-point : (ks : List (List ℤ)) (i : ℕ) → i < length ks → Contains ks (slice_index_or ks i [])
      own-point ks i h = (i, h, get_or_same ks i h)

      ready-slot :
          (v : Variable) → slice_get p.variables slot.variable ≡ Some v → is_input v.role ≡ false → IsMember v.domain params (v.domain.width - count) k → AreCoordinates params (points_of scene.points.now slot.variable) →
          ((B : Type 0) → B → RoleGives v.role ⊥ B) → ((A : Type 0) (B : Type 0) → B → RoleGives v.role A B) → IsReadySlot scene slot
      ready-slot v declared no_input m small role any = by (equation_of p.equations slot.variable) refl
        where
          point : IsPointOf count v.domain params k
          point = record { parameters = long; member = m }

          at_body : (P : Term → Type 0) (equation : Equation) → equation_of p.equations slot.variable ≡ Some equation → P (term equation.body) → MatchOption (body_of p.equations slot.variable) ⊥ P
          at_body P equation e h = body-found p.equations slot.variable equation e P h

          at_point : (P : Variable → Type 0) → P v → MatchOption (slice_get p.variables slot.variable) ⊥ P
          at_point P h = subst (λ o. MatchOption o ⊥ P) (sym declared) h

          body-ready : (equation : Equation) → equation_of p.equations slot.variable ≡ Some equation → IsReadyAt scene slot (term equation.body) z
          body-ready equation e =
              ready-body p program certified params long slot.variable v declared k m equation e inside (IsAnswered scene slot) (SlotEvaluates scene slot) (SlotReads scene slot) (SlotEvaluates scene slot)
              (answered slot) (λ extra domain outer finite met. met)
              (λ y l r. at_point (λ (w : Variable). IsPointOf count w.domain params k × RoleGives w.role ⊥ (MatchOption (body_of p.equations slot.variable) ⊥ (λ body. TermReads count (IsRead y params l) body z)))
              (point, role _ (at_body (λ body. TermReads count (IsRead y params l) body z) equation e r)))
              (λ extra domain outer r. at_point (λ (w : Variable). IsPointOf count w.domain params k × RoleGives w.role ⊥ (MatchOption (body_of p.equations slot.variable) ⊥ (λ body. Evaluates (IsReduction extra domain outer) body z)))
              (point, role _ (at_body (λ body. Evaluates (IsReduction extra domain outer) body z) equation e r)))

          by : (o : Option Equation) → equation_of p.equations slot.variable ≡ o → IsReadySlot scene slot
          by None e = absurd (let none = ap is_none e in let law = equation_is p program slot.variable v declared in cc)
          by (Some equation) e =
              record {
                narrow = few-columns p program certified params long slot.variable v declared k m equation e;
                range = All-append IsCoordinate params k small.parameters (small.points slot.place [] listed);
                body = at_body (λ body. IsReadyAt scene slot body z) equation e (body-ready equation e);
                code = codes slot.variable (slice_get_within p.variables slot.variable v declared);
                means = λ w g. Means-close p scene.inputs.now params slot.variable k w
                    (at_point (λ (q : Variable). IsPointOf count q.domain params k × RoleGives q.role (InputGives scene.inputs.now slot.variable k w) (MatchOption (body_of p.equations slot.variable) ⊥ (λ body. With p (Meant p scene.inputs.now) body z w)))
                    (point, any _ _ g));
              }

      pub slot-ready : IsReadySlot scene slot
      slot-ready = by (slice_get p.variables slot.variable) refl (points slot.variable)
        where
          none-listed : points_of scene.points.now slot.variable ≡ [] → IsReadySlot scene slot
          none-listed e = let n = ap length e in absurd (omega (arith, n, listed))

          roles : (v : Variable) → slice_get p.variables slot.variable ≡ Some v → (role : Role) → v.role ≡ role →
              RoleGives role (points_of scene.points.now slot.variable ≡ []) (AreMembers v.domain params (v.domain.width - count) (points_of scene.points.now slot.variable) × AreCoordinates params (points_of scene.points.now slot.variable)) → IsReadySlot scene slot
          roles v e Input r h = none-listed h
          roles v e Output r h =
              ready-slot v e (ap is_input r) (All-Contains (IsMember v.domain params (v.domain.width - count)) (points_of scene.points.now slot.variable) k h.0.only (own-point (points_of scene.points.now slot.variable) slot.place listed)) h.1
              (λ B b. subst (λ (q : Role). RoleGives q ⊥ B) (sym r) b) (λ A B b. subst (λ (q : Role). RoleGives q A B) (sym r) b)
          roles v e Local r h =
              ready-slot v e (ap is_input r) (All-Contains (IsMember v.domain params (v.domain.width - count)) (points_of scene.points.now slot.variable) k h.0.only (own-point (points_of scene.points.now slot.variable) slot.place listed)) h.1
              (λ B b. subst (λ (q : Role). RoleGives q ⊥ B) (sym r) b) (λ A B b. subst (λ (q : Role). RoleGives q A B) (sym r) b)

          by : (o : Option Variable) → slice_get p.variables slot.variable ≡ o →
              MatchOption o (points_of scene.points.now slot.variable ≡ []) (λ (v : Variable). RoleGives v.role (points_of scene.points.now slot.variable ≡ []) (AreMembers v.domain params (v.domain.width - count) (points_of scene.points.now slot.variable) × AreCoordinates params (points_of scene.points.now slot.variable))) → IsReadySlot scene slot
          by None e h = none-listed h
          by (Some v) e h = roles v e v.role refl h
