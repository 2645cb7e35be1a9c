-- The equation of an instance can be laid out, and what is laid out from nothing settles it.
use Rattle.std.proofs.Common.{◌≡◌, ℕ, ◌+◌, ◌-◌, ◌≤◌, List, [], ◌∷◌, ◌++◌, length, take, Option, Some, None, refl, sym, ap, subst, ◌∙◌, arith, inl, inr, Bool, true, false, not, cond, append-nil}
use Rattle.std.proofs.lemmas.List.{length-map}
use Rattle.std.proofs.lemmas.List.Elements.{recursion_from_All}
use Rattle.std.specs.Prelude.{ℤ, MatchOption, slice_get, unwrap_or, ◌==◌}
use Rattle.std.specs.List.{AllByRecursion}
use Rattle.std.specs.Option.{option_map_or}
use Rattle.az_lin.specs.Affine.{AffineMap, HoldsSome, image_of, value_at}
use Rattle.az_ast.specs.Certified.{IsCertified, ReadsWithin}
use Rattle.az_ast.specs.Meaning.{RoleGives, equation_of}
use Rattle.az_ast.specs.Nodes.{nodes}
use Rattle.az_ast.specs.Points.{IsMember, IsPointOf}
use Rattle.az_ast.specs.Shapes.{indices, is_input, IsProgram}
use Rattle.az_ast.specs.System.{System}
use Rattle.az_ast.specs.Tables.{Tables}
use Rattle.az_ast.specs.Term.{Term, term}
use Rattle.az_ast.specs.declared.program.Equation.{Equation}
use Rattle.az_ast.specs.declared.program.Role.{Role}
use Rattle.az_ast.specs.declared.program.Role.TheVariants.{Input, Output, Local}
use Rattle.az_ast.specs.declared.program.Variable.{Variable}
use Rattle.az_ast.proofs.ProgramLaws.{few_nodes}
use Rattle.execution.specs.Bodies.{body_value, top}
use Rattle.loop_scan.specs.declared.fault.ScanFault.{ScanFault}
use Rattle.plan_words.specs.Makes.{TermMakes}
use Rattle.plan_steps.specs.Inner.Laid.{HasInput, IsAnswered, IsReadyAt, Lays, Fails}
use Rattle.plan_steps.specs.Layouts.{Layout, empty, joined, finds_at}
use Rattle.plan_steps.specs.Runs.{Runs}
use Rattle.plan_steps.specs.Settled.{IsSettled, RefusesBody, most_height}
use Rattle.plan_steps.proofs.Forms.{runs-at}
use Rattle.target_map.specs.Settings.{is_written}
use Rattle.target_map.specs.Times.{domain_of}
use Rattle.value_walk.proofs.Bodies.{few-columns, body-ready}
use Rattle.value_walk.specs.Meanings.{HaveInputs}

-- an equation that is found is one of them
found-has : (P : Equation → Type 0) (equations : List Equation) (x : ℕ) (equation : Equation) → AllByRecursion P equations → equation_of equations x ≡ Some equation → P equation
found-has P [] x equation all e = cc
found-has P (first ∷ rest) x equation all e = by (first.variable == x) e (λ q. found-has P rest x equation all.1 q)
  where
    by : (b : Bool) → cond b (Some first) (equation_of rest x) ≡ Some equation → (equation_of rest x ≡ Some equation → P equation) → P equation
    by true e later = let same : first ≡ equation = ap (λ o. unwrap_or o equation) e in subst P same all.0
    by false e later = later e

module _ (p : System) (program : IsProgram p) (tables : Tables) (params : List ℤ) where
  abbrev count : ℕ
  count = length p.params

  pub small-body : (x : ℕ) (equation : Equation) → equation_of p.equations x ≡ Some equation → nodes (term equation.body) ≤ 512
  small-body x equation found =
      found-has (λ (q : Equation). nodes (term q.body) ≤ 512) p.equations x equation (recursion_from_All (λ (q : Equation). nodes (term q.body) ≤ 512) p.equations (few_nodes p program)) found

  module _ (certified : IsCertified p) (inside : HoldsSome p.pdom params) (inputs : HaveInputs p tables params) (long : length params ≡ length p.params) where
    answered : (y : ℕ) (f : AffineMap) (z : List ℤ) → take count z ≡ params → MatchOption (slice_get p.variables y) ⊥ (λ (v : Variable). length f.rows ≡ indices count v) →
        ReadsWithin p y f z → Unit {0} → IsAnswered p tables y (take count z) (image_of f z)
    answered y f z same arity within reached = by (slice_get p.variables y) arity within (inputs y (image_of f z))
      where
        member : (v : Variable) → length f.rows ≡ indices count v → HoldsSome v.domain (take count z ++ image_of f z) → IsMember v.domain params (v.domain.width - count) (image_of f z)
        member v a h = (length-map f.rows (λ row. value_at row z) ∙ a, subst (λ ps. HoldsSome v.domain (ps ++ image_of f z)) same h)

        roles : (role : Role) (M : Type 0) → M → RoleGives role (M → HasInput tables y (image_of f z)) (Unit {0}) → RoleGives role (HasInput tables y (image_of f z)) (Unit {0})
        roles Input M m given = given m
        roles Output M m given = tt
        roles Local M m given = tt

        by : (o : Option Variable) → MatchOption o ⊥ (λ (v : Variable). length f.rows ≡ indices count v) → MatchOption o ⊥ (λ (v : Variable). HoldsSome v.domain (take count z ++ image_of f z)) →
            MatchOption o (Unit {0}) (λ (v : Variable). RoleGives v.role (IsMember v.domain params (v.domain.width - count) (image_of f z) → HasInput tables y (image_of f z)) (Unit {0})) →
            MatchOption o ⊥ (λ (v : Variable). RoleGives v.role (HasInput tables y (image_of f z)) (Unit {0}))
        by None a w g = absurd a
        by (Some v) a w g = roles v.role (IsMember v.domain params (v.domain.width - count) (image_of f z)) (member v a w) g

    pub record CanLay (e : Term) (z : List ℤ) : Type 0 where
      pub ready : IsReadyAt p tables e z
      pub narrow : length z ≤ 24

    pub can-lay : (x : ℕ) (k : List ℤ) (equation : Equation) → is_written p x → IsPointOf count (domain_of p x) params k → equation_of p.equations x ≡ Some equation → CanLay (term equation.body) (params ++ k)
    can-lay x k equation written point found = by (slice_get p.variables x) refl written point
      where
        by : (o : Option Variable) → slice_get p.variables x ≡ o → option_map_or (λ (v : Variable). not (is_input v.role)) o false ≡ true →
            IsPointOf count (option_map_or (λ (v : Variable). v.domain) o (record { width = 0; disjuncts = [] })) params k → CanLay (term equation.body) (params ++ k)
        by None e w q = absurd (let wrong : false ≡ true = w in cc)
        by (Some v) e w q = record {
          ready = body-ready p program certified params long x v e k q.member equation found inside (IsAnswered p tables) (λ extra domain outer. Unit {0}) (λ y l. Unit {0}) (λ extra domain outer. Unit {0})
              answered (λ extra domain outer finite met. tt) (λ y l r. tt) (λ extra domain outer r. tt);
          narrow = few-columns p program certified params long x v e k q.member equation found;
        }

-- the layout from nothing
from-empty : (l : Layout) → joined empty l ≡ l
from-empty l = let none : 0 + l.points ≡ l.points = omega arith in λ i. record { steps = l.steps; constants = l.constants; loads = l.loads; points = none i }

pub settled : (p : System) (tables : Tables) (e : Term) (z : List ℤ) (after : Layout) → nodes e ≤ 512 → Lays p tables e z empty after → IsSettled p tables e z after
settled p tables e z after few (l, h, same) = subst (λ (q : Layout). IsSettled p tables e z q) (sym (same ∙ from-empty l)) (record {
  value = λ loaded long.
      let one = h.value loaded long in
      let leaves = ap (λ m. top m.stack) (one.2 [] [] []) in
      let constants : l.constants ++ [] ≡ l.constants = append-nil l.constants in
      let all : loaded ++ [] ≡ loaded = append-nil loaded in
      let is : body_value l.steps l.constants loaded ≡ one.0 = (λ i. body_value l.steps (sym constants i) (sym all i)) ∙ leaves in
      subst (λ v. TermMakes p tables e z (finds_at l.loads loaded) v) (sym is) one.1;
  runs =
      let whole : l.steps ++ [] ≡ l.steps = append-nil l.steps in
      subst (λ steps. Runs most_height steps (length l.constants) (length l.loads) 0) whole
      (runs-at most_height (l.steps ++ []) (length l.constants + 0) (length l.constants) (length l.loads + 0) (length l.loads) 0 0 (omega arith) (omega arith) refl (h.room [] most_height 0 0 0 (omega (arith, few)) tt));
  points = h.points;
  scanned = h.scanned;
})

pub refused : (p : System) (tables : Tables) (e : Term) (z : List ℤ) (most_points most_loads : ℕ) (fault : ScanFault) → Fails p tables e z most_points most_loads empty fault → RefusesBody p tables e z most_points most_loads fault
refused p tables e z most_points most_loads fault (inl memory) = inl memory
refused p tables e z most_points most_loads fault (inr (inl r)) = inr (inl r)
refused p tables e z most_points most_loads fault (inr (inr (inl many))) = inr (inr (inl (many.0, λ n c. let above = many.1 n c in omega (arith, above))))
refused p tables e z most_points most_loads fault (inr (inr (inr many))) = inr (inr (inr (many.0, λ finds v m. let above = many.1 finds v m in omega (arith, above))))
