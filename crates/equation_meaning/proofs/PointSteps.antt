-- The count of one variable, and of all.
use Rattle.std.proofs.Common.{◌≡◌, ℕ, zero, suc, ◌+◌, ◌-◌, ◌<◌, List, [], ◌∷◌, ◌++◌, length, get_or, Bool, true, false, Option, Some, None, refl, sym, subst, ap, ◌∙◌, arith}
use Rattle.std.specs.Prelude.{ℤ, All, Contains, MatchOption, slice_get, option_map, Result, Ok}
use Rattle.std.specs.Option.{option_map_or}
use Rattle.std.specs.List.{AllZip, sum, range_with_len}
use Rattle.std.proofs.lemmas.List.Elements.{All-append}
use Rattle.std.proofs.lemmas.List.FromFn.{length-range_with_len, get_or-range_with_len}
use Rattle.std.proofs.lemmas.Option.{slice_get_within}
use Rattle.az_lin.specs.Affine.{Union, HoldsSome, IsCoordinate}
use Rattle.az_ast.proofs.Members.{All-Contains, AreMembers-unique}
use Rattle.az_ast.specs.Certified.{IsCertified, IsFinite}
use Rattle.az_ast.specs.Dependences.{Evaluates}
use Rattle.az_ast.specs.Meaning.{body_of, equation_of, RoleGives}
use Rattle.az_ast.specs.Points.{IsMember, AreMembers, IsPointOf}
use Rattle.az_ast.specs.Shapes.{IsProgram, is_input, of_variable}
use Rattle.az_ast.specs.System.{System}
use Rattle.az_ast.specs.Term.{Term, constant, index, access, negation, binary, cases, reduction, Choices, none, choice, term}
use Rattle.az_ast.specs.declared.op.Op.TheVariants.{Add}
use Rattle.az_ast.specs.declared.program.Equation.{Equation}
use Rattle.az_ast.specs.declared.program.Role.{Role}
use Rattle.az_ast.specs.declared.program.Role.TheVariants.{Input, Output, Local}
use Rattle.az_ast.specs.declared.program.Variable.{Variable}
use Rattle.value_walk.specs.Chains.{IsReduction, PointEvaluates}
use Rattle.value_walk.specs.Points.{AreCoordinates, IsCoveredBy}
use Rattle.value_walk.specs.Needs.{IsReady, AreReady}
use Rattle.value_walk.proofs.Bodies.{few-columns, body-ready}
use Rattle.value_walk.proofs.Steps.{body-found}
use Rattle.equation_meaning.specs.Counts.{MembersCount, TermCounts, VariableCounts, IsNumberOfPoints}
use Rattle.equation_meaning.specs.declared.body_count.CountFault.{CountFault}
use Rattle.equation_meaning.specs.Inner.Counting.{CanCount, IsCountable, BodyCounts, EvaluatedAt, EvaluatedOf, EvaluatedIn, BodyAnswers, VariableAnswers, ProgramAnswers, IsCounted, CountAnswers}
use Rattle.equation_meaning.proofs.Once.{counts-once}
use Rattle.equation_meaning.proofs.Exists.{numbered, term-number}
use Rattle.equation_meaning.proofs.Counting.{carried, Parts, MetIn}

-- where nothing is asked of a read, the number of parameters counts for nothing
module _ (m n : ℕ) where
  abbrev Asked : ℕ → Union → List ℤ → Type 0
  Asked extra domain outer = IsFinite domain (length outer) extra

  mutual
    any-parameters : (e : Term) (z : List ℤ) → IsReady m (λ y ps k. Unit {0}) Asked e z → IsReady n (λ y ps k. Unit {0}) Asked e z
    any-parameters (constant c) z r = tt
    any-parameters (index row) z r = r
    any-parameters (access x f) z r = (r.0, r.1, tt)
    any-parameters (negation e) z r = any-parameters e z r
    any-parameters (binary op a b) z r = (any-parameters a z r.0, any-parameters b z r.1)
    any-parameters (cases branches) z r = any-parameters-below branches z r
    any-parameters (reduction op extra domain e) z r = (r.0, r.1, r.2, r.3, λ k h. any-parameters e (z ++ k) (r.4 k h))

    any-parameters-below : (branches : Choices) (z : List ℤ) → AreReady m (λ y ps k. Unit {0}) Asked branches z → AreReady n (λ y ps k. Unit {0}) Asked branches z
    any-parameters-below none z r = r
    any-parameters-below (choice domain e rest) z r = (r.0, λ h. any-parameters e z (r.1 h), λ out. any-parameters-below rest z (r.2 out))

gives-own : (role : Role) (A B : Type 0) → is_input role ≡ false → RoleGives role A B → B
gives-own Input A B e h = absurd (cc)
gives-own Output A B e h = h
gives-own Local A B e h = h

own-gives : (role : Role) (A B : Type 0) → is_input role ≡ false → B → RoleGives role A B
own-gives Input A B e h = absurd (cc)
own-gives Output A B e h = h
own-gives Local A B e h = h

module _ (p : System) (params : List ℤ) (x : ℕ) (v : Variable) (declared : slice_get p.variables x ≡ Some v) where
  abbrev Own : (Variable → Type 0) → Type 0
  Own P = MatchOption (slice_get p.variables x) ⊥ P

  to_own : (P : Variable → Type 0) → P v → Own P
  to_own P h = subst (λ o. MatchOption o ⊥ P) (sym declared) h

  from_own : (P : Variable → Type 0) → Own P → P v
  from_own P h = subst (λ o. MatchOption o ⊥ P) declared h

  abbrev Counts : ℕ → Variable → Type 0
  Counts n w =
      RoleGives w.role (n ≡ 0)
      (MatchOption (body_of p.equations x) ⊥ (λ body. MembersCount (w.domain.width - length p.params) w.domain (λ z c. TermCounts body z c) params n))

  abbrev Evaluating : List ℤ → ℕ → Union → List ℤ → Variable → Type 0
  Evaluating k e d o w =
      IsPointOf (length p.params) w.domain params k × RoleGives w.role ⊥ (MatchOption (body_of p.equations x) ⊥ (λ body. Evaluates (IsReduction e d o) body (params ++ k)))

  -- an input counts nothing
  pub nothing : v.role ≡ Input → (left : ℕ) → VariableAnswers p params x left (Ok 0)
  nothing role left =
      record {
        counts = to_own (Counts 0) (subst (λ (r : Role). RoleGives r (◌≡◌ {A = ℕ} 0 0) (MatchOption (body_of p.equations x) ⊥ (λ body. MembersCount (v.domain.width - length p.params) v.domain (λ z c. TermCounts body z c) params 0))) (sym role) refl);
        few = omega arith;
        boxes = λ e d o m. absurd
            (subst (λ (r : Role). RoleGives r ⊥ (MatchOption (body_of p.equations x) ⊥ (λ body. Evaluates (IsReduction e d o) body (params ++ m.0)))) role (from_own (Evaluating m.0 e d o) m.1).1);
      }

  module _ (long : length params ≡ length p.params) (own : is_input v.role ≡ false) (equation : Equation) (found : equation_of p.equations x ≡ Some equation) (points : List (List ℤ)) (members : AreMembers v.domain params (v.domain.width - length p.params) points) where
    abbrev body : Term
    body = term equation.body

    in_body : (P : Term → Type 0) → P body → MatchOption (body_of p.equations x) ⊥ P
    in_body P h = body-found p.equations x equation found P h

    of_body : (P : Term → Type 0) → MatchOption (body_of p.equations x) ⊥ P → P body
    of_body P h = subst (λ o. MatchOption o ⊥ P) (ap (λ o. option_map (λ (q : Equation). term q.body) o) found) h

    abbrev Bodies : ℕ → Type 0
    Bodies n = MatchOption (body_of p.equations x) ⊥ (λ t. MembersCount (v.domain.width - length p.params) v.domain (λ z c. TermCounts t z c) params n)

    abbrev Met : ℕ → Union → List ℤ → List ℤ → Type 0
    Met e d o k = MatchOption (body_of p.equations x) ⊥ (λ t. Evaluates (IsReduction e d o) t (params ++ k))

    to : (n : ℕ) → BodyCounts body params points n → VariableCounts p params x n
    to n b =
        let counted : MembersCount (v.domain.width - length p.params) v.domain (λ z c. TermCounts body z c) params n = record { points = points; counts = b.0; members = members; bodies = b.1; result = b.2 } in
        to_own (Counts n) (own-gives v.role (n ≡ 0) (Bodies n) own (in_body (λ t. MembersCount (v.domain.width - length p.params) v.domain (λ z c. TermCounts t z c) params n) counted))

    back : (n : ℕ) → VariableCounts p params x n → BodyCounts body params points n
    back n c =
        let counted = of_body (λ t. MembersCount (v.domain.width - length p.params) v.domain (λ z m. TermCounts t z m) params n) (gives-own v.role (n ≡ 0) (Bodies n) own (from_own (Counts n) c)) in
        let same = AreMembers-unique v.domain params (v.domain.width - length p.params) counted.points points counted.members members in
        (counted.counts, subst (λ ps. AllZip (λ k m. TermCounts body (params ++ k) m) ps counted.counts) same counted.bodies, counted.result ∙ ap (λ ps. length ps + sum counted.counts) same)

    up : (e : ℕ) (d : Union) (o : List ℤ) → EvaluatedAt body params points e d o → EvaluatedOf p params x e d o
    up e d o m = (
      m.0,
      to_own (Evaluating m.0 e d o) (
        record { parameters = long; member = All-Contains (IsMember v.domain params (v.domain.width - length p.params)) points m.0 members.only m.1 },
        own-gives v.role ⊥ (Met e d o m.0) own (in_body (λ t. Evaluates (IsReduction e d o) t (params ++ m.0)) m.2),
      ),
    )

    down : (e : ℕ) (d : Union) (o : List ℤ) → EvaluatedOf p params x e d o → EvaluatedAt body params points e d o
    down e d o m =
        let here = from_own (Evaluating m.0 e d o) m.1 in
        (m.0, members.every m.0 here.0.member, of_body (λ t. Evaluates (IsReduction e d o) t (params ++ m.0)) (gives-own v.role ⊥ (Met e d o m.0) own here.1))

    -- an output or local counts its points and what its equation counts at them
    pub counted-own : (left : ℕ) (result : Result ℕ CountFault) → BodyAnswers body params points left result → VariableAnswers p params x left result
    counted-own left result h = carried (BodyCounts body params points) (VariableCounts p params x) (EvaluatedAt body params points) (EvaluatedOf p params x) to back up down left result h

    module _ (program : IsProgram p) (certified : IsCertified p) (inside : HoldsSome p.pdom params) where
      member : (k : List ℤ) → Contains points k → IsMember v.domain params (v.domain.width - length p.params) k
      member k c = All-Contains (IsMember v.domain params (v.domain.width - length p.params)) points k members.only c

      countable : (k : List ℤ) → Contains points k → IsCountable body (params ++ k)
      countable k c =
          any-parameters (length p.params) 0 body (params ++ k)
          (body-ready p program certified params long x v declared k (member k c) equation found inside (λ y ps l. Unit {0}) (λ e d o. IsFinite d (length o) e) (λ y l. Unit {0}) (λ e d o. Unit {0})
          (λ y f z s a w r. tt) (λ e d o finite met. finite) (λ y l r. tt) (λ e d o r. tt))

      pub own-number : (n : ℕ) × VariableCounts p params x n
      own-number =
          let each = numbered (λ k c. TermCounts body (params ++ k) c) points (λ k c. term-number body (params ++ k) (countable k c)) in
          (length points + sum each.0, to (length points + sum each.0) (each.0, each.1, refl))

      module _ (small : AreCoordinates params points) where
        pub can-count : (k : List ℤ) → Contains points k → CanCount body (params ++ k)
        can-count k c =
            let few = few-columns p program certified params long x v declared k (member k c) equation found in
            let here : All IsCoordinate k = subst (λ q. All IsCoordinate q) c.2 (small.points c.0 k c.1) in
            record { ready = countable k c; narrow = omega (arith, few); range = All-append IsCoordinate params k small.parameters here }

pub there : {A : Type 0} (xs : List A) (i : ℕ) → i < length xs → (x : A) × (slice_get xs i ≡ Some x)
there [] i h = absurd (omega arith)
there (x ∷ xs) zero h = (x, refl)
there (x ∷ xs) (suc i) h = there xs i (omega (arith, h))

pub tested : (p : System) (x : ℕ) (v : Variable) (b : Bool) → slice_get p.variables x ≡ Some v → of_variable p.variables (λ (w : Variable). is_input w.role) x ≡ b → is_input v.role ≡ b
tested p x v b e h = subst (λ o. option_map_or (λ (w : Variable). is_input w.role) o false ≡ b) e h

pub input-role : (role : Role) → is_input role ≡ true → role ≡ Input
input-role Input e = refl
input-role Output e = absurd (cc)
input-role Local e = absurd (cc)

-- the answer for one variable, without an equation and with one
pub variable-nothing : (p : System) (params : List ℤ) (x left : ℕ) → x < length p.variables → of_variable p.variables (λ (w : Variable). is_input w.role) x ≡ true → VariableAnswers p params x left (Ok 0)
variable-nothing p params x left h t =
    let v = there p.variables x h in
    nothing p params x v.0 v.1 (input-role v.0.role (tested p x v.0 true v.1 t)) left

module _ (p : System) (params : List ℤ) (x : ℕ) (h : x < length p.variables) (long : length params ≡ length p.params) (equation : Equation) (found : equation_of p.equations x ≡ Some equation) (t : of_variable p.variables (λ (w : Variable). is_input w.role) x ≡ false) (points : List (List ℤ)) (covered : IsCoveredBy p params x points) where
  abbrev Listed : Variable → Type 0
  Listed w = AreMembers w.domain params (w.domain.width - length p.params) points × AreCoordinates params points

  own-points : (v : Variable) → slice_get p.variables x ≡ Some v → Listed v
  own-points v e =
      gives-own v.role (points ≡ []) (Listed v) (tested p x v false e t)
      (subst (λ o. MatchOption o (points ≡ []) (λ (w : Variable). RoleGives w.role (points ≡ []) (Listed w))) e covered)

  pub variable-own : (left : ℕ) (result : Result ℕ CountFault) → BodyAnswers (term equation.body) params points left result → VariableAnswers p params x left result
  variable-own left result a =
      let v = there p.variables x h in
      counted-own p params x v.0 v.1 long (tested p x v.0 false v.1 t) equation found points (own-points v.0 v.1).0 left result a

  pub variable-can : IsProgram p → IsCertified p → HoldsSome p.pdom params → (k : List ℤ) → Contains points k → CanCount (term equation.body) (params ++ k)
  variable-can program certified inside k c =
      let v = there p.variables x h in
      can-count p params x v.0 v.1 long (tested p x v.0 false v.1 t) equation found points (own-points v.0 v.1).0 program certified inside (own-points v.0 v.1).1 k c

-- a variable has one number
module _ (p : System) (params : List ℤ) where
  abbrev Counted : Union → ℕ → Term → Type 0
  Counted domain n body = MembersCount (domain.width - length p.params) domain (λ z c. TermCounts body z c) params n

  module _ (x m n : ℕ) where
    bodies-once : (domain : Union) (o : Option Term) → MatchOption o ⊥ (Counted domain m) → MatchOption o ⊥ (Counted domain n) → m ≡ n
    bodies-once domain None a b = absurd a
    bodies-once domain (Some body) a b = counts-once (reduction Add (domain.width - length p.params) domain body) params m n a b

    roles-once : (role : Role) (domain : Union) → RoleGives role (m ≡ 0) (MatchOption (body_of p.equations x) ⊥ (Counted domain m)) → RoleGives role (n ≡ 0) (MatchOption (body_of p.equations x) ⊥ (Counted domain n)) → m ≡ n
    roles-once Input domain a b = a ∙ sym b
    roles-once Output domain a b = bodies-once domain (body_of p.equations x) a b
    roles-once Local domain a b = bodies-once domain (body_of p.equations x) a b

    declared-once : (o : Option Variable) → MatchOption o ⊥ (λ (v : Variable). RoleGives v.role (m ≡ 0) (MatchOption (body_of p.equations x) ⊥ (Counted v.domain m))) →
        MatchOption o ⊥ (λ (v : Variable). RoleGives v.role (n ≡ 0) (MatchOption (body_of p.equations x) ⊥ (Counted v.domain n))) → m ≡ n
    declared-once None a b = absurd a
    declared-once (Some v) a b = roles-once v.role v.domain a b

    pub counts-of-once : VariableCounts p params x m → VariableCounts p params x n → m ≡ n
    counts-of-once a b = declared-once (slice_get p.variables x) a b

from_zero : (n : ℕ) → 0 + n ≡ n
from_zero n = omega arith

-- all variables
module _ (p : System) (params : List ℤ) where
  abbrev pub numbers : List ℕ
  numbers = range_with_len 0 (length p.variables)

  abbrev pub IsPart : List ℕ → ℕ → ℕ → Type 0
  IsPart xs left count = IsCounted (Parts (VariableCounts p params) (EvaluatedOf p params) 0 xs) (MetIn (VariableCounts p params) (EvaluatedOf p params) 0 xs) left count

  listed : (x : ℕ) (k : List ℤ) (e : ℕ) (d : Union) (o : List ℤ) → PointEvaluates p params x k e d o → Contains numbers x
  listed x k e d o h = by (slice_get p.variables x) refl h
    where
      by : (s : Option Variable) → slice_get p.variables x ≡ s →
          MatchOption s ⊥ (λ (w : Variable). IsPointOf (length p.params) w.domain params k × RoleGives w.role ⊥ (MatchOption (body_of p.equations x) ⊥ (λ body. Evaluates (IsReduction e d o) body (params ++ k)))) → Contains numbers x
      by None s h = absurd h
      by (Some v) s h =
          let within = slice_get_within p.variables x v s in
          (x, omega (arith, within, length-range_with_len 0 (length p.variables)), get_or-range_with_len 0 (length p.variables) x x within ∙ from_zero x)

  module _ (left : ℕ) (result : Result ℕ CountFault) where
    pub program-answers :
        CountAnswers (Parts (VariableCounts p params) (EvaluatedOf p params) 0 numbers) (MetIn (VariableCounts p params) (EvaluatedOf p params) 0 numbers) left result → ProgramAnswers p params left result
    program-answers h =
        carried (Parts (VariableCounts p params) (EvaluatedOf p params) 0 numbers) (IsNumberOfPoints p params) (MetIn (VariableCounts p params) (EvaluatedOf p params) 0 numbers) (EvaluatedIn p params)
        (λ n c. (c.0, c.1, c.2 ∙ from_zero (sum c.0))) (λ n c. (c.0, c.1, c.2 ∙ sym (from_zero (sum c.0)))) (λ e d o m. (m.0, m.2.0, m.2.1)) (λ e d o m. (m.0, listed m.0 m.1 e d o m.2, (m.1, m.2))) left result h

  pub number-at : (x : ℕ) → x < length p.variables → x ≡ get_or numbers x x
  number-at x h = sym (get_or-range_with_len 0 (length p.variables) x x h ∙ from_zero x)
