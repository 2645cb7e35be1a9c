-- An expression counts one number at a point, and a program has one number of points.
use Rattle.std.proofs.Common.{◌≡◌, ℕ, ◌-◌, List, ◌++◌, length, Option, Some, None, sym, subst, ap, ◌∙◌, arith, inl, inr}
use Rattle.std.specs.Prelude.{ℤ, MatchOption, slice_get}
use Rattle.std.specs.List.{AllZip, sum, range_with_len}
use Rattle.az_lin.specs.Affine.{Union}
use Rattle.az_ast.proofs.Members.{AreMembers-unique}
use Rattle.az_ast.specs.Meaning.{RoleGives, body_of}
use Rattle.az_ast.specs.System.{System}
use Rattle.az_ast.specs.declared.op.Op.TheVariants.{Add}
use Rattle.az_ast.specs.declared.program.Role.{Role}
use Rattle.az_ast.specs.declared.program.Role.TheVariants.{Input, Output, Local}
use Rattle.az_ast.specs.declared.program.Variable.{Variable}
use Rattle.az_ast.specs.Term.{Term, constant, index, access, negation, binary, cases, reduction, Choices, none, choice}
use Rattle.equation_meaning.specs.Counts.{MembersCount, TermCounts, ChoiceCounts, VariableCounts, IsNumberOfPoints}
use Rattle.equation_meaning.proofs.Sums.{zipped-once}

mutual
  pub counts-once : (e : Term) (z : List ℤ) (m n : ℕ) → TermCounts e z m → TermCounts e z n → m ≡ n
  counts-once (constant c) z m n p q = p ∙ sym q
  counts-once (index row) z m n p q = p ∙ sym q
  counts-once (access x f) z m n p q = p ∙ sym q
  counts-once (negation e) z m n p q = counts-once e z m n p q
  counts-once (binary op a b) z m n p q =
      let left = counts-once a z p.0 q.0 p.2 q.2 in
      let right = counts-once b z p.1 q.1 p.3 q.3 in
      omega (arith, left, right, p.4, q.4)
  counts-once (cases branches) z m n p q = choice-once branches z m n p q
  counts-once (reduction op extra domain e) z m n p q =
      let points = AreMembers-unique domain z extra p.points q.points p.members q.members in
      let at_points : AllZip (λ k c. TermCounts e (z ++ k) c) q.points p.counts = subst (λ ps. AllZip (λ k c. TermCounts e (z ++ k) c) ps p.counts) points p.bodies in
      let counts = zipped-once (λ k c. TermCounts e (z ++ k) c) (λ k a b s t. counts-once e (z ++ k) a b s t) q.points p.counts q.counts at_points q.bodies in
      omega (arith, p.result, q.result, ap length points, ap sum counts)

  choice-once : (branches : Choices) (z : List ℤ) (m n : ℕ) → ChoiceCounts branches z m → ChoiceCounts branches z n → m ≡ n
  choice-once none z m n p q = absurd p
  choice-once (choice domain e rest) z m n (inl p) (inl q) = counts-once e z m n p.1 q.1
  choice-once (choice domain e rest) z m n (inl p) (inr q) = absurd (q.0 p.0)
  choice-once (choice domain e rest) z m n (inr p) (inl q) = absurd (p.0 q.0)
  choice-once (choice domain e rest) z m n (inr p) (inr q) = choice-once rest z m n p.1 q.1

body-once : (o : Option Term) (extra : ℕ) (domain : Union) (z : List ℤ) (m n : ℕ) → MatchOption o ⊥ (λ body. MembersCount extra domain (λ y c. TermCounts body y c) z m)
    → MatchOption o ⊥ (λ body. MembersCount extra domain (λ y c. TermCounts body y c) z n) → m ≡ n
body-once None extra domain z m n p q = absurd p
body-once (Some body) extra domain z m n p q = counts-once (reduction Add extra domain body) z m n p q

role-once : (role : Role) (A B : ℕ → Type 0) → ((m n : ℕ) → A m → A n → m ≡ n) → ((m n : ℕ) → B m → B n → m ≡ n) → (m n : ℕ) → RoleGives role (A m) (B m) → RoleGives role (A n) (B n) → m ≡ n
role-once Input A B a b m n p q = a m n p q
role-once Output A B a b m n p q = b m n p q
role-once Local A B a b m n p q = b m n p q

module _ (p : System) (params : List ℤ) where
  abbrev OwnCounts : ℕ → Variable → ℕ → Type 0
  OwnCounts x v n = MatchOption (body_of p.equations x) ⊥ (λ body. MembersCount (v.domain.width - length p.params) v.domain (λ z c. TermCounts body z c) params n)

  variable-once : (x m n : ℕ) → VariableCounts p params x m → VariableCounts p params x n → m ≡ n
  variable-once x m n h k = by (slice_get p.variables x) h k
    where
      by : (o : Option Variable) → MatchOption o ⊥ (λ v. RoleGives v.role (m ≡ 0) (OwnCounts x v m)) → MatchOption o ⊥ (λ v. RoleGives v.role (n ≡ 0) (OwnCounts x v n)) → m ≡ n
      by None h k = absurd h
      by (Some v) h k =
          role-once v.role (λ c. c ≡ 0) (OwnCounts x v) (λ a b s t. s ∙ sym t) (λ a b s t. body-once (body_of p.equations x) (v.domain.width - length p.params) v.domain params a b s t) m n h k

  pub one-number : (m n : ℕ) → IsNumberOfPoints p params m → IsNumberOfPoints p params n → m ≡ n
  one-number m n h k =
      let same = zipped-once (λ x c. VariableCounts p params x c) (λ x a b s t. variable-once x a b s t) (range_with_len 0 (length p.variables)) h.0 k.0 h.1 k.1 in
      h.2 ∙ (ap sum same ∙ sym k.2)
