-- Each certified program has a number of points.
use Rattle.std.proofs.Common.{ℕ, suc, ◌+◌, List, [], ◌∷◌, ◌++◌, length, refl, arith, inl, inr, ⊎_elim}
use Rattle.std.specs.Prelude.{ℤ, Contains}
use Rattle.std.specs.List.{AllZip, sum}
use Rattle.az_ast.proofs.Members.{All-Contains}
use Rattle.az_ast.specs.Points.{IsMember}
use Rattle.az_ast.specs.Term.{Term, constant, index, access, negation, binary, cases, reduction, Choices, none, choice}
use Rattle.expr_places.proofs.Branches.{held_or_not}
use Rattle.equation_meaning.specs.Counts.{TermCounts, ChoiceCounts}
use Rattle.equation_meaning.specs.Inner.Counting.{IsCountable, AreCountable}
use Rattle.equation_meaning.proofs.FinitePoints.{listed}

pub numbered : {A : Type 0} (P : A → ℕ → Type 0) (points : List A) → ((a : A) → Contains points a → (n : ℕ) × P a n) → (ns : List ℕ) × AllZip P points ns
numbered P [] h = ([], tt)
numbered P (a ∷ points) h =
    let here = h a (0, omega arith, refl) in
    let rest = numbered P points (λ b c. h b (suc c.0, omega (arith, c.1), c.2)) in
    (here.0 ∷ rest.0, (here.1, rest.1))

mutual
  pub term-number : (e : Term) (z : List ℤ) → IsCountable e z → (n : ℕ) × TermCounts e z n
  term-number (constant c) z r = (0, refl)
  term-number (index row) z r = (0, refl)
  term-number (access x f) z r = (0, refl)
  term-number (negation e) z r = term-number e z r
  term-number (binary op a b) z r =
      let left = term-number a z r.0 in
      let right = term-number b z r.1 in
      (left.0 + right.0, (left.0, right.0, left.1, right.1, refl))
  term-number (cases branches) z r = choice-number branches z r
  term-number (reduction op extra domain e) z r =
      let finite = r.3 z refl in
      let points = listed domain extra z finite.0 finite.1 in
      let each = numbered (λ k c. TermCounts e (z ++ k) c) points.0 (λ k c. term-number e (z ++ k) (r.4 k (All-Contains (IsMember domain z extra) points.0 k points.1.only c))) in
      (length points.0 + sum each.0, record { points = points.0; counts = each.0; members = points.1; bodies = each.1; result = refl })

  choice-number : (branches : Choices) (z : List ℤ) → AreCountable branches z → (n : ℕ) × ChoiceCounts branches z n
  choice-number none z r = absurd r
  choice-number (choice domain e rest) z r =
      ⊎_elim (λ h. let found = term-number e z (r.1 h) in (found.0, inl (h, found.1)))
      (λ out. let found = choice-number rest z (r.2 out) in (found.0, inr (out, found.1)))
      (held_or_not domain z)
