-- A certified program has a number of points.
use Rattle.std.proofs.Common.{◌≡◌, ℕ, zero, suc, ◌-◌, ◌<◌, List, [], ◌∷◌, length, Bool, true, false, Option, Some, None, refl, sym, subst, ap, ◌∙◌, arith}
use Rattle.std.specs.Prelude.{ℤ, All, Contains, slice_get, unwrap_or, is_none}
use Rattle.std.specs.List.{AllByRecursion, sum, range_with_len}
use Rattle.std.proofs.lemmas.List.Elements.{recursion_from_All}
use Rattle.std.proofs.lemmas.List.FromFn.{length-range_with_len, get_or-range_with_len}
use Rattle.az_lin.specs.Affine.{HoldsSome}
use Rattle.az_ast.proofs.ProgramLaws.{equation_is}
use Rattle.az_ast.specs.Certified.{IsCertified, HasFinitePoints}
use Rattle.az_ast.specs.Meaning.{equation_of}
use Rattle.az_ast.specs.Shapes.{IsProgram, is_input}
use Rattle.az_ast.specs.System.{System}
use Rattle.az_ast.specs.declared.program.Equation.{Equation}
use Rattle.az_ast.specs.declared.program.Variable.{Variable}
use Rattle.equation_meaning.specs.Counts.{VariableCounts, HasNumberOfPoints}
use Rattle.equation_meaning.proofs.Exists.{numbered}
use Rattle.equation_meaning.proofs.FinitePoints.{listed}
use Rattle.equation_meaning.proofs.PointSteps.{there, input-role, nothing, own-number, numbers}

found-of : {A : Type 0} (P : A → Type 0) (xs : List A) (i : ℕ) (x : A) → AllByRecursion P xs → slice_get xs i ≡ Some x → P x
found-of P [] i x a e = cc
found-of P (y ∷ ys) zero x a e = subst P (ap (λ o. unwrap_or o x) e) a.0
found-of P (y ∷ ys) (suc i) x a e = found-of P ys i x a.1 e

module _ (p : System) (params : List ℤ) (program : IsProgram p) (certified : IsCertified p) (long : length params ≡ length p.params) (inside : HoldsSome p.pdom params) where
  declared-number : (x : ℕ) (v : Variable) → slice_get p.variables x ≡ Some v → (n : ℕ) × VariableCounts p params x n
  declared-number x v e = by (is_input v.role) refl
    where
      own : (o : Option Equation) → equation_of p.equations x ≡ o → is_none o ≡ false → is_input v.role ≡ false → (n : ℕ) × VariableCounts p params x n
      own None found some t = absurd (cc)
      own (Some q) found some t =
          let finite = found-of (HasFinitePoints p) p.variables x v (recursion_from_All (HasFinitePoints p) p.variables certified.finite) e params long in
          let points = listed v.domain (v.domain.width - length p.params) params finite.0 finite.1 in
          own-number p params x v e long t q found points.0 points.1 program certified inside

      by : (b : Bool) → is_input v.role ≡ b → (n : ℕ) × VariableCounts p params x n
      by true t = (0, (nothing p params x v e (input-role v.role t) 0).counts)
      by false t = own (equation_of p.equations x) refl (equation_is p program x v e ∙ t) t

  is-declared : (x : ℕ) → Contains (numbers p params) x → x < length p.variables
  is-declared x c =
      let long = length-range_with_len 0 (length p.variables) in
      let at = get_or-range_with_len 0 (length p.variables) c.0 x (omega (arith, c.1, long)) in
      omega (arith, c.1, c.2, long, at)

  pub program-number : HasNumberOfPoints p params
  program-number =
      let each = numbered (λ x n. VariableCounts p params x n) (numbers p params) (λ x c. let v = there p.variables x (is-declared x c) in declared-number x v.0 v.1) in
      (sum each.0, (each.0, each.1, refl))
