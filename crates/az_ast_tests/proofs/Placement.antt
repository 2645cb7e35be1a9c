-- The parts that tests put together are placed.
use Rattle.std.proofs.Common.{◌≡◌, ℕ, zero, suc, ◌<◌, ◌≤◌, List, [], length, refl, arith}
use Rattle.std.specs.Prelude.{All, MatchOption, slice_get}
use Rattle.std.specs.Prelude as prelude
use Rattle.az_ast.specs.declared.program.Equation.{Equation}
use Rattle.az_ast.specs.declared.program.Variable.{Variable}
use Rattle.az_ast.specs.Placed.{IsAtWidth, IsPlaced}
use Rattle.az_ast.specs.Term.{Term, term}
use Rattle.az_ast_tests.specs.Parts.{space, IsOfTwo, input_and_output, output}
use Rattle.az_ast.specs.Certified.{IsCertified}
use Rattle.az_ast.specs.System.{System}
use Rattle.az_lin.specs.Affine.{Union}

of_two : (a x : List ℕ) (n : ℕ) (t : Term) → n < 2 → IsAtWidth 2 t 1 → MatchOption (slice_get (input_and_output a x) n) ⊥ (λ (v : Variable). IsAtWidth 2 t v.domain.width)
of_two a x zero t h w = w
of_two a x (suc zero) t h w = w
of_two a x (suc (suc n)) t h w = absurd (omega arith)

each_domain : (a x : List ℕ) → All (λ (v : Variable). 0 ≤ v.domain.width) (input_and_output a x)
each_domain a x k d h = omega arith

pub two_placed : (name a x : List ℕ) (equations : List Equation) → All IsOfTwo equations →
    IsPlaced (record { name = name; params = []; pdom = space 0; variables = input_and_output a x; equations = equations })
two_placed name a x equations h = record {
  parameters = refl;
  parameters_plain = refl;
  order = ((omega arith, tt), (tt, tt));
  domains = each_domain a x;
  bodies = λ k d l. let e = h k d l in of_two a x (prelude.get_or equations k d).variable (term (prelude.get_or equations k d).body) e.0 e.1;
}

one_domain : (params : List (List ℕ)) (n : ℕ) (domain : Union) → length params ≡ n → domain.width ≡ n → All (λ (v : Variable). length params ≤ v.domain.width) (output domain)
one_domain params n domain e w zero d h = omega (arith, e, w)
one_domain params n domain e w (suc k) d h = absurd (omega arith)

pub one_placed : (name : List ℕ) (params : List (List ℕ)) (n : ℕ) (domain : Union) → length params ≡ n → domain.width ≡ n →
    IsPlaced (record { name = name; params = params; pdom = space n; variables = output domain; equations = [] })
one_placed name params n domain e w = record {
  parameters = omega (arith, e);
  parameters_plain = refl;
  order = (tt, tt);
  domains = one_domain params n domain e w;
  bodies = λ k d l. absurd (omega (arith, l));
}

abbrev bare : List ℕ → System
bare name = record { name = name; params = []; pdom = space 0; variables = []; equations = [] }

pub bare_placed : (name : List ℕ) → IsPlaced (bare name)
bare_placed name = record {
  parameters = refl;
  parameters_plain = refl;
  order = tt;
  domains = λ k d l. absurd (omega (arith, l));
  bodies = λ k d l. absurd (omega (arith, l));
}

pub bare_certified : (name : List ℕ) → IsCertified (bare name)
bare_certified name = record {
  finite = λ k d l. absurd (omega (arith, l));
  sound = λ k d l. absurd (omega (arith, l));
}
