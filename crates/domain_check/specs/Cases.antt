-- The cases of all checks in order. Their numbers begin at 0 anew for each variable's domain and for each equation.
use Rattle.std.specs.Prelude.{ℕ, suc, List, [], ◌∷◌, ◌++◌, map}
use Rattle.std.specs.List.{flat_map}
use Rattle.az_lin.specs.Affine.{Polyhedron}
use Rattle.az_ast.specs.System.{System}
use Rattle.az_ast.specs.declared.program.Equation.{Equation}
use Rattle.az_ast.specs.declared.program.Variable.{Variable}
use Rattle.expr_places.specs.Places.{Place, places_of}
use Rattle.formula_refute.specs.Cases.{systems}
use Rattle.formula_refute.specs.Claims.{Claim}
use Rattle.domain_check.specs.Checks.{Checks, checks_at, unbounded}
use Rattle.domain_check.specs.declared.fault.CheckKind.{CheckKind}

pub record Case : Type 0 where
  pub kind : CheckKind
  pub system : Polyhedron

abbrev pub cases_of_claim : CheckKind → ℕ → Claim → List Case
cases_of_claim kind width c = map (λ system. record { kind = kind; system = system }) (systems width c)

abbrev pub cases_of : Checks → List Case
cases_of checks = flat_map (cases_of_claim checks.kind checks.width) checks.claims

abbrev pub cases_at : System → Place → List Case
cases_at p place = flat_map cases_of (checks_at p place)

-- cases with one numbering: the number of a case is the number of those before it
pub record Series : Type 0 where
  pub variable : ℕ
  pub cases : List Case

abbrev pub domain_series : System → ℕ → Variable → Series
domain_series p x variable = record { variable = x; cases = cases_of (unbounded p variable) }

abbrev pub equation_series : System → Equation → Series
equation_series p equation = record { variable = equation.variable; cases = flat_map (cases_at p) (places_of p equation) }

-- the series of the variables from one with this number on
abbrev pub domain_series_from : System → ℕ → List Variable → List Series
domain_series_from p x [] = []
domain_series_from p x (variable ∷ rest) = domain_series p x variable ∷ domain_series_from p (suc x) rest

abbrev pub all_series : System → List Series
all_series p = domain_series_from p 0 p.variables ++ map (equation_series p) p.equations
