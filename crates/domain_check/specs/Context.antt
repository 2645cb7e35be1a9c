-- What is in force at a place, as formulas over the columns of its points.
use Rattle.std.specs.Prelude.{ℕ, ◌-◌, List, ◌++◌, map}
use Rattle.az_lin.specs.Affine.{Union}
use Rattle.az_lin.specs.Columns.{widened_domain}
use Rattle.expr_places.specs.declared.scope.Scope.{Scope}
use Rattle.formula_refute.specs.Claims.{Claim, all_of, claims}
use Rattle.formula_refute.specs.Domains.{domain_claim}

-- a domain over the first columns of a point
abbrev pub over : ℕ → Union → Union
over width domain = widened_domain domain.width (width - domain.width) domain

abbrev pub context : Scope → List Claim
context scope = map (λ domain. domain_claim (over scope.width domain)) scope.domains

-- true where all that is in force at the place is, and each of these
abbrev pub in_force : Scope → List Claim → Claim
in_force scope cs = all_of (claims (context scope ++ cs))
