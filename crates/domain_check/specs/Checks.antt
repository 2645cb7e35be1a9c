-- The checks of a program: over each variable's domain, and at each place of an equation.
--
-- A check is a formula that must be false at all whole points. At a case: no two of its branches hold a point
-- together, and none is left without one. At a reduction, and for a variable's domain: no direction goes on for
-- ever. At an access: no point is read outside the variable's domain.
use Rattle.std.specs.Prelude.{ℕ, ◌-◌, List, [], ◌∷◌, ◌++◌, length, map, slice_get}
use Rattle.std.specs.Option.{option_map_or}
use Rattle.az_lin.specs.Affine.{AffineMap, Union}
use Rattle.az_lin.specs.Columns.{reading}
use Rattle.az_ast.specs.System.{System}
use Rattle.az_ast.specs.declared.program.Variable.{Variable}
use Rattle.az_poly.specs.Operations.{domain_before}
use Rattle.expr_places.specs.Places.{Part, case_over, reduction_over, access_to, Place}
use Rattle.expr_places.specs.declared.scope.Scope.{Scope}
use Rattle.formula_refute.specs.Claims.{Claim}
use Rattle.formula_refute.specs.Domains.{domain_claim}
use Rattle.formula_refute.specs.Opposite.{opposite}
use Rattle.domain_check.specs.Context.{in_force}
use Rattle.domain_check.specs.Directions.{directions_in}
use Rattle.domain_check.specs.declared.fault.CheckKind.{CheckKind}
use Rattle.domain_check.specs.declared.fault.CheckKind.TheVariants.{Unbounded, Overlap, Gap, Outside, Endless}

-- the checks of one kind at one place, over so many columns
pub record Checks : Type 0 where
  pub kind : CheckKind
  pub width : ℕ
  pub claims : List Claim

-- each pair of branches, in lexicographic order
abbrev pub overlaps : Scope → List Union → List Claim
overlaps scope [] = []
overlaps scope (domain ∷ rest) =
    map (λ other. in_force scope (domain_claim domain ∷ domain_claim other ∷ [])) rest ++ overlaps scope rest

abbrev pub outside_of : Union → Claim
outside_of domain = opposite (domain_claim domain)

abbrev pub gap : Scope → List Union → Claim
gap scope domains = in_force scope (map outside_of domains)

-- the points at which an access reads within the variable's domain
abbrev pub reading_within : System → AffineMap → Variable → Union
reading_within p f variable = domain_before (reading (length p.params) f) variable.domain

abbrev pub checks_of : System → Scope → Part → List Checks
checks_of p scope (case_over domains) =
    record { kind = Overlap; width = scope.width; claims = overlaps scope domains }
    ∷ record { kind = Gap; width = scope.width; claims = gap scope domains ∷ [] } ∷ []
checks_of p scope (reduction_over extra domain) =
    record { kind = Endless; width = extra; claims = directions_in (p.pdom ∷ scope.reductions) domain scope.width extra } ∷ []
checks_of p scope (access_to x f) =
    option_map_or
    (λ variable. record { kind = Outside; width = scope.width; claims = in_force scope (outside_of (reading_within p f variable) ∷ []) ∷ [] } ∷ [])
    (slice_get p.variables x) []

abbrev pub checks_at : System → Place → List Checks
checks_at p place = checks_of p place.scope place.part

abbrev pub unbounded : System → Variable → Checks
unbounded p variable =
    let params = length p.params in
    let indices = variable.domain.width - params in
    record { kind = Unbounded; width = indices; claims = directions_in [] variable.domain params indices }

-- the formulas whose rows are composed or negated for the checks
abbrev pub made_of : System → Part → List Claim
made_of p (case_over domains) = map outside_of domains
made_of p (reduction_over extra domain) = []
made_of p (access_to x f) =
    option_map_or (λ variable. domain_claim (reading_within p f variable) ∷ outside_of (reading_within p f variable) ∷ []) (slice_get p.variables x) []
