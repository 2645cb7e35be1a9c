-- A local under other coordinates: its point z goes to T(z). Its domain and its body are those at the points to which
-- the inverse of T leads, and each access to it reads where the point that it read has gone.
use Rattle.std.specs.Prelude.{◌≡◌, ℕ, zero, suc, ◌==◌, IsTrue, not, ◌||◌, if◌then◌else◌, List, [], ◌∷◌, ◌++◌, length, map, All, slice_get, MatchOption, Option, Some, Result, Ok, Err}
use Rattle.az_lin.specs.Affine.{AffineMap, HasEntryDomain, image_of}
use Rattle.az_lin.specs.Columns.{reading}
use Rattle.az_lin.specs.InversionAnswer.{IsInversion}
use Rattle.az_lin.specs.Substitution.{HasEntryRows, composed_map}
use Rattle.az_lin.specs.declared.fault.LinFault.{LinFault}
use Rattle.az_ast.specs.Shapes.{first_of, of_variable, indices}
use Rattle.az_ast.specs.System.{System}
use Rattle.az_ast.specs.Term.{Term, access}
use Rattle.az_ast.specs.declared.program.Variable.{Variable}
use Rattle.az_ast.specs.declared.reason.Reason.{Reason as Why}
use Rattle.az_ast.specs.declared.reason.Reason.TheVariants.{Interface, Width}
use Rattle.az_poly.specs.Operations.{domain_before}
use Rattle.expr_maps.specs.Answers.{EachAccess}
use Rattle.expr_maps.specs.Columns.{HasEntriesIn}
use Rattle.expr_maps.specs.Put.{put}
use Rattle.expr_maps.specs.Replaced.{replaced}
use Rattle.rewriting.specs.Answers.{of_rows, Unless, GivesIf}
use Rattle.rewriting.specs.Definitions.{Definition, definition_of, definitions, with_parts}
use Rattle.rewriting.specs.Named.{name_of, is_local}
use Rattle.rewriting.specs.Promise.{Moves}
use Rattle.rewriting.specs.declared.fault.ChangeFault.{ChangeFault}

-- the map of an access, and the access, in a program of so many parameters
abbrev pub moved_map : ℕ → ℕ → AffineMap → ℕ → AffineMap → AffineMap
moved_map params target basis x f = if x == target then composed_map basis (reading params f) else f

abbrev pub moved_access : ℕ → ℕ → AffineMap → ℕ → AffineMap → Term
moved_access params target basis x f = access x (moved_map params target basis x f)

-- the body of a variable over the new coordinates
abbrev pub led_back : ℕ → ℕ → AffineMap → ℕ → Term → Term
led_back params target inverse x e = if x == target then put (reading params inverse) e else e

abbrev pub moved_body : ℕ → ℕ → AffineMap → AffineMap → ℕ → Term → Term
moved_body params target basis inverse x e = replaced (moved_access params target basis) (led_back params target inverse x e)

abbrev pub moved_variable : ℕ → AffineMap → Variable → Variable
moved_variable params inverse variable = record variable { domain = domain_before (reading params inverse) variable.domain }

-- a list with one item changed
abbrev pub with_changed : (Variable → Variable) → ℕ → List Variable → List Variable
with_changed change x [] = []
with_changed change zero (variable ∷ rest) = change variable ∷ rest
with_changed change (suc x) (variable ∷ rest) = variable ∷ with_changed change x rest

abbrev pub rebased : System → ℕ → AffineMap → AffineMap → System
rebased p target basis inverse =
    let params = length p.params in
    with_parts p (with_changed (moved_variable params inverse) target p.variables)
    (map (λ (d : Definition). (d.0, moved_body params target basis inverse d.0 d.1)) (definitions p))

-- where the points of the target go; all others stay
abbrev pub moves_by : ℕ → AffineMap → Moves
moves_by target basis x params k = Some (x, if x == target then image_of basis (params ++ k) else k)

-- whether the entries of the result are in range: those of the new domain, of the body over the new coordinates,
-- and of the accesses to the target
abbrev pub MapFits : ℕ → ℕ → AffineMap → ℕ → AffineMap → Type 0
MapFits params target basis x f = IsTrue (x == target) → HasEntryRows (composed_map basis (reading params f))

abbrev pub BodyFits : ℕ → ℕ → AffineMap → AffineMap → Definition → Type 0
BodyFits params target basis inverse d =
    (IsTrue (d.0 == target) → HasEntriesIn (put (reading params inverse) d.1))
    × EachAccess (MapFits params target basis) (led_back params target inverse d.0 d.1)

abbrev pub DomainFits : ℕ → AffineMap → Variable → Type 0
DomainFits params inverse variable = HasEntryDomain (domain_before (reading params inverse) variable.domain)

abbrev pub BasisFits : System → ℕ → AffineMap → AffineMap → Type 0
BasisFits p target basis inverse =
    MatchOption (slice_get p.variables target) (Unit {0}) (DomainFits (length p.params) inverse)
    × All (λ equation. BodyFits (length p.params) target basis inverse (definition_of equation)) p.equations

-- the first reason not to change it by a map of so many columns and rows
abbrev pub size_refusal : System → ℕ → ℕ → ℕ → Option Why
size_refusal p target width rows =
    first_of
    ((not (is_local p target), Interface (name_of p target))
    ∷ (of_variable p.variables (λ variable. not (width == variable.domain.width) || not (rows == indices (length p.params) variable)) target, Width)
    ∷ [])

-- the first reason not to change it, but for a map that has no inverse
abbrev pub basis_refusal : System → ℕ → AffineMap → Option Why
basis_refusal p target basis = size_refusal p target basis.width (length basis.rows)

-- what follows an inversion: its refusal, or the stated result
abbrev pub FromInverse : System → ℕ → AffineMap → Result AffineMap LinFault → Result System ChangeFault → Type 0
FromInverse p target basis (Ok inverse) result = GivesIf (BasisFits p target basis inverse) (rebased p target basis inverse) result
FromInverse p target basis (Err fault) result = result ≡ Err (of_rows fault)

abbrev pub Rebases : System → ℕ → AffineMap → Result System ChangeFault → Type 0
Rebases p target basis result =
    (inversion : Result AffineMap LinFault) × IsInversion (length p.params) basis inversion × FromInverse p target basis inversion result
