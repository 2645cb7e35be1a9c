-- A local is declared and is no input; a list changed item by item.
use Rattle.std.proofs.Common.{◌≡◌, ℕ, ◌+◌, List, [], ◌∷◌, map, length, Bool, true, false, Option, Some, None, refl, ap, arith, length-append}
use Rattle.std.specs.Prelude.{slice_get, filter_map}
use Rattle.std.specs.Option.{option_map_or}
use Rattle.std.proofs.lemmas.List.FromFn.{length-map-range_with_len}
use Rattle.az_lin.specs.Affine.{AffineMap}
use Rattle.az_lin.specs.Columns.{reading, unit_row, unit_rows}
use Rattle.az_ast.specs.Meaning.{IsInput}
use Rattle.az_ast.specs.System.{System}
use Rattle.az_ast.specs.declared.program.Role.{Role}
use Rattle.az_ast.specs.declared.program.Role.TheVariants.{Input, Output, Local}
use Rattle.az_ast.specs.declared.program.Variable.{Variable}
use Rattle.rewriting.specs.Definitions.{Definition}
use Rattle.rewriting.specs.Named.{is_local, has_local_role}

pub local-declared : (p : System) (x : ℕ) → is_local p x ≡ true → (w : Variable) × (slice_get p.variables x ≡ Some w) × (has_local_role w.role ≡ true)
local-declared p x local = by (slice_get p.variables x) refl local
  where
    by : (o : Option Variable) → slice_get p.variables x ≡ o → option_map_or (λ (v : Variable). has_local_role v.role) o false ≡ true → (w : Variable) × (slice_get p.variables x ≡ Some w) × (has_local_role w.role ≡ true)
    by None is h = cc
    by (Some w) is h = (w, is, h)

pub local-written : (role : Role) → has_local_role role ≡ true → IsInput role → ⊥
local-written Input h i = cc
local-written Output h i = i
local-written Local h i = i

pub all-some : (f : Definition → Definition) (ds : List Definition) → filter_map (λ d. Some (f d)) ds ≡ map f ds
all-some f [] = refl
all-some f (d ∷ ds) = ap (λ (es : List Definition). f d ∷ es) (all-some f ds)

-- the rows of a map that gives the parameters and then its own image
pub reading-rows : (params : ℕ) (f : AffineMap) → length (reading params f).rows ≡ params + length f.rows
reading-rows params f = omega (arith, length-append (unit_rows f.width 0 params) f.rows, length-map-range_with_len (λ column. unit_row f.width column) 0 params)
