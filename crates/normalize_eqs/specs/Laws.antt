-- The promises of this crate, as statements on the definitions: in normal form each variable that was there means at
-- each of its points what it meant, and nothing else; and the rules on places and shapes are kept, so that nothing but
-- a limit can be in the way of the program.
use Rattle.std.specs.Prelude.{◌≡◌, ◌≤◌, None, length}
use Rattle.az_ast.specs.Certified.{IsCertified}
use Rattle.az_ast.specs.Placed.{IsPlaced}
use Rattle.az_ast.specs.Shapes.{IsProgram, IsPlain, shape_of}
use Rattle.az_ast.specs.System.{System}
use Rattle.rewriting.specs.Promise.{KeepsMeaning, stays}
use Rattle.normalize_eqs.specs.Normal.{normalized}

abbrev pub NormalFormKeepsMeaning : Type 0
NormalFormKeepsMeaning = (p : System) → IsProgram p → IsPlain p → IsCertified p → KeepsMeaning p (normalized p) stays

abbrev pub NormalFormKeepsRules : Type 0
NormalFormKeepsRules = (p : System) → IsProgram p → length (normalized p).variables ≤ 256 → IsPlaced (normalized p) × (shape_of (normalized p) ≡ None)
