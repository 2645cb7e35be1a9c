-- A variable's body put in where another equation reads it: each access to the target becomes the target's body at
-- the point that is read. Accesses in the body that is put in stay.
use Rattle.std.specs.Prelude.{ℕ, ◌==◌, ◌≤◌, All, IsTrue, not, if◌then◌else◌, [], ◌∷◌, length, map, Option, pos}
use Rattle.std.specs.Option.{option_map_or}
use Rattle.az_lin.specs.Affine.{AffineMap}
use Rattle.az_lin.specs.Columns.{reading}
use Rattle.az_ast.specs.Meaning.{body_of}
use Rattle.az_ast.specs.Shapes.{first_of}
use Rattle.az_ast.specs.System.{System}
use Rattle.az_ast.specs.Term.{Term, constant, access}
use Rattle.az_ast.specs.declared.reason.Reason.{Reason as Why}
use Rattle.az_ast.specs.declared.reason.Reason.TheVariants.{SelfInline, NotLocal, NotUsed}
use Rattle.expr_maps.specs.Answers.{EachAccess}
use Rattle.expr_maps.specs.Columns.{CanPut, HasEntriesIn}
use Rattle.expr_maps.specs.Put.{put}
use Rattle.expr_maps.specs.Replaced.{replaced}
use Rattle.rewriting.specs.Definitions.{Definition, definition_of, definitions, with_parts}
use Rattle.rewriting.specs.Named.{name_of, is_local, is_read_by}

-- an access in an equation into which the body of the target goes, in a program of so many parameters
abbrev pub put_in : ℕ → ℕ → Term → ℕ → AffineMap → Term
put_in params target body x f = if x == target then put (reading params f) body else access x f

abbrev pub body_with : ℕ → ℕ → ℕ → Term → ℕ → Term → Term
body_with params into target body x e = if x == into then replaced (put_in params target body) e else e

-- the body of an output or local
abbrev pub body_at : System → ℕ → Term
body_at p x = option_map_or (λ e. e) (body_of p.equations x) (constant (pos 0))

abbrev pub inlined : System → ℕ → ℕ → System
inlined p into target =
    with_parts p p.variables (map (λ (d : Definition). (d.0, body_with (length p.params) into target (body_at p target) d.0 d.1)) (definitions p))

-- what is put in has the columns for it; and its entries are in range
abbrev pub CanPutIn : ℕ → ℕ → Term → ℕ → AffineMap → Type 0
CanPutIn params target body x f = IsTrue (x == target) → CanPut (reading params f) body × (params ≤ f.width)

abbrev pub FitsIn : ℕ → ℕ → Term → ℕ → AffineMap → Type 0
FitsIn params target body x f = IsTrue (x == target) → HasEntriesIn (put (reading params f) body)

abbrev pub PutFits : ℕ → ℕ → ℕ → Term → Definition → Type 0
PutFits params into target body d = IsTrue (d.0 == into) → EachAccess (FitsIn params target body) d.1

abbrev pub InliningFits : System → ℕ → ℕ → Type 0
InliningFits p into target = All (λ equation. PutFits (length p.params) into target (body_at p target) (definition_of equation)) p.equations

-- the first reason not to put it in
abbrev pub inlining_refusal : System → ℕ → ℕ → Option Why
inlining_refusal p into target =
    first_of
    ((into == target, SelfInline) ∷ (not (is_local p target), NotLocal (name_of p target)) ∷ (not (is_read_by p target into), NotUsed) ∷ [])
