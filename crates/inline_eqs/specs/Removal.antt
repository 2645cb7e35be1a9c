-- A local left out: its declaration and its equation go, and the numbers behind it close up.
use Rattle.std.specs.Prelude.{ℕ, zero, suc, length, ◌-◌, ◌==◌, nat_lt, Bool, not, ◌&&◌, if◌then◌else◌, List, ◌++◌, take, drop, filter_map, Option, Some, None}
use Rattle.az_lin.specs.Affine.{AffineMap}
use Rattle.az_ast.specs.System.{System}
use Rattle.az_ast.specs.Term.{Term, access}
use Rattle.az_ast.specs.declared.program.Variable.{Variable}
use Rattle.az_ast.specs.declared.reason.Reason.{Reason as Why}
use Rattle.az_ast.specs.declared.reason.Reason.TheVariants.{NotLocal, StillUsed}
use Rattle.expr_maps.specs.Replaced.{replaced}
use Rattle.rewriting.specs.Definitions.{Definition, definitions, with_parts}
use Rattle.rewriting.specs.Named.{name_of, is_local, is_read_by}
use Rattle.rewriting.specs.Promise.{Moves}

-- the number of another variable afterwards
abbrev pub closed_up : ℕ → ℕ → ℕ
closed_up gone x = if nat_lt gone x then x - 1 else x

abbrev pub renumbered : ℕ → ℕ → AffineMap → Term
renumbered gone x f = access (closed_up gone x) f

-- a definition afterwards, and nothing of the one that goes
abbrev pub definition_without : ℕ → Definition → Option Definition
definition_without gone d = if d.0 == gone then None else Some (closed_up gone d.0, replaced (renumbered gone) d.1)

abbrev pub variables_without : ℕ → List Variable → List Variable
variables_without gone variables = take gone variables ++ drop (suc gone) variables

abbrev pub without : System → ℕ → System
without p gone = with_parts p (variables_without gone p.variables) (filter_map (definition_without gone) (definitions p))

-- where a point of another variable goes
abbrev pub moves_up : ℕ → Moves
moves_up gone x params k = if x == gone then None else Some (closed_up gone x, k)

-- another variable whose equation reads it: the first in order of declaration, among so many from a number on
abbrev pub is_used_by : System → ℕ → ℕ → Bool
is_used_by p x y = not (y == x) && is_read_by p x y

abbrev pub used_from : System → ℕ → ℕ → ℕ → Option Why
used_from p x y zero = None
used_from p x y (suc count) = if is_used_by p x y then Some (StillUsed (name_of p y)) else used_from p x (suc y) count

-- the first reason not to leave it out
abbrev pub removal_refusal : System → ℕ → Option Why
removal_refusal p x = if is_local p x then used_from p x 0 (length p.variables) else Some (NotLocal (name_of p x))
