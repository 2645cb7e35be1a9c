-- Whether an expression has an access to a variable.
use Rattle.std.specs.Prelude.{ℕ, ◌==◌, Bool, false}
use Rattle.std.specs.List.{list_any}
use Rattle.az_ast.specs.Term.{Term, constant, index, access, negation, binary, cases, reduction}
use Rattle.az_ast.specs.Walks.{parts}

abbrev pub is_access_to : ℕ → Term → Bool
is_access_to x (constant c) = false
is_access_to x (index row) = false
is_access_to x (access y f) = y == x
is_access_to x (negation e) = false
is_access_to x (binary op a b) = false
is_access_to x (cases branches) = false
is_access_to x (reduction op extra domain e) = false

abbrev pub reads : ℕ → Term → Bool
reads x e = list_any (is_access_to x) (parts e)
