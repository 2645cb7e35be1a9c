-- Bodies and cells that were worked out by hand.
--
-- A is an input with the value 5, X a local, both without indices; Y is a local with one index.
use Rattle.std.specs.Prelude.{◌≡◌, ◌≢◌, ℕ, ℤ, pos, negsuc, [], ◌∷◌}
use Rattle.std.specs.FinMap.{insert, empty}
use Rattle.az_lin.specs.Affine.{Affine, AffineMap, Union}
use Rattle.az_ast.specs.Operators.{applied, identity}
use Rattle.az_ast.specs.System.{System}
use Rattle.az_ast.specs.Tables.{Tables}
use Rattle.az_ast.specs.Term.{Term, access, binary, reduction}
use Rattle.az_ast.specs.declared.op.Op.TheVariants.{Add, Sub}
use Rattle.az_ast.specs.declared.program.Role.{Role}
use Rattle.az_ast.specs.declared.program.Role.TheVariants.{Input, Local}
use Rattle.az_ast.specs.declared.program.Variable.{Variable}
use Rattle.plan_words.specs.Cells.{all_reduced}
use Rattle.plan_words.specs.Makes.{find_of, TermMakes}

abbrev pub everywhere : ℕ → Union
everywhere width = record { width = width; disjuncts = record { width = width; rows = [] } ∷ [] }

abbrev pub variable : ℕ → Role → ℕ → Variable
variable letter role width = record { name = letter ∷ []; role = role; domain = everywhere width }

abbrev pub program : System
program = record {
  name = [];
  params = [];
  pdom = everywhere 0;
  variables = variable 65 Input 0 ∷ variable 88 Local 0 ∷ variable 89 Local 1 ∷ [];
  equations = [];
}

abbrev pub tables : Tables
tables = insert empty 0 (([], pos 5) ∷ [])

abbrev pub nowhere : AffineMap
nowhere = record { width = 0; rows = [] }

-- X - (X + A)
abbrev pub difference : Term
difference = binary Sub (access 1 nowhere) (binary Add (access 1 nowhere) (access 0 nowhere))

-- the sum of Y[k] over 1<=k<=2
abbrev pub row : ℤ → ℤ → Affine
row a c = record { coefs = a ∷ []; konst = c }

abbrev pub two : Union
two = record { width = 1; disjuncts = record { width = 1; rows = row (pos 1) (negsuc 0) ∷ row (negsuc 0) (pos 2) ∷ [] } ∷ [] }

abbrev pub sum_of_two : Term
sum_of_two = reduction Add 1 two (access 2 (record { width = 1; rows = row (pos 1) (pos 0) ∷ [] }))

pub record AreWorkedOut : Type 0 where
  -- the left operand finds the first value, also where the same is read twice; the input is settled
  pub in_order : TermMakes program tables difference [] (find_of 1 [] (pos 7) ∷ find_of 1 [] (pos 9) ∷ []) (applied Sub (pos 7) (applied Add (pos 9) (pos 5)))
  pub summed :
      TermMakes program tables sum_of_two [] (find_of 2 (pos 1 ∷ []) (pos 3) ∷ find_of 2 (pos 2 ∷ []) (pos 4) ∷ [])
      (applied Add (applied Add (identity Add) (pos 3)) (pos 4))
  -- factor 2 in the first coordinate, none in the second
  pub kept_together : all_reduced (2 ∷ 0 ∷ []) (negsuc 0 ∷ pos 5 ∷ []) ≡ all_reduced (2 ∷ 0 ∷ []) (pos 3 ∷ pos 5 ∷ [])
  pub kept_apart : all_reduced (2 ∷ 0 ∷ []) (negsuc 0 ∷ pos 5 ∷ []) ≢ all_reduced (2 ∷ 0 ∷ []) (pos 2 ∷ pos 5 ∷ [])
  pub apart_without_factor : all_reduced (2 ∷ 0 ∷ []) (pos 1 ∷ pos 5 ∷ []) ≢ all_reduced (2 ∷ 0 ∷ []) (pos 1 ∷ pos 7 ∷ [])
