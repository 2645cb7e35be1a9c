-- An equation of a program stands, with its reductions, under few indices.
use Rattle.std.proofs.Common.{◌≡◌, ◌+◌, ◌<◌, ◌^◌, length, false, Option, Some, None, arith}
use Rattle.std.specs.Prelude.{All, MatchOption, slice_get, slice_index_or, nat_lt}
use Rattle.std.specs.Option.{option_map_or}
use Rattle.std.proofs.lemmas.Bool.{ltb-false}
use Rattle.az_ast.specs.declared.program.Equation.{Equation}
use Rattle.az_ast.specs.declared.program.Variable.{Variable}
use Rattle.az_ast.specs.Placed.{IsAtWidth, IsEquationPlaced}
use Rattle.az_ast.specs.Shapes.{indices, stands_under_many, IsProgram}
use Rattle.az_ast.specs.System.{System}
use Rattle.az_ast.specs.Term.{term}
use Rattle.az_ast.specs.Walks.{extra_under}
use Rattle.az_ast.proofs.ProgramLaws.{under_few}
use Rattle.alphabets_show.specs.Inner.{IsCounted}

one : (p : System) (e : Equation) → IsEquationPlaced p.variables e → stands_under_many (length p.params) p.variables e ≡ false → IsCounted p.params p.variables e
one p e placed under = by (slice_get p.variables e.variable) placed under
  where
    by : (o : Option Variable) → MatchOption o ⊥ (λ v. IsAtWidth (length p.variables) (term e.body) v.domain.width)
        → option_map_or (λ v. nat_lt 16 (indices (length p.params) v + extra_under (term e.body))) o false ≡ false
        → option_map_or (indices (length p.params)) o 0 + extra_under (term e.body) < 2 ^ 64
    by None placed under = absurd placed
    by (Some v) placed under = let few = ltb-false 16 (indices (length p.params) v + extra_under (term e.body)) under in omega (arith, few)

pub counted : (p : System) → IsProgram p → All (IsCounted p.params p.variables) p.equations
counted p program = λ k d within. one p (slice_index_or p.equations k d) (program.placed.bodies k d within) (under_few p program k d within)
