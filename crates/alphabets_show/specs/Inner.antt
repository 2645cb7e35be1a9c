-- Words about inner functions, which no public contract cites.
use Rattle.std.specs.Prelude.{ℕ, ◌+◌, ◌<◌, ◌^◌, Bool, false, if◌then◌else◌, List, [], ◌∷◌, ◌++◌, flat_map, codes}
use Rattle.az_lin.specs.Affine.{Union}
use Rattle.az_ast.specs.declared.op.Op.{Op}
use Rattle.az_ast.specs.declared.op.Op.TheVariants.{Add, Sub, Mul, And, Or, Xor, Max, Min}
use Rattle.az_ast.specs.declared.program.Equation.{Equation}
use Rattle.az_ast.specs.declared.program.Variable.{Variable}
use Rattle.az_ast.specs.Term.{term}
use Rattle.az_ast.specs.Walks.{extra_under}
use Rattle.az_text.specs.declared.mark.MarkKind.TheVariants.{OpenParen, Colon, Dot}
use Rattle.az_text.specs.Lumps.{Lump}
use Rattle.alphabets_show.specs.Pieces.{mark, word, spaced, line_end, comma_space, in_brackets, names}
use Rattle.alphabets_show.specs.Sides.{Names, indices, Summand, terms, side, restriction}
use Rattle.alphabets_show.specs.Expressions.{operator}
use Rattle.alphabets_show.specs.Shown.{count_of, equation}

-- the last terms of a side, of which none may stand before them
abbrev pub side_end : Bool → List Summand → List Lump
side_end first rest = if first then side rest else terms false rest

-- what stands before the left operand of an operator, and between the two
abbrev pub before_left : Op → List ℕ
before_left Add = codes "("
before_left Sub = codes "("
before_left Mul = codes "("
before_left And = codes "and("
before_left Or = codes "or("
before_left Xor = codes "xor("
before_left Max = codes "max("
before_left Min = codes "min("

abbrev pub before_right : Op → List ℕ
before_right Add = codes " + "
before_right Sub = codes " - "
before_right Mul = codes " * "
before_right And = codes ", "
before_right Or = codes ", "
before_right Xor = codes ", "
before_right Max = codes ", "
before_right Min = codes ", "

-- a reduction up to its body
abbrev pub reduction_head : Names → Op → ℕ → ℕ → Union → List Lump
reduction_head params op from extra domain =
    word (codes "reduce") ∷ mark OpenParen ∷ operator op ∷ comma_space (in_brackets (names (indices from extra))
    ++ comma_space (restriction params domain ++ spaced Colon []))

-- the indices of an equation and its reductions, which are few
abbrev pub IsCounted : Names → List Variable → Equation → Type 0
IsCounted params variables e = count_of params variables e.variable + extra_under (term e.body) < 2 ^ 64

-- the equations, and the end
abbrev pub equations_end : Names → List Variable → List Equation → List Lump
equations_end params variables equations = word (codes "let") ∷ line_end ∷ (flat_map (equation params variables) equations ++ mark Dot ∷ line_end ∷ [])
