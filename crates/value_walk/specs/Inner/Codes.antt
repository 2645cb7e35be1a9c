-- Bodies of equations that are made ready for their values: the data of each is that of the expression.
use Rattle.std.specs.Prelude.{◌≡◌, ◌<◌, ℕ, List, slice_get, length, MatchOption}
use Rattle.az_lin.specs.Affine.{Union}
use Rattle.az_ast.specs.Meaning.{body_of}
use Rattle.az_ast.specs.System.{System}
use Rattle.az_ast.specs.Term.{Term, constant, index, access, negation, binary, cases, reduction, choices}
use Rattle.value_walk.specs.declared.code.Code.{Code}
use Rattle.value_walk.specs.declared.code.Code.TheFolds.{fold-Code}
use Rattle.value_walk.specs.declared.code.Code.TheOpen.{Code-F, Choice-F}

abbrev pub term_of_layer : Code-F Term (Union × Term) → Term
term_of_layer (Code-F.Const v) = constant v
term_of_layer (Code-F.Index row) = index row
term_of_layer (Code-F.Access variable f) = access variable f
term_of_layer (Code-F.Neg e) = negation e
term_of_layer (Code-F.Bin op a b) = binary op a b
term_of_layer (Code-F.Cases branches) = cases (choices branches)
term_of_layer (Code-F.Reduce op extra domain e) = reduction op extra domain e

abbrev pub branch_of_layer : Choice-F Term (Union × Term) → Union × Term
branch_of_layer branch = (branch.domain, branch.body)

abbrev pub term : Code → Term
term = fold-Code Term (Union × Term) term_of_layer branch_of_layer

-- the code of a variable's body
abbrev pub IsCodeAt : System → ℕ → Code → Type 0
IsCodeAt p x code = MatchOption (body_of p.equations x) (Unit {0}) (λ body. term code ≡ body)

abbrev pub AreCodes : System → List Code → Type 0
AreCodes p codes = (x : ℕ) → x < length p.variables → MatchOption (slice_get codes x) ⊥ (IsCodeAt p x)
