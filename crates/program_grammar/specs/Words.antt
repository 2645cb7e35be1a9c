-- The words that are no names, and the tokens that have a value in programs.
use Rattle.std.specs.Prelude.{ℕ, List, [], ◌∷◌, codes}
use Rattle.az_text.specs.declared.mark.MarkKind.TheVariants.{Equal, EqualEqual, LessEqual, Less, GreaterEqual, Greater, Plus, Star}
use Rattle.az_text.specs.declared.token.Token.{Token}
pub use Rattle.grammar_rules.specs.TokenRules.{mark, keyword, number, signs, read_mark, read_keyword, read_number}
use Rattle.grammar_rules.specs.Rules.{Rule}
use Rattle.grammar_rules.specs.Readers.{Reader}
use Rattle.grammar_rules.specs.TokenRules as tokens
use Rattle.grammar_rules.specs.Tokens.{mark_class, class_of, keyword_class}
use Rattle.program_grammar.specs.declared.tree.Relation.{Relation}
use Rattle.program_grammar.specs.declared.tree.Relation.TheVariants as relation
use Rattle.program_grammar.specs.declared.tree.Operator.{Operator}
use Rattle.program_grammar.specs.declared.tree.Operator.TheVariants as operator

abbrev pub reserved : List (List ℕ)
reserved =
    codes "affine" ∷ codes "input" ∷ codes "output" ∷ codes "local" ∷ codes "let" ∷ codes "int" ∷ codes "long" ∷ codes "case"
    ∷ codes "esac" ∷ codes "reduce" ∷ codes "max" ∷ codes "min" ∷ codes "and" ∷ codes "or" ∷ codes "xor" ∷ []

abbrev pub class : Token → ℕ
class = class_of reserved

abbrev pub relations : List (ℕ × Relation)
relations =
    (mark_class LessEqual, relation.AtMost) ∷ (mark_class Less, relation.Below) ∷ (mark_class GreaterEqual, relation.AtLeast) ∷ (mark_class Greater, relation.Above)
    ∷ (mark_class Equal, relation.Equal) ∷ (mark_class EqualEqual, relation.Equal) ∷ []

-- "max" | "min" | "and" | "or" | "xor"
abbrev pub functions : List (ℕ × Operator)
functions =
    (keyword_class reserved (codes "max"), operator.Max) ∷ (keyword_class reserved (codes "min"), operator.Min) ∷ (keyword_class reserved (codes "and"), operator.And)
    ∷ (keyword_class reserved (codes "or"), operator.Or) ∷ (keyword_class reserved (codes "xor"), operator.Xor) ∷ []

-- the operators of reductions
abbrev pub folds : List (ℕ × Operator)
folds = (mark_class Plus, operator.Add) ∷ (mark_class Star, operator.Multiply) ∷ functions

-- the rules of names, and of tokens of a table, with their weights
abbrev pub name : ℕ → Rule Token (List ℕ)
name weight = tokens.name reserved weight

abbrev pub one_of : {A : Type 0} → List (ℕ × A) → ℕ → Rule Token A
one_of table weight = tokens.one_of reserved table weight

-- and their readers
abbrev pub read_name : ℕ → Reader Token (List ℕ)
read_name weight = tokens.read_name reserved weight

abbrev pub read_one_of : {A : Type 0} → List (ℕ × A) → ℕ → Reader Token A
read_one_of table weight = tokens.read_one_of reserved table weight

-- the classes of some reserved words, by their places
abbrev pub input_class : ℕ
input_class = 27

abbrev pub output_class : ℕ
output_class = 28

abbrev pub local_class : ℕ
local_class = 29

abbrev pub int_class : ℕ
int_class = 31

abbrev pub long_class : ℕ
long_class = 32

abbrev pub case_class : ℕ
case_class = 33

-- max, min, and, or, xor
abbrev pub function_classes : List ℕ
function_classes = 36 ∷ 37 ∷ 38 ∷ 39 ∷ 40 ∷ []

-- the marks with which a link of a chain begins
abbrev pub relation_classes : List ℕ
relation_classes = mark_class Equal ∷ mark_class EqualEqual ∷ mark_class LessEqual ∷ mark_class Less ∷ mark_class GreaterEqual ∷ mark_class Greater ∷ []
