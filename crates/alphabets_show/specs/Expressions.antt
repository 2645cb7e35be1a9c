-- Expressions as text, at a place of so many indices. Each operator stands in parentheses.
use Rattle.std.specs.Prelude.{ℕ, suc, ◌+◌, List, [], ◌∷◌, ◌++◌, ℤ, pos, negsuc, codes, slice_get}
use Rattle.std.specs.Option.{option_map_or}
use Rattle.az_ast.specs.declared.op.Op.{Op}
use Rattle.az_ast.specs.declared.op.Op.TheVariants.{Add, Sub, Mul, And, Or, Xor, Max, Min}
use Rattle.az_ast.specs.declared.program.Variable.{Variable}
use Rattle.az_ast.specs.Term.{Term, constant, index, access, negation, binary, cases, reduction, Choices, none, choice}
use Rattle.az_text.specs.declared.mark.MarkKind.{MarkKind}
use Rattle.az_text.specs.declared.mark.MarkKind.TheVariants.{Plus, Minus, Star, Colon, Semicolon}
use Rattle.az_text.specs.Lumps.{Lump}
use Rattle.alphabets_show.specs.Pieces.{mark, word, number, space, spaced, comma_space, in_parentheses, in_brackets, names}
use Rattle.alphabets_show.specs.Sides.{Names, indices, affine, affines, restriction}

abbrev pub literal : ℤ → List Lump
literal (pos n) = number n ∷ []
literal (negsuc n) = mark Minus ∷ number (suc n) ∷ []

abbrev pub infix_form : MarkKind → List Lump → List Lump → List Lump
infix_form kind left right = in_parentheses (left ++ spaced kind right)

abbrev pub call_form : List ℕ → List Lump → List Lump → List Lump
call_form function left right = word function ∷ in_parentheses (left ++ comma_space right)

abbrev pub operation : Op → List Lump → List Lump → List Lump
operation Add left right = infix_form Plus left right
operation Sub left right = infix_form Minus left right
operation Mul left right = infix_form Star left right
operation And left right = call_form (codes "and") left right
operation Or left right = call_form (codes "or") left right
operation Xor left right = call_form (codes "xor") left right
operation Max left right = call_form (codes "max") left right
operation Min left right = call_form (codes "min") left right

abbrev pub operator : Op → Lump
operator Add = mark Plus
operator Sub = mark Minus
operator Mul = mark Star
operator And = word (codes "and")
operator Or = word (codes "or")
operator Xor = word (codes "xor")
operator Max = word (codes "max")
operator Min = word (codes "min")

-- the name of a variable, by its number
abbrev pub name_of : List Variable → ℕ → List ℕ
name_of variables x = option_map_or (λ variable. variable.name) (slice_get variables x) []

module _ (params : Names) (variables : List Variable) where
  abbrev mutual
    pub expression : Term → ℕ → List Lump
    expression (constant c) count = literal c
    expression (index row) count = in_brackets (affine params row)
    expression (access x f) count = word (name_of variables x) ∷ in_brackets (affines params f.rows)
    expression (negation e) count = mark Minus ∷ in_parentheses (expression e count)
    expression (binary op a b) count = operation op (expression a count) (expression b count)
    expression (cases branches) count = word (codes "case") ∷ space ∷ (branch_list branches count ++ word (codes "esac") ∷ [])
    expression (reduction op extra domain e) count =
        word (codes "reduce") ∷ in_parentheses (operator op ∷ comma_space (in_brackets (names (indices count extra))
        ++ comma_space (restriction params domain ++ spaced Colon (expression e (count + extra)))))

    pub branch_list : Choices → ℕ → List Lump
    branch_list none count = []
    branch_list (choice domain e rest) count =
        (restriction params domain ++ spaced Colon (expression e count ++ mark Semicolon ∷ space ∷ [])) ++ branch_list rest count
