-- Programs that can be written as text: their names are words that the grammar takes as names, and no
-- case is without branches.
use Rattle.std.specs.Prelude.{◌==◌, ℕ, Bool, false, true, not, ◌&&◌, ◌||◌, List, [], ◌∷◌, All, codes, IsTrue}
use Rattle.std.specs.Char.{is_ascii_alphabetic, is_ascii_alphanumeric}
use Rattle.std.specs.List.{list_all, list_any}
use Rattle.std.specs.Str.{bytes_eq}
use Rattle.az_ast.specs.System.{System}
use Rattle.az_ast.specs.Term.{Term, constant, index, access, negation, binary, cases, reduction, Choices, none, choice, term}
use Rattle.az_ast.specs.Walks.{parts}

-- a letter, then letters, digits and underscores
abbrev pub is_word : List ℕ → Bool
is_word [] = false
is_word (first ∷ rest) = is_ascii_alphabetic first && list_all (λ b. is_ascii_alphanumeric b || b == 95) rest

-- the words that are no names of programs
abbrev pub reserved_words : List (List ℕ)
reserved_words =
    codes "affine" ∷ codes "input" ∷ codes "output" ∷ codes "local" ∷ codes "let" ∷ codes "int" ∷ codes "long" ∷ codes "case"
    ∷ codes "esac" ∷ codes "reduce" ∷ codes "max" ∷ codes "min" ∷ codes "and" ∷ codes "or" ∷ codes "xor" ∷ []

abbrev pub is_name : List ℕ → Bool
is_name name = is_word name && not (list_any (λ reserved. bytes_eq reserved name) reserved_words)

-- a part that is no case without branches
abbrev pub has_branches : Choices → Bool
has_branches none = false
has_branches (choice domain e rest) = true

abbrev pub is_written : Term → Bool
is_written (constant c) = true
is_written (index row) = true
is_written (access x f) = true
is_written (negation e) = true
is_written (binary op a b) = true
is_written (cases branches) = has_branches branches
is_written (reduction op extra domain e) = true

pub record IsWritable (p : System) : Type 0 where
  pub program : IsTrue (is_name p.name)
  pub parameters : All (λ name. IsTrue (is_name name)) p.params
  pub variables : All (λ variable. IsTrue (is_name variable.name)) p.variables
  pub bodies : All (λ equation. All (λ part. IsTrue (is_written part)) (parts (term equation.body))) p.equations
