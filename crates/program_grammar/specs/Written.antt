-- Texts of programs whose names are words that may be names, and in which no case is without branches.
-- The names in equations aren't asked for, since each is there to find a declared one.
use Rattle.std.specs.Prelude.{ℕ, Bool, false, true, ◌&&◌, List, [], ◌∷◌, All, IsTrue, IsFalse, bytes_eq}
use Rattle.std.specs.List.{list_any, list_all}
use Rattle.az_text.specs.Tokens.{IsWord}
use Rattle.program_grammar.specs.declared.tree.Declaration.{Declaration}
use Rattle.program_grammar.specs.declared.tree.Equation.{Equation}
use Rattle.program_grammar.specs.declared.tree.Expr.{Expr}
use Rattle.program_grammar.specs.declared.tree.Expr.TheFolds.{fold-Expr}
use Rattle.program_grammar.specs.declared.tree.Expr.TheOpen.{Expr-F, Branch-F}
use Rattle.program_grammar.specs.declared.tree.ProgramText.{ProgramText}
use Rattle.program_grammar.specs.Words.{reserved}

-- a word that is not reserved
abbrev pub IsName : List ℕ → Type 0
IsName name = IsWord name × IsFalse (list_any (bytes_eq name) reserved)

-- some branch, and each is written
abbrev pub is_written_case : List Bool → Bool
is_written_case [] = false
is_written_case (first ∷ rest) = list_all (λ is. is) (first ∷ rest)

-- one layer, of whose parts it is known whether they are written
abbrev pub is_written_layer : Expr-F Bool Bool → Bool
is_written_layer (Expr-F.Constant negative n) = true
is_written_layer (Expr-F.Index terms) = true
is_written_layer (Expr-F.Access name rows) = true
is_written_layer (Expr-F.Negation e) = e
is_written_layer (Expr-F.Binary op a b) = a && b
is_written_layer (Expr-F.Cases branches) = is_written_case branches
is_written_layer (Expr-F.Reduction op indices domain e) = e

abbrev pub is_written_branch : Branch-F Bool Bool → Bool
is_written_branch branch = branch.body

abbrev pub is_written : Expr → Bool
is_written = fold-Expr Bool Bool is_written_layer is_written_branch

abbrev pub AreNamed : List Declaration → Type 0
AreNamed declarations = All (λ (declaration : Declaration). IsName declaration.name) declarations

pub record IsWritten (text : ProgramText) : Type 0 where
  pub name : IsName text.name
  pub parameters : All IsName text.params
  pub inputs : AreNamed text.inputs
  pub outputs : AreNamed text.outputs
  pub locals : AreNamed text.locals
  pub bodies : All (λ (equation : Equation). IsTrue (is_written equation.body)) text.equations
