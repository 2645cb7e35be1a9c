-- What the grammar asks of what is shown: names that it takes as names, numbers with a spelling, cases with
-- branches, reductions by no difference, and few nodes.
use Rattle.std.specs.Prelude.{◌≡◌, ◌<◌, ◌≤◌, ◌^◌, ℕ, List, [], ◌∷◌, length, ℤ, unsigned_abs, Ok}
use Rattle.std.specs.List.{AllByRecursion}
use Rattle.az_lin.specs.Affine.{Affine, Polyhedron, Union}
use Rattle.az_ast.specs.declared.op.Op.{Op}
use Rattle.az_ast.specs.declared.op.Op.TheVariants.{Sub}
use Rattle.az_ast.specs.declared.program.Equation.{Equation}
use Rattle.az_ast.specs.declared.program.Variable.{Variable}
use Rattle.az_ast.specs.Nodes.{nodes}
use Rattle.az_ast.specs.System.{System}
use Rattle.az_ast.specs.Term.{Term, constant, index, access, negation, binary, cases, reduction, Choices, none, choice, term}
use Rattle.alphabets_show.specs.Expressions.{name_of}
use Rattle.alphabets_show.specs.Shown.{shown}
use Rattle.program_grammar.specs.Readings.{IsReadingOf}
use Rattle.program_grammar.specs.Written.{IsName}
use Rattle.show_grammar.specs.WrittenOf.{written_of}

abbrev pub IsSpelled : ℤ → Type 0
IsSpelled c = unsigned_abs c < 2 ^ 127

abbrev pub IsSpelledRow : Affine → Type 0
IsSpelledRow row = AllByRecursion IsSpelled row.coefs × IsSpelled row.konst

abbrev pub AreSpelledRows : List Affine → Type 0
AreSpelledRows rows = AllByRecursion IsSpelledRow rows

abbrev pub IsSpelledConj : Polyhedron → Type 0
IsSpelledConj conj = AreSpelledRows conj.rows

-- some disjunct, and one
abbrev pub IsSpelledDomain : Union → Type 0
IsSpelledDomain domain = (0 < length domain.disjuncts) × AllByRecursion IsSpelledConj domain.disjuncts

abbrev pub IsSingleDomain : Union → Type 0
IsSingleDomain domain = (length domain.disjuncts ≡ 1) × AllByRecursion IsSpelledConj domain.disjuncts

abbrev pub HasBranches : Choices → Type 0
HasBranches none = ⊥
HasBranches (choice domain e rest) = Unit {0}

module _ (variables : List Variable) where
  abbrev mutual
    pub IsShowable : Term → Type 0
    IsShowable (constant c) = IsSpelled c
    IsShowable (index row) = IsSpelledRow row
    IsShowable (access x f) = IsName (name_of variables x) × AreSpelledRows f.rows
    IsShowable (negation e) = IsShowable e
    IsShowable (binary op a b) = IsShowable a × IsShowable b
    IsShowable (cases branches) = HasBranches branches × AreShowable branches
    IsShowable (reduction op extra domain e) = (op ≡ Sub → ⊥) × IsSingleDomain domain × IsShowable e

    pub AreShowable : Choices → Type 0
    AreShowable none = Unit {0}
    AreShowable (choice domain e rest) = IsSpelledDomain domain × IsShowable e × AreShowable rest

  abbrev pub IsShowableEquation : Equation → Type 0
  IsShowableEquation equation = IsName (name_of variables equation.variable) × (nodes (term equation.body) ≤ 512) × IsShowable (term equation.body)

abbrev pub IsShowableVariable : Variable → Type 0
IsShowableVariable variable = IsName variable.name × IsSpelledDomain variable.domain

pub record IsShowableProgram (p : System) : Type 0 where
  pub name : IsName p.name
  pub params : AllByRecursion IsName p.params
  pub domain : IsSingleDomain p.pdom
  pub variables : AllByRecursion IsShowableVariable p.variables
  pub equations : AllByRecursion (IsShowableEquation p.variables) p.equations

-- What is shown of such a program is a sentence of the grammar, which says that program with its names.
abbrev pub ShownIsASentence : Type 0
ShownIsASentence = (p : System) → IsShowableProgram p → IsReadingOf (shown p) (Ok (written_of p))
