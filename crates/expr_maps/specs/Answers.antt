-- What a call answers that makes an expression: the stated one where its entries are in range, else
-- `Entry`; want of memory may stand for either.
use Rattle.std.specs.Prelude.{◌≡◌, ℕ, Result, Ok, Err}
use Rattle.az_lin.specs.Affine.{AffineMap}
use Rattle.az_lin.specs.declared.fault.LinFault.{LinFault}
use Rattle.az_lin.specs.declared.fault.LinFault.TheVariants.{Entry, NoInverse, Overflow, Memory}
use Rattle.az_ast.specs.Term.{Term, constant, index, access, negation, binary, cases, reduction, Choices, none, choice, term}
use Rattle.az_ast.specs.declared.expr.Expr.{Expr}

abbrev pub IsTerm : Term → Type 0 → Result Expr LinFault → Type 0
IsTerm t fits (Ok e) = (term e ≡ t) × fits
IsTerm t fits (Err Entry) = fits → ⊥
IsTerm t fits (Err (NoInverse _)) = ⊥
IsTerm t fits (Err Overflow) = ⊥
IsTerm t fits (Err Memory) = Unit {0}

-- what each access has, reached or not
module _ (Has : ℕ → AffineMap → Type 0) where
  abbrev mutual
    pub EachAccess : Term → Type 0
    EachAccess (constant c) = Unit {0}
    EachAccess (index row) = Unit {0}
    EachAccess (access x f) = Has x f
    EachAccess (negation e) = EachAccess e
    EachAccess (binary op a b) = EachAccess a × EachAccess b
    EachAccess (cases branches) = EachBelow branches
    EachAccess (reduction op extra domain e) = EachAccess e

    pub EachBelow : Choices → Type 0
    EachBelow none = Unit {0}
    EachBelow (choice domain e rest) = EachAccess e × EachBelow rest
