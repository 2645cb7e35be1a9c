-- Expressions into which a map can be put: at each place the columns are the map's rows and then the extra
-- indices of the enclosing reductions, and there are few enough of them; and expressions whose entries are
-- in range.
use Rattle.std.specs.Prelude.{◌≡◌, ℕ, ◌+◌, ◌≤◌, length}
use Rattle.az_lin.specs.Affine.{AffineMap, HasEntries, HasEntryDomain}
use Rattle.az_lin.specs.Substitution.{HasEntryRows}
use Rattle.az_ast.specs.Term.{Term, constant, index, access, negation, binary, cases, reduction, Choices, none, choice}
use Rattle.az_ast.specs.Walks.{extra_under}

abbrev mutual
  pub HasColumns : Term → ℕ → Type 0
  HasColumns (constant c) width = Unit {0}
  HasColumns (index row) width = length row.coefs ≡ width
  HasColumns (access x f) width = f.width ≡ width
  HasColumns (negation e) width = HasColumns e width
  HasColumns (binary op a b) width = HasColumns a width × HasColumns b width
  HasColumns (cases branches) width = HaveColumns branches width
  HasColumns (reduction op extra domain e) width = (domain.width ≡ width + extra) × HasColumns e (width + extra)

  pub HaveColumns : Choices → ℕ → Type 0
  HaveColumns none width = Unit {0}
  HaveColumns (choice domain e rest) width = (domain.width ≡ width) × HasColumns e width × HaveColumns rest width

pub record CanPut (f : AffineMap) (e : Term) : Type 0 where
  pub columns : HasColumns e (length f.rows)
  pub few_rows : length f.rows + extra_under e ≤ 64
  pub few_columns : f.width + extra_under e ≤ 64

abbrev mutual
  pub HasEntriesIn : Term → Type 0
  HasEntriesIn (constant c) = Unit {0}
  HasEntriesIn (index row) = HasEntries row
  HasEntriesIn (access x f) = HasEntryRows f
  HasEntriesIn (negation e) = HasEntriesIn e
  HasEntriesIn (binary op a b) = HasEntriesIn a × HasEntriesIn b
  HasEntriesIn (cases branches) = HaveEntriesIn branches
  HasEntriesIn (reduction op extra domain e) = HasEntryDomain domain × HasEntriesIn e

  pub HaveEntriesIn : Choices → Type 0
  HaveEntriesIn none = Unit {0}
  HaveEntriesIn (choice domain e rest) = HasEntryDomain domain × HasEntriesIn e × HaveEntriesIn rest
