-- The resolved branches of a case.
use Rattle.std.specs.Prelude.{ℕ, List}
use Rattle.az_ast.specs.declared.expr.Branch as program
use Rattle.program_grammar.specs.declared.tree.Branch.{Branch}
use Rattle.program_names.specs.Resolved.{expression}
use Rattle.program_names.specs.Sides.{Scope, union_of}

abbrev pub resolved_branch : List (List ℕ) → Scope → Branch → program.Branch
resolved_branch variables scope branch = record { domain = union_of scope branch.disjuncts; body = expression variables branch.body scope }
