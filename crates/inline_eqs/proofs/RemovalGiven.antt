-- What there being no reason against it gives: what is left keeps the rules, and means what it meant.
use Rattle.std.proofs.Common.{◌≡◌, ℕ, None}
use Rattle.std.specs.Prelude.{filter_map}
use Rattle.az_ast.specs.Shapes.{IsProgram}
use Rattle.az_ast.specs.System.{System}
use Rattle.rewriting.proofs.FineParts.{AreFine}
use Rattle.rewriting.proofs.Locals.{local-declared}
use Rattle.rewriting.specs.Definitions.{definitions}
use Rattle.rewriting.specs.Promise.{KeepsMeaning}
use Rattle.inline_eqs.specs.Removal.{definition_without, variables_without, without, moves_up, removal_refusal}
use Rattle.inline_eqs.proofs.RemovalFine.{removal-fine}
use Rattle.inline_eqs.proofs.RemovalMeaning.{removal-keeps}
use Rattle.inline_eqs.proofs.Unused.{is-local, unread, definitions-unread}

module _ (p : System) (program : IsProgram p) (gone : ℕ) (free : removal_refusal p gone ≡ None) where
  pub given-fine : AreFine p (variables_without gone p.variables) (filter_map (definition_without gone) (definitions p))
  given-fine = removal-fine p program gone (definitions-unread p program gone free)

  pub given-keeps : KeepsMeaning p (without p gone) (moves_up gone)
  given-keeps =
      let own = local-declared p gone (is-local p program gone free) in
      removal-keeps p program gone own.0 own.1 own.2 (unread p program gone free)
