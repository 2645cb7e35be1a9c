use Rattle.std.proofs.Common.{◌≡◌, ◌∙◌, length, rules, ap, sym, subst}
use Rattle.std.specs.Prelude.{IsTrue, ◌==◌}
use Rattle.az_lin.specs.Affine.{AffineMap}
use Rattle.az_lin.specs.Columns.{reading}
use Rattle.az_lin.specs.Substitution.{HasEntryRows, composed_map}
use Rattle.rewriting.proofs.Locals.{reading-rows}
use Rattle.change_basis.specs.Basis.{moved_access, MapFits}
use Rattle.change_basis.proofs.MovedFaults.{part-fault}
use Rattle.change_basis.proofs.rebasing.MovingReplacement.at.Goals as goal

pub compose-requires-clause-rows : goal.compose-requires-clause-rows
compose-requires-clause-rows c =
    let there : IsTrue (c.args.variable == c.args.self.now.target) = search rules in
    ap (λ (m : AffineMap). length m.rows) c.in_ok-read.ensures.ok ∙ (reading-rows c.args.self.now.params c.args.map.now ∙ (c.requires there).1)

pub returns-in_err-moved : goal.returns-in_err-moved
returns-in_err-moved c =
    let change = c.args.self.now in
    let basis = change.basis.now in
    let there : IsTrue (c.args.variable == change.target) = search rules in
    part-fault HasEntryRows (composed_map basis c.in_ok-read.read) (moved_access change.params change.target basis c.args.variable c.args.map.now)
    (MapFits change.params change.target basis c.args.variable c.args.map.now) c.in_err-moved.field-0.0 c.from_residual-in_err-moved.result
    (λ fits. subst (λ (m : AffineMap). HasEntryRows (composed_map basis m)) (sym c.in_ok-read.ensures.ok) (fits there))
    c.in_err-moved.ensures.exact c.from_residual-in_err-moved.ensures.1
