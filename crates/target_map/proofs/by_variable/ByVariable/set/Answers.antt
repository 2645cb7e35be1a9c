use Rattle.std.proofs.Common.{ap, ◌∙◌}
use Rattle.std.specs.FinMap.{insert}
use Rattle.az_ast.proofs.MapLemmas.{from_entries-insert}
use Rattle.target_map.proofs.by_variable.ByVariable.set.Goals as goal

pub returns-clause-ok : goal.returns-clause-ok
returns-clause-ok g c =
    from_entries-insert c.self.inside.settings.entries c.insert.new.self.entries c.args.variable c.args.value c.in_ok-insert.ensures.updates.0
    ∙ ap (λ m. insert m c.args.variable c.args.value) c.self.view_is
