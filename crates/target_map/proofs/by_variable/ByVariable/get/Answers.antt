use Rattle.std.proofs.Common.{ap, ◌∙◌}
use Rattle.std.specs.FinMap.{get}
use Rattle.az_ast.proofs.MapLemmas.{lookup-get}
use Rattle.target_map.proofs.by_variable.ByVariable.get.Goals as goal

pub returns : goal.returns
returns g c = c.get.ensures.value ∙ lookup-get c.args.variable c.self.inside.settings.entries ∙ ap (λ m. get m c.args.variable) c.self.view_is
