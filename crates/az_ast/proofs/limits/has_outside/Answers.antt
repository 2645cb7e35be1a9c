use Rattle.std.proofs.Common.{sym, ◌∙◌}
use Rattle.az_ast.specs.Term.{term}
use Rattle.az_ast.specs.Walks.{parts, own_domains, is_outside}
use Rattle.az_ast.proofs.Walks.{list_any-flat_map}
use Rattle.az_ast.proofs.limits.has_outside.Goals as goal

pub returns : goal.returns
returns c =
    c.some_part.ensures
    ∙ sym (list_any-flat_map (is_outside c.args.bounds.now.least c.args.bounds.now.most) own_domains (parts (term c.args.equation.now.body)))
