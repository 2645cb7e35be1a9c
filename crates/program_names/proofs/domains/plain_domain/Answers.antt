use Rattle.std.proofs.Common.{sym, ◌∙◌}
use Rattle.program_names.proofs.RowLists.{wide-rows}
use Rattle.program_names.proofs.domains.plain_domain.Goals as goal

pub conjunction-requires : goal.conjunction-requires
conjunction-requires c = sym (wide-rows c.args.scope.now c.args.chains.now) ∙ c.requires
