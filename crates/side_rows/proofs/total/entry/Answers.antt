use Rattle.std.proofs.Common.{rules}
use Rattle.side_rows.proofs.total.entry.Goals as goal

pub returns : goal.returns
returns c = λ number same. rw same (search rules)
