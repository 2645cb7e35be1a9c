use Rattle.az_lin.specs.Affine.{HasWidth}
use Rattle.formula_refute.proofs.MemberWidths.{rows_of_all, rows_of_any}
use Rattle.formula_tests.proofs.written.next.Goals as goal

pub returns-in_ok-members-in-All-clause-next : goal.returns-in_ok-members-in-All-clause-next
returns-in_ok-members-in-All-clause-next c = rows_of_all (HasWidth c.args.width) c.in_ok-members-in-All.field-0 c.in_ok-members-in-All.ensures.taken

pub returns-in_ok-members-in-Any-clause-next : goal.returns-in_ok-members-in-Any-clause-next
returns-in_ok-members-in-Any-clause-next c = rows_of_any (HasWidth c.args.width) c.in_ok-members-in-Any.field-0 c.in_ok-members-in-Any.ensures.taken
