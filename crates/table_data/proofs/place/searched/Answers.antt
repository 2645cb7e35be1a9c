use Rattle.std.proofs.Common.{rules}
use Rattle.std.specs.Ordering.{int_cmp}
use Rattle.std.specs.Cmp.Lexicographic.{slice_cmp}
use Rattle.std.proofs.lemmas.Fn.{always_returns_same}
use Rattle.table_data.proofs.place.searched.Goals as goal

pub returns-clause-place : goal.returns-clause-place
returns-clause-place c =
    c.binary_search_by.ensures.position (λ other. slice_cmp int_cmp other c.args.point.now) (always_returns_same _ _ _ (λ a r f' k. search rules))
