use Rattle.std.proofs.Common.{rules, ◌≡◌, ℤ, pos, slice_index_or, FitsSigned, to_z, of_z}
use Rattle.std.proofs.lemmas.Int.{to_z-of_z}
use Rattle.std.specs.Int.{w128}
use Rattle.quick_rows.proofs.Sums.{first-more}
use Rattle.quick_rows.proofs.parts.parts_of.Goals as goal

pub columns-preserved : goal.columns-preserved
columns-preserved c =
    let v : ℤ = slice_index_or c.args.coefs.now c.columns.column (pos 0) in
    let fits : FitsSigned w128 v = search rules in
    first-more c.args.coefs.now c.columns.column (to_z w128 (of_z w128 v)) c.columns.parts.items c.push_part.new.parts.items c.columns-test.true (to_z-of_z w128 v fits) c.in_ok-push_part.ensures c.columns.invariant
