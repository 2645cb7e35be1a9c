use Rattle.std.proofs.Common.{◌≡◌, ◌∙◌, ◌++◌, List, Some, None, ℤ, refl, ap, arith}
use Rattle.std.specs.Prelude.{slice_get}
use Rattle.std.specs.Vec.Iter.{into_iter_items}
use Rattle.std.proofs.lemmas.Grind.{common_steps}
use Rattle.std.proofs.lemmas.Option.{gets}
use Rattle.table_data.specs.TableOf.{points_of}
use Rattle.table_data.proofs.TableRows.{first_free}
use Rattle.table_data.proofs.table.table_of.Goals as goal

pub returns-in-None : goal.returns-in-None
returns-in-None c =
    let rows = c.values.rows.items in
    let free : slice_get c.args.values.now c.values.value-index ≡ Some None = grind (arith, common_steps, gets) in (
      refl,
      first_free c.args.points c.args.values.now rows (into_iter_items c.next.new.self) c.in-Some.point c.values.value-index
          (c.values.invariant.points ∙ ap (λ (ps : List (List ℤ)). points_of rows ++ ps) c.in-Some.ensures.items) c.values.invariant.values c.values.invariant.count free,
    )
