use Rattle.std.proofs.Common.{◌<◌, ℕ, [], length, sym}
use Rattle.target_map.specs.Refusals.{is_unwritten}
use Rattle.target_map.proofs.Kept.{repeated_has, found_has}
use Rattle.target_map.proofs.refusals.order_refusal.Goals as goal

pub name_of-requires : goal.name_of-requires
name_of-requires c =
    let P : ℕ → Type 0 = λ n. n < length c.args.program.now.variables in
    repeated_has P [] c.args.statements.now c.in-Some.number (sym c.in-Some.ensures) c.requires

pub name_of-requires-in-Some-first_unwritten : goal.name_of-requires-in-Some-first_unwritten
name_of-requires-in-Some-first_unwritten c =
    let P : ℕ → Type 0 = λ n. n < length c.args.program.now.variables in
    found_has P (is_unwritten c.args.program.now) c.args.statements.now c.in-Some-first_unwritten.number (sym c.in-Some-first_unwritten.ensures) c.requires
