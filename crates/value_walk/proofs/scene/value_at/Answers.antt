use Rattle.std.proofs.Common.{rules, ◌≡◌, ◌<◌, List, length, sym, ap, subst, ◌∙◌, arith}
use Rattle.std.specs.Prelude.{ℤ, slice_index_or, FitsSigned}
use Rattle.std.specs.Int.{w64, cast_signed, cast_unsigned}
use Rattle.std.proofs.lemmas.Int.{to_z-of_z}
use Rattle.std.proofs.lemmas.List.{get_or_read}
use Rattle.az_ast.specs.Tables.{IsTable, TableGives}
use Rattle.az_ast.proofs.TableLemmas.{TableGives-at, equal_points}
use Rattle.value_walk.proofs.scene.value_at.Goals as goal

pub returns-then-is_point : goal.returns-then-is_point
returns-then-is_point c =
    let rows = c.rows-rows.result.now in
    let k = c.args.k.now in
    let d = c.index-rows-place-then-is_point.result in
    let within : c.args.place < length rows = omega arith in
    let table : IsTable rows = c.rows-rows.ensures.increasing in
    let read : c.index-rows-place.result ≡ slice_index_or rows c.args.place d = get_or_read rows c.args.place c.index-rows-place.result within c.index-rows-place.is d in
    let same : (slice_index_or rows c.args.place d).0 ≡ k = sym (ap (λ (r : List ℤ × ℤ). r.0) read) ∙ (ap (λ (r : List ℤ × ℤ). r.0) c.index-rows-place.is ∙ c.is_point.ensures c.if-is_point.true) in
    let gives = TableGives-at k rows table c.args.place d within (equal_points (slice_index_or rows c.args.place d).0 k same) in
    let v : ℤ = (slice_index_or rows c.args.place d).1 in
    let fits : FitsSigned w64 v = search rules in
    let word : cast_signed w64 (cast_unsigned w64 v) ≡ v = to_z-of_z w64 v fits in
    subst (λ w. TableGives c.args.table.now k w) (sym word) (subst (λ rs. TableGives rs k v) c.rows-rows.ensures.value gives)
