use Rattle.std.proofs.Common.{◌≡◌, ◌∙◌, ◌++◌, ◌∷◌, [], ℤ, FitsSigned, pos, arith, rules, subst}
use Rattle.std.specs.Int.{w64, w128}
use Rattle.std.proofs.lemmas.Int.{to_z-of_z}
use Rattle.az_ast.specs.OutputRows.{fields}
use Rattle.table_data.proofs.WrittenRows.{index_more, line_end_on}
use Rattle.table_data.proofs.write.push_row.Goals as goal

pub indices-preserved : goal.indices-preserved
indices-preserved c =
    index_more c.args.out.now.items c.args.name.now c.args.point.now c.indices.index-index (pos 0) c.indices.out.items c.push_field.new.out.items
    c.indices-test.true c.indices.invariant c.in_ok-push_field.ensures

pub returns : goal.returns
returns c =
    let fits : FitsSigned w128 c.from.result = search rules in
    let word : FitsSigned w64 c.args.value = search rules in
    let written = to_z-of_z w128 c.from.result fits ∙ c.from.ensures ∙ to_z-of_z w64 c.args.value word in
    line_end_on c.extend_from_slice-2.result c.args.out.now.items c.args.name.now c.args.point.now c.args.value c.indices.index-index c.indices.out.items
    c.push_field-2.new.out.items c.extend_from_slice-2.new.self.items (omega arith) c.indices.invariant
    (subst (λ (z : ℤ). c.push_field-2.new.out.items ≡ c.indices.out.items ++ fields (z ∷ [])) written c.in_ok-push_field-2.ensures)
    c.extend_from_slice-2.ensures.items
