use Rattle.std.proofs.Common.{◌≡◌, ◌∙◌, ap, arith, subst, All, IfOk, to_z, of_z}
use Rattle.std.specs.Int.{w128}
use Rattle.std.proofs.lemmas.Int.{ints}
use Rattle.az_lin.specs.Affine.{Affine, HasEntries, IsEntry, value_at}
use Rattle.az_lin.specs.Columns.{with_zeros, without, widened}
use Rattle.az_lin.proofs.Columns.{value_at-widened}
use Rattle.az_lin.proofs.Substitution.{row_is}
use Rattle.az_lin.proofs.Exactly.{ok_law}
use Rattle.row_columns.proofs.Made.{entries_made}
use Rattle.row_columns.proofs.widen.widened_row.Goals as goal

pub row_of-requires : goal.row_of-requires
row_of-requires c =
    let coefs : c.as_slice.result.now ≡ with_zeros c.args.place c.args.count c.args.row.now.coefs =
    c.as_slice.ensures ∙ c.in_ok-coefs.ensures ∙ ap (with_zeros c.args.place c.args.count) c.coefs.ensures.value in
    let konst : to_z w128 (of_z w128 c.konst.result) ≡ c.args.row.now.konst = omega (arith, ints) in
    let entries : HasEntries c.args.row.now = record {
      coefficients = subst (All IsEntry) c.coefs.ensures.value c.coefs.ensures.range;
      constant = subst IsEntry c.konst.ensures.value c.konst.ensures.range;
    } in
    entries_made c.args.place c.args.count c.args.row.now _ _ coefs konst entries

pub returns-clause-meaning : goal.returns-clause-meaning
returns-clause-meaning c = λ z.
    let wanted = widened c.args.place c.args.count c.args.row.now in
    let coefs : c.as_slice.result.now ≡ wanted.coefs = c.as_slice.ensures ∙ c.in_ok-coefs.ensures ∙ ap (with_zeros c.args.place c.args.count) c.coefs.ensures.value in
    let konst : to_z w128 (of_z w128 c.konst.result) ≡ wanted.konst = omega (arith, ints) in
    ok_law wanted (λ wide. value_at wide z ≡ value_at c.args.row.now (without c.args.place c.args.count z)) c.row_of.result
    (subst (λ (row : Affine). IfOk c.row_of.result (λ wide. wide ≡ row)) (row_is wanted _ _ coefs konst) c.row_of.ensures.ok)
    (value_at-widened c.args.place c.args.count c.args.row.now z)
