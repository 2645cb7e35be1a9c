use Rattle.std.proofs.Common.{◌≡◌, ◌<◌, ◌≤◌, ◌++◌, List, length, get_or, take, arith, rules, ap, sym, ◌∙◌, subst, All, Err, ◌↔◌, below_more}
use Rattle.std.specs.List.{Any, AllPairs}
use Rattle.std.proofs.lemmas.List.Elements.{All-same, All-get_or}
use Rattle.az_lin.specs.Affine.{Affine, Polyhedron, HasEntries, Holds}
use Rattle.az_lin.specs.Negation.{negated}
use Rattle.az_poly.specs.Answers.{IsExactly, IsDifference}
use Rattle.az_poly.specs.Operations.{piece, pieces}
use Rattle.az_poly.proofs.Pieces.{pieces_hold, pieces_disjoint, length-pieces_from, pieces_from-step, pieces_from-done, cut_refused, negation_at}
use Rattle.az_poly.proofs.Exactly.{refused_as, found_as}
use Rattle.az_poly.proofs.difference.minus.Goals as goal

pub returns-then-removed-gt-MOST_PIECES-clause-exact : goal.returns-then-removed-gt-MOST_PIECES-clause-exact
returns-then-removed-gt-MOST_PIECES-clause-exact c =
    let same : length c.rows-removed.result.now ≡ length c.args.b.now.rows = ap length c.rows-removed.ensures.value in
    let many : 256 < length c.args.b.now.rows = omega arith in
    subst (λ n. 256 < n) (sym (length-pieces_from c.args.a.now.width c.args.a.now.rows c.args.b.now.rows)) many

pub returns-in_err-of_rows-clause-exact : goal.returns-in_err-of_rows-clause-exact
returns-in_err-of_rows-clause-exact c =
    let row = c.index-removed-number.result in
    let same : length c.rows-removed.result.now ≡ length c.args.b.now.rows = ap length c.rows-removed.ensures.value in
    let few : length c.args.b.now.rows ≤ 256 = omega arith in
    let handed : c.from_residual-in_err-of_rows.result ≡ Err c.in_err-of_rows.field-0.0 = search rules in
    let part = piece c.args.a.now.width c.args.a.now.rows row in
    let refused : IsExactly (λ _. HasEntries (negated row)) part (Err c.in_err-of_rows.field-0.0) =
    refused_as (λ _. HasEntries (negated row)) _ part c.cut.result c.in_err-of_rows.field-0.0 c.cut.ensures c.in_err-of_rows.ensures (λ all. all) in
    let own : All (λ r. HasEntries (negated r)) c.args.b.now.rows → HasEntries (negated row) =
    λ all. subst (λ r. HasEntries (negated r)) (sym (c.index-removed-number.is ∙ ap (λ rows. get_or rows c.cuts.number row) c.rows-removed.ensures.value))
    (All-get_or (λ r. HasEntries (negated r)) c.args.b.now.rows c.cuts.number row (rw (← same) c.cuts-test.true) all) in
    subst (λ answer. IsDifference c.args.a.now c.args.b.now answer) (sym handed)
    (cut_refused c.args.a.now c.args.b.now row part c.in_err-of_rows.field-0.0 refused few own)

pub cuts-preserved : goal.cuts-preserved
cuts-preserved c =
    let row = c.index-removed-number.result in
    let kept : List Affine = c.args.a.now.rows ++ take c.cuts.number c.rows-removed.result.now in
    let exact : (c.in_ok-of_rows.field-0 ≡ piece c.args.a.now.width kept row) × HasEntries (negated row) =
    found_as (λ _. HasEntries (negated row)) (piece c.args.a.now.width kept row) c.cut.result c.in_ok-of_rows.field-0 c.cut.ensures c.in_ok-of_rows.ensures in
    let got = exact.0 in
    record {
      so_far = pieces_from-step c.args.a.now.width c.args.a.now.rows c.rows-removed.result.now c.cuts.number row c.cuts.pieces.items c.push.new.self.items
          c.in_ok-of_rows.field-0 _ c.cuts-test.true c.cuts.invariant.so_far
          (got ∙ ap (λ r. piece c.args.a.now.width kept r) c.index-removed-number.is) c.in_ok-push.ensures.items;
      entries = below_more (λ k. (d : Affine) → HasEntries (negated (get_or c.rows-removed.result.now k d))) c.cuts.number c.cuts.invariant.entries
          (negation_at c.rows-removed.result.now c.cuts.number row c.cuts-test.true c.index-removed-number.is exact.1);
    }

pub returns-clause-exact : goal.returns-clause-exact
returns-clause-exact c =
    let full : c.cuts.number ≡ length c.rows-removed.result.now = omega arith in
    let same : c.from_vec.result ≡ pieces c.args.a.now c.args.b.now =
    c.from_vec.ensures ∙ pieces_from-done c.args.a.now c.args.b.now c.rows-removed.result.now c.cuts.number c.cuts.pieces.items full c.rows-removed.ensures.value c.cuts.invariant.so_far in
    let long : length c.rows-removed.result.now ≡ length c.args.b.now.rows = ap length c.rows-removed.ensures.value in
    let few : length c.args.b.now.rows ≤ 256 = omega arith in
    let fit : All (λ row. HasEntries (negated row)) c.rows-removed.result.now = λ k d here. c.cuts.invariant.entries k (omega (arith, full, here)) d in (
      same,
      subst (λ n. n ≤ 256) (sym (length-pieces_from c.args.a.now.width c.args.a.now.rows c.args.b.now.rows)) few,
      All-same (λ row. HasEntries (negated row)) c.args.b.now.rows c.rows-removed.result.now (sym c.rows-removed.ensures.value) fit,
    )

pub returns-clause-meaning : goal.returns-clause-meaning
returns-clause-meaning c = λ z.
    let full : c.cuts.number ≡ length c.rows-removed.result.now = omega arith in
    let same : c.from_vec.result ≡ pieces c.args.a.now c.args.b.now =
    c.from_vec.ensures ∙ pieces_from-done c.args.a.now c.args.b.now c.rows-removed.result.now c.cuts.number c.cuts.pieces.items full c.rows-removed.ensures.value c.cuts.invariant.so_far in
    subst (λ (parts : List Polyhedron). Any (λ part. Holds part z) parts ↔ (Holds c.args.a.now z × (Holds c.args.b.now z → ⊥))) (sym same)
    (pieces_hold c.args.a.now c.args.b.now z)

pub returns-clause-disjoint : goal.returns-clause-disjoint
returns-clause-disjoint c = λ z.
    let full : c.cuts.number ≡ length c.rows-removed.result.now = omega arith in
    let same : c.from_vec.result ≡ pieces c.args.a.now c.args.b.now =
    c.from_vec.ensures ∙ pieces_from-done c.args.a.now c.args.b.now c.rows-removed.result.now c.cuts.number c.cuts.pieces.items full c.rows-removed.ensures.value c.cuts.invariant.so_far in
    subst (λ (parts : List Polyhedron). AllPairs (λ part other. Holds part z → Holds other z → ⊥) parts) (sym same)
    (pieces_disjoint c.args.a.now c.args.b.now z)
