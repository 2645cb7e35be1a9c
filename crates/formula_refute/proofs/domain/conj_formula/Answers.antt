use Rattle.std.proofs.Common.{◌≡◌, ◌∙◌, ap, take, map, length, arith}
use Rattle.std.proofs.Math.Seq.{take-length}
use Rattle.formula_refute.specs.declared.formula.Formula.TheVariants.{Atom, All}
use Rattle.formula_refute.proofs.DomainTruth.{conj_made}
use Rattle.formula_refute.proofs.MemberWidths.{conj_width}
use Rattle.formula_refute.proofs.domain.conj_formula.Goals as goal

pub returns-clause-ok : goal.returns-clause-ok
returns-clause-ok c =
    let rows = c.rows-rows.result.now in
    let end : c.rows.row-index ≡ length rows = omega arith in
    conj_made c.from_vec.result c.args.conj.now
    (c.from_vec.ensures ∙ c.rows.invariant ∙ ap (λ n. map Atom (take n rows)) end ∙ ap (map Atom) (take-length rows) ∙ ap (map Atom) c.rows-rows.ensures.value)

pub returns-clause-width : goal.returns-clause-width
returns-clause-width c = conj_width c.args.conj.now.width c.args.conj.now c.rows-rows.result.now (All c.from_vec.result) (returns-clause-ok c) c.rows-rows.ensures.value c.rows-rows.ensures.widths
