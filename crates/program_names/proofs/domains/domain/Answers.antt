use Rattle.std.proofs.Common.{rules, ◌≡◌, length, sym, subst, ◌∙◌}
use Rattle.std.specs.Prelude.{map, All}
use Rattle.az_lin.specs.Affine.{IsOver}
use Rattle.program_names.specs.Sides.{conjunction_of}
use Rattle.program_names.proofs.RowLists.{wide-disjuncts, conjunctions-over}
use Rattle.program_names.proofs.domains.domain.Goals as goal

pub conjunctions-requires : goal.conjunctions-requires
conjunctions-requires c = sym (wide-disjuncts c.args.scope.now c.args.disjuncts.now) ∙ c.requires

pub of_list-requires-clause-widths : goal.of_list-requires-clause-widths
of_list-requires-clause-widths c =
    let scope = c.args.scope.now in
    let same : c.in_ok-conjs.conjs ≡ map (conjunction_of scope) c.args.disjuncts.now = search rules in
    subst (λ n. All (IsOver n) c.in_ok-conjs.conjs) (sym c.len.ensures)
    (subst (All (IsOver (length scope))) (sym same) (conjunctions-over scope c.args.disjuncts.now))
