use Rattle.std.proofs.Common.{◌≡◌, ◌≤◌, IsTrue, sym, ap, subst, ◌∙◌}
use Rattle.std.specs.Prelude.{◌↔◌}
use Rattle.program_names.specs.Extras.{extra_under, extra_below}
use Rattle.program_names.proofs.ExtraLemmas.{extra-Cases}
use Rattle.program_names.proofs.depth.+depth.Goals as goal

pub is_under-returns-in-Cases : goal.is_under-returns-in-Cases
is_under-returns-in-Cases t c =
    let same : extra_below c.as_slice.result.now ≡ extra_under c.args.expr.now =
    ap extra_below c.as_slice.ensures ∙ (sym (extra-Cases c.in-Cases.branches) ∙ ap extra_under (sym c.in-Cases.is)) in
    subst (λ n. IsTrue c.are_under.result ↔ (n ≤ c.args.most)) same c.are_under.ensures
