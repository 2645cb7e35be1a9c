use Rattle.std.proofs.Common.{refl, sym, ◌∙◌}
use Rattle.std.specs.List.{list_any}
use Rattle.az_ast.specs.Walks.{branch_domains, own_domains, is_outside}
use Rattle.az_ast.proofs.Walks.{of_cases, domains-below}
use Rattle.az_ast.proofs.sought_parts.OutsideBoundsPartTest.is_wanted.Goals as goal

pub returns-in-Cases : goal.returns-in-Cases
returns-in-Cases c =
    let test = is_outside c.args.self.now.least c.args.self.now.most in
    let items = c.as_slice.result.now in
    c.has_branch.ensures
    ∙ (sym (domains-below test items)
    ∙ sym (of_cases (λ part. list_any test (own_domains part)) (λ b. list_any test (branch_domains b)) (λ b. refl) c.args.part.now c.in-Cases.branches items c.in-Cases.is c.as_slice.ensures))
