use Rattle.std.proofs.Common.{◌↔◌}
use Rattle.az_lin.specs.Affine.{HasEntryDomain, HoldsSome}
use Rattle.az_lin.specs.Substitution.{less}
use Rattle.az_poly.specs.Operations.{domain_moved}
use Rattle.az_poly.proofs.Exactly.{exact_fault, exactly_as, ok_as}
use Rattle.az_poly.proofs.substitution.translate.Goals as goal

pub of_rows-requires : goal.of_rows-requires
of_rows-requires c = exact_fault HasEntryDomain (domain_moved c.args.v.now c.args.d.now) c.domain_translate.result c.domain_translate.ensures.exact

pub returns-clause-exact : goal.returns-clause-exact
returns-clause-exact c = exactly_as HasEntryDomain (domain_moved c.args.v.now c.args.d.now) c.domain_translate.result c.of_rows.result c.domain_translate.ensures.exact c.of_rows.ensures

pub returns-clause-meaning : goal.returns-clause-meaning
returns-clause-meaning c = λ z long. ok_as (λ moved. HoldsSome moved z ↔ HoldsSome c.args.d.now (less z c.args.v.now)) c.domain_translate.result c.of_rows.result (c.domain_translate.ensures.meaning z long) c.of_rows.ensures
