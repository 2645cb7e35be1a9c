use Rattle.std.proofs.Common.{◌↔◌}
use Rattle.az_lin.specs.Affine.{HasEntryDomain, HoldsSome, image_of}
use Rattle.az_poly.specs.Operations.{domain_before}
use Rattle.az_poly.proofs.Exactly.{exact_fault, exactly_as, ok_as}
use Rattle.az_poly.proofs.substitution.preimage.Goals as goal

pub of_rows-requires : goal.of_rows-requires
of_rows-requires c = exact_fault HasEntryDomain (domain_before c.args.f.now c.args.d.now) c.domain_preimage.result c.domain_preimage.ensures.exact

pub returns-clause-exact : goal.returns-clause-exact
returns-clause-exact c = exactly_as HasEntryDomain (domain_before c.args.f.now c.args.d.now) c.domain_preimage.result c.of_rows.result c.domain_preimage.ensures.exact c.of_rows.ensures

pub returns-clause-meaning : goal.returns-clause-meaning
returns-clause-meaning c = λ z. ok_as (λ before. HoldsSome before z ↔ HoldsSome c.args.d.now (image_of c.args.f.now z)) c.domain_preimage.result c.of_rows.result (c.domain_preimage.ensures.meaning z) c.of_rows.ensures
