use Rattle.std.proofs.Common.{◌≡◌, ◌↔◌}
use Rattle.az_lin.specs.Affine.{HoldsSome}
use Rattle.az_poly.specs.Operations.{intersection}
use Rattle.az_poly.proofs.Exactly.{memory_fault, memory_as, ok_as}
use Rattle.az_poly.proofs.intersection.meet.Goals as goal

pub of_rows-requires : goal.of_rows-requires
of_rows-requires c = memory_fault c.meet_domains.result c.meet_domains.ensures.cause

pub returns-clause-ok : goal.returns-clause-ok
returns-clause-ok c = ok_as (λ met. met ≡ intersection c.args.a.now c.args.b.now) c.meet_domains.result c.of_rows.result c.meet_domains.ensures.ok c.of_rows.ensures

pub returns-clause-meaning : goal.returns-clause-meaning
returns-clause-meaning c = λ z.
    ok_as (λ met. HoldsSome met z ↔ (HoldsSome c.args.a.now z × HoldsSome c.args.b.now z)) c.meet_domains.result c.of_rows.result (c.meet_domains.ensures.meaning z) c.of_rows.ensures

pub returns-clause-cause : goal.returns-clause-cause
returns-clause-cause c = memory_as c.meet_domains.result c.of_rows.result c.meet_domains.ensures.cause c.of_rows.ensures
