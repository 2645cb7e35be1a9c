use Rattle.std.proofs.Common.{◌≡◌, List, map, ap, subst, ◌∙◌}
use Rattle.std.specs.List.{AllZip}
use Rattle.order_sets.specs.Orders.{StatedClaim}
use Rattle.order_sets.specs.Stated.{stated_claim}
use Rattle.map_verify.specs.Certificates.{IsProvedBy}
use Rattle.map_verify.specs.Formulas.{formulas}
use Rattle.map_verify.proofs.Falsity.{each_false}
use Rattle.map_check.proofs.list_check.checked_map.Goals as goal

pub certified_map-requires-clause-each : goal.certified_map-requires-clause-each
certified_map-requires-clause-each c =
    let certificate = c.args.certificate.now in
    let all = formulas c.args.checked.now c.args.mapping.now in
    let listed : map stated_claim c.as_slice.result.now ≡ all = ap (map stated_claim) c.as_slice.ensures ∙ c.in-Ok.ensures.listed in
    each_false certificate.version all certificate.proved
    (subst (λ (claims : List StatedClaim). AllZip (IsProvedBy certificate.version) claims certificate.proved) listed c.in-Ok-check_all.ensures)
