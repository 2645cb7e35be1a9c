use Rattle.std.proofs.Common.{◌≡◌, ◌+◌, List, [], ◌∷◌, ◌++◌, length, map, take, ap, sym, ◌∙◌, arith, append_assoc}
use Rattle.az_lin.specs.Affine.{Union}
use Rattle.domain_check.proofs.Grown.{taken_all}
use Rattle.formula_refute.specs.Claims.{Claim}
use Rattle.formula_refute.specs.Domains.{domain_claim}
use Rattle.order_sets.proofs.Listing.{mapped_next}
use Rattle.order_sets.proofs.Making.{made_same}
use Rattle.order_sets.proofs.context.push_domains.Goals as goal

pub domains-preserved : goal.domains-preserved
domains-preserved c = λ cs so_far.
    let items = c.args.domains.now in
    let i = c.domains.domain-index in
    let item = c.domain-item.result in
    let done : List Claim = map domain_claim (take i items) in
    made_same ((cs ++ done) ++ domain_claim item ∷ []) (cs ++ map domain_claim (take (i + 1) items)) c.push_domain.new.members
    (append_assoc cs done (domain_claim item ∷ []) ∙ ap (λ (ds : List Claim). cs ++ ds) (sym (mapped_next domain_claim items i item c.domains-test.true c.domain-item.is)))
    (c.in_ok-push_domain.ensures (cs ++ done) (c.domains.invariant cs so_far))

pub returns : goal.returns
returns c = λ cs so_far.
    let items = c.args.domains.now in
    let i = c.domains.domain-index in
    let end : i ≡ length items = omega arith in
    made_same (cs ++ map domain_claim (take i items)) (cs ++ map domain_claim items) c.domains.members
    (ap (λ (ds : List Union). cs ++ map domain_claim ds) (taken_all items i end)) (c.domains.invariant cs so_far)
