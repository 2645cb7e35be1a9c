use Rattle.std.proofs.Common.{◌≡◌, ◌-◌, [], ◌∷◌, ◌++◌, length, get_or, ap, sym, ◌∙◌}
use Rattle.az_ast.specs.declared.program.Variable.{Variable}
use Rattle.az_lin.specs.Affine.{Union}
use Rattle.az_lin.specs.Columns.{widened_domain}
use Rattle.formula_refute.specs.Domains.{domain_claim}
use Rattle.life_sets.specs.Beside.{writer_domain}
use Rattle.life_sets.proofs.LifeListing.{domain_at}
use Rattle.order_sets.proofs.Making.{made_same}
use Rattle.target_map.specs.Times.{domain_of}
use Rattle.life_sets.proofs.beside.push_writer_domain.Goals as goal

pub returns-in-Ok : goal.returns-in-Ok
returns-in-Ok c = λ cs so_far.
    let p = c.args.program.now in
    let width = c.args.width in
    let y = c.args.y in
    let v = c.index-variables-y.result in
    let params = length p.params in
    let read : Variable = get_or c.variables.result.now y v in
    let domain = domain_at p y c.variables.result.now v c.requires.declared c.variables.ensures.value c.index-variables-y.is in
    let is : c.in-Ok.wide ≡ widened_domain params (width - params) (domain_of p y) =
    c.in-Ok.ensures.ok ∙ ap (λ n. widened_domain n (width - n) read.domain) (ap length c.params-params.ensures)
    ∙ ap (λ (d : Union). widened_domain params (width - params) d) (ap (λ (w : Variable). w.domain) (sym c.index-variables-y.is) ∙ sym domain) in
    made_same (cs ++ domain_claim c.in-Ok.wide ∷ []) (cs ++ writer_domain p width y ∷ []) c.push_domain.new.members (ap (λ (d : Union). cs ++ domain_claim d ∷ []) is)
    (c.in_ok-push_domain-in-Ok.ensures cs so_far)
