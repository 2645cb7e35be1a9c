use Rattle.std.proofs.Common.{ℕ, List, [], ◌∷◌, ◌++◌, length, ap, ap₂, ◌∙◌, arith}
use Rattle.domain_check.specs.Context.{context}
use Rattle.expr_places.specs.declared.scope.Scope.{Scope}
use Rattle.formula_refute.specs.Claims.{Claim}
use Rattle.life_sets.specs.Beside.{writer_domain, stores_into}
use Rattle.life_sets.specs.Lifetimes.{with_writer, stores_over}
use Rattle.life_sets.proofs.Instances.{writer_rows}
use Rattle.life_sets.proofs.Pushes.{own_instance, all_wider, joined}
use Rattle.order_sets.specs.Visits.{writer_visit}
use Rattle.order_sets.specs.declared.visit.Visit.{Visit}
use Rattle.order_sets.proofs.Making.{made_same}
use Rattle.life_sets.proofs.formulas.push_beside.Goals as goal

pub push-requires-clause-inside : goal.push-requires-clause-inside
push-requires-clause-inside c =
    let wide = c.width_beside-width.ensures in
    all_wider c.args.around.now.scope.now.width c.width_beside-width.result c.args.around.now.scope.now.domains (omega (arith, wide)) c.requires.beside.inside

pub push-requires-clause-narrow : goal.push-requires-clause-narrow
push-requires-clause-narrow c =
    let wide = c.width_beside-width.ensures in
    let narrow = c.requires.beside.columns.narrow in
    omega (arith, wide, narrow)

pub push_stores_into-requires-clause-writer : goal.push_stores_into-requires-clause-writer
push_stores_into-requires-clause-writer c =
    own_instance c.args.target.now.mapping.now (writer_visit c.args.target.now.program.now c.args.y c.args.around.now.scope.now.width) c.args.writer.now c.requires.beside.stores

pub push_stores_into-requires-clause-first : goal.push_stores_into-requires-clause-first
push_stores_into-requires-clause-first c =
    let p = c.args.target.now.program.now in
    let columns = c.requires.beside.columns in
    let inside = columns.inside in
    let rows = writer_rows p c.args.y c.args.around.now.scope.now.width inside in
    let same = ap (λ (visit : Visit). length visit.at.rows) c.requires.beside.stores.at in
    omega (arith, inside, rows, same)

pub returns : goal.returns
returns c = λ cs so_far.
    let p = c.args.target.now.program.now in
    let m = c.args.target.now.mapping.now in
    let scope = c.args.around.now.scope.now in
    let y = c.args.y in
    let over : ℕ → List Claim = λ width. let wide : Scope = record scope { width = width } in context wide in
    let around : List Claim = context (with_writer p scope y) in
    let here : Claim = writer_domain p scope.width y in
    let into : Visit → List Claim = λ writer. stores_into p m writer c.args.point.now.visit in
    made_same (((cs ++ over c.width_beside-width.result) ++ here ∷ []) ++ into c.args.writer.now.visit) (cs ++ (around ++ stores_over p m scope.width y c.args.point.now.visit)) c.push_stores_into.new.members
    (joined cs (over c.width_beside-width.result) here (into c.args.writer.now.visit)
    ∙ ap₂ (λ n (rest : List Claim). cs ++ (over n ++ here ∷ rest)) c.width_beside-width.ensures (ap into c.requires.beside.stores.at))
    (c.in_ok-push_stores_into.ensures ((cs ++ over c.width_beside-width.result) ++ here ∷ [])
    (c.in_ok-push_writer_domain.ensures (cs ++ over c.width_beside-width.result) (c.in_ok-push.ensures cs so_far)))
