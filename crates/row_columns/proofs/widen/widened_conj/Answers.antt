use Rattle.std.proofs.Common.{◌≡◌, ◌+◌, ◌∙◌, ◌↔◌, ap, sym, subst, map, All}
use Rattle.std.proofs.lemmas.List.Elements.{All-same}
use Rattle.az_lin.specs.Affine.{Polyhedron, HasWidth, Holds}
use Rattle.az_lin.specs.Columns.{without, widened, widened_conj}
use Rattle.az_lin.proofs.Lists.{polyhedron_is}
use Rattle.az_lin.proofs.HeldPoints.{widened_conj_holds}
use Rattle.row_columns.proofs.Made.{widths_widened}
use Rattle.row_columns.proofs.widen.widened_conj.Goals as goal

pub new-requires : goal.new-requires
new-requires c =
    subst (λ width. All (HasWidth (width + c.args.count)) c.in_ok-rows.rows) (sym c.width-width.ensures)
    (All-same (HasWidth (c.args.conj.now.width + c.args.count)) c.in_ok-rows.rows (map (λ row. widened c.args.place c.args.count row) c.rows.result.now) c.in_ok-rows.ensures.ok
    (widths_widened c.args.place c.args.count c.args.conj.now.width c.rows.result.now c.requires.inside c.rows.ensures.widths))

is : (c : goal.After-new) → c.new.result ≡ widened_conj c.args.place c.args.count c.args.conj.now
is c =
    c.new.ensures
    ∙ polyhedron_is (widened_conj c.args.place c.args.count c.args.conj.now) _ _ (ap (λ n. n + c.args.count) c.width-width.ensures)
    (c.in_ok-rows.ensures.ok ∙ ap (map (λ row. widened c.args.place c.args.count row)) c.rows.ensures.value)

pub returns-clause-ok : goal.returns-clause-ok
returns-clause-ok c = is c

pub returns-clause-meaning : goal.returns-clause-meaning
returns-clause-meaning c = λ z. subst (λ (wide : Polyhedron). Holds wide z ↔ Holds c.args.conj.now (without c.args.place c.args.count z)) (sym (is c)) (widened_conj_holds c.args.place c.args.count c.args.conj.now z)
