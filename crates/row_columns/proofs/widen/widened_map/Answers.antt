use Rattle.std.proofs.Common.{◌≡◌, ◌+◌, ◌∙◌, ap, sym, subst, map, All}
use Rattle.std.proofs.lemmas.List.Elements.{All-same}
use Rattle.az_lin.specs.Affine.{AffineMap, HasWidth, image_of}
use Rattle.az_lin.specs.Columns.{widened, widened_map}
use Rattle.az_lin.proofs.Substitution.{map_is}
use Rattle.az_lin.proofs.Columns.{image_of-widened}
use Rattle.row_columns.proofs.Made.{widths_widened}
use Rattle.row_columns.proofs.widen.widened_map.Goals as goal

pub new-requires : goal.new-requires
new-requires c =
    subst (λ width. All (HasWidth (width + c.args.count)) c.in_ok-rows.rows) (sym c.width-width.ensures.value)
    (All-same (HasWidth (c.args.f.now.width + c.args.count)) c.in_ok-rows.rows (map (λ row. widened c.args.place c.args.count row) c.rows.result.now) c.in_ok-rows.ensures.ok
    (widths_widened c.args.place c.args.count c.args.f.now.width c.rows.result.now c.requires.inside c.rows.ensures.widths))

is : (c : goal.After-new) → c.new.result ≡ widened_map c.args.place c.args.count c.args.f.now
is c =
    c.new.ensures
    ∙ map_is (widened_map c.args.place c.args.count c.args.f.now) _ _ (ap (λ n. n + c.args.count) c.width-width.ensures.value)
    (c.in_ok-rows.ensures.ok ∙ ap (map (λ row. widened c.args.place c.args.count row)) c.rows.ensures.value)

pub returns-clause-ok : goal.returns-clause-ok
returns-clause-ok c = is c

pub returns-clause-meaning : goal.returns-clause-meaning
returns-clause-meaning c = λ z. ap (λ (f : AffineMap). image_of f z) (is c) ∙ image_of-widened c.args.place c.args.count c.args.f.now z
