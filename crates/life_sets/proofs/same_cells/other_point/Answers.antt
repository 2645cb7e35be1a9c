use Rattle.std.proofs.Common.{◌≡◌, ◌-◌, [], List, length, take, drop, ap₂, arith, length-drop}
use Rattle.std.proofs.lemmas.List.{take_all}
use Rattle.az_lin.specs.Affine.{Affine}
use Rattle.order_sets.specs.NotBefore.{apart, each_pair}
use Rattle.order_sets.proofs.Making.{new_made, made_same, any_made}
use Rattle.life_sets.proofs.same_cells.other_point.Goals as goal

pub returns : goal.returns
returns c =
    let n = c.args.params in
    let us = c.args.us.now in
    let vs = c.args.vs.now in
    let whole : (rows : List Affine) → take (length rows - n) (drop n rows) ≡ drop n rows = λ rows. take_all (length rows - n) (drop n rows) (omega (arith, length-drop n rows)) in
    any_made (each_pair apart (drop n vs) (drop n us)) c.push_each_pair.new.members c.any.result c.any.ensures
    (made_same (each_pair apart (take (length vs - n) (drop n vs)) (take (length us - n) (drop n us))) (each_pair apart (drop n vs) (drop n us)) c.push_each_pair.new.members
    (ap₂ (λ (xs ys : List Affine). each_pair apart xs ys) (whole vs) (whole us))
    (c.in_ok-push_each_pair.ensures [] (new_made c.new-some.result c.new-some.ensures)))
