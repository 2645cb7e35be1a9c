use Rattle.std.proofs.Common.{◌≡◌, ◌∙◌, ◌+◌, ◌-◌, ◌++◌, take, replicate, length, ℕ, rules, sym, ap, subst, List, ℤ, pos, arith, All}
use Rattle.std.specs.Vec.{vec_len}
use Rattle.az_lin.specs.Affine.{Affine, IsWide, IsEntry}
use Rattle.az_lin.specs.Inversion.{beside}
use Rattle.az_lin.proofs.TableauSteps.{beside_made, wide_beside, ok_weaker}
use Rattle.az_lin.proofs.tableau.beside.Goals as goal

pub new-requires : goal.new-requires
new-requires c =
    let counted : vec_len c.extend_from_slice.new.self ≡ length c.extend_from_slice.new.self.items = search rules in
    let sized = c.in_ok-resize.ensures.items ∙ ap (λ (m : ℕ). take (c.args.count + c.args.count) c.extend_from_slice.new.self.items ++ replicate ((c.args.count + c.args.count) - m) (pos 0)) counted in
    let made : c.as_slice.result.now ≡ (beside c.args.params c.args.count c.args.number c.args.row.now).coefs =
    beside_made c.args.params c.args.count c.args.number c.args.row.now c.coefs.result.now c.in_ok-coefs.coefs.items c.extend_from_slice.new.self.items c.resize.new.self.items c.as_slice.result.now
    c.coefs.ensures.value c.requires.width c.requires.number c.in_ok-coefs.ensures.items c.in_ok-extend_from_slice.ensures.items sized c.as_slice.ensures.value in
    record {
      coefficients = subst (All IsWide) (sym made) (wide_beside c.args.params c.args.count c.args.number c.args.row.now (subst (All IsEntry) c.coefs.ensures.value c.coefs.ensures.range));
      constant = omega arith;
    }

pub returns-clause-ok : goal.returns-clause-ok
returns-clause-ok c =
    let counted : vec_len c.extend_from_slice.new.self ≡ length c.extend_from_slice.new.self.items = search rules in
    let sized = c.in_ok-resize.ensures.items ∙ ap (λ (m : ℕ). take (c.args.count + c.args.count) c.extend_from_slice.new.self.items ++ replicate ((c.args.count + c.args.count) - m) (pos 0)) counted in
    let made : c.as_slice.result.now ≡ (beside c.args.params c.args.count c.args.number c.args.row.now).coefs =
    beside_made c.args.params c.args.count c.args.number c.args.row.now c.coefs.result.now c.in_ok-coefs.coefs.items c.extend_from_slice.new.self.items c.resize.new.self.items c.as_slice.result.now
    c.coefs.ensures.value c.requires.width c.requires.number c.in_ok-coefs.ensures.items c.in_ok-extend_from_slice.ensures.items sized c.as_slice.ensures.value in
    let With : List ℤ → Affine = λ coefs. record { coefs = coefs; konst = pos 0 } in
    ok_weaker c.new.result _ _ (λ row is. is ∙ ap With made) c.new.ensures.ok
