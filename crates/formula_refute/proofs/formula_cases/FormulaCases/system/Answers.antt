use Rattle.std.proofs.Common.{◌≡◌, ◌<◌, ◌++◌, ◌∙◌, List, [], All, ap, sym, subst, get_or}
use Rattle.az_lin.specs.Affine.{Affine, HasWidth}
use Rattle.formula_refute.specs.Claims.{claim}
use Rattle.formula_refute.specs.Cases.{cases}
use Rattle.formula_refute.proofs.CaseWidths.{case_widths}
use Rattle.formula_refute.proofs.formula_cases.FormulaCases.system.Goals as goal

pub new-requires : goal.new-requires
new-requires c =
    let rows : List Affine = get_or (cases (claim c.args.self.now.formula.now)) c.args.number [] in
    let P : List Affine → Type 0 = λ xs. All (HasWidth c.args.self.now.width) xs in
    let made : c.from_vec.result ≡ rows =
    c.from_vec.ensures ∙ c.in_ok-copies.ensures.ok ∙ c.in_ok-push_case.ensures.ok c.requires.all.count_is c.requires.all.few c.requires.here ∙ ap (λ xs. xs ++ rows) c.new-rows.ensures in
    subst P (sym made) (case_widths c.args.self.now.width (claim c.args.self.now.formula.now) c.args.number c.requires.all.widths (subst (λ n. c.args.number < n) c.requires.all.count_is c.requires.here))
