use Rattle.std.proofs.Common.{◌≡◌, ◌+◌, ◌<◌, ◌≤◌, ◌++◌, ◌∷◌, [], ℕ, List, length, map, take, get_or, refl, sym, ap, subst, inl, inr, ◌∙◌, arith}
use Rattle.std.proofs.lemmas.List.{get_or_default}
use Rattle.az_lin.specs.declared.step.Derivation.{Derivation}
use Rattle.cert_text.specs.declared.certificate.Proved.{Proved}
use Rattle.formula_refute.specs.Fronts.{IsFront}
use Rattle.formula_refute.specs.declared.front.Stop.{Stop}
use Rattle.formula_refute.specs.declared.front.Stop.TheVariants as stop
use Rattle.formula_refute.proofs.CaseWidths.{length-systems}
use Rattle.formula_refute.proofs.FrontSteps.{front_within}
use Rattle.order_sets.specs.Orders.{StatedClaim}
use Rattle.order_sets.specs.Stated.{stated_claim, IsRefutable}
use Rattle.order_sets.specs.declared.stated.Stated.{Stated}
use Rattle.target_map.specs.declared.which.Which.{Which}
use Rattle.map_verify.specs.Formulas.{HasFewCases, systems_of}
use Rattle.map_verify.specs.Verdicts.{steps_in}
use Rattle.map_verify.proofs.Placed.{claim_here, claim_within, claim_has}
use Rattle.map_verify.proofs.Progress.{takes_many, stops, one_more, steps_after}
use Rattle.map_verify.proofs.decided.decide_formulas.Goals as goal

pub front_of-requires-clause-refutable : goal.front_of-requires-clause-refutable
front_of-requires-clause-refutable g c = λ κs lent.
    claim_has c.args.formulas.now c.formulas.number c.index-formulas-number-in-formulas.result c.formulas-test.true c.index-formulas-number-in-formulas.is IsRefutable c.requires.refutable

pub front_of-requires-clause-few : goal.front_of-requires-clause-few
front_of-requires-clause-few g c = λ κs lent.
    claim_has c.args.formulas.now c.formulas.number c.index-formulas-number-in-formulas.result c.formulas-test.true c.index-formulas-number-in-formulas.is HasFewCases c.requires.few

pub returns-in_default : goal.returns-in_default
returns-in_default g c =
    let list = c.args.formulas.now in
    let i = c.formulas.number in
    let stated = c.index-formulas-number-in-formulas.result in
    let here = c.formulas-test.true in
    let is = c.index-formulas-number-in-formulas.is in
    let front = c.in-Ok.front in
    let lent = c.as_slice.ensures in
    let view = c.derivations.view_is in
    let same : c.as_slice.result.now ≡ front.derivations = cc in
    let more : c.formulas.left < steps_in front.derivations = subst (λ (ds : List Derivation). c.formulas.left < steps_in ds) same c.in_default.ensures in
    inr (
      refl,
      takes_many (map stated_claim list) i (stated_claim stated) (claim_within list i stated here is) (claim_here list i stated here is) c.formulas.proved.items c.formulas.invariant.refuted
          front.derivations front.stop c.in-Ok.ensures.ok c.formulas.left c.formulas.invariant.steps more,
    )

pub overflow_cast-case_no : goal.overflow_cast-case_no
overflow_cast-case_no g c =
    let stated = c.index-formulas-number-in-formulas.result in
    let front = c.in-Ok.front in
    let counted = c.len-case_no.ensures in
    let view = c.derivations.view_is in
    let count : c.len-case_no.result ≡ length front.derivations = cc in
    let within : length front.derivations ≤ length (systems_of (stated_claim stated)) = front_within (systems_of (stated_claim stated)) front c.in-Ok.ensures.ok in
    let cases = length-systems (stated_claim stated).width (stated_claim stated).claim in
    let few : HasFewCases (stated_claim stated) =
    claim_has c.args.formulas.now c.formulas.number stated c.formulas-test.true c.index-formulas-number-in-formulas.is HasFewCases c.requires.few in
    omega (arith, count, within, cases, few)

pub returns-in-Point : goal.returns-in-Point
returns-in-Point g c =
    let list = c.args.formulas.now in
    let i = c.formulas.number in
    let stated = c.index-formulas-number-in-formulas.result in
    let here = c.formulas-test.true in
    let is = c.index-formulas-number-in-formulas.is in
    let front = c.in-Ok.front in
    let lent = c.as_slice.ensures in
    let view = c.derivations.view_is in
    let counted = c.len-case_no.ensures in
    let same : c.as_slice.result.now ≡ front.derivations = cc in
    let count : c.len-case_no.result ≡ length front.derivations = cc in
    let room : c.in-Some.after + steps_in front.derivations ≡ c.formulas.left = subst (λ (ds : List Derivation). c.in-Some.after + steps_in ds ≡ c.formulas.left) same c.in-Some.ensures in
    let name : (get_or list i c.index-formulas-number.result).which ≡ stated.which = ap (λ (s : Stated). s.which) (get_or_default list i c.index-formulas-number.result stated here ∙ sym is) in
    let F : Stop → Type 0 = λ s. IsFront (systems_of (stated_claim stated)) (record { derivations = front.derivations; stop = s }) in
    stops (map stated_claim list) i (stated_claim stated) (claim_within list i stated here is) (claim_here list i stated here is) c.formulas.proved.items c.formulas.invariant.refuted
    front.derivations (stop.Point c.in-Point.point) (subst F c.in-Point.is c.in-Ok.ensures.ok) c.formulas.left c.formulas.invariant.steps
    c.in-Some.after c.len-case_no.result _ room name count

pub returns-in-Overflow : goal.returns-in-Overflow
returns-in-Overflow g c =
    let list = c.args.formulas.now in
    let i = c.formulas.number in
    let stated = c.index-formulas-number-in-formulas.result in
    let here = c.formulas-test.true in
    let is = c.index-formulas-number-in-formulas.is in
    let front = c.in-Ok.front in
    let lent = c.as_slice.ensures in
    let view = c.derivations.view_is in
    let counted = c.len-case_no.ensures in
    let same : c.as_slice.result.now ≡ front.derivations = cc in
    let count : c.len-case_no.result ≡ length front.derivations = cc in
    let room : c.in-Some.after + steps_in front.derivations ≡ c.formulas.left = subst (λ (ds : List Derivation). c.in-Some.after + steps_in ds ≡ c.formulas.left) same c.in-Some.ensures in
    let name : (get_or list i c.index-formulas-number.result).which ≡ stated.which = ap (λ (s : Stated). s.which) (get_or_default list i c.index-formulas-number.result stated here ∙ sym is) in
    let F : Stop → Type 0 = λ s. IsFront (systems_of (stated_claim stated)) (record { derivations = front.derivations; stop = s }) in
    stops (map stated_claim list) i (stated_claim stated) (claim_within list i stated here is) (claim_here list i stated here is) c.formulas.proved.items c.formulas.invariant.refuted
    front.derivations stop.Overflow (subst F c.in-Overflow.is c.in-Ok.ensures.ok) c.formulas.left c.formulas.invariant.steps
    c.in-Some.after c.len-case_no.result _ room name count

pub returns-in-Rows : goal.returns-in-Rows
returns-in-Rows g c =
    let list = c.args.formulas.now in
    let i = c.formulas.number in
    let stated = c.index-formulas-number-in-formulas.result in
    let here = c.formulas-test.true in
    let is = c.index-formulas-number-in-formulas.is in
    let front = c.in-Ok.front in
    let lent = c.as_slice.ensures in
    let view = c.derivations.view_is in
    let same : c.as_slice.result.now ≡ front.derivations = cc in
    let room : c.in-Some.after + steps_in front.derivations ≡ c.formulas.left = subst (λ (ds : List Derivation). c.in-Some.after + steps_in ds ≡ c.formulas.left) same c.in-Some.ensures in
    let F : Stop → Type 0 = λ s. IsFront (systems_of (stated_claim stated)) (record { derivations = front.derivations; stop = s }) in
    inl (
      refl,
      (
        stated.which,
        (
          length front.derivations,
          stops (map stated_claim list) i (stated_claim stated) (claim_within list i stated here is) (claim_here list i stated here is) c.formulas.proved.items c.formulas.invariant.refuted
              front.derivations stop.Rows (subst F c.in-Rows.is c.in-Ok.ensures.ok) c.formulas.left c.formulas.invariant.steps
              c.in-Some.after (length front.derivations) stated.which room refl refl,
        ),
      ),
    )

pub formulas-preserved : goal.formulas-preserved
formulas-preserved g c =
    let list = c.args.formulas.now in
    let i = c.formulas.number in
    let stated = c.index-formulas-number-in-formulas.result in
    let here = c.formulas-test.true in
    let is = c.index-formulas-number-in-formulas.is in
    let front = c.in-Ok.front in
    let lent = c.as_slice.ensures in
    let view = c.derivations.view_is in
    let same : c.as_slice.result.now ≡ front.derivations = cc in
    let room : c.in-Some.after + steps_in front.derivations ≡ c.formulas.left = subst (λ (ds : List Derivation). c.in-Some.after + steps_in ds ≡ c.formulas.left) same c.in-Some.ensures in
    let which : Which = (get_or list i c.index-formulas-number.result).which in
    let name : which ≡ stated.which = ap (λ (s : Stated). s.which) (get_or_default list i c.index-formulas-number.result stated here ∙ sym is) in
    let F : Stop → Type 0 = λ s. IsFront (systems_of (stated_claim stated)) (record { derivations = front.derivations; stop = s }) in
    let whole = subst F c.in-End.is c.in-Ok.ensures.ok in
    let before : List Proved = c.formulas.proved.items in
    let next : List Proved = c.push.new.self.items in
    let items = c.in_ok-push-in-End.ensures.items in
    let pushed : next ≡ before ++ record { which = which; derivations = front.derivations } ∷ [] = cc in
    let all : List StatedClaim = map stated_claim list in
    let within = claim_within list i stated here is in
    let placed = claim_here list i stated here is in
    record {
      refuted = one_more all i (stated_claim stated) within placed before c.formulas.invariant.refuted which name front.derivations whole next pushed;
      steps = steps_after all i (stated_claim stated) within placed before c.formulas.invariant.refuted which name front.derivations whole next pushed c.formulas.left c.in-Some.after c.formulas.invariant.steps room;
    }
