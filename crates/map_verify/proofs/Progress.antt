-- One formula after another is refuted, until a case stops it or too many steps were taken.
use Rattle.std.proofs.Common.{◌≡◌, ℕ, ◌+◌, ◌<◌, ◌≤◌, List, [], ◌∷◌, ◌++◌, length, take, get_or, Some, refl, sym, ap, subst, ◌∙◌, arith}
use Rattle.std.specs.Prelude.{slice_get}
use Rattle.std.specs.List.{AllZip}
use Rattle.std.proofs.lemmas.List.Sums.{sum_by_push}
use Rattle.std.proofs.lemmas.Option.{slice_get_read}
use Rattle.az_lin.specs.declared.step.Derivation.{Derivation}
use Rattle.cert_text.specs.declared.certificate.Proved.{Proved}
use Rattle.formula_refute.specs.Fronts.{IsFront}
use Rattle.formula_refute.specs.declared.front.Stop.{Stop}
use Rattle.formula_refute.specs.declared.front.Stop.TheVariants.{End}
use Rattle.formula_refute.proofs.Promises.{ended_front}
use Rattle.order_sets.specs.Orders.{StatedClaim}
use Rattle.target_map.specs.declared.which.Which.{Which}
use Rattle.map_verify.specs.Formulas.{systems_of}
use Rattle.map_verify.specs.Verdicts.{IsRefutedAs, Reaches, StopsAt, TakesManySteps, steps_in, steps_of, most_steps}
use Rattle.map_verify.proofs.Alongside.{zip_more, zip_count, zip_front}

-- the formulas before the one with this number are refuted
module _ (all : List StatedClaim) (i : ℕ) (here : StatedClaim) (within : i < length all) (is : here ≡ get_or all i here) (before : List Proved)
    (so_far : AllZip IsRefutedAs (take i all) before) where
  reached : Reaches all before here
  reached =
      let count : length before ≡ i = zip_count IsRefutedAs all before i (omega (arith, within)) so_far in
      let P : ℕ → Type 0 = λ n. slice_get all n ≡ Some here in
      record {
        place = subst P (sym count) (slice_get_read all (length all) i here refl within is);
        refuted = zip_front IsRefutedAs all before i (omega (arith, within)) so_far;
      }

  module _ (derivations : List Derivation) (end : Stop) (front : IsFront (systems_of here) (record { derivations = derivations; stop = end })) (left : ℕ)
      (steps : left + steps_of before ≡ most_steps) where
    pub takes_many : left < steps_in derivations → TakesManySteps all
    takes_many many =
        record { before = before; here = here; derivations = derivations; reached = reached; refuted = front.refuted; many = omega (arith, steps, many) }

    pub stops : (after case_no : ℕ) (which : Which) → after + steps_in derivations ≡ left → which ≡ here.which → case_no ≡ length derivations → StopsAt all which case_no end
    stops after case_no which room name number =
        record {
          before = before;
          here = here;
          derivations = derivations;
          reached = reached;
          front = front;
          name = name;
          number = number;
          few = omega (arith, steps, room);
        }

  -- this one is refuted too
  module _ (which : Which) (name : which ≡ here.which) (derivations : List Derivation) (front : IsFront (systems_of here) (record { derivations = derivations; stop = End })) (next : List Proved)
      (pushed : next ≡ before ++ record { which = which; derivations = derivations } ∷ []) where
    pub one_more : AllZip IsRefutedAs (take (i + 1) all) next
    one_more =
        let proved : Proved = record { which = which; derivations = derivations } in
        zip_more IsRefutedAs all before next i here proved within is so_far (record { name = name; cases = ended_front (systems_of here) derivations front }) pushed

    pub steps_after : (left after : ℕ) → left + steps_of before ≡ most_steps → after + steps_in derivations ≡ left → after + steps_of next ≡ most_steps
    steps_after left after steps room =
        let proved : Proved = record { which = which; derivations = derivations } in
        let sum : steps_of next ≡ steps_of before + steps_in derivations = ap steps_of pushed ∙ sum_by_push (λ (one : Proved). steps_in one.derivations) before proved in
        omega (arith, sum, steps, room)
