-- What a front says of the cases of a formula.
use Rattle.std.proofs.Common.{◌≡◌, ◌≢◌, ℕ, suc, ◌+◌, ◌<◌, ◌≤◌, List, [], ◌∷◌, ◌++◌, length, map, take, drop, All, Ok, Err, refl, sym, ap, subst, ◌∙◌, arith, ⊎_elim}
use Rattle.std.proofs.lemmas.List.{length-map}
use Rattle.std.specs.List.{AllZip}
use Rattle.std.proofs.lemmas.List.Elements.{All-nil, All-cons}
use Rattle.az_lin.specs.Affine.{Polyhedron}
use Rattle.az_lin.specs.declared.step.Derivation.{Derivation}
use Rattle.farkas_find.specs.Verdict.{IsRefutedBy}
use Rattle.az_lin.specs.declared.limit.Limit.{Limit}
use Rattle.az_lin.specs.declared.limit.Limit.TheVariants.{Systems, Rows as TooManyRows}
use Rattle.formula_refute.specs.Cases.{systems, most_systems}
use Rattle.formula_refute.specs.Claims.{Claim}
use Rattle.formula_refute.specs.Fronts.{IsFront, Stops, StopsAtFirst}
use Rattle.formula_refute.specs.Promise.{Refutes, StopsAtCase}
use Rattle.formula_refute.specs.declared.fault.RefuteFault.TheVariants as fault
use Rattle.formula_refute.specs.declared.refutation.Answer.TheVariants.{Yes}
use Rattle.formula_refute.specs.declared.front.Stop.{Stop}
use Rattle.formula_refute.specs.declared.front.Stop.TheVariants.{End, Rows}
use Rattle.domain_check.specs.Cases.{Case, cases_of_claim}
use Rattle.domain_check.specs.Inner.Walked.{IsFirstFrom, DecidesCases}
use Rattle.domain_check.specs.Stops.{IsRefuted, IsFirst}
use Rattle.domain_check.specs.declared.fault.CheckKind.{CheckKind}

abbrev AreRefutedBy : List Polyhedron → List Derivation → Type 0
AreRefutedBy systems derivations = AllZip (λ (system : Polyhedron) (derivation : Derivation). IsRefutedBy system derivation.steps) systems derivations

module _ (kind : CheckKind) where
  abbrev case_of : Polyhedron → Case
  case_of system = record { kind = kind; system = system }

  pub front_end : (systems : List Polyhedron) (ds : List Derivation) → AreRefutedBy (take (length ds) systems) ds → StopsAtFirst (drop (length ds) systems) End
      → All IsRefuted (map case_of systems) × (length ds ≡ length systems)
  front_end [] [] h stops = (All-nil IsRefuted, refl)
  front_end [] (d ∷ ds) h stops = absurd h
  front_end (s ∷ ss) [] h stops = absurd stops
  front_end (s ∷ ss) (d ∷ ds) h stops =
      let rest = front_end ss ds h.1 stops in
      (All-cons IsRefuted (case_of s) (map case_of ss) (d.steps, h.0) rest.0, ap suc rest.1)

  pub front_stop : (systems : List Polyhedron) (ds : List Derivation) (stop : Stop) → AreRefutedBy (take (length ds) systems) ds → StopsAtFirst (drop (length ds) systems) stop
      → stop ≢ End → IsFirst (map case_of systems) kind (length ds) stop
  front_stop [] [] stop h stops no_end = absurd (no_end stops)
  front_stop [] (d ∷ ds) stop h stops no_end = absurd h
  front_stop (s ∷ ss) [] stop h stops no_end = record {
    before = [];
    system = s;
    after = map case_of ss;
    order = refl;
    refuted = All-nil IsRefuted;
    here = refl;
    stops = stops;
  }
  front_stop (s ∷ ss) (d ∷ ds) stop h stops no_end =
      let rest = front_stop ss ds stop h.1 stops no_end in
      record {
        before = case_of s ∷ rest.before;
        system = rest.system;
        after = rest.after;
        order = ap (λ cs. case_of s ∷ cs) rest.order;
        refuted = All-cons IsRefuted (case_of s) rest.before (d.steps, h.0) rest.refuted;
        here = ap suc rest.here;
        stops = rest.stops;
      }

-- the answers to a formula
module _ (kind : CheckKind) (owner first width : ℕ) (c : Claim) where
  formula_front : (ds : List Derivation) → IsFront (systems width c) (record { derivations = ds; stop = End }) → All IsRefuted (cases_of_claim kind width c) × (length ds ≡ length (systems width c))
  formula_front ds front = front_end kind (systems width c) ds front.refuted front.stop

  pub formula_count : (ds : List Derivation) → Refutes (systems width c) (Ok (Yes ds)) → length ds ≡ length (systems width c)
  formula_count ds h = (formula_front ds h.1).1

  pub formula_yes : (ds : List Derivation) (count : ℕ) → Refutes (systems width c) (Ok (Yes ds)) → count ≡ length ds → DecidesCases owner first (cases_of_claim kind width c) (Ok (first + count))
  formula_yes ds count h is =
      let all = formula_front ds h.1 in
      (all.0, ap (λ n. first + n) (is ∙ all.1 ∙ sym (length-map (systems width c) (case_of kind))))

  pub formula_stop : (number : ℕ) (stop : Stop) → StopsAtCase (systems width c) number stop → stop ≢ End → IsFirstFrom owner first (cases_of_claim kind width c) kind owner (first + number) stop
  formula_stop number stop h no_end =
      let F : ℕ → Type 0 = λ n. IsFirst (cases_of_claim kind width c) kind n stop in
      record {
        place = number;
        is = subst F (sym h.here) (front_stop kind (systems width c) h.derivations stop h.front.refuted h.front.stop no_end);
        numbered = refl;
        owned = refl;
      }

  pub formula_limit : (limit : Limit) → Refutes (systems width c) (Err (fault.Limit limit)) → length (systems width c) ≤ most_systems
      → (k : CheckKind) × (variable : ℕ) × (number : ℕ) × IsFirstFrom owner first (cases_of_claim kind width c) k variable number Rows
  formula_limit limit h few =
      ⊎_elim
      (λ (many : (limit ≡ Systems) × (most_systems < length (systems width c))). absurd (let above = many.1 in omega arith))
      (λ (rows : (limit ≡ TooManyRows) × (length (systems width c) ≤ most_systems) × ((number : ℕ) × StopsAtCase (systems width c) number Rows)).
      (kind, owner, first + rows.2.0, formula_stop rows.2.0 Rows rows.2.1 (λ e. cc)))
      h
