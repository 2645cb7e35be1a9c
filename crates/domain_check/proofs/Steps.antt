-- Cases decided one list after another: where the first are refuted the next go on, and a stop is a stop of the whole.
use Rattle.std.proofs.Common.{◌≡◌, ℕ, ◌+◌, List, [], ◌∷◌, ◌++◌, length, All, Result, Ok, Err, refl, sym, ap, subst, ◌∙◌, arith, append_assoc, length-append}
use Rattle.std.proofs.lemmas.List.Elements.{All-nil, All-cons, All-append}
use Rattle.formula_refute.specs.declared.front.Stop.{Stop}
use Rattle.formula_refute.specs.declared.front.Stop.TheVariants as stop
use Rattle.domain_check.specs.Cases.{Case, Series}
use Rattle.domain_check.specs.Stops.{IsRefuted, IsFirst, IsRefutedSeries, StopsAt}
use Rattle.domain_check.specs.Inner.Walked.{Names, IsFirstFrom, DecidesCases, DecidesSeries, DecidesAll}
use Rattle.domain_check.specs.declared.fault.CheckKind.{CheckKind}
use Rattle.domain_check.specs.declared.fault.CertifyFault.{CertifyFault}
use Rattle.domain_check.specs.declared.fault.CertifyFault.TheVariants.{No, Overflow, Entry, Limit, Memory}

abbrev Stopped : Type 1
Stopped = CheckKind → ℕ → ℕ → Stop → Type 0

pub names_map : (fault : CertifyFault) (P Q : Stopped) → ((kind : CheckKind) (variable number : ℕ) (s : Stop) → P kind variable number s → Q kind variable number s)
    → Names fault P → Names fault Q
names_map (No found) P Q f h = f found.kind found.variable found.case_no (stop.Point found.point) h
names_map (Overflow kind variable number) P Q f h = f kind variable number stop.Overflow h
names_map (Limit limit) P Q f h = (h.0, (h.1.0, h.1.1, h.1.2, f h.1.0 h.1.1 h.1.2 stop.Rows h.1.3))
names_map Entry P Q f h = h
names_map Memory P Q f h = h

first_before : (owner first : ℕ) (xs ys : List Case) (kind : CheckKind) (variable number : ℕ) (s : Stop) → IsFirstFrom owner first xs kind variable number s
    → IsFirstFrom owner first (xs ++ ys) kind variable number s
first_before owner first xs ys kind variable number s h = record {
  place = h.place;
  is = record {
    before = h.is.before;
    system = h.is.system;
    after = h.is.after ++ ys;
    order = ap (λ cs. cs ++ ys) h.is.order ∙ append_assoc h.is.before (record { kind = kind; system = h.is.system } ∷ h.is.after) ys;
    refuted = h.is.refuted;
    here = h.is.here;
    stops = h.is.stops;
  };
  numbered = h.numbered;
  owned = h.owned;
}

first_after : (owner first next : ℕ) (xs ys : List Case) → All IsRefuted xs → next ≡ first + length xs → (kind : CheckKind) (variable number : ℕ) (s : Stop)
    → IsFirstFrom owner next ys kind variable number s → IsFirstFrom owner first (xs ++ ys) kind variable number s
first_after owner first next xs ys refuted at kind variable number s h = record {
  place = length xs + h.place;
  is = record {
    before = xs ++ h.is.before;
    system = h.is.system;
    after = h.is.after;
    order = ap (λ cs. xs ++ cs) h.is.order ∙ sym (append_assoc xs h.is.before (record { kind = kind; system = h.is.system } ∷ h.is.after));
    refuted = All-append IsRefuted xs h.is.before refuted h.is.refuted;
    here = ap (λ n. length xs + n) h.is.here ∙ sym (length-append xs h.is.before);
    stops = h.is.stops;
  };
  numbered = omega (arith, h.numbered, at);
  owned = h.owned;
}

module _ (owner first : ℕ) (xs ys : List Case) where
  pub decides_then : (next : ℕ) → DecidesCases owner first xs (Ok next) → (r : Result ℕ CertifyFault) → DecidesCases owner next ys r → DecidesCases owner first (xs ++ ys) r
  decides_then next h (Ok last) rest =
      (All-append IsRefuted xs ys h.0 rest.0, omega (arith, h.1, rest.1, length-append xs ys))
  decides_then next h (Err fault) rest =
      names_map fault (IsFirstFrom owner next ys) (IsFirstFrom owner first (xs ++ ys)) (first_after owner first next xs ys h.0 h.1) rest

  pub decides_stop : (fault : CertifyFault) → DecidesCases owner first xs (Err fault) → DecidesCases owner first (xs ++ ys) (Err fault)
  decides_stop fault h = names_map fault (IsFirstFrom owner first xs) (IsFirstFrom owner first (xs ++ ys)) (first_before owner first xs ys) h

-- the same of series

stops_before : (xs ys : List Series) (kind : CheckKind) (variable number : ℕ) (s : Stop) → StopsAt xs kind variable number s → StopsAt (xs ++ ys) kind variable number s
stops_before xs ys kind variable number s h = record {
  before = h.before;
  cases = h.cases;
  after = h.after ++ ys;
  order = ap (λ all. all ++ ys) h.order ∙ append_assoc h.before (record { variable = variable; cases = h.cases } ∷ h.after) ys;
  refuted = h.refuted;
  first = h.first;
}

stops_after : (xs ys : List Series) → All IsRefutedSeries xs → (kind : CheckKind) (variable number : ℕ) (s : Stop) → StopsAt ys kind variable number s
    → StopsAt (xs ++ ys) kind variable number s
stops_after xs ys refuted kind variable number s h = record {
  before = xs ++ h.before;
  cases = h.cases;
  after = h.after;
  order = ap (λ all. xs ++ all) h.order ∙ sym (append_assoc xs h.before (record { variable = variable; cases = h.cases } ∷ h.after));
  refuted = All-append IsRefutedSeries xs h.before refuted h.refuted;
  first = h.first;
}

stops_here : (series : Series) (rest : List Series) (kind : CheckKind) (variable number : ℕ) (s : Stop)
    → IsFirstFrom series.variable 0 series.cases kind variable number s → StopsAt (series ∷ rest) kind variable number s
stops_here series rest kind variable number s h =
    let at : h.place ≡ number = omega (arith, h.numbered) in
    let F : ℕ → Type 0 = λ n. IsFirst series.cases kind n s in
    record {
      before = [];
      cases = series.cases;
      after = rest;
      order = ap (λ v. record { variable = v; cases = series.cases } ∷ rest) (sym h.owned);
      refuted = All-nil IsRefutedSeries;
      first = subst F at h.is;
    }

module _ (xs ys : List Series) where
  pub all_then : DecidesAll xs (Ok tt) → (r : Result (Unit {0}) CertifyFault) → DecidesAll ys r → DecidesAll (xs ++ ys) r
  all_then h (Ok done) rest = All-append IsRefutedSeries xs ys h rest
  all_then h (Err fault) rest = names_map fault (StopsAt ys) (StopsAt (xs ++ ys)) (stops_after xs ys h) rest

  pub all_stop : (fault : CertifyFault) → DecidesAll xs (Err fault) → DecidesAll (xs ++ ys) (Err fault)
  all_stop fault h = names_map fault (StopsAt xs) (StopsAt (xs ++ ys)) (stops_before xs ys) h

module _ (series : Series) (rest : List Series) where
  pub series_then : DecidesSeries series (Ok tt) → (r : Result (Unit {0}) CertifyFault) → DecidesAll rest r → DecidesAll (series ∷ rest) r
  series_then h r others = all_then (series ∷ []) rest (All-cons IsRefutedSeries series [] h (All-nil IsRefutedSeries)) r others

  pub series_stop : (fault : CertifyFault) → DecidesSeries series (Err fault) → DecidesAll (series ∷ rest) (Err fault)
  series_stop fault h = names_map fault (IsFirstFrom series.variable 0 series.cases) (StopsAt (series ∷ rest)) (stops_here series rest) h
