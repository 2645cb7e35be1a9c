-- Loops over parts of which each has some cases: what is known of the whole once the rest is decided.
use Rattle.std.proofs.Common.{◌≡◌, ℕ, zero, suc, ◌+◌, ◌<◌, ◌≤◌, List, [], ◌∷◌, ◌++◌, length, map, drop, get_or, Result, Ok, Err, refl, sym, ap, subst, ◌∙◌, arith, drop-cons, add-one, All, length-append}
use Rattle.std.specs.List.{flat_map}
use Rattle.std.proofs.Math.Seq.{drop-length}
use Rattle.std.proofs.lemmas.List.Elements.{All-nil}
use Rattle.az_lin.proofs.Lists.{All-left, All-right}
use Rattle.domain_check.specs.Cases.{Case, Series}
use Rattle.domain_check.specs.Stops.{IsRefuted, IsRefutedSeries}
use Rattle.domain_check.specs.Inner.Walked.{DecidesCases, DecidesSeries, DecidesAll}
use Rattle.domain_check.specs.declared.fault.CertifyFault.{CertifyFault}
use Rattle.domain_check.proofs.Steps.{decides_then, decides_stop, series_then, series_stop}

pub drop_next : {A : Type 0} (xs : List A) (i : ℕ) (x : A) → i < length xs → x ≡ get_or xs i x → drop i xs ≡ x ∷ drop (i + 1) xs
drop_next xs i x here is =
    let next : suc i ≡ i + 1 = omega arith in
    drop-cons xs i x here ∙ ap (λ y. y ∷ drop (suc i) xs) (sym is) ∙ ap (λ n. x ∷ drop n xs) next

pub drop_end : {A : Type 0} (xs : List A) (i : ℕ) → i ≡ length xs → drop i xs ≡ []
drop_end xs i end = ap (λ n. drop n xs) end ∙ drop-length xs

-- whatever the rest answers, the whole answers
pub record GoesOn (owner first at : ℕ) (all rest : List Case) : Type 0 where
  pub on : (r : Result ℕ CertifyFault) → DecidesCases owner at rest r → DecidesCases owner first all r
  pub room : at + length rest ≡ first + length all

pub goes_from : (owner first : ℕ) (all : List Case) → GoesOn owner first first all all
goes_from owner first all = record { on = λ r h. h; room = refl }

module _ {A B : Type 0} (h : A → B) (g : B → List Case) (items : List A) (i : ℕ) where
  abbrev rest_of : ℕ → List Case
  rest_of n = flat_map g (map h (drop n items))

  opened : (x : A) → i < length items → x ≡ get_or items i x → rest_of i ≡ g (h x) ++ rest_of (i + 1)
  opened x here is = ap (λ xs. flat_map g (map h xs)) (drop_next items i x here is)

  module _ (owner first at : ℕ) (all : List Case) (goes : GoesOn owner first at all (flat_map g (map h (drop i items)))) where
    pub goes_more : (x : A) (next : ℕ) → i < length items → x ≡ get_or items i x → DecidesCases owner at (g (h x)) (Ok next)
        → GoesOn owner first next all (flat_map g (map h (drop (i + 1) items)))
    goes_more x next here is done =
        let split = opened x here is in
        record {
          on = λ r rest. goes.on r (let P : List Case → Type 0 = λ cs. DecidesCases owner at cs r in subst P (sym split) (decides_then owner at (g (h x)) (rest_of (i + 1)) next done r rest));
          room = omega (arith, goes.room, done.1, ap (λ (cs : List Case). length cs) split, length-append (g (h x)) (rest_of (i + 1)));
        }

    pub goes_stop : (x : A) (fault : CertifyFault) → i < length items → x ≡ get_or items i x → DecidesCases owner at (g (h x)) (Err fault)
        → DecidesCases owner first all (Err fault)
    goes_stop x fault here is stops =
        goes.on (Err fault) (let P : List Case → Type 0 = λ cs. DecidesCases owner at cs (Err fault) in subst P (sym (opened x here is)) (decides_stop owner at (g (h x)) (rest_of (i + 1)) fault stops))

    pub goes_end : i ≡ length items → DecidesCases owner first all (Ok at)
    goes_end end =
        let P : List Case → Type 0 = λ cs. DecidesCases owner at cs (Ok at) in
        let none : rest_of i ≡ [] = ap (λ xs. flat_map g (map h xs)) (drop_end items i end) in
        goes.on (Ok at) (subst P (sym none) (All-nil IsRefuted, omega arith))

    -- there is room for the numbers of the next part
    pub goes_room : (x : A) (bound : ℕ) → i < length items → x ≡ get_or items i x → first + length all < bound → at + length (g (h x)) < bound
    goes_room x bound here is room =
        omega (arith, goes.room, ap (λ (cs : List Case). length cs) (opened x here is), length-append (g (h x)) (rest_of (i + 1)))

-- the same of series

abbrev pub SeriesGoOn : List Series → List Series → Type 0
SeriesGoOn all rest = (r : Result (Unit {0}) CertifyFault) → DecidesAll rest r → DecidesAll all r

module _ (all rest after : List Series) (series : Series) (goes : SeriesGoOn all rest) (split : rest ≡ series ∷ after) where
  pub series_more : DecidesSeries series (Ok tt) → SeriesGoOn all after
  series_more done r h = goes r (let P : List Series → Type 0 = λ ss. DecidesAll ss r in subst P (sym split) (series_then series after done r h))

  pub series_stopped : (fault : CertifyFault) → DecidesSeries series (Err fault) → DecidesAll all (Err fault)
  series_stopped fault stops =
      goes (Err fault) (let P : List Series → Type 0 = λ ss. DecidesAll ss (Err fault) in subst P (sym split) (series_stop series after fault stops))

pub series_end : (all rest : List Series) → SeriesGoOn all rest → rest ≡ [] → DecidesAll all (Ok tt)
series_end all rest goes none =
    goes (Ok tt) (let P : List Series → Type 0 = λ ss. DecidesAll ss (Ok tt) in subst P (sym none) (All-nil IsRefutedSeries))

-- a part has no more cases than the whole
pub piece_few : {A B : Type 0} (h : A → B) (g : B → List Case) (items : List A) (i : ℕ) (x : A) → i < length items → x ≡ get_or items i x
    → length (g (h x)) ≤ length (flat_map g (map h items))
piece_few h g [] i x here is = omega arith
piece_few h g (y ∷ items) zero x here is =
    let same = ap (λ z. length (g (h z))) is in omega (arith, same, length-append (g (h y)) (flat_map g (map h items)))
piece_few h g (y ∷ items) (suc i) x here is =
    let rest = piece_few h g items i x (omega arith) is in omega (arith, rest, length-append (g (h y)) (flat_map g (map h items)))

-- what holds of each part of a whole holds of the part at a place
pub flat_at : {A B : Type 0} (P : B → Type 0) (f : A → List B) (items : List A) (i : ℕ) (x : A) → i < length items → x ≡ get_or items i x → All P (flat_map f items) → All P (f x)
flat_at P f [] i x here is all = absurd (omega arith)
flat_at P f (y ∷ items) zero x here is all = subst (λ z. All P (f z)) (sym is) (All-left P (f y) (flat_map f items) all)
flat_at P f (y ∷ items) (suc i) x here is all = flat_at P f items i x (omega arith) is (All-right P (f y) (flat_map f items) all)
