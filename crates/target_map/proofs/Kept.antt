-- What every mapping keeps, when its parts are set.
use Rattle.std.proofs.Common.{◌≡◌, ℕ, ◌+◌, ◌<◌, ◌≤◌, List, [], ◌∷◌, ◌++◌, length, Bool, true, false, not, ◌||◌, Option, Some, None, refl, sym, ap, subst, ◌∙◌, arith, All, append-nil, append_assoc}
use Rattle.std.specs.Prelude.{◌==◌, if◌then◌else◌, nat_eq, nat_lt, slice_get, find, option_map}
use Rattle.std.specs.FinMap.{FinMap, get, insert}
use Rattle.std.specs.List.{list_all, list_any, IsDistinct, AllByRecursion}
use Rattle.std.specs.Option.{option_or, option_map_or}
use Rattle.std.specs.Ordering.{nat_cmp}
use Rattle.std.specs.Cmp.Lexicographic.{same_text}
use Rattle.std.proofs.lemmas.Bool.{eqb-true, ltb-false, not-false, not-true}
use Rattle.std.proofs.lemmas.List.Elements.{All-nil, All-cons, All-head, All-tail}
use Rattle.std.proofs.lemmas.Option.{slice_get_within}
use Rattle.std.proofs.lemmas.Map.Steps.{length-le_from_distinct_below}
use lib.Pointwise.{pointwise}
use Rattle.az_lin.specs.Affine.{AffineMap}
use Rattle.az_ast.specs.Shapes.{IsProgram, of_variable, is_input, first_of}
use Rattle.az_ast.specs.System.{System}
use Rattle.az_ast.specs.declared.program.Variable.{Variable}
use Rattle.az_ast.specs.declared.reason.Reason.TheVariants as reason
use Rattle.az_ast.proofs.DistinctNumbers.{distinct_snoc, distinct_none}
use Rattle.az_ast.proofs.ProgramLaws.{few_parts, none_of}
use Rattle.az_ast.proofs.ShapeParts.{neither, none_holds}
use Rattle.target_map.specs.Kinds.{rises_from, is_sized, most_size}
use Rattle.target_map.specs.Refusals.{is_unwritten, name_of, kinds_refusal, time_refusal, has_other_rows, has_other_factors, storage_refusal, storage_refusal_beside, others_in, repeated, order_refusal}
use Rattle.target_map.specs.Settings.{TargetMapping, Storages, no_mapping, with_kinds, with_time, with_storage, with_statements, EachSet, IsMapping, is_written, width_of, IsMapOf, Fits}
use Rattle.target_map.specs.declared.kind.Kind.{Kind}
use Rattle.target_map.specs.declared.storage.Storage.{Storage}
use Rattle.target_map.proofs.Settled.{none_set, one_set}
use Rattle.target_map.proofs.Neighbours.{IsFound, others_found}

pub mapping_is : (m : TargetMapping) (kinds : List Kind) (times : FinMap nat_cmp AffineMap) (storages : Storages) (statements : List ℕ)
    → kinds ≡ m.kinds → times ≡ m.times → storages ≡ m.storages → statements ≡ m.statements → record { kinds = kinds; times = times; storages = storages; statements = statements } ≡ m
mapping_is m kinds times storages statements a b c d = λ t. record { kinds = a t; times = b t; storages = c t; statements = d t }

pub none_is : {A : Type 0} (o : Option A) → ((x : A) → o ≡ Some x → ⊥) → o ≡ None
none_is None never = refl
none_is (Some x) never = absurd (never x refl)

-- what all items of a list have, a repeated one and one that was found have
pub repeated_has : (P : ℕ → Type 0) (earlier xs : List ℕ) (n : ℕ) → repeated earlier xs ≡ Some n → All P xs → P n
repeated_has P earlier [] n is all = cc
repeated_has P earlier (x ∷ xs) n is all = by (list_any (λ y. y == x) earlier) is (λ rest. repeated_has P (earlier ++ x ∷ []) xs n rest (All-tail P x xs all))
  where
    by : (b : Bool) → (if b then Some x else repeated (earlier ++ x ∷ []) xs) ≡ Some n → (repeated (earlier ++ x ∷ []) xs ≡ Some n → P n) → P n
    by true is rest =
        let some : Some x ≡ Some n = is in
        let same : x ≡ n = cc in
        subst P same (All-head P x xs all)
    by false is rest = rest is

pub found_has : (P : ℕ → Type 0) (test : ℕ → Bool) (xs : List ℕ) (n : ℕ) → find test xs ≡ Some n → All P xs → P n
found_has P test [] n is all = cc
found_has P test (x ∷ xs) n is all = by (test x) is (λ rest. found_has P test xs n rest (All-tail P x xs all))
  where
    by : (b : Bool) → (if b then Some x else find test xs) ≡ Some n → (find test xs ≡ Some n → P n) → P n
    by true is rest =
        let some : Some x ≡ Some n = is in
        let same : x ≡ n = cc in
        subst P same (All-head P x xs all)
    by false is rest = rest is

-- nothing is set
pub nothing_kept : IsMapping no_mapping
nothing_kept = record {
  order = refl;
  sizes = refl;
  times = none_set (λ x f. length f.rows ≡ 0);
  factors = none_set (λ x storage. length storage.factors ≡ length storage.map.rows);
  sizes_of_factors = none_set (λ x storage. All (λ factor. factor ≤ most_size) storage.factors);
  spaces = none_set (λ x first. EachSet (λ y second. first.space ≡ second.space → first.factors ≡ second.factors) no_mapping.storages);
  few = omega arith;
}

pub nothing_fits : (p : System) → Fits p no_mapping
nothing_fits p = record { times = none_set (IsMapOf p); storages = none_set (λ x storage. IsMapOf p x storage.map); statements = All-nil (is_written p) }

-- the kinds
pub kinds_kept : (m : TargetMapping) (kinds : List Kind) → IsMapping m → rises_from 0 kinds ≡ true → list_all is_sized kinds ≡ true → IsMapping (with_kinds m kinds)
kinds_kept m kinds kept order sizes = record {
  order = order;
  sizes = sizes;
  times = none_set (λ x f. length f.rows ≡ length kinds);
  factors = kept.factors;
  sizes_of_factors = kept.sizes_of_factors;
  spaces = kept.spaces;
  few = kept.few;
}

pub kinds_fit : (p : System) (m : TargetMapping) (kinds : List Kind) → Fits p m → Fits p (with_kinds m kinds)
kinds_fit p m kinds fits = record { times = none_set (IsMapOf p); storages = fits.storages; statements = fits.statements }

-- a space-time map
module _ (p : System) (m : TargetMapping) (x : ℕ) (f : AffineMap) (accepted : time_refusal p m.kinds x f ≡ None) where
  time_tests : (is_unwritten p x ≡ false) × ((length m.kinds == 0) ≡ false) × ((not (f.width == width_of p x) || not (length f.rows == length m.kinds)) ≡ false)
  time_tests =
      let all = none_holds ((is_unwritten p x, reason.Interface (name_of p x)) ∷ (length m.kinds == 0, reason.Kinds) ∷ (not (f.width == width_of p x) || not (length f.rows == length m.kinds), reason.Width) ∷ []) accepted in
      (all.0, all.1.0, all.1.1.0)

  time_is : IsMapOf p x f × (length f.rows ≡ length m.kinds)
  time_is =
      let widths = neither (not (f.width == width_of p x)) (not (length f.rows == length m.kinds)) time_tests.2 in (
        record {
          written = not-false (of_variable p.variables (λ variable. not (is_input variable.role)) x) time_tests.0;
          columns = eqb-true f.width (width_of p x) (not-false (f.width == width_of p x) widths.0);
        },
        eqb-true (length f.rows) (length m.kinds) (not-false (length f.rows == length m.kinds) widths.1),
      )

  pub time_kept : IsMapping m → IsMapping (with_time m x f)
  time_kept kept = record {
    order = kept.order;
    sizes = kept.sizes;
    times = one_set (λ x f. length f.rows ≡ length m.kinds) m.times x f (λ y g differs set. kept.times y g set) time_is.1;
    factors = kept.factors;
    sizes_of_factors = kept.sizes_of_factors;
    spaces = kept.spaces;
    few = kept.few;
  }

  pub time_fits : Fits p m → Fits p (with_time m x f)
  time_fits fits = record {
    times = one_set (IsMapOf p) m.times x f (λ y g differs set. fits.times y g set) time_is.0;
    storages = fits.storages;
    statements = fits.statements;
  }

-- a variable for which something is set is declared
pub declared : (p : System) (x : ℕ) → is_written p x → x < length p.variables
declared p x written = by (slice_get p.variables x) refl written
  where
    by : (o : Option Variable) → slice_get p.variables x ≡ o → option_map_or (λ (v : Variable). not (is_input v.role)) o false ≡ true → x < length p.variables
    by None is written = cc
    by (Some v) is written = slice_get_within p.variables x v is

none_great : (factors : List ℕ) → list_any (λ factor. nat_lt most_size factor) factors ≡ false → All (λ factor. factor ≤ most_size) factors
none_great [] is = All-nil (λ factor. factor ≤ most_size)
none_great (factor ∷ factors) is =
    let both = neither (nat_lt most_size factor) (list_any (λ factor. nat_lt most_size factor) factors) is in
    All-cons (λ factor. factor ≤ most_size) factor factors (ltb-false most_size factor both.0) (none_great factors both.1)

-- a memory map
module _ (p : System) (m : TargetMapping) (x : ℕ) (storage : Storage) (accepted : storage_refusal p m x storage ≡ None) where
  abbrev other : Option Storage
  other = others_in m.storages storage.space x (length p.variables)

  abbrev rows : ℕ
  rows = length storage.map.rows

  storage_tests : (is_unwritten p x ≡ false) × ((not (storage.map.width == width_of p x) || has_other_rows storage other) ≡ false)
      × ((not (length storage.factors == rows) || list_any (λ factor. nat_lt most_size factor) storage.factors || has_other_factors storage other) ≡ false)
  storage_tests =
      let all = none_holds ((is_unwritten p x, reason.Interface (name_of p x)) ∷ (not (storage.map.width == width_of p x) || has_other_rows storage other, reason.Width)
      ∷ (not (length storage.factors == rows) || list_any (λ factor. nat_lt most_size factor) storage.factors || has_other_factors storage other, reason.Factor) ∷ []) accepted in
      (all.0, all.1.0, all.1.1.0)

  storage_is : IsMapOf p x storage.map
  storage_is =
      let widths = neither (not (storage.map.width == width_of p x)) (has_other_rows storage other) storage_tests.1 in
      record {
        written = not-false (of_variable p.variables (λ variable. not (is_input variable.role)) x) storage_tests.0;
        columns = eqb-true storage.map.width (width_of p x) (not-false (storage.map.width == width_of p x) widths.0);
      }

  factor_tests : ((length storage.factors == rows) ≡ true) × (list_any (λ factor. nat_lt most_size factor) storage.factors ≡ false) × (has_other_factors storage other ≡ false)
  factor_tests =
      let first = neither (not (length storage.factors == rows) || list_any (λ factor. nat_lt most_size factor) storage.factors) (has_other_factors storage other) storage_tests.2 in
      let second = neither (not (length storage.factors == rows)) (list_any (λ factor. nat_lt most_size factor) storage.factors) first.0 in
      (not-false (length storage.factors == rows) second.0, second.1, first.1)

  -- the others of the space have the same factors
  as_others : IsMapping m → Fits p m → (y : ℕ) (s : Storage) → (y ≡ x → ⊥) → get m.storages y ≡ Some s → s.space ≡ storage.space → s.factors ≡ storage.factors
  as_others kept fits y s differs set there =
      let below : y < length p.variables = declared p y (fits.storages y s set).written in
      let found : IsFound m.storages storage.space other = others_found m.storages storage.space x (length p.variables) y s below differs set there in
      let P : Option Storage → Type 0 = λ o. has_other_factors storage o ≡ false in
      let alike : not (pointwise nat_eq storage.factors found.storage.factors) ≡ false = subst P found.is factor_tests.2 in
      let same : storage.factors ≡ found.storage.factors = same_text storage.factors found.storage.factors (sym (not-false (pointwise nat_eq storage.factors found.storage.factors) alike)) in
      kept.spaces y s set found.number found.storage found.set (there ∙ sym found.there) ∙ sym same

  pub storage_kept : IsMapping m → Fits p m → IsMapping (with_storage m x storage)
  storage_kept kept fits = record {
    order = kept.order;
    sizes = kept.sizes;
    times = kept.times;
    factors = one_set (λ x s. length s.factors ≡ length s.map.rows) m.storages x storage (λ y s differs set. kept.factors y s set)
        (eqb-true (length storage.factors) rows factor_tests.0);
    sizes_of_factors = one_set (λ x s. All (λ factor. factor ≤ most_size) s.factors) m.storages x storage (λ y s differs set. kept.sizes_of_factors y s set)
        (none_great storage.factors factor_tests.1);
    spaces = one_set (λ y first. EachSet (λ w second. first.space ≡ second.space → first.factors ≡ second.factors) (insert m.storages x storage)) m.storages x storage
        (λ y first differs set. one_set (λ w second. first.space ≡ second.space → first.factors ≡ second.factors) m.storages x storage
        (λ w second apart here. kept.spaces y first set w second here)
        (λ there. as_others kept fits y first differs set there))
        (one_set (λ w second. storage.space ≡ second.space → storage.factors ≡ second.factors) m.storages x storage
        (λ w second apart here there. sym (as_others kept fits w second apart here (sym there)))
        (λ there. refl));
    few = kept.few;
  }

  pub storage_fits : Fits p m → Fits p (with_storage m x storage)
  storage_fits fits = record {
    times = fits.times;
    storages = one_set (λ x s. IsMapOf p x s.map) m.storages x storage (λ y s differs set. fits.storages y s set) storage_is;
    statements = fits.statements;
  }

-- the statements
no_option : {A B : Type 0} (f : A → B) (o : Option A) → option_map f o ≡ None → o ≡ None
no_option f None is = refl
no_option f (Some x) is = cc

first_none : {A : Type 0} (a b : Option A) → option_or a b ≡ None → (a ≡ None) × (b ≡ None)
first_none None b is = (refl, is)
first_none (Some x) b is = cc

distinct_of : (earlier xs : List ℕ) → IsDistinct ◌==◌ earlier → repeated earlier xs ≡ None → IsDistinct ◌==◌ (earlier ++ xs)
distinct_of earlier [] distinct none = subst (IsDistinct ◌==◌) (sym (append-nil earlier)) distinct
distinct_of earlier (x ∷ xs) distinct none = by (list_any (λ y. y == x) earlier) refl none (λ d rest. distinct_of (earlier ++ x ∷ []) xs d rest)
  where
    by : (b : Bool) → list_any (λ y. y == x) earlier ≡ b → (if b then Some x else repeated (earlier ++ x ∷ []) xs) ≡ None
        → (IsDistinct ◌==◌ (earlier ++ x ∷ []) → repeated (earlier ++ x ∷ []) xs ≡ None → IsDistinct ◌==◌ ((earlier ++ x ∷ []) ++ xs)) → IsDistinct ◌==◌ (earlier ++ x ∷ xs)
    by true there none rest = let two : Some x ≡ None = none in cc
    by false apart none rest =
        let more = rest (distinct_snoc ◌==◌ earlier x distinct (none_of (λ y. y == x) earlier apart)) none in
        subst (IsDistinct ◌==◌) (append_assoc earlier (x ∷ []) xs) more

module _ (p : System) (m : TargetMapping) (statements : List ℕ) (accepted : order_refusal p statements ≡ None) where
  order_tests : (repeated [] statements ≡ None) × (find (is_unwritten p) statements ≡ None)
  order_tests =
      let both = first_none (option_map (λ x. reason.Twice (name_of p x)) (repeated [] statements)) (option_map (λ x. reason.Interface (name_of p x)) (find (is_unwritten p) statements)) accepted in
      (no_option (λ x. reason.Twice (name_of p x)) (repeated [] statements) both.0, no_option (λ x. reason.Interface (name_of p x)) (find (is_unwritten p) statements) both.1)

  all_written : (xs : List ℕ) → find (is_unwritten p) xs ≡ None → All (is_written p) xs
  all_written [] none = All-nil (is_written p)
  all_written (x ∷ xs) none = by (is_unwritten p x) refl none (λ rest. all_written xs rest)
    where
      by : (b : Bool) → is_unwritten p x ≡ b → (if b then Some x else find (is_unwritten p) xs) ≡ None → (find (is_unwritten p) xs ≡ None → All (is_written p) xs) → All (is_written p) (x ∷ xs)
      by true is none rest = let two : Some x ≡ None = none in cc
      by false is none rest =
          All-cons (is_written p) x xs (not-false (of_variable p.variables (λ variable. not (is_input variable.role)) x) is) (rest none)

  below_all : (xs : List ℕ) → All (is_written p) xs → (q : ℕ) → list_any (◌==◌ q) xs ≡ true → q < length p.variables
  below_all [] all q there = cc
  below_all (x ∷ xs) all q there = by (q == x) refl there (λ later. below_all xs (All-tail (is_written p) x xs all) q later)
    where
      by : (b : Bool) → (q == x) ≡ b → (b || list_any (◌==◌ q) xs) ≡ true → (list_any (◌==◌ q) xs ≡ true → q < length p.variables) → q < length p.variables
      by true same there later =
          let P : ℕ → Type 0 = λ n. n < length p.variables in
          subst P (sym (eqb-true q x same)) (declared p x (All-head (is_written p) x xs all))
      by false apart there later = later there

  pub statements_kept : IsProgram p → IsMapping m → IsMapping (with_statements m statements)
  statements_kept program kept =
      let distinct : IsDistinct ◌==◌ statements = distinct_of [] statements (distinct_none ◌==◌) order_tests.0 in
      let few = length-le_from_distinct_below statements (length p.variables) distinct (below_all statements (all_written statements order_tests.1)) in
      let bound = (few_parts p program).0 in
      record {
        order = kept.order;
        sizes = kept.sizes;
        times = kept.times;
        factors = kept.factors;
        sizes_of_factors = kept.sizes_of_factors;
        spaces = kept.spaces;
        few = omega (arith, few, bound);
      }

  pub statements_fit : Fits p m → Fits p (with_statements m statements)
  statements_fit fits = record { times = fits.times; storages = fits.storages; statements = all_written statements order_tests.1 }
