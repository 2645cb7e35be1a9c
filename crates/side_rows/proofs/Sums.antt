-- Sums of the terms of a column, term by term.
use Rattle.std.proofs.Common.{true≢false, ◌≡◌, ℕ, suc, ◌-◌, ◌^◌, ◌<◌, List, [], ◌∷◌, length, drop, Bool, true, false, if◌then◌else◌, Option, refl, sym, ap, ◌∙◌, arith, drop-cons}
use Rattle.std.specs.List.{list_any, AllByRecursion}
use Rattle.std.proofs.lemmas.Bool.{ltb-false}
use Rattle.std.proofs.lemmas.List.Elements.{All-from_recursion}
use Rattle.az_lin.specs.Affine.{Affine, IsEntry, HasEntries}
use Rattle.std.specs.Prelude.{map, Some, None, ◌||◌, unsigned_abs, slice_index_or, ℤ, pos, neg_ℤ, ◌+ℤ◌}
use Rattle.std.proofs.lemmas.Int.{ints}
use Rattle.std.proofs.lemmas.List.Folds.{list_any_at}
use Rattle.grammar_rules.specs.declared.term.Term.{Term}
use Rattle.side_rows.specs.Entries.{is_out, has_entry_out}
use Rattle.side_rows.specs.Sides.{Scope, Difference, is_of, signed, sum_of, entry_of, row_of}

module _ (column : Option (List ℕ)) (side : List Term) (k : ℕ) (t : Term) (within : k < length side) (here : t ≡ slice_index_or side k t) where
  opened : sum_of column (drop k side) ≡ (if is_of column t then signed t.negative t.factor else pos 0) +ℤ sum_of column (drop (suc k) side)
  opened = ap (sum_of column) (drop-cons side k t within ∙ ap (λ x. x ∷ drop (suc k) side) (sym here))

  pub sum-holding : is_of column t ≡ true → sum_of column (drop k side) ≡ signed t.negative t.factor +ℤ sum_of column (drop (suc k) side)
  sum-holding h = opened ∙ ap (λ b. (if b then signed t.negative t.factor else pos 0) +ℤ sum_of column (drop (suc k) side)) h

  pub sum-other : is_of column t ≡ false → sum_of column (drop k side) ≡ sum_of column (drop (suc k) side)
  sum-other h =
      let step = opened ∙ ap (λ b. (if b then signed t.negative t.factor else pos 0) +ℤ sum_of column (drop (suc k) side)) h in
      omega (arith, ints, step)

pub signed-minus : (negative : Bool) (n : ℕ) → negative ≡ true → signed negative n ≡ neg_ℤ (pos n)
signed-minus negative n h = ap (λ b. if b then neg_ℤ (pos n) else pos n) h

pub signed-plus : (negative : Bool) (n : ℕ) → negative ≡ false → signed negative n ≡ pos n
signed-plus negative n h = ap (λ b. if b then neg_ℤ (pos n) else pos n) h

pub list_any-map : {A B : Type 0} (test : B → Bool) (f : A → B) (xs : List A) → list_any test (map f xs) ≡ list_any (λ x. test (f x)) xs
list_any-map test f [] = refl
list_any-map test f (x ∷ xs) = ap (λ rest. test (f x) || rest) (list_any-map test f xs)

-- where the names of a scope stand in a list
pub entries-out : {A : Type 0} (name_of : A → List ℕ) (names : List A) (scope : Scope) → map name_of names ≡ scope → (d : Difference) →
    has_entry_out (row_of scope d) ≡ (list_any (λ name. is_out (entry_of d (Some (name_of name)))) names || is_out (entry_of d None))
entries-out name_of names scope same d =
    let is_named_out : List ℕ → Bool = λ name. is_out (entry_of d (Some name)) in
    ap (λ b. b || is_out (entry_of d None))
    (list_any-map is_out (λ name. entry_of d (Some name)) scope ∙ (ap (list_any is_named_out) (sym same) ∙ list_any-map is_named_out name_of names))

pub not-true : (b : Bool) → (b ≡ true → ⊥) → b ≡ false
not-true true f = absurd (f refl)
not-true false f = refl

pub or-left : (a b : Bool) → (a || b) ≡ false → a ≡ false
or-left true b h = h
or-left false b h = refl

pub or-right : (a b : Bool) → (a || b) ≡ false → b ≡ false
or-right true b h = absurd (true≢false h)
or-right false b h = h

pub or-false : (a b c : Bool) → a ≡ false → b ≡ c → b ≡ (a || c)
or-false a b c h e = e ∙ sym (ap (λ x. x || c) h)

-- a result under a test of a number, at an equal number
pub conclude : (r : Option ℤ) {n : ℤ} (m : ℤ) → r ≡ (if is_out n then None else Some n) → n ≡ m → r ≡ (if is_out m then None else Some m)
conclude r m is e = is ∙ ap (λ (z : ℤ). if is_out z then None else Some z) e

-- entries that aren't out are in range
entry-within : (z : ℤ) → is_out z ≡ false → IsEntry z
entry-within z h = let le = ltb-false (2 ^ 60 - 1) (unsigned_abs z) h in omega (arith, le)

all-within : (zs : List ℤ) → list_any is_out zs ≡ false → AllByRecursion IsEntry zs
all-within [] h = tt
all-within (z ∷ zs) h = (entry-within z (or-left (is_out z) (list_any is_out zs) h), all-within zs (or-right (is_out z) (list_any is_out zs) h))

pub fits : (r : Affine) → has_entry_out r ≡ false → HasEntries r
fits r h = record {
  coefficients = All-from_recursion IsEntry r.coefs (all-within r.coefs (or-left (list_any is_out r.coefs) (is_out r.konst) h));
  constant = entry-within r.konst (or-right (list_any is_out r.coefs) (is_out r.konst) h);
}

-- a test that no item passes
pub none-at : {A : Type 0} (test : A → Bool) (xs : List A) (k : ℕ) (x : A) → k < length xs → x ≡ slice_index_or xs k x → list_any test xs ≡ false → test x ≡ false
none-at test xs k x within here h = not-true (test x) (λ passes. true≢false (sym (list_any_at test xs k x within (ap test (sym here) ∙ passes)) ∙ h))

-- no entry of a fitting row is out
pub fits-constant : (scope : Scope) (d : Difference) → has_entry_out (row_of scope d) ≡ false → is_out (entry_of d None) ≡ false
fits-constant scope d h = or-right (list_any is_out (row_of scope d).coefs) (is_out (entry_of d None)) h

pub fits-column : {A : Type 0} (name_of : A → List ℕ) (names : List A) (scope : Scope) → map name_of names ≡ scope → (d : Difference) (k : ℕ) (name : A) →
    k < length names → name ≡ slice_index_or names k name → has_entry_out (row_of scope d) ≡ false → is_out (entry_of d (Some (name_of name))) ≡ false
fits-column {A} name_of names scope same d k name within here h =
    let test : A → Bool = λ x. is_out (entry_of d (Some (name_of x))) in
    let none : list_any test names ≡ false = or-left (list_any test names) (is_out (entry_of d None)) (sym (entries-out name_of names scope same d) ∙ h) in
    none-at test names k name within here none
