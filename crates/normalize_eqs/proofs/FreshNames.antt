-- Fresh names: of one number more than there are names, one gives a name that none has.
use Rattle.std.proofs.Common.{◌≡◌, ◌⊎◌, inl, inr, ⊎_elim, ℕ, zero, suc, ◌+◌, ◌<◌, ◌≤◌, ◌^◌, List, [], ◌∷◌, ◌++◌, length, Bool, true, false, cond, not, ◌||◌, ◌&&◌, Some, refl, sym, ap, ◌∙◌, arith}
use Rattle.std.specs.Prelude.{find, decimal, ◌==◌}
use Rattle.std.specs.List.{list_any, list_all, range_with_len, AllByRecursion}
use Rattle.std.specs.Option.{option_map_or}
use Rattle.std.specs.Char.{is_ascii_digit}
use Rattle.std.specs.Str.{bytes_eq}
use Rattle.std.proofs.lemmas.Fmt.{decimal_injective}
use Rattle.std.proofs.lemmas.List.{append_cancel_left}
use Rattle.std.proofs.lemmas.Slice.Eq.{bytes_eq-Decides}
use Rattle.az_ast.specs.Shapes.{is_index_name}
use Rattle.normalize_eqs.specs.Normal.{numbered_name, fresh_name}

abbrev pub IsTaken : List (List ℕ) → List ℕ → Type 0
IsTaken names name = list_any (bytes_eq name) names ≡ true

same-bytes : (a b : List ℕ) → bytes_eq a b ≡ true → a ≡ b
same-bytes a b is = (bytes_eq-Decides a b).0 is

-- the names without one of them
record Without (names : List (List ℕ)) (name : List ℕ) : Type 0 where
  rest : List (List ℕ)
  fewer : length names ≡ suc (length rest)
  others : (other : List ℕ) → (other ≡ name → ⊥) → IsTaken names other → IsTaken rest other

without : (names : List (List ℕ)) (name : List ℕ) → IsTaken names name → Without names name
without [] name h = cc
without (first ∷ names) name h = by (bytes_eq name first) refl h (λ g. without names name g)
  where
    kept : (other : List ℕ) → name ≡ first → (other ≡ name → ⊥) → (b : Bool) → bytes_eq other first ≡ b → (b || list_any (bytes_eq other) names) ≡ true → IsTaken names other
    kept other same differs true is t = absurd (differs (same-bytes other first is ∙ sym same))
    kept other same differs false is t = t

    longer : (more : Without names name) → (other : List ℕ) → (other ≡ name → ⊥) → (b : Bool) → (b || list_any (bytes_eq other) names) ≡ true → (b || list_any (bytes_eq other) more.rest) ≡ true
    longer more other differs true t = refl
    longer more other differs false t = more.others other differs t

    by : (b : Bool) → bytes_eq name first ≡ b → (b || list_any (bytes_eq name) names) ≡ true → (IsTaken names name → Without names name) → Without (first ∷ names) name
    by true is t deeper = record { rest = names; fewer = refl; others = λ other differs taken. kept other (same-bytes name first is) differs (bytes_eq other first) refl taken }
    by false is t deeper =
        let more = deeper t in
        record { rest = first ∷ more.rest; fewer = ap suc more.fewer; others = λ other differs taken. longer more other differs (bytes_eq other first) taken }

-- as many different names that are all taken are no more than there are names
module _ (name : List ℕ) where
  abbrev Numbered : ℕ → List ℕ
  Numbered n = numbered_name name n

  differ : (m n : ℕ) → m < 2 ^ 64 → n < 2 ^ 64 → (m ≡ n → ⊥) → Numbered m ≡ Numbered n → ⊥
  differ m n fits fits' apart same =
      let tails : 95 ∷ 114 ∷ decimal m ≡ 95 ∷ 114 ∷ decimal n = append_cancel_left name (95 ∷ 114 ∷ decimal m) (95 ∷ 114 ∷ decimal n) same in
      apart (decimal_injective m n fits fits' (ap (λ l. rest_of (rest_of l)) tails))
    where
      rest_of : List ℕ → List ℕ
      rest_of [] = []
      rest_of (x ∷ xs) = xs

  pub all-taken : (from count : ℕ) (names : List (List ℕ)) → from + count ≤ 2 ^ 64 → AllByRecursion (λ n. IsTaken names (Numbered n)) (range_with_len from count) → count ≤ length names
  all-taken from zero names fits all = omega arith
  all-taken from (suc count) names fits all =
      let less = without names (Numbered from) all.0 in
      let rest = all-taken (from + 1) count less.rest (omega (arith, fits)) (later (from + 1) count (omega arith) (omega (arith, fits)) less all.1) in
      omega (arith, rest, less.fewer)
    where
      later : (start many : ℕ) → from < start → start + many ≤ 2 ^ 64 → (less : Without names (Numbered from)) → AllByRecursion (λ n. IsTaken names (Numbered n)) (range_with_len start many) → AllByRecursion (λ n. IsTaken less.rest (Numbered n)) (range_with_len start many)
      later start zero above fits' less taken = tt
      later start (suc many) above fits' less taken = (
        less.others (Numbered start) (differ start from (omega (arith, fits')) (omega (arith, fits', above)) (λ same. omega (arith, same, above))) taken.0,
        later (start + 1) many (omega (arith, above)) (omega (arith, fits')) less taken.1,
      )

  -- what is found is free, and if nothing is found all are taken
  abbrev IsFree : List (List ℕ) → ℕ → Bool
  IsFree names n = not (list_any (bytes_eq (Numbered n)) names)

  found-free : (names : List (List ℕ)) (ns : List ℕ) → ((n : ℕ) × (find (IsFree names) ns ≡ Some n) × (list_any (bytes_eq (Numbered n)) names ≡ false)) ⊎ AllByRecursion (λ n. IsTaken names (Numbered n)) ns
  found-free names [] = inr tt
  found-free names (n ∷ ns) = by (list_any (bytes_eq (Numbered n)) names) refl (found-free names ns)
    where
      by : (b : Bool) → list_any (bytes_eq (Numbered n)) names ≡ b → ((m : ℕ) × (find (IsFree names) ns ≡ Some m) × (list_any (bytes_eq (Numbered m)) names ≡ false)) ⊎ AllByRecursion (λ m. IsTaken names (Numbered m)) ns
          → ((m : ℕ) × (find (IsFree names) (n ∷ ns) ≡ Some m) × (list_any (bytes_eq (Numbered m)) names ≡ false)) ⊎ AllByRecursion (λ m. IsTaken names (Numbered m)) (n ∷ ns)
      by true is rest =
          ⊎_elim
          (λ found. inl (found.0, ap (λ b. cond (not b) (Some n) (find (IsFree names) ns)) is ∙ found.1, found.2))
          (λ all. inr (is, all)) rest
      by false is rest = inl (n, ap (λ b. cond (not b) (Some n) (find (IsFree names) ns)) is, is)

  pub fresh-is_free : (names : List (List ℕ)) → length names < 2 ^ 32 → list_any (bytes_eq (fresh_name names name)) names ≡ false
  fresh-is_free names few =
      ⊎_elim
      (λ found. ap (λ o. list_any (bytes_eq (Numbered (option_map_or (λ n. n) o 0))) names) found.1 ∙ found.2)
      (λ all. absurd (omega (arith, all-taken 1 (suc (length names)) names (omega (arith, few)) all)))
      (found-free names (range_with_len 1 (suc (length names))))

-- and no name of an index
not-digits : (xs ys : List ℕ) → list_all is_ascii_digit (xs ++ 95 ∷ ys) ≡ false
not-digits [] ys = refl
not-digits (x ∷ xs) ys = by (is_ascii_digit x) (not-digits xs ys)
  where
    by : (b : Bool) → list_all is_ascii_digit (xs ++ 95 ∷ ys) ≡ false → (b && list_all is_ascii_digit (xs ++ 95 ∷ ys)) ≡ false
    by true h = h
    by false h = refl

pub numbered-no_index : (name : List ℕ) (n : ℕ) → is_index_name (numbered_name name n) ≡ false
numbered-no_index [] n = refl
numbered-no_index (i ∷ []) n = by (i == 105)
  where
    by : (b : Bool) → (b && list_all is_ascii_digit (95 ∷ 114 ∷ decimal n)) ≡ false
    by true = refl
    by false = refl
numbered-no_index (i ∷ x ∷ rest) n = by (i == 105)
  where
    by : (b : Bool) → (b && list_all is_ascii_digit ((x ∷ rest) ++ 95 ∷ 114 ∷ decimal n)) ≡ false
    by true = not-digits (x ∷ rest) (114 ∷ decimal n)
    by false = refl
