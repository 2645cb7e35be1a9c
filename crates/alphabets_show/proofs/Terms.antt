-- The terms of a row, column by column.
use Rattle.std.proofs.Common.{◌≡◌, ℕ, zero, suc, ◌+◌, ◌<◌, Bool, true, false, ◌&&◌, List, [], ◌∷◌, ◌++◌, length, take, Option, Some, None, refl, sym, ap, ◌∙◌, arith, append-nil, append_assoc}
use Rattle.std.specs.Prelude.{ℤ, unsigned_abs, ◌==◌, if◌then◌else◌, slice_index_or}
use Rattle.az_lin.specs.Affine.{Affine}
use Rattle.az_text.specs.Lumps.{Lump, bytes_of}
use Rattle.az_text.proofs.LumpLaws.{bytes_of-append}
use Rattle.alphabets_show.specs.Pieces.{is_empty}
use Rattle.alphabets_show.specs.Sides.{Names, Summand, column_name, nonzero, coefficients, magnitude, sign, terms, side, affine}
use Rattle.alphabets_show.specs.Inner.{side_end}

none_before : (first : Bool) → first ≡ (first && true)
none_before true = refl
none_before false = refl

some_before : (first : Bool) → false ≡ (first && false)
some_before true = refl
some_before false = refl

terms-append : (first : Bool) (xs ys : List Summand) → terms first (xs ++ ys) ≡ terms first xs ++ terms (first && is_empty xs) ys
terms-append first [] ys = ap (λ b. terms b ys) (none_before first)
terms-append first (x ∷ xs) ys =
    let own = magnitude (unsigned_abs x.0) x.1 in
    ap (λ (rest : List Lump). sign first x.0 ++ (own ++ rest)) (terms-append false xs ys)
    ∙ (ap (λ (rest : List Lump). sign first x.0 ++ rest) (sym (append_assoc own (terms false xs) (terms false ys)))
    ∙ (sym (append_assoc (sign first x.0) (own ++ terms false xs) (terms false ys)) ∙ ap (λ b. (sign first x.0 ++ (own ++ terms false xs)) ++ terms b ys) (some_before first)))

empty-append : (xs ys : List Summand) → is_empty (xs ++ ys) ≡ (is_empty xs && is_empty ys)
empty-append [] ys = refl
empty-append (x ∷ xs) ys = refl

column_taken : (params : Names) (from : ℕ) (cs : List ℤ) (i : ℕ) (c : ℤ) → i < length cs → c ≡ slice_index_or cs i c
    → coefficients params from (take (suc i) cs) ≡ coefficients params from (take i cs) ++ nonzero c (Some (column_name params (from + i)))
column_taken params from [] i c within here = absurd (omega arith)
column_taken params from (y ∷ cs) zero c within here =
    let at : from ≡ from + 0 = omega arith in
    append-nil (nonzero y (Some (column_name params from))) ∙ (λ i. nonzero (sym here i) (Some (column_name params (at i))))
column_taken params from (y ∷ cs) (suc i) c within here =
    let at : suc from + i ≡ from + suc i = omega arith in
    let own = nonzero y (Some (column_name params from)) in
    ap (λ (rest : List Summand). own ++ rest) (column_taken params (suc from) cs i c (omega arith) here ∙ ap (λ (n : ℕ). coefficients params (suc from) (take i cs) ++ nonzero c (Some (column_name params n))) at)
    ∙ sym (append_assoc own (coefficients params (suc from) (take i cs)) (nonzero c (Some (column_name params (from + suc i)))))

-- an item is the same by each default
same_item : (cs : List ℤ) (i : ℕ) (d e : ℤ) → i < length cs → slice_index_or cs i d ≡ slice_index_or cs i e
same_item [] i d e within = absurd (omega arith)
same_item (c ∷ cs) zero d e within = refl
same_item (c ∷ cs) (suc i) d e within = same_item cs i d e (omega arith)

module _ (params : Names) (cs : List ℤ) (i : ℕ) (d : ℤ) (within : i < length cs) where
  abbrev c : ℤ
  c = slice_index_or cs i d

  here : c ≡ slice_index_or cs i c
  here = same_item cs i d c within

  abbrev so_far : ℕ → List Summand
  so_far k = coefficients params 0 (take k cs)

  one_more : so_far (i + 1) ≡ so_far i ++ nonzero c (Some (column_name params i))
  one_more =
      let next : i + 1 ≡ suc i = omega arith in
      let at : 0 + i ≡ i = omega arith in
      ap so_far next ∙ (column_taken params 0 cs i c within here ∙ ap (λ (n : ℕ). so_far i ++ nonzero c (Some (column_name params n))) at)

  -- the bytes of one coefficient more
  pub coefficient_more : (first : Bool) → first ≡ is_empty (so_far i)
      → bytes_of (terms true (so_far (i + 1))) ≡ bytes_of (terms true (so_far i)) ++ bytes_of (terms first (nonzero c (Some (column_name params i))))
  coefficient_more first is =
      ap (λ (ts : List Summand). bytes_of (terms true ts)) one_more
      ∙ (ap bytes_of (terms-append true (so_far i) (nonzero c (Some (column_name params i))))
      ∙ (bytes_of-append (terms true (so_far i)) (terms (is_empty (so_far i)) (nonzero c (Some (column_name params i))))
      ∙ ap (λ b. bytes_of (terms true (so_far i)) ++ bytes_of (terms b (nonzero c (Some (column_name params i))))) (sym is)))

  empty_nonzero : (name : Option (List ℕ)) → is_empty (nonzero c name) ≡ (unsigned_abs c == 0)
  empty_nonzero name = by (unsigned_abs c == 0)
    where
      by : (b : Bool) → is_empty {A = Summand} (if b then [] else (c, name) ∷ []) ≡ b
      by true = refl
      by false = refl

  pub empty_more : (first : Bool) → first ≡ is_empty (so_far i) → is_empty (so_far (i + 1)) ≡ (first && (unsigned_abs c == 0))
  empty_more first is =
      ap is_empty one_more
      ∙ (empty-append (so_far i) (nonzero c (Some (column_name params i)))
      ∙ (λ j. sym is j && empty_nonzero (Some (column_name params i)) j))

-- the end of a side
side_whole : (xs ys : List Summand) → side (xs ++ ys) ≡ terms true xs ++ side_end (is_empty xs) ys
side_whole [] ys = refl
side_whole (x ∷ xs) ys = terms-append true (x ∷ xs) ys

pub side_bytes : (xs ys : List Summand) (first : Bool) → first ≡ is_empty xs → bytes_of (side (xs ++ ys)) ≡ bytes_of (terms true xs) ++ bytes_of (side_end first ys)
side_bytes xs ys first is =
    ap bytes_of (side_whole xs ys) ∙ (bytes_of-append (terms true xs) (side_end (is_empty xs) ys) ∙ ap (λ b. bytes_of (terms true xs) ++ bytes_of (side_end b ys)) (sym is))

-- a whole row, of which all columns were written
take_all : (cs : List ℤ) → take (length cs) cs ≡ cs
take_all [] = refl
take_all (c ∷ cs) = ap (λ (rest : List ℤ). c ∷ rest) (take_all cs)

pub affine_bytes : (params : Names) (row : Affine) (cs : List ℤ) (i : ℕ) (k : ℤ) (first : Bool) → cs ≡ row.coefs → i ≡ length cs → k ≡ row.konst → first ≡ is_empty (coefficients params 0 (take i cs))
    → bytes_of (terms true (coefficients params 0 (take i cs))) ++ bytes_of (side_end first (nonzero k None)) ≡ bytes_of (affine params row)
affine_bytes params row cs i k first same end constant none =
    let all : take i cs ≡ row.coefs = ap (λ (n : ℕ). take n cs) end ∙ (take_all cs ∙ same) in
    sym (side_bytes (coefficients params 0 (take i cs)) (nonzero k None) first none) ∙ (λ j. bytes_of (side (coefficients params 0 (all j) ++ nonzero (constant j) None)))
