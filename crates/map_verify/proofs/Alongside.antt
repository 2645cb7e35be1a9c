-- Two lists side by side, the second as long as a front of the first.
use Rattle.std.proofs.Common.{◌≡◌, ℕ, zero, suc, ◌+◌, ◌<◌, ◌≤◌, List, [], ◌∷◌, ◌++◌, length, take, get_or, Option, Some, refl, sym, ap, subst, ◌∙◌, arith}
use Rattle.std.specs.Prelude.{slice_get}
use Rattle.std.specs.List.{AllZip}
use Rattle.std.proofs.lemmas.List.{take_more, length-take-le}
use Rattle.std.proofs.lemmas.Option.{slice_get_read}
use Rattle.std.proofs.lemmas.Slice.Zip.{all_zipped_more, AllZip-long}
use Rattle.std.proofs.Math.Seq.{take-length}

module _ {A B : Type 0} (R : A → B → Type 0) where
  pub zip_more : (xs : List A) (ys next : List B) (i : ℕ) (x : A) (y : B) → i < length xs → x ≡ get_or xs i x → AllZip R (take i xs) ys → R x y → next ≡ ys ++ y ∷ []
      → AllZip R (take (i + 1) xs) next
  zip_more xs ys next i x y here is before r pushed =
      let taken : take (i + 1) xs ≡ take i xs ++ x ∷ [] = take_more xs i x here ∙ ap (λ z. take i xs ++ z ∷ []) (sym is) in
      let P : List A → Type 0 = λ zs. AllZip R zs next in
      let Q : List B → Type 0 = λ zs. AllZip R (take i xs ++ x ∷ []) zs in
      subst P (sym taken) (subst Q (sym pushed) (all_zipped_more R (take i xs) ys x y before r))

  pub zip_count : (xs : List A) (ys : List B) (i : ℕ) → i ≤ length xs → AllZip R (take i xs) ys → length ys ≡ i
  zip_count xs ys i within so_far = AllZip-long R (take i xs) ys so_far ∙ length-take-le i xs within

  pub zip_whole : (xs : List A) (ys : List B) (i : ℕ) → i ≡ length xs → AllZip R (take i xs) ys → AllZip R xs ys
  zip_whole xs ys i end so_far = let P : List A → Type 0 = λ zs. AllZip R zs ys in subst P (ap (λ n. take n xs) end ∙ take-length xs) so_far

  -- the front as long as the second list
  pub zip_front : (xs : List A) (ys : List B) (i : ℕ) → i ≤ length xs → AllZip R (take i xs) ys → AllZip R (take (length ys) xs) ys
  zip_front xs ys i within so_far = let P : ℕ → Type 0 = λ n. AllZip R (take n xs) ys in subst P (sym (zip_count xs ys i within so_far)) so_far

  -- both lists cut at the same place
  pub zip_cut : (xs : List A) (ys : List B) (n : ℕ) → AllZip R xs ys → AllZip R (take n xs) (take n ys)
  zip_cut xs ys zero all = tt
  zip_cut [] [] (suc n) all = tt
  zip_cut [] (y ∷ ys) (suc n) all = absurd all
  zip_cut (x ∷ xs) [] (suc n) all = absurd all
  zip_cut (x ∷ xs) (y ∷ ys) (suc n) all = (all.0, zip_cut xs ys n all.1)

  pub zip_next : (xs : List A) (ys : List B) (i : ℕ) (x : A) (y : B) → i < length xs → i < length ys → x ≡ get_or xs i x → y ≡ get_or ys i y
      → AllZip R (take i xs) (take i ys) → R x y → AllZip R (take (i + 1) xs) (take (i + 1) ys)
  zip_next xs ys i x y here there is is' before r =
      zip_more xs (take i ys) (take (i + 1) ys) i x y here is before r (take_more ys i y there ∙ ap (λ z. take i ys ++ z ∷ []) (sym is'))

  -- what stands beside an item
  pub zip_at : (xs : List A) (ys : List B) (i : ℕ) (x : A) → AllZip R xs ys → slice_get xs i ≡ Some x → (y : B) × (slice_get ys i ≡ Some y) × R x y
  zip_at [] [] i x all here = absurd (cc)
  zip_at [] (y ∷ ys) i x all here = absurd all
  zip_at (z ∷ xs) [] i x all here = absurd all
  zip_at (z ∷ xs) (y ∷ ys) zero x all here =
      let same : z ≡ x = cc in
      let P : A → Type 0 = λ it. R it y in
      (y, refl, subst P same all.0)
  zip_at (z ∷ xs) (y ∷ ys) (suc i) x all here = zip_at xs ys i x all.1 here

  -- both lists are as long as the front
  pub zip_within : (xs : List A) (ys : List B) (n : ℕ) → n ≤ length xs → AllZip R (take n xs) (take n ys) → n ≤ length ys
  zip_within xs ys zero within all = omega arith
  zip_within [] ys (suc n) within all = absurd (omega (arith, within))
  zip_within (x ∷ xs) [] (suc n) within all = absurd all
  zip_within (x ∷ xs) (y ∷ ys) (suc n) within all = let rest = zip_within xs ys n (omega (arith, within)) all.1 in omega (arith, rest)
