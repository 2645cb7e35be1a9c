-- A field says one number at most, and a record one row.
use Rattle.std.proofs.Common.{◌≡◌, ℕ, zero, suc, ◌+◌, List, [], ◌∷◌, ◌++◌, length, refl, sym, ap, subst, arith, ◌∙◌, ⊎_elim, length-append}
use Rattle.std.specs.Prelude.{ℤ, pos, neg_ℤ, Any}
use Rattle.std.specs.List.{AllZip}
use Rattle.std.specs.Str.Parse.{AllDigits, digits_value}
use Rattle.std.proofs.lemmas.Int.{ints}
use Rattle.std.proofs.lemmas.List.{same_from_push}
use Rattle.std.proofs.lemmas.Str.Parse.{digit_from_value}
use Rattle.az_ast.specs.Tables.{Rows}
use Rattle.table_data.specs.Numbers.{IsNumber, IsUnsigned}
use Rattle.table_data.specs.Records.{Record}
use Rattle.table_data.specs.TableOf.{SaysRow}

zip-unique : {A B : Type 0} (R : A → B → Type 0) → ((x : A) (y z : B) → R x y → R x z → y ≡ z) → (xs : List A) (ys zs : List B) → AllZip R xs ys → AllZip R xs zs → ys ≡ zs
zip-unique R one [] [] [] a b = refl
zip-unique R one [] [] (z ∷ zs) a b = absurd b
zip-unique R one [] (y ∷ ys) zs a b = absurd a
zip-unique R one (x ∷ xs) [] zs a b = absurd a
zip-unique R one (x ∷ xs) (y ∷ ys) [] a b = absurd b
zip-unique {A} {B} R one (x ∷ xs) (y ∷ ys) (z ∷ zs) a b =
    let first = one x y z a.0 b.0 in
    let rest = zip-unique R one xs ys zs a.1 b.1 in
    λ i. first i ∷ rest i

pub zip-length : {A B : Type 0} (R : A → B → Type 0) (xs : List A) (ys : List B) → AllZip R xs ys → length xs ≡ length ys
zip-length R [] [] a = refl
zip-length R [] (y ∷ ys) a = absurd a
zip-length R (x ∷ xs) [] a = absurd a
zip-length R (x ∷ xs) (y ∷ ys) a = ap suc (zip-length R xs ys a.1)

zip-none : {A B : Type 0} (R : A → B → Type 0) (xs : List A) (ys : List B) → AllZip R xs ys → Any (λ x. (y : B) → R x y → ⊥) xs → ⊥
zip-none R [] ys a (k, x, h, is, none) = omega (arith, h)
zip-none R (x ∷ xs) [] a (k, y, h, is, none) = absurd a
zip-none {A} {B} R (x ∷ xs) (y ∷ ys) a (zero, z, h, is, none) = subst (λ (w : A). (v : B) → R w v → ⊥) (sym is) none y a.0
zip-none R (x ∷ xs) (y ∷ ys) a (suc k, z, h, is, none) = zip-none R xs ys a.1 (k, z, omega (arith, h), is, none)

-- a minus sign is no digit
no-digit : (digits field : List ℕ) → field ≡ 45 ∷ digits → AllDigits 10 field → ⊥
no-digit digits field is all =
    let first : AllDigits 10 (45 ∷ digits) = subst (AllDigits 10) is all in
    let r = digit_from_value 45 first.0 in
    omega (arith, r.0)

same_digits : (a b : ℤ) (xs ys : List ℕ) → xs ≡ ys → IsUnsigned xs a → IsUnsigned ys b → a ≡ b
same_digits a b xs ys same x y = x.2 ∙ ap (λ (ds : List ℕ). pos (digits_value 10 ds)) same ∙ sym y.2

pub one_number : (field : List ℕ) (a b : ℤ) → IsNumber field a → IsNumber field b → a ≡ b
one_number field a b (_, x) (_, y) =
    ⊎_elim
    (λ u. ⊎_elim (λ v. same_digits a b field field refl u v) (λ v. absurd (no-digit v.0 field v.1 u.0.1)) y)
    (λ u. ⊎_elim (λ v. absurd (no-digit u.0 field u.1 v.0.1))
    (λ v.
    let tails : 45 ∷ u.0 ≡ 45 ∷ v.0 = sym u.1 ∙ v.1 in
    let same : u.0 ≡ v.0 = cc in
    let negated = same_digits (neg_ℤ a) (neg_ℤ b) u.0 v.0 same u.2 v.2 in
    omega (arith, ints, negated)) y) x

pub one_row : (width : ℕ) (fields : Record) (a b : List ℤ × ℤ) → SaysRow width fields a → SaysRow width fields b → a ≡ b
one_row width fields a b x y =
    let same = zip-unique IsNumber one_number fields (a.0 ++ a.1 ∷ []) (b.0 ++ b.1 ∷ []) x.1 y.1 in
    let parts = same_from_push a.0 b.0 a.1 b.1 same in
    λ i. (parts.0 i, parts.1 i)

pub one_rows : (width : ℕ) (records : List Record) (a b : Rows) → AllZip (SaysRow width) records a → AllZip (SaysRow width) records b → a ≡ b
one_rows width records a b x y = zip-unique (SaysRow width) (one_row width) records a b x y

pub says-long : (width : ℕ) (fields : Record) (row : List ℤ × ℤ) → SaysRow width fields row → length fields ≡ width + 1
says-long width fields row says = let l = zip-length IsNumber fields (row.0 ++ row.1 ∷ []) says.1 in let m = length-append row.0 (row.1 ∷ []) in omega (arith, l, m, says.0)

pub says-numbers : (width : ℕ) (fields : Record) (row : List ℤ × ℤ) → SaysRow width fields row → Any (λ field. (z : ℤ) → IsNumber field z → ⊥) fields → ⊥
says-numbers width fields row says none = zip-none IsNumber fields (row.0 ++ row.1 ∷ []) says.1 none
