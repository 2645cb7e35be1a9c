-- Whole numbers and points, compared.
use Rattle.std.proofs.Common.{◌≡◌, ◌⊎◌, inl, inr, List, [], ◌∷◌, refl, sym, ap, subst, ◌∙◌, arith}
use Rattle.std.specs.Prelude.{ℤ, ◌≤ℤ◌, ◌<ℤ◌}
use Rattle.std.specs.Ordering.{int_cmp, ordering_then}
use Rattle.std.specs.declared.cmp.Ordering.{Ordering}
use Rattle.std.specs.declared.cmp.Ordering.TheVariants.{Less, Equal, Greater}
use Rattle.std.specs.Cmp.{int_cmp_total}
use Rattle.std.specs.Cmp.Lexicographic.{slice_cmp}
use Rattle.std.proofs.lemmas.Cmp.{int_ranked}
use Rattle.std.proofs.lemmas.Int.{ints}
use Rattle.az_ast.specs.Points.{Precedes}

-- two whole numbers
abbrev pub Compared : ℤ → ℤ → Type 0
Compared x y = (x ≡ y) ⊎ ((x <ℤ y) ⊎ (y <ℤ x))

pub compared : (x y : ℤ) → Compared x y
compared x y = by (int_cmp x y) refl
  where
    by : (r : Ordering) → r ≡ int_cmp x y → Compared x y
    by Less is = inr (inl (int_ranked x y Less is))
    by Equal is = inl (int_ranked x y Equal is)
    by Greater is = inr (inr (int_ranked x y Greater is))

pub at_most_or : (x y : ℤ) → (x ≤ℤ y) ⊎ (y <ℤ x)
at_most_or x y = elim (compared x y) as (λ _. (x ≤ℤ y) ⊎ (y <ℤ x)) [
  | inl same ↦ inl (omega (arith, ints, same))
  | inr other ↦ elim other as (λ _. (x ≤ℤ y) ⊎ (y <ℤ x)) [ inl less ↦ inl (omega (arith, ints, less)) | inr more ↦ inr more ]
]

-- what the order of the first coordinates says of points
before_is : (x y : ℤ) (r : Ordering) → r ≡ int_cmp x y → x <ℤ y → int_cmp x y ≡ Less
before_is x y Less is h = sym is
before_is x y Equal is h = absurd (let same : x ≡ y = int_ranked x y Equal is in omega (arith, ints, same, h))
before_is x y Greater is h = absurd (let more : y <ℤ x = int_ranked x y Greater is in omega (arith, ints, more, h))

same_is : (x y : ℤ) (r : Ordering) → r ≡ int_cmp x y → x ≡ y → int_cmp x y ≡ Equal
same_is x y Less is h = absurd (let less : x <ℤ y = int_ranked x y Less is in omega (arith, ints, less, h))
same_is x y Equal is h = sym is
same_is x y Greater is h = absurd (let more : y <ℤ x = int_ranked x y Greater is in omega (arith, ints, more, h))

pub precedes_first : (x y : ℤ) (xs ys : List ℤ) → x <ℤ y → Precedes (x ∷ xs) (y ∷ ys)
precedes_first x y xs ys h = ap (λ r. ordering_then r (slice_cmp int_cmp xs ys)) (before_is x y (int_cmp x y) refl h)

pub precedes_next : (x y : ℤ) (xs ys : List ℤ) → x ≡ y → Precedes xs ys → Precedes (x ∷ xs) (y ∷ ys)
precedes_next x y xs ys same h = ap (λ r. ordering_then r (slice_cmp int_cmp xs ys)) (same_is x y (int_cmp x y) refl same) ∙ h

pub precedes_cases : (x y : ℤ) (xs ys : List ℤ) → Precedes (x ∷ xs) (y ∷ ys) → (x <ℤ y) ⊎ ((x ≡ y) × Precedes xs ys)
precedes_cases x y xs ys h = by (int_cmp x y) refl h
  where
    by : (r : Ordering) → r ≡ int_cmp x y → ordering_then r (slice_cmp int_cmp xs ys) ≡ Less → (x <ℤ y) ⊎ ((x ≡ y) × Precedes xs ys)
    by Less is h = inl (int_ranked x y Less is)
    by Equal is h = inr (int_ranked x y Equal is, h)
    by Greater is h = cc

-- two points of one length
pub order_of : (xs ys : List ℤ) → (xs ≡ ys) ⊎ (Precedes xs ys ⊎ Precedes ys xs)
order_of [] [] = inl refl
order_of [] (y ∷ ys) = inr (inl refl)
order_of (x ∷ xs) [] = inr (inr refl)
order_of (x ∷ xs) (y ∷ ys) =
    elim (compared x y) as (λ _. ((x ∷ xs) ≡ (y ∷ ys)) ⊎ (Precedes (x ∷ xs) (y ∷ ys) ⊎ Precedes (y ∷ ys) (x ∷ xs))) [
      | inl same ↦ elim (order_of xs ys) as (λ _. ((x ∷ xs) ≡ (y ∷ ys)) ⊎ (Precedes (x ∷ xs) (y ∷ ys) ⊎ Precedes (y ∷ ys) (x ∷ xs))) [
        | inl rest ↦ inl (cc)
        | inr other ↦ elim other as (λ _. ((x ∷ xs) ≡ (y ∷ ys)) ⊎ (Precedes (x ∷ xs) (y ∷ ys) ⊎ Precedes (y ∷ ys) (x ∷ xs))) [
          | inl less ↦ inr (inl (precedes_next x y xs ys same less))
          | inr more ↦ inr (inr (precedes_next y x ys xs (sym same) more))
        ]
      ]
      | inr other ↦ elim other as (λ _. ((x ∷ xs) ≡ (y ∷ ys)) ⊎ (Precedes (x ∷ xs) (y ∷ ys) ⊎ Precedes (y ∷ ys) (x ∷ xs))) [
        | inl less ↦ inr (inl (precedes_first x y xs ys less))
        | inr more ↦ inr (inr (precedes_first y x ys xs more))
      ]
    ]
