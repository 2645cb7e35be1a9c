-- Points put together from parts, compared part by part.
use Rattle.std.proofs.Common.{◌≡◌, ◌⊎◌, inl, inr, ⊎_elim, List, [], ◌∷◌, ◌++◌, length, refl, subst, arith}
use Rattle.std.specs.Prelude.{ℤ}
use Rattle.az_ast.specs.Points.{Precedes}
use Rattle.az_ast.proofs.TableLemmas.{Precedes-differs, Precedes-chain, Precedes-append}
use Rattle.target_map.proofs.Points.{precedes_first, precedes_next, precedes_cases}

pub never_itself : (xs ys : List ℤ) → xs ≡ ys → Precedes xs ys → ⊥
never_itself xs ys same h = Precedes-differs xs ys h same

pub not_both : (xs ys : List ℤ) → Precedes xs ys → Precedes ys xs → ⊥
not_both xs ys h g = Precedes-differs xs xs (Precedes-chain xs ys xs h g) refl

-- the fronts have one length
pub front_first : (ps qs xs ys : List ℤ) → length ps ≡ length qs → Precedes ps qs → Precedes (ps ++ xs) (qs ++ ys)
front_first [] [] xs ys long h = absurd (never_itself [] [] refl h)
front_first [] (b ∷ qs) xs ys long h = absurd (omega (arith, long))
front_first (a ∷ ps) [] xs ys long h = absurd (omega (arith, long))
front_first (a ∷ ps) (b ∷ qs) xs ys long h =
    ⊎_elim (λ less. precedes_first a b (ps ++ xs) (qs ++ ys) less)
    (λ same. precedes_next a b (ps ++ xs) (qs ++ ys) same.0 (front_first ps qs xs ys (omega (arith, long)) same.1)) (precedes_cases a b ps qs h)

pub front_same : (ps qs xs ys : List ℤ) → ps ≡ qs → Precedes xs ys → Precedes (ps ++ xs) (qs ++ ys)
front_same ps qs xs ys same h = subst (λ zs. Precedes (ps ++ xs) (zs ++ ys)) same (Precedes-append ps xs ys h)

-- and the other way round: the fronts decide, or are the same
pub front_or_rest : (ps qs xs ys : List ℤ) → length ps ≡ length qs → Precedes (ps ++ xs) (qs ++ ys) → Precedes ps qs ⊎ ((ps ≡ qs) × Precedes xs ys)
front_or_rest [] [] xs ys long h = inr (refl, h)
front_or_rest [] (b ∷ qs) xs ys long h = absurd (omega (arith, long))
front_or_rest (a ∷ ps) [] xs ys long h = absurd (omega (arith, long))
front_or_rest (a ∷ ps) (b ∷ qs) xs ys long h =
    ⊎_elim (λ less. inl (precedes_first a b ps qs less))
    (λ same. ⊎_elim (λ l. inl (precedes_next a b ps qs same.0 l)) (λ r. inr ((λ i. same.0 i ∷ r.0 i), r.1))
    (front_or_rest ps qs xs ys (omega (arith, long)) same.1))
    (precedes_cases a b (ps ++ xs) (qs ++ ys) h)

pub same_front : (ps qs xs ys : List ℤ) → length ps ≡ length qs → ps ++ xs ≡ qs ++ ys → (ps ≡ qs) × (xs ≡ ys)
same_front [] [] xs ys long h = (refl, h)
same_front [] (b ∷ qs) xs ys long h = absurd (omega (arith, long))
same_front (a ∷ ps) [] xs ys long h = absurd (omega (arith, long))
same_front (a ∷ ps) (b ∷ qs) xs ys long h =
    let first : a ≡ b = cc in
    let rest : ps ++ xs ≡ qs ++ ys = cc in
    let more = same_front ps qs xs ys (omega (arith, long)) rest in
    ((λ i. first i ∷ more.0 i), more.1)
