-- A list whose items are changed in place, one by one: the next item is still the old one.
use Rattle.std.proofs.Common.{◌≡◌, ℕ, zero, suc, ◌<◌, ◌∙◌, ap, refl, sym, arith, List, [], ◌∷◌, ◌++◌, length, get_or, map, take, drop, ℤ, pos}

pub get_or-rest : (f : ℤ → ℤ) (xs : List ℤ) (i : ℕ) (d : ℤ) → i < length xs → get_or (map f (take i xs) ++ drop i xs) i d ≡ get_or xs i d
get_or-rest f [] i d h = absurd (omega arith)
get_or-rest f (x ∷ xs) zero d h = refl
get_or-rest f (x ∷ xs) (suc i) d h = get_or-rest f xs i d (omega arith)

-- inside a list, what stands for a place outside doesn't matter
pub get_or-any : (xs : List ℤ) (i : ℕ) (d e : ℤ) → i < length xs → get_or xs i d ≡ get_or xs i e
get_or-any [] i d e h = absurd (omega arith)
get_or-any (x ∷ xs) zero d e h = refl
get_or-any (x ∷ xs) (suc i) d e h = get_or-any xs i d e (omega arith)

pub current : (f : ℤ → ℤ) (xs now : List ℤ) (i : ℕ) (x : ℤ) → i < length xs → now ≡ map f (take i xs) ++ drop i xs → x ≡ get_or now i x
    → (x ≡ get_or now i (pos 0)) × (x ≡ get_or xs i x)
current f xs now i x inside is here =
    let same : (d : ℤ) → get_or now i d ≡ get_or xs i d = λ d. ap (λ (ys : List ℤ). get_or ys i d) is ∙ get_or-rest f xs i d inside in
    (here ∙ same x ∙ get_or-any xs i x (pos 0) inside ∙ sym (same (pos 0)), here ∙ same x)
