-- The formulas of cells, with one coordinate more.
use Rattle.std.proofs.Common.{◌≡◌, ℕ, zero, suc, ◌+◌, ◌<◌, ◌≤◌, List, [], ◌∷◌, ◌++◌, length, take, min, get_or, All, refl, sym, ap, ap₂, ◌∙◌, arith}
use Rattle.std.specs.Prelude.{ℤ, pos}
use Rattle.std.proofs.lemmas.List.{length-take-le}
use Rattle.std.proofs.lemmas.List.Elements.{All-head, All-tail}
use Rattle.az_lin.specs.Affine.{Affine}
use Rattle.az_lin.specs.Difference.{apart_by}
use Rattle.formula_refute.specs.Claims.{Claim, atom, all_of, any_of, claims}
use Rattle.life_sets.specs.Cells.{meets, same_cell}
use Rattle.order_sets.specs.NotBefore.{both_ways}
use Rattle.order_sets.proofs.Places.{taken_next, get_same}

-- a factor that isn't 0
pub meets_far : (factor : ℕ) (n : ℤ) (u v : Affine) → (factor ≡ 0 → ⊥) → n ≡ pos factor
    → any_of (claims (all_of (claims (both_ways u v)) ∷ atom (apart_by n u v) ∷ atom (apart_by n v u) ∷ [])) ≡ meets factor u v
meets_far zero n u v some is = absurd (some refl)
meets_far (suc less) n u v some is = ap (λ (k : ℤ). any_of (claims (all_of (claims (both_ways u v)) ∷ atom (apart_by k u v) ∷ atom (apart_by k v u) ∷ []))) is

pub meets_equal : (factor : ℕ) (u v : Affine) → factor ≡ 0 → all_of (claims (both_ways u v)) ≡ meets factor u v
meets_equal factor u v is = ap (λ n. meets n u v) (sym is)

cell_append : (factors : List ℕ) (us vs : List Affine) (factor : ℕ) (u v : Affine) → length factors ≡ length us → length factors ≡ length vs
    → same_cell (factors ++ factor ∷ []) (us ++ u ∷ []) (vs ++ v ∷ []) ≡ same_cell factors us vs ++ meets factor u v ∷ []
cell_append [] [] [] factor u v same same' = refl
cell_append [] (x ∷ us) vs factor u v same same' = absurd (omega arith)
cell_append [] [] (y ∷ vs) factor u v same same' = absurd (omega arith)
cell_append (f ∷ factors) [] vs factor u v same same' = absurd (omega arith)
cell_append (f ∷ factors) (x ∷ us) [] factor u v same same' = absurd (omega arith)
cell_append (f ∷ factors) (x ∷ us) (y ∷ vs) factor u v same same' = ap (λ (cs : List Claim). meets f x y ∷ cs) (cell_append factors us vs factor u v (omega arith) (omega arith))

pub cell_more : (factors : List ℕ) (us vs : List Affine) (i d : ℕ) (u v : Affine) → i < length factors → i < length us → i < length vs → u ≡ get_or us i u → v ≡ get_or vs i v
    → same_cell (take (i + 1) factors) (take (i + 1) us) (take (i + 1) vs) ≡ same_cell (take i factors) (take i us) (take i vs) ++ meets (get_or factors i d) u v ∷ []
cell_more factors us vs i d u v here there third is is' =
    let factor = get_or factors i d in
    ap₂ (λ (xs ys : List Affine). same_cell (take (i + 1) factors) xs ys) (taken_next us i u there is) (taken_next vs i v third is')
    ∙ ap (λ (ns : List ℕ). same_cell ns (take i us ++ u ∷ []) (take i vs ++ v ∷ [])) (taken_next factors i factor here (get_same factors i d here))
    ∙ cell_append (take i factors) (take i us) (take i vs) factor u v
    (omega (arith, length-take-le i factors (omega arith), length-take-le i us (omega arith))) (omega (arith, length-take-le i factors (omega arith), length-take-le i vs (omega arith)))

pub cell_whole : (factors : List ℕ) (us vs : List Affine) (n : ℕ) → min (min (length factors) (length us)) (length vs) ≤ n
    → same_cell (take n factors) (take n us) (take n vs) ≡ same_cell factors us vs
cell_whole [] us vs zero all = refl
cell_whole [] us vs (suc n) all = refl
cell_whole (f ∷ factors) [] vs zero all = refl
cell_whole (f ∷ factors) [] vs (suc n) all = refl
cell_whole (f ∷ factors) (u ∷ us) [] zero all = refl
cell_whole (f ∷ factors) (u ∷ us) [] (suc n) all = refl
cell_whole (f ∷ factors) (u ∷ us) (v ∷ vs) zero all = absurd (omega arith)
cell_whole (f ∷ factors) (u ∷ us) (v ∷ vs) (suc n) all = ap (λ (cs : List Claim). meets f u v ∷ cs) (cell_whole factors us vs n (omega arith))

-- what all items have, the one at a place has
pub item_has : {A : Type 0} (P : A → Type 0) (xs : List A) (i : ℕ) (d : A) → i < length xs → All P xs → P (get_or xs i d)
item_has P [] i d here all = absurd (omega arith)
item_has P (x ∷ xs) zero d here all = All-head P x xs all
item_has P (x ∷ xs) (suc i) d here all = item_has P xs i d (omega arith) (All-tail P x xs all)
