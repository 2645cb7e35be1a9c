-- The numbers of names: a declared name stands at its number, and the first declaration of a name at its own.
use Rattle.std.proofs.Common.{true≢false, ◌≡◌, ℕ, suc, ◌+◌, ◌<◌, List, [], ◌∷◌, ◌++◌, length, get_or, true, false, cond, refl, sym, ap, subst, ◌∙◌, arith}
use Rattle.std.specs.Prelude.{map, not}
use Rattle.std.specs.List.{list_any}
use Rattle.std.specs.Str.{bytes_eq}
use Rattle.std.proofs.lemmas.List.Sums.{passes_at_first}
use Rattle.std.proofs.lemmas.Slice.Eq.{bytes_eq-Decides}
use Rattle.program_grammar.specs.declared.tree.Declaration.{Declaration}
use Rattle.program_names.specs.Resolved.{number_of}
use Rattle.program_names.proofs.Sums.{not-true, or-left, or-right}
use Rattle.program_names.proofs.WidthLaws.{number-within}

pub equal-bytes : (x y : List ℕ) → x ≡ y → bytes_eq x y ≡ true
equal-bytes x y same = (bytes_eq-Decides x y).1 same

-- names that differ differ the other way round
pub differ-back : (x y : List ℕ) → bytes_eq x y ≡ false → bytes_eq y x ≡ false
differ-back x y h = not-true (bytes_eq y x) (λ e. true≢false (sym (equal-bytes x y (sym ((bytes_eq-Decides y x).0 e))) ∙ h))

-- a name at the number of a name that is there is that name
pub same-number : (names : List (List ℕ)) (x y : List ℕ) → list_any (bytes_eq x) names ≡ true → number_of names y ≡ number_of names x → y ≡ x
same-number names x y declared same =
    let within = number-within names x declared in
    let here = (bytes_eq-Decides x (get_or names (number_of names x) x)).0 (passes_at_first (bytes_eq x) names x within) in
    let there = (bytes_eq-Decides y (get_or names (number_of names y) x)).0 (passes_at_first (bytes_eq y) names x (subst (λ n. n < length names) (sym same) within)) in
    there ∙ (ap (λ n. get_or names n x) same ∙ sym here)

-- a name stands behind others that differ from it
pub number-behind : (name x : List ℕ) (names : List (List ℕ)) → bytes_eq name x ≡ false → number_of (name ∷ names) x ≡ suc (number_of names x)
number-behind name x names h =
    let n : number_of (name ∷ names) x ≡ 1 + number_of names x = ap (λ b. cond (not b) (1 + number_of names x) 0) (differ-back name x h) in
    omega (arith, n)

pub first-number : (earlier later : List Declaration) (d : Declaration) → list_any (λ (other : Declaration). bytes_eq other.name d.name) earlier ≡ false →
    number_of (map (λ (d : Declaration). d.name) (earlier ++ d ∷ later)) d.name ≡ length earlier
first-number [] later d h = ap (λ b. cond (not b) (1 + number_of (map (λ (d : Declaration). d.name) later) d.name) 0) (equal-bytes d.name d.name refl)
first-number (other ∷ earlier) later d h =
    let rest = list_any (λ (other : Declaration). bytes_eq other.name d.name) earlier in
    number-behind other.name d.name (map (λ (d : Declaration). d.name) (earlier ++ d ∷ later)) (or-left (bytes_eq other.name d.name) rest h)
    ∙ ap suc (first-number earlier later d (or-right (bytes_eq other.name d.name) rest h))
