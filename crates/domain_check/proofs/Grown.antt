-- Lists that a loop makes, one part after another.
use Rattle.std.proofs.Common.{◌≡◌, ℕ, zero, suc, ◌+◌, ◌<◌, List, [], ◌∷◌, ◌++◌, length, map, take, get_or, All, refl, sym, ap, ap₂, subst, ◌∙◌, arith, ℤ, pos, negsuc, append_assoc}
use Rattle.std.specs.List.{flat_map, range_with_len}
use Rattle.std.proofs.lemmas.List.{take_more, map-append, append-nil}
use Rattle.std.proofs.lemmas.List.Elements.{All-nil, All-cons, All-append, All-head, All-tail}
use Rattle.std.proofs.lemmas.List.FromFn.{map-range_with_len_more}
use Rattle.std.proofs.lemmas.Grind.{flat_map-append}
use Rattle.std.proofs.lemmas.List.Concat.{flat_map_single}
use Rattle.std.proofs.Math.Seq.{take-length}
use Rattle.az_lin.specs.Affine.{Affine, Polyhedron, Union, IsEntry}
use Rattle.farkas_check.specs.Directions.{coef_at}
use Rattle.expr_places.specs.Directions.{slope, moves}
use Rattle.formula_refute.specs.Claims.{Claim, claim, all_of, claims}
use Rattle.formula_refute.specs.declared.formula.Formula.{Formula}
use Rattle.formula_refute.specs.declared.formula.Formula.TheVariants as form
use Rattle.formula_refute.proofs.DomainTruth.{conj_made}
use Rattle.formula_refute.proofs.FormulaData.{claim-All}
use Rattle.formula_refute.specs.Domains.{atoms}
use Rattle.domain_check.specs.Directions.{both_ways, along_each}

pub taken_next : {A : Type 0} (xs : List A) (i : ℕ) (x : A) → i < length xs → x ≡ get_or xs i x → take (i + 1) xs ≡ take i xs ++ x ∷ []
taken_next xs i x here is = take_more xs i x here ∙ ap (λ y. take i xs ++ y ∷ []) (sym is)

pub flat_next : {A B : Type 0} (f : A → List B) (xs : List A) (i : ℕ) (x : A) → i < length xs → x ≡ get_or xs i x
    → flat_map f (take (i + 1) xs) ≡ flat_map f (take i xs) ++ f x
flat_next f xs i x here is =
    ap (λ ys. flat_map f ys) (taken_next xs i x here is) ∙ flat_map-append f (take i xs) (x ∷ []) ∙ ap (λ ys. flat_map f (take i xs) ++ ys) (append-nil (f x))

pub taken_all : {A : Type 0} (xs : List A) (i : ℕ) → i ≡ length xs → take i xs ≡ xs
taken_all xs i end = ap (λ n. take n xs) end ∙ take-length xs

range_next : (n : ℕ) → range_with_len 0 (n + 1) ≡ range_with_len 0 n ++ n ∷ []
range_next n =
    let same : (xs : List ℕ) → map (λ x. x) xs ≡ xs = map_same in
    sym (same (range_with_len 0 (n + 1))) ∙ map-range_with_len_more (λ x. x) 0 n n (omega arith) ∙ ap (λ xs. xs ++ n ∷ []) (same (range_with_len 0 n))
  where
    map_same : (xs : List ℕ) → map (λ x. x) xs ≡ xs
    map_same [] = refl
    map_same (x ∷ xs) = ap (λ ys. x ∷ ys) (map_same xs)

-- the coefficients of a slope
pub slope_next : (row : Affine) (outer n : ℕ) (old new : List ℤ) (x : ℤ) → old ≡ map (λ j. coef_at row (outer + j)) (range_with_len 0 n) → x ≡ coef_at row (outer + n)
    → new ≡ old ++ x ∷ [] → new ≡ map (λ j. coef_at row (outer + j)) (range_with_len 0 (n + 1))
slope_next row outer n old new x before here pushed =
    pushed
    ∙ ap₂ (λ xs y. xs ++ y ∷ []) before here
    ∙ sym (map-range_with_len_more (λ j. coef_at row (outer + j)) 0 n n (omega arith))

pub All-pushed : {A : Type 0} (P : A → Type 0) (old new : List A) (x : A) → new ≡ old ++ x ∷ [] → All P old → P x → All P new
All-pushed P old new x pushed all here =
    let Q : List _ → Type 0 = λ xs. All P xs in subst Q (sym pushed) (All-append P old (x ∷ []) all (All-cons P x [] here (All-nil P)))

-- a system over directions
pub system_made : (slopes : List Affine) (i : ℕ) (done members : List Formula) (last : Affine) → i ≡ length slopes → done ≡ map form.Atom (take i slopes)
    → members ≡ done ++ form.Atom last ∷ [] → claim (form.All members) ≡ all_of (atoms (slopes ++ last ∷ []))
system_made slopes i done members last end before pushed =
    conj_made members (record { width = 0; rows = slopes ++ last ∷ [] })
    (pushed
    ∙ ap (λ fs. fs ++ form.Atom last ∷ []) (before ∙ ap (λ rows. map form.Atom rows) (taken_all slopes i end))
    ∙ sym (map-append form.Atom slopes (last ∷ [])))

pub ways_next : (extra : ℕ) (slopes : List Affine) (i : ℕ) (old : List Claim) (before middle after : List Formula) (first second : Formula) (upwards downwards : Affine)
    → map claim before ≡ old ++ flat_map (both_ways extra slopes) (range_with_len 0 i) → upwards ≡ moves extra i (pos 1) → downwards ≡ moves extra i (negsuc 0)
    → claim first ≡ all_of (atoms (slopes ++ upwards ∷ [])) → claim second ≡ all_of (atoms (slopes ++ downwards ∷ []))
    → middle ≡ before ++ first ∷ [] → after ≡ middle ++ second ∷ [] → map claim after ≡ old ++ flat_map (both_ways extra slopes) (range_with_len 0 (i + 1))
ways_next extra slopes i old before middle after first second upwards downwards so_far up down first_is second_is pushed pushed' =
    let W : List ℕ → List Claim = flat_map (both_ways extra slopes) in
    ap (map claim) (pushed' ∙ ap (λ fs. fs ++ second ∷ []) pushed ∙ append_assoc before (first ∷ []) (second ∷ []))
    ∙ map-append claim before (first ∷ second ∷ [])
    ∙ ap₂ (λ cs ds. cs ++ ds) so_far (ap₂ (λ c d. c ∷ d ∷ []) (first_is ∙ ap (λ row. all_of (atoms (slopes ++ row ∷ []))) up) (second_is ∙ ap (λ row. all_of (atoms (slopes ++ row ∷ []))) down))
    ∙ append_assoc old (W (range_with_len 0 i)) (both_ways extra slopes i)
    ∙ ap (λ cs. old ++ (W (range_with_len 0 i) ++ cs)) (sym (append-nil (both_ways extra slopes i)))
    ∙ ap (λ cs. old ++ cs) (sym (flat_map-append (both_ways extra slopes) (range_with_len 0 i) (i ∷ [])))
    ∙ ap (λ ns. old ++ W ns) (sym (range_next i))

-- the systems of one more disjunct
pub disjunct_next : (outer extra : ℕ) (around : List Affine) (conjs : List Polyhedron) (i : ℕ) (conj : Polyhedron) (before after : List Formula) (none first slopes : List Affine)
    → i < length conjs → conj ≡ get_or conjs i conj
    → map claim before ≡ flat_map (λ (conj : Polyhedron). along_each extra (map (slope outer extra) (around ++ conj.rows))) (take i conjs)
    → none ≡ [] → first ≡ none ++ map (slope outer extra) around → slopes ≡ first ++ map (slope outer extra) conj.rows → map claim after ≡ map claim before ++ along_each extra slopes
    → map claim after ≡ flat_map (λ (conj : Polyhedron). along_each extra (map (slope outer extra) (around ++ conj.rows))) (take (i + 1) conjs)
disjunct_next outer extra around conjs i conj before after none first slopes here is so_far empty made made' found =
    let G : Polyhedron → List Claim = λ (conj : Polyhedron). along_each extra (map (slope outer extra) (around ++ conj.rows)) in
    let whole : slopes ≡ map (slope outer extra) (around ++ conj.rows) =
    made' ∙ ap (λ rows. rows ++ map (slope outer extra) conj.rows) (made ∙ ap (λ rows. rows ++ map (slope outer extra) around) empty) ∙ sym (map-append (slope outer extra) around conj.rows) in
    found ∙ ap₂ (λ cs rows. cs ++ along_each extra rows) so_far whole ∙ sym (flat_next G conjs i conj here is)

-- what holds of each mapped item holds of the one at a place
pub mapped_at : {A B : Type 0} (P : B → Type 0) (h : A → B) (items : List A) (i : ℕ) (x : A) → i < length items → x ≡ get_or items i x → All P (map h items) → P (h x)
mapped_at P h [] i x here is all = absurd (omega arith)
mapped_at P h (y ∷ items) zero x here is all = subst (λ z. P (h z)) (sym is) (All-head P (h y) (map h items) all)
mapped_at P h (y ∷ items) (suc i) x here is all = mapped_at P h items i x (omega arith) is (All-tail P (h y) (map h items) all)
