-- The formulas over two instances, with the rows of one place more.
use Rattle.std.proofs.Common.{◌≡◌, ℕ, zero, suc, ◌+◌, ◌<◌, ◌≤◌, List, [], ◌∷◌, ◌++◌, length, take, min, get_or, Bool, true, false, refl, sym, ap, ap₂, ◌∙◌, arith, append_assoc, append-nil}
use Rattle.std.specs.Prelude.{◌==◌, if◌then◌else◌}
use Rattle.std.proofs.lemmas.List.{length-take-le, take_more}
use Rattle.az_lin.specs.Affine.{Affine}
use Rattle.formula_refute.specs.Claims.{Claim, all_of, claims}
use Rattle.target_map.specs.Kinds.{tile_sizes}
use Rattle.target_map.specs.Stamps.{part}
use Rattle.target_map.specs.declared.kind.Kind.{Kind}
use Rattle.target_map.specs.declared.kind.Kind.TheVariants.{Outer, Band, Processor, Inner}
use Rattle.order_sets.specs.NotBefore.{at_least, greater, both_ways, each_pair, less_after, unit_at_least}

pub taken_next : {A : Type 0} (xs : List A) (i : ℕ) (x : A) → i < length xs → x ≡ get_or xs i x → take (i + 1) xs ≡ take i xs ++ x ∷ []
taken_next xs i x here is = take_more xs i x here ∙ ap (λ y. take i xs ++ y ∷ []) (sym is)

taken_alike : {A B : Type 0} (xs : List A) (ys : List B) (i : ℕ) → i < length xs → i < length ys → length (take i xs) ≡ length (take i ys)
taken_alike xs ys i here there = omega (arith, length-take-le i xs (omega arith), length-take-le i ys (omega arith))

-- each pair
module _ (f : Affine → Affine → List Claim) where
  each_append : (us vs : List Affine) (u v : Affine) → length us ≡ length vs → each_pair f (us ++ u ∷ []) (vs ++ v ∷ []) ≡ each_pair f us vs ++ f u v
  each_append [] [] u v same = append-nil (f u v)
  each_append [] (y ∷ vs) u v same = absurd (omega arith)
  each_append (x ∷ us) [] u v same = absurd (omega arith)
  each_append (x ∷ us) (y ∷ vs) u v same =
      ap (λ (cs : List Claim). f x y ++ cs) (each_append us vs u v (omega arith)) ∙ sym (append_assoc (f x y) (each_pair f us vs) (f u v))

  pub each_next : (us vs : List Affine) (i : ℕ) (u v : Affine) → i < length us → i < length vs → u ≡ get_or us i u → v ≡ get_or vs i v
      → each_pair f (take (i + 1) us) (take (i + 1) vs) ≡ each_pair f (take i us) (take i vs) ++ f u v
  each_next us vs i u v here there is is' =
      ap₂ (λ (xs ys : List Affine). each_pair f xs ys) (taken_next us i u here is) (taken_next vs i v there is')
      ∙ each_append (take i us) (take i vs) u v (taken_alike us vs i here there)

  pub each_whole : (us vs : List Affine) (n : ℕ) → min (length us) (length vs) ≤ n → each_pair f (take n us) (take n vs) ≡ each_pair f us vs
  each_whole [] vs zero all = refl
  each_whole [] vs (suc n) all = refl
  each_whole (u ∷ us) [] zero all = refl
  each_whole (u ∷ us) [] (suc n) all = refl
  each_whole (u ∷ us) (v ∷ vs) zero all = absurd (omega arith)
  each_whole (u ∷ us) (v ∷ vs) (suc n) all = ap (λ (cs : List Claim). f u v ++ cs) (each_whole us vs n (omega arith))

-- lexicographic order
abbrev less_at : List Claim → List Affine → List Affine → Affine → Affine → Claim
less_at before us vs u v = all_of (claims ((before ++ each_pair both_ways us vs) ++ greater v u ∷ []))

less_append : (before : List Claim) (us vs : List Affine) (u v : Affine) → length us ≡ length vs
    → less_after before (us ++ u ∷ []) (vs ++ v ∷ []) ≡ less_after before us vs ++ less_at before us vs u v ∷ []
less_append before [] [] u v same = ap (λ (cs : List Claim). all_of (claims (cs ++ greater v u ∷ [])) ∷ []) (sym (append-nil before))
less_append before [] (y ∷ vs) u v same = absurd (omega arith)
less_append before (x ∷ us) [] u v same = absurd (omega arith)
less_append before (x ∷ us) (y ∷ vs) u v same =
    let first : Claim = all_of (claims (before ++ greater y x ∷ [])) in
    ap (λ (cs : List Claim). first ∷ cs) (less_append (before ++ both_ways x y) us vs u v (omega arith))
    ∙ ap (λ (cs : List Claim). first ∷ (less_after (before ++ both_ways x y) us vs ++ all_of (claims (cs ++ greater v u ∷ [])) ∷ [])) (append_assoc before (both_ways x y) (each_pair both_ways us vs))

pub less_next : (us vs : List Affine) (i : ℕ) (u v : Affine) → i < length us → i < length vs → u ≡ get_or us i u → v ≡ get_or vs i v
    → less_after [] (take (i + 1) us) (take (i + 1) vs) ≡ less_after [] (take i us) (take i vs) ++ all_of (claims (each_pair both_ways (take i us) (take i vs) ++ greater v u ∷ [])) ∷ []
less_next us vs i u v here there is is' =
    ap₂ (λ (xs ys : List Affine). less_after [] xs ys) (taken_next us i u here is) (taken_next vs i v there is')
    ∙ less_append [] (take i us) (take i vs) u v (taken_alike us vs i here there)

less_whole_after : (before : List Claim) (us vs : List Affine) (n : ℕ) → min (length us) (length vs) ≤ n → less_after before (take n us) (take n vs) ≡ less_after before us vs
less_whole_after before [] vs zero all = refl
less_whole_after before [] vs (suc n) all = refl
less_whole_after before (u ∷ us) [] zero all = refl
less_whole_after before (u ∷ us) [] (suc n) all = refl
less_whole_after before (u ∷ us) (v ∷ vs) zero all = absurd (omega arith)
less_whole_after before (u ∷ us) (v ∷ vs) (suc n) all =
    ap (λ (cs : List Claim). all_of (claims (before ++ greater v u ∷ [])) ∷ cs) (less_whole_after (before ++ both_ways u v) us vs n (omega arith))

pub less_whole : (us vs : List Affine) (n : ℕ) → min (length us) (length vs) ≤ n → less_after [] (take n us) (take n vs) ≡ less_after [] us vs
less_whole us vs n all = less_whole_after [] us vs n all

-- tiles of size 1
if_cons : {A : Type 0} (b : Bool) (x : A) (xs ys : List A) → (if b then x ∷ (xs ++ ys) else (xs ++ ys)) ≡ (if b then x ∷ xs else xs) ++ ys
if_cons true x xs ys = refl
if_cons false x xs ys = refl

unit_append : (sizes : List ℕ) (us vs : List Affine) (size : ℕ) (u v : Affine) → length sizes ≡ length us → length sizes ≡ length vs
    → unit_at_least (sizes ++ size ∷ []) (us ++ u ∷ []) (vs ++ v ∷ []) ≡ unit_at_least sizes us vs ++ unit_at_least (size ∷ []) (u ∷ []) (v ∷ [])
unit_append [] [] [] size u v same same' = refl
unit_append [] (x ∷ us) vs size u v same same' = absurd (omega arith)
unit_append [] [] (y ∷ vs) size u v same same' = absurd (omega arith)
unit_append (s ∷ sizes) [] vs size u v same same' = absurd (omega arith)
unit_append (s ∷ sizes) (x ∷ us) [] size u v same same' = absurd (omega arith)
unit_append (s ∷ sizes) (x ∷ us) (y ∷ vs) size u v same same' =
    ap (λ (cs : List Claim). if s == 1 then at_least x y ∷ cs else cs) (unit_append sizes us vs size u v (omega arith) (omega arith))
    ∙ if_cons (s == 1) (at_least x y) (unit_at_least sizes us vs) (unit_at_least (size ∷ []) (u ∷ []) (v ∷ []))

pub unit_next : (sizes : List ℕ) (us vs : List Affine) (i size : ℕ) (u v : Affine) → i < length sizes → i < length us → i < length vs
    → size ≡ get_or sizes i size → u ≡ get_or us i u → v ≡ get_or vs i v
    → unit_at_least (take (i + 1) sizes) (take (i + 1) us) (take (i + 1) vs) ≡ unit_at_least (take i sizes) (take i us) (take i vs) ++ unit_at_least (size ∷ []) (u ∷ []) (v ∷ [])
unit_next sizes us vs i size u v here there third size_is is is' =
    ap₂ (λ (xs ys : List Affine). unit_at_least (take (i + 1) sizes) xs ys) (taken_next us i u there is) (taken_next vs i v third is')
    ∙ ap (λ ns. unit_at_least ns (take i us ++ u ∷ []) (take i vs ++ v ∷ [])) (taken_next sizes i size here size_is)
    ∙ unit_append (take i sizes) (take i us) (take i vs) size u v (taken_alike sizes us i here there) (taken_alike sizes vs i here third)

pub unit_whole : (sizes : List ℕ) (us vs : List Affine) (n : ℕ) → min (min (length sizes) (length us)) (length vs) ≤ n
    → unit_at_least (take n sizes) (take n us) (take n vs) ≡ unit_at_least sizes us vs
unit_whole [] us vs zero all = refl
unit_whole [] us vs (suc n) all = refl
unit_whole (s ∷ sizes) [] vs zero all = refl
unit_whole (s ∷ sizes) [] vs (suc n) all = refl
unit_whole (s ∷ sizes) (u ∷ us) [] zero all = refl
unit_whole (s ∷ sizes) (u ∷ us) [] (suc n) all = refl
unit_whole (s ∷ sizes) (u ∷ us) (v ∷ vs) zero all = absurd (omega arith)
unit_whole (s ∷ sizes) (u ∷ us) (v ∷ vs) (suc n) all =
    ap (λ (cs : List Claim). if s == 1 then at_least u v ∷ cs else cs) (unit_whole sizes us vs n (omega arith))

-- the rows of some dimensions
part_append : (test : Kind → Bool) (kinds : List Kind) (rows : List Affine) (kind : Kind) (row : Affine) → length kinds ≡ length rows
    → part test (kinds ++ kind ∷ []) (rows ++ row ∷ []) ≡ part test kinds rows ++ part test (kind ∷ []) (row ∷ [])
part_append test [] [] kind row same = refl
part_append test [] (x ∷ rows) kind row same = absurd (omega arith)
part_append test (k ∷ kinds) [] kind row same = absurd (omega arith)
part_append test (k ∷ kinds) (x ∷ rows) kind row same =
    ap (λ (xs : List Affine). if test k then x ∷ xs else xs) (part_append test kinds rows kind row (omega arith))
    ∙ if_cons (test k) x (part test kinds rows) (part test (kind ∷ []) (row ∷ []))

pub part_next : (test : Kind → Bool) (kinds : List Kind) (rows : List Affine) (i : ℕ) (kind : Kind) (row : Affine) → i < length kinds → i < length rows
    → kind ≡ get_or kinds i kind → row ≡ get_or rows i row
    → part test (take (i + 1) kinds) (take (i + 1) rows) ≡ part test (take i kinds) (take i rows) ++ part test (kind ∷ []) (row ∷ [])
part_next test kinds rows i kind row here there is is' =
    ap₂ (λ (ks : List Kind) (xs : List Affine). part test ks xs) (taken_next kinds i kind here is) (taken_next rows i row there is')
    ∙ part_append test (take i kinds) (take i rows) kind row (taken_alike kinds rows i here there)

pub part_whole : (test : Kind → Bool) (kinds : List Kind) (rows : List Affine) (n : ℕ) → min (length kinds) (length rows) ≤ n → part test (take n kinds) (take n rows) ≡ part test kinds rows
part_whole test [] rows zero all = refl
part_whole test [] rows (suc n) all = refl
part_whole test (k ∷ kinds) [] zero all = refl
part_whole test (k ∷ kinds) [] (suc n) all = refl
part_whole test (k ∷ kinds) (row ∷ rows) zero all = absurd (omega arith)
part_whole test (k ∷ kinds) (row ∷ rows) (suc n) all = ap (λ (xs : List Affine). if test k then row ∷ xs else xs) (part_whole test kinds rows n (omega arith))

-- the sizes of tiles
sizes_append : (kinds : List Kind) (kind : Kind) → tile_sizes (kinds ++ kind ∷ []) ≡ tile_sizes kinds ++ tile_sizes (kind ∷ [])
sizes_append [] kind = refl
sizes_append (Outer ∷ kinds) kind = sizes_append kinds kind
sizes_append (Band size ∷ kinds) kind = ap (λ (ns : List ℕ). size ∷ ns) (sizes_append kinds kind)
sizes_append (Processor size ∷ kinds) kind = sizes_append kinds kind
sizes_append (Inner ∷ kinds) kind = sizes_append kinds kind

pub sizes_next : (kinds : List Kind) (i : ℕ) (kind : Kind) → i < length kinds → kind ≡ get_or kinds i kind
    → tile_sizes (take (i + 1) kinds) ≡ tile_sizes (take i kinds) ++ tile_sizes (kind ∷ [])
sizes_next kinds i kind here is = ap tile_sizes (taken_next kinds i kind here is) ∙ sizes_append (take i kinds) kind

-- what is pushed for one more kind
pub get_same : {A : Type 0} (xs : List A) (i : ℕ) (d : A) → i < length xs → get_or xs i d ≡ get_or xs i (get_or xs i d)
get_same [] i d here = absurd (omega arith)
get_same (x ∷ xs) zero d here = refl
get_same (x ∷ xs) (suc i) d here = get_same xs i d (omega arith)

pub sizes_more : (kinds : List Kind) (i : ℕ) (d : Kind) (old new : List ℕ) → i < length kinds → old ≡ tile_sizes (take i kinds) → new ≡ old ++ tile_sizes (get_or kinds i d ∷ [])
    → new ≡ tile_sizes (take (i + 1) kinds)
sizes_more kinds i d old new here so_far pushed =
    let kind : Kind = get_or kinds i d in
    pushed ∙ ap (λ (ns : List ℕ). ns ++ tile_sizes (kind ∷ [])) so_far ∙ sym (sizes_next kinds i kind here (get_same kinds i d here))

pub part_more : (test : Kind → Bool) (kinds : List Kind) (rows : List Affine) (i : ℕ) (d : Kind) (row : Affine) (first old new : List Affine) → i < length kinds → i < length rows
    → row ≡ get_or rows i row → old ≡ first ++ part test (take i kinds) (take i rows) → new ≡ old ++ part test (get_or kinds i d ∷ []) (row ∷ [])
    → new ≡ first ++ part test (take (i + 1) kinds) (take (i + 1) rows)
part_more test kinds rows i d row first old new here there is so_far pushed =
    let kind : Kind = get_or kinds i d in
    let next : List Affine = part test (kind ∷ []) (row ∷ []) in
    pushed
    ∙ ap (λ (xs : List Affine). xs ++ next) so_far
    ∙ append_assoc first (part test (take i kinds) (take i rows)) next
    ∙ ap (λ (xs : List Affine). first ++ xs) (sym (part_next test kinds rows i kind row here there (get_same kinds i d here) is))

pub unit_more : (sizes : List ℕ) (us vs : List Affine) (i d : ℕ) (u v : Affine) → i < length sizes → i < length us → i < length vs → u ≡ get_or us i u → v ≡ get_or vs i v
    → unit_at_least (take (i + 1) sizes) (take (i + 1) us) (take (i + 1) vs)
    ≡ unit_at_least (take i sizes) (take i us) (take i vs) ++ unit_at_least (get_or sizes i d ∷ []) (u ∷ []) (v ∷ [])
unit_more sizes us vs i d u v here there third is is' = unit_next sizes us vs i (get_or sizes i d) u v here there third (get_same sizes i d here) is is'
