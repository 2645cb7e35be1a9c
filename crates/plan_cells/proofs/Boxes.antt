-- The numbers of the cells of a box.
use Rattle.std.proofs.Common.{◌≡◌, ⊎_elim, ℕ, suc, ◌+◌, ◌*◌, ◌<◌, ◌≤◌, List, [], ◌∷◌, refl, ap, arith, mul-le-mul_right, suc-mul}
use Rattle.std.specs.Prelude.{ℤ, ◌-ℤ◌, unsigned_abs}
use Rattle.std.proofs.lemmas.Int.{ints}
use Rattle.execution.proofs.Lists.{within_or_past}
use Rattle.plan_cells.specs.Numbering.{volume, place, LiesOn, LieOn}
use Rattle.plan_cells.specs.declared.side.Side.{Side}

pub step-below : (side : Side) (x : ℤ) → LiesOn side x → unsigned_abs (x -ℤ side.low) < side.size
step-below side x h = omega (arith, ints, h.0, h.1)

-- a row more is a whole row further
pub row-more : (d n volume : ℕ) → d < n → d * volume + volume ≤ n * volume
row-more d n volume less =
    let more : suc d * volume ≤ n * volume = mul-le-mul_right volume less in
    let once : suc d * volume ≡ d * volume + volume = suc-mul d volume in
    omega (arith, more, once)

pub place-below : (sides : List Side) (xs : List ℤ) → LieOn sides xs → place sides xs < volume sides
place-below [] [] h = omega arith
place-below [] (x ∷ xs) h = absurd h
place-below (side ∷ sides) [] h = absurd h
place-below (side ∷ sides) (x ∷ xs) h =
    let rest = place-below sides xs h.1 in
    let more = row-more (unsigned_abs (x -ℤ side.low)) side.size (volume sides) (step-below side x h.0) in
    omega (arith, rest, more)

same-step : (side : Side) (x y : ℤ) → LiesOn side x → LiesOn side y → unsigned_abs (x -ℤ side.low) ≡ unsigned_abs (y -ℤ side.low) → x ≡ y
same-step side x y h g e = omega (arith, ints, h.0, g.0, e)

pub place-same : (sides : List Side) (xs ys : List ℤ) → LieOn sides xs → LieOn sides ys → place sides xs ≡ place sides ys → xs ≡ ys
place-same [] [] [] h g e = refl
place-same [] [] (y ∷ ys) h g e = absurd g
place-same [] (x ∷ xs) ys h g e = absurd h
place-same (side ∷ sides) [] ys h g e = absurd h
place-same (side ∷ sides) (x ∷ xs) [] h g e = absurd g
place-same (side ∷ sides) (x ∷ xs) (y ∷ ys) h g e = ⊎_elim
    (λ less. absurd (let more = row-more d k (volume sides) less in omega (arith, first, more, e)))
    (λ past. ⊎_elim
    (λ less. absurd (let more = row-more k d (volume sides) less in omega (arith, second, more, e)))
    (λ other.
    let equal : d ≡ k = omega (arith, past, other) in
    let rows = ap (λ n. n * volume sides) equal in
    let head : x ≡ y = same-step side x y h.0 g.0 equal in
    let rest : xs ≡ ys = place-same sides xs ys h.1 g.1 (omega (arith, e, rows)) in
    λ i. head i ∷ rest i)
    (within_or_past k d))
    (within_or_past d k)
  where
    d : ℕ
    d = unsigned_abs (x -ℤ side.low)

    k : ℕ
    k = unsigned_abs (y -ℤ side.low)

    first : place sides xs < volume sides
    first = place-below sides xs h.1

    second : place sides ys < volume sides
    second = place-below sides ys g.1
