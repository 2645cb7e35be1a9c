-- The examples.
use Rattle.std.proofs.Common.{inl, ⊎_elim, zero, suc, List, [], ◌∷◌, refl, sym, subst, arith}
use Rattle.std.specs.Prelude.{ℤ, pos, negsuc, ◌≤ℤ◌, Contains, MatchOption}
use Rattle.std.specs.FinMap.{empty, get-insert}
use Rattle.std.specs.Cmp.{nat_cmp_total}
use Rattle.std.proofs.lemmas.Int.{ints}
use Rattle.std.proofs.lemmas.List.Elements.{All-nil, All-cons, All-head, All-tail}
use Rattle.az_lin.specs.Affine.{Affine, Polyhedron, Holds, HoldsSome, IsAtLeastZero}
use Rattle.az_lin.proofs.Lists.{Any-nil, Any-here, Any-cons}
use Rattle.az_ast.specs.Tables.{InputGives, TableGives, Rows}
use Rattle.az_ast.specs.Points.{IsMember, AreMembers}
use Rattle.loop_scan.proofs.Lists.{Contains-first, Contains-rest}
use Rattle.target_map.proofs.Points.{precedes_first}
use Rattle.certified_plans.specs.Examples.{row, two, tables, AreWorkedOut}

abbrev rows : List Affine
rows = row (pos 1) (negsuc 0) ∷ row (negsuc 0) (pos 2) ∷ []

abbrev conj : Polyhedron
conj = record { width = 1; rows = rows }

held : (c : ℤ) → pos 1 ≤ℤ c → c ≤ℤ pos 2 → HoldsSome two (c ∷ [])
held c low high =
    Any-here (λ (p : Polyhedron). Holds p (c ∷ [])) conj []
    (All-cons (IsAtLeastZero (c ∷ [])) (row (pos 1) (negsuc 0)) (row (negsuc 0) (pos 2) ∷ []) (omega (arith, ints, low))
    (All-cons (IsAtLeastZero (c ∷ [])) (row (negsuc 0) (pos 2)) [] (omega (arith, ints, high)) (All-nil (IsAtLeastZero (c ∷ [])))))

within : (c : ℤ) → HoldsSome two (c ∷ []) → (pos 1 ≤ℤ c) × (c ≤ℤ pos 2)
within c h = ⊎_elim
    (λ (one : Holds conj (c ∷ [])).
    let first = All-head (IsAtLeastZero (c ∷ [])) (row (pos 1) (negsuc 0)) (row (negsuc 0) (pos 2) ∷ []) one in
    let second = All-head (IsAtLeastZero (c ∷ [])) (row (negsuc 0) (pos 2)) [] (All-tail (IsAtLeastZero (c ∷ [])) (row (pos 1) (negsuc 0)) (row (negsuc 0) (pos 2) ∷ []) one) in
    (omega (arith, ints, first), omega (arith, ints, second)))
    (λ none. absurd (Any-nil (λ (p : Polyhedron). Holds p (c ∷ [])) none))
    (Any-cons (λ (p : Polyhedron). Holds p (c ∷ [])) conj [] h)

abbrev points : List (List ℤ)
points = (pos 1 ∷ []) ∷ (pos 2 ∷ []) ∷ []

every : (k : List ℤ) → IsMember two [] 1 k → Contains points k
every [] m = absurd (omega (arith, m.0))
every (c ∷ d ∷ k) m = absurd (omega (arith, m.0))
every (c ∷ []) m =
    let bounds = within c m.1 in
    let low = bounds.0 in
    let high = bounds.1 in
    by c low high
  where
    by : (c : ℤ) → pos 1 ≤ℤ c → c ≤ℤ pos 2 → Contains points (c ∷ [])
    by (pos zero) low high = absurd (omega (arith, ints, low))
    by (pos (suc zero)) low high = Contains-first (pos 1 ∷ []) ((pos 2 ∷ []) ∷ [])
    by (pos (suc (suc zero))) low high = Contains-rest (pos 1 ∷ []) ((pos 2 ∷ []) ∷ []) (pos 2 ∷ []) (Contains-first (pos 2 ∷ []) [])
    by (pos (suc (suc (suc n)))) low high = absurd (omega (arith, ints, high))
    by (negsuc n) low high = absurd (omega (arith, ints, low))

members : AreMembers two [] 1 points
members = record {
  increasing = ((precedes_first (pos 1) (pos 2) [] [] (omega (arith, ints)), tt), (tt, tt));
  only = ((refl, held (pos 1) (omega (arith, ints)) (omega (arith, ints))), ((refl, held (pos 2) (omega (arith, ints)) (omega (arith, ints))), tt));
  every = every;
}

table : InputGives tables 0 [] (pos 5)
table = subst (λ o. MatchOption o ⊥ (λ (given : Rows). TableGives given [] (pos 5))) (sym (get-insert nat_cmp_total empty 0 (([], pos 5) ∷ []) 0)) (inl (refl, refl))

pub are_worked_out : AreWorkedOut
are_worked_out = record {
  in_order = (_, _, _, _, refl, (_, _, _, _, refl, (refl, table), refl, refl), refl, refl);
  summed = record {
    points = points;
    parts = (_, pos 3) ∷ (_, pos 4) ∷ [];
    members = members;
    bodies = (refl, (refl, tt));
    whole = refl;
    result = refl;
  };
  kept_together = refl;
  kept_apart = λ same. cc;
  apart_without_factor = λ same. cc;
}
