-- Which points the results hold.
use Rattle.std.proofs.Common.{◌≡◌, ◌⊎◌, inl, inr, ◌↔◌, ℤ, pos, ◌≤ℤ◌, List, [], ◌∷◌, ◌++◌, ℕ, length, take, map, ap, ◌∙◌, sym, subst, All}
use Rattle.std.proofs.Math.Seq.{take-length}
use Rattle.std.specs.List.{Any, flat_map}
use Rattle.std.proofs.lemmas.List.Elements.{All-nil, All-head, All-tail, All-map, All-append}
use Rattle.az_lin.specs.Affine.{AffineMap, Polyhedron, Union, HasWidth, IsOver, Holds, HoldsSome, IsAtLeastZero, image_of, value_at}
use Rattle.az_lin.specs.Substitution.{less, shifted, composed}
use Rattle.az_lin.proofs.Substitution.{value_at-shifted, value_at-composed}
use Rattle.az_poly.specs.Operations.{both, intersection, conj_before, domain_before, conj_moved, domain_moved}
use Rattle.az_lin.proofs.Lists.{Any-nil, Any-here, Any-there, Any-cons, Any-append, Any-map, All-map_same, All-left, All-right}

both_holds : (first second : Polyhedron) (z : List ℤ) → Holds (both first second) z ↔ (Holds first z × Holds second z)
both_holds first second z = (
  λ all. (All-left (IsAtLeastZero z) first.rows second.rows all, All-right (IsAtLeastZero z) first.rows second.rows all),
  λ held. All-append (IsAtLeastZero z) first.rows second.rows held.0 held.1,
)

-- one disjunct with each of the others
one_with_each : (first : Polyhedron) (seconds : List Polyhedron) (z : List ℤ)
    → Any (λ conj. Holds conj z) (map (λ second. both first second) seconds) ↔ (Holds first z × Any (λ conj. Holds conj z) seconds)
one_with_each first [] z = (λ none. absurd (Any-nil (λ conj. Holds conj z) none), λ held. absurd (Any-nil (λ conj. Holds conj z) held.1))
one_with_each first (second ∷ seconds) z =
    let P : Polyhedron → Type 0 = λ conj. Holds conj z in
    let met : List Polyhedron = map (λ other. both first other) seconds in
    let rest : Any P met ↔ (P first × Any P seconds) = one_with_each first seconds z in
    let here : P (both first second) ↔ (P first × P second) = both_holds first second z in (
      λ any. elim (Any-cons P (both first second) met any) [
        | inl held ↦ ((here.0 held).0, Any-here P second seconds (here.0 held).1)
        | inr later ↦ ((rest.0 later).0, Any-there P second seconds (rest.0 later).1)
      ],
      λ held. elim (Any-cons P second seconds held.1) [
        | inl now ↦ Any-here P (both first second) met (here.1 (held.0, now))
        | inr later ↦ Any-there P (both first second) met (rest.1 (held.0, later))
      ],
    )

meets : (firsts seconds : List Polyhedron) (z : List ℤ)
    → Any (λ conj. Holds conj z) (flat_map (λ first. map (λ second. both first second) seconds) firsts)
    ↔ (Any (λ conj. Holds conj z) firsts × Any (λ conj. Holds conj z) seconds)
meets [] seconds z = (λ none. absurd (Any-nil (λ conj. Holds conj z) none), λ held. absurd (Any-nil (λ conj. Holds conj z) held.0))
meets (first ∷ firsts) seconds z =
    let P : Polyhedron → Type 0 = λ conj. Holds conj z in
    let here : List Polyhedron = map (λ second. both first second) seconds in
    let later : List Polyhedron = flat_map (λ other. map (λ second. both other second) seconds) firsts in
    let one : Any P here ↔ (P first × Any P seconds) = one_with_each first seconds z in
    let rest : Any P later ↔ (Any P firsts × Any P seconds) = meets firsts seconds z in
    let split : Any P (here ++ later) ↔ (Any P here ⊎ Any P later) = Any-append P here later in (
      λ any. elim (split.0 any) [
        | inl a ↦ (Any-here P first firsts (one.0 a).0, (one.0 a).1)
        | inr b ↦ (Any-there P first firsts (rest.0 b).0, (rest.0 b).1)
      ],
      λ held. elim (Any-cons P first firsts held.0) [
        | inl now ↦ split.1 (inl (one.1 (now, held.1)))
        | inr after ↦ split.1 (inr (rest.1 (after, held.1)))
      ],
    )

pub intersection_holds : (a b : Union) (z : List ℤ) → HoldsSome (intersection a b) z ↔ (HoldsSome a z × HoldsSome b z)
intersection_holds a b z = meets a.disjuncts b.disjuncts z

-- a row that has the same value there
same_sign : (x y : ℤ) → x ≡ y → (pos 0 ≤ℤ x) ↔ (pos 0 ≤ℤ y)
same_sign x y same = (λ h. subst (λ v. pos 0 ≤ℤ v) same h, λ h. subst (λ v. pos 0 ≤ℤ v) (sym same) h)

pub before_holds : (f : AffineMap) (d : Union) (z : List ℤ) → All (HasWidth f.width) f.rows → HoldsSome (domain_before f d) z ↔ HoldsSome d (image_of f z)
before_holds f d z wide =
    Any-map (λ conj. Holds conj z) (λ conj. Holds conj (image_of f z)) (λ conj. conj_before f conj) d.disjuncts
    (λ conj. All-map_same (IsAtLeastZero z) (IsAtLeastZero (image_of f z)) (λ row. composed row f) conj.rows
    (λ row. same_sign (value_at (composed row f) z) (value_at row (image_of f z)) (value_at-composed row f z wide)))

pub moved_holds : (v : List ℤ) (d : Union) (z : List ℤ) → length z ≡ length v → HoldsSome (domain_moved v d) z ↔ HoldsSome d (less z v)
moved_holds v d z same =
    Any-map (λ conj. Holds conj z) (λ conj. Holds conj (less z v)) (λ conj. conj_moved v conj) d.disjuncts
    (λ conj. All-map_same (IsAtLeastZero z) (IsAtLeastZero (less z v)) (λ row. shifted row v) conj.rows
    (λ row. same_sign (value_at (shifted row v) z) (value_at row (less z v)) (value_at-shifted row z v same)))

-- after the last of the firsts
pub met_all : (a b : Union) (firsts seconds : List Polyhedron) (i : ℕ) (done : List Polyhedron) → i ≡ length firsts → firsts ≡ a.disjuncts → seconds ≡ b.disjuncts
    → done ≡ flat_map (λ first. map (λ second. both first second) seconds) (take i firsts) → done ≡ (intersection a b).disjuncts
met_all a b firsts seconds i done full same same' so_far =
    so_far
    ∙ ap (λ n. flat_map (λ first. map (λ second. both first second) seconds) (take n firsts)) full
    ∙ ap (flat_map (λ first. map (λ second. both first second) seconds)) (take-length firsts ∙ same)
    ∙ ap (λ others. flat_map (λ first. map (λ second. both first second) others) a.disjuncts) same'

pub meets_over : (width : ℕ) (firsts seconds : List Polyhedron) → All (IsOver width) firsts
    → All (IsOver width) (flat_map (λ first. map (λ second. both first second) seconds) firsts)
meets_over width [] seconds over = All-nil (IsOver width)
meets_over width (first ∷ firsts) seconds over =
    let here : IsOver width first = All-head (IsOver width) first firsts over in
    All-append (IsOver width) (map (λ second. both first second) seconds) (flat_map (λ other. map (λ second. both other second) seconds) firsts)
    (All-map (IsOver width) (λ second. both first second) seconds (λ k d h. here))
    (meets_over width firsts seconds (All-tail (IsOver width) first firsts over))
