-- A check whose cases are refuted is false at all whole points, and what that says at a point that is in force.
use Rattle.std.proofs.Common.{◌≡◌, ℕ, ◌+◌, ◌-◌, ◌≤◌, ℤ, List, [], ◌∷◌, ◌++◌, length, map, take, drop, All, refl, sym, ap, subst, ◌∙◌, arith, inl, inr, ◌⊎◌}
use Rattle.std.specs.List.{flat_map, AllByRecursion}
use Rattle.std.proofs.lemmas.List.{append-nil}
use Rattle.std.proofs.Math.ListN.{drop_of_length-le}
use Rattle.std.proofs.lemmas.List.Elements.{All-head, All-tail, All-append, All-from_recursion}
use Rattle.az_lin.specs.Affine.{Affine, AffineMap, Polyhedron, Union, IsAtLeastZero, HoldsSome, HasWidth, image_of}
use Rattle.az_lin.specs.Columns.{without, reading, unit_rows}
use Rattle.az_lin.proofs.Columns.{image_of-reading}
use Rattle.az_lin.proofs.HeldPoints.{widened_domain_holds}
use Rattle.az_ast.specs.Certified.{IsInContext}
use Rattle.az_poly.specs.Operations.{domain_before}
use Rattle.az_lin.proofs.Lists.{All-left, All-right}
use Rattle.az_poly.proofs.Held.{before_holds}
use Rattle.expr_places.specs.Branches.{NoTwoHold, NoneHold, HasOneBranch}
use Rattle.expr_places.specs.declared.scope.Scope.{Scope}
use Rattle.farkas_check.proofs.Soundness.{refutes}
use Rattle.formula_refute.specs.Cases.{cases, system_of, systems}
use Rattle.formula_refute.specs.Claims.{Claim, Claims, all_of, claims, IsTrueAt, EachTrueAt}
use Rattle.formula_refute.specs.Domains.{domain_claim}
use Rattle.formula_refute.specs.Opposite.{opposite}
use Rattle.formula_refute.proofs.CaseTruth.{SomeHolds, case_to}
use Rattle.formula_refute.proofs.DomainTruth.{disjuncts_true}
use Rattle.formula_refute.proofs.OppositeTruth.{opposite_holds, true_or_opposite}
use Rattle.row_columns.proofs.Made.{widths_unit_rows}
use Rattle.domain_check.specs.Cases.{Case, cases_of_claim}
use Rattle.domain_check.specs.Checks.{overlaps, outside_of, gap}
use Rattle.domain_check.specs.Context.{over, context, in_force}
use Rattle.domain_check.specs.Stops.{IsRefuted}
use Rattle.domain_check.specs.declared.fault.CheckKind.{CheckKind}

abbrev pub IsFalse : Claim → Type 0
IsFalse c = (z : List ℤ) → IsTrueAt z c → ⊥

abbrev case_of : CheckKind → Polyhedron → Case
case_of kind system = record { kind = kind; system = system }

no_case : (kind : CheckKind) (width : ℕ) (z : List ℤ) (all : List (List Affine)) → All IsRefuted (map (case_of kind) (map (system_of width) all)) → SomeHolds z all → ⊥
no_case kind width z [] refuted some = some
no_case kind width z (rows ∷ all) refuted some =
    let rest = map (case_of kind) (map (system_of width) all) in
    let here : IsRefuted (case_of kind (system_of width rows)) = All-head IsRefuted (case_of kind (system_of width rows)) rest refuted in
    elim some as (λ _. ⊥) [
      | inl holds ↦ refutes rows here.0 z here.1.valid (All-from_recursion (IsAtLeastZero z) rows holds)
      | inr others ↦ no_case kind width z all (All-tail IsRefuted (case_of kind (system_of width rows)) rest refuted) others
    ]

pub false_of : (kind : CheckKind) (width : ℕ) (c : Claim) → All IsRefuted (cases_of_claim kind width c) → IsFalse c
false_of kind width c refuted z true = no_case kind width z (cases c) refuted (case_to z c true)

-- of each claim of a list by itself
pub each_refuted : (kind : CheckKind) (width : ℕ) (cs : List Claim) → All IsRefuted (flat_map (cases_of_claim kind width) cs)
    → AllByRecursion (λ c. All IsRefuted (cases_of_claim kind width c)) cs
each_refuted kind width [] refuted = tt
each_refuted kind width (c ∷ cs) refuted =
    let here = cases_of_claim kind width c in
    let rest = flat_map (cases_of_claim kind width) cs in
    (All-left IsRefuted here rest refuted, each_refuted kind width cs (All-right IsRefuted here rest refuted))

pub each_weaker : {A : Type 0} (P Q : A → Type 0) → ((x : A) → P x → Q x) → (xs : List A) → AllByRecursion P xs → AllByRecursion Q xs
each_weaker P Q f [] h = tt
each_weaker P Q f (x ∷ xs) h = (f x h.0, each_weaker P Q f xs h.1)

pub each_left : {A : Type 0} (P : A → Type 0) (xs ys : List A) → AllByRecursion P (xs ++ ys) → AllByRecursion P xs
each_left P [] ys h = tt
each_left P (x ∷ xs) ys h = (h.0, each_left P xs ys h.1)

pub each_right : {A : Type 0} (P : A → Type 0) (xs ys : List A) → AllByRecursion P (xs ++ ys) → AllByRecursion P ys
each_right P [] ys h = h
each_right P (x ∷ xs) ys h = each_right P xs ys h.1

pub each_false : (kind : CheckKind) (width : ℕ) (cs : List Claim) → All IsRefuted (flat_map (cases_of_claim kind width) cs) → AllByRecursion IsFalse cs
each_false kind width cs refuted =
    each_weaker (λ c. All IsRefuted (cases_of_claim kind width c)) IsFalse (λ c h. false_of kind width c h) cs (each_refuted kind width cs refuted)

-- what is in force at a point

true_join : (z : List ℤ) (cs ds : List Claim) → EachTrueAt z (claims cs) → EachTrueAt z (claims ds) → EachTrueAt z (claims (cs ++ ds))
true_join z [] ds p q = q
true_join z (c ∷ cs) ds p q = (p.0, true_join z cs ds p.1 q)

first_columns : (own width : ℕ) (z : List ℤ) → length z ≡ width → without own (width - own) z ≡ take own z
first_columns own width z long =
    let none : drop (own + (width - own)) z ≡ [] = drop_of_length-le z (omega arith) in
    ap (λ (xs : List ℤ). take own z ++ xs) none ∙ append-nil (take own z)

over_true : (width : ℕ) (domain : Union) (z : List ℤ) → length z ≡ width → HoldsSome domain (take domain.width z) → IsTrueAt z (domain_claim (over width domain))
over_true width domain z long held =
    let P : List ℤ → Type 0 = λ y. HoldsSome domain y in
    (disjuncts_true z (over width domain).disjuncts).1
    ((widened_domain_holds domain.width (width - domain.width) domain z).1 (subst P (sym (first_columns domain.width width z long)) held))

context_true : (width : ℕ) (domains : List Union) (z : List ℤ) → length z ≡ width → IsInContext domains z
    → EachTrueAt z (claims (map (λ domain. domain_claim (over width domain)) domains))
context_true width [] z long held = tt
context_true width (domain ∷ domains) z long held = (over_true width domain z long held.0, context_true width domains z long held.1)

module _ (scope : Scope) (z : List ℤ) (long : length z ≡ scope.width) (held : IsInContext scope.domains z) where
  in_force_true : (cs : List Claim) → EachTrueAt z (claims cs) → IsTrueAt z (in_force scope cs)
  in_force_true cs true = true_join z (context scope) cs (context_true scope.width scope.domains z long held) true

  two_apart : (first : Union) (rest : List Union) → AllByRecursion IsFalse (map (λ other. in_force scope (domain_claim first ∷ domain_claim other ∷ [])) rest)
      → AllByRecursion (λ other. HoldsSome first z → HoldsSome other z → ⊥) rest
  two_apart first [] h = tt
  two_apart first (other ∷ rest) h = (
    λ here there. h.0 z (in_force_true (domain_claim first ∷ domain_claim other ∷ []) ((disjuncts_true z first.disjuncts).1 here, ((disjuncts_true z other.disjuncts).1 there, tt))),
    two_apart first rest h.1,
  )

  pub no_two : (domains : List Union) → AllByRecursion IsFalse (overlaps scope domains) → NoTwoHold domains z
  no_two [] h = tt
  no_two (first ∷ rest) h =
      let pairs = map (λ other. in_force scope (domain_claim first ∷ domain_claim other ∷ [])) rest in
      (two_apart first rest (each_left IsFalse pairs (overlaps scope rest) h), no_two rest (each_right IsFalse pairs (overlaps scope rest) h))

  none_true : (domains : List Union) → NoneHold domains z → EachTrueAt z (claims (map outside_of domains))
  none_true [] h = tt
  none_true (domain ∷ domains) h =
      ((opposite_holds z (domain_claim domain)).1 (λ true. h.0 ((disjuncts_true z domain.disjuncts).0 true)), none_true domains h.1)

  pub no_gap : (domains : List Union) → IsFalse (gap scope domains) → NoneHold domains z → ⊥
  no_gap domains h none = h z (in_force_true (map outside_of domains) (none_true domains none))

  -- an access reads inside
  pub reads_inside : (params : ℕ) (f : AffineMap) (domain : Union) → params ≤ f.width → params ≤ scope.width → All (HasWidth f.width) f.rows
      → IsFalse (in_force scope (outside_of (domain_before (reading params f) domain) ∷ [])) → HoldsSome domain (take params z ++ image_of f z)
  reads_inside params f domain inside there wide h =
      let within : Union = domain_before (reading params f) domain in
      let P : List ℤ → Type 0 = λ y. HoldsSome domain y in
      let unit = widths_unit_rows f.width 0 params in
      elim (true_or_opposite z (domain_claim within)) as (λ _. HoldsSome domain (take params z ++ image_of f z)) [
        | inl true ↦ subst P (image_of-reading params f z inside (let at : params ≤ length z = omega arith in at))
            ((before_holds (reading params f) domain z (All-append (HasWidth f.width) (unit_rows f.width 0 params) f.rows unit wide)).0 ((disjuncts_true z within.disjuncts).0 true))
        | inr other ↦ absurd (h z (in_force_true (outside_of within ∷ []) (other, tt)))
      ]
