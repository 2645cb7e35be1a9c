-- The formulas that the calls build are those of the checks.
use Rattle.std.proofs.Common.{◌≡◌, ℕ, suc, ◌+◌, ◌-◌, ◌<◌, ◌≤◌, List, [], ◌∷◌, ◌++◌, length, map, take, drop, get_or, All, Option, Some, None, Result, Ok, Err, refl, sym, ap, ap₂, subst, ◌∙◌, arith, append_assoc, length-append, length-drop, ◌↔◌}
use Rattle.std.specs.Prelude.{slice_get, MatchOption}
use Rattle.std.specs.Option.{option_map_or}
use Rattle.std.proofs.lemmas.List.{map-append, take_all}
use Rattle.std.proofs.lemmas.List.FromFn.{length-map-range_with_len}
use Rattle.std.proofs.lemmas.List.Elements.{All-nil, All-cons, All-head, All-tail}
use Rattle.std.proofs.lemmas.Option.{get_or_from_slice_get}
use Rattle.az_lin.specs.Affine.{Affine, AffineMap, Union, HasEntries}
use Rattle.az_lin.specs.Columns.{reading, unit_row, unit_rows}
use Rattle.az_ast.specs.System.{System}
use Rattle.az_ast.specs.declared.expr.Branch.{Branch}
use Rattle.az_ast.specs.declared.program.Variable.{Variable}
use Rattle.az_lin.specs.Affine.{HasEntryDomain}
use Rattle.expr_places.specs.Places.{Part, access_to}
use Rattle.expr_places.specs.declared.scope.Scope.{Scope}
use Rattle.formula_refute.specs.Claims.{Claim, claim, all_of, claims, IsInRange}
use Rattle.formula_refute.specs.Domains.{domain_claim}
use Rattle.formula_refute.specs.declared.formula.Formula.{Formula}
use Rattle.formula_refute.specs.declared.formula.Formula.TheVariants as form
use Rattle.formula_refute.proofs.FormulaData.{claim-All}
use Rattle.domain_check.specs.Checks.{Checks, checks_of, made_of, overlaps, gap, outside_of, reading_within}
use Rattle.domain_check.specs.Context.{over, context, in_force}
use Rattle.domain_check.specs.Inner.Built.{Says}
use Rattle.domain_check.specs.Inner.Ready.{IsReadAt}
use Rattle.domain_check.specs.declared.build.BuildFault.{BuildFault}
use Rattle.domain_check.specs.declared.build.BuildFault.TheVariants.{Entry, Memory}
use Rattle.domain_check.specs.declared.fault.CheckKind.TheVariants.{Outside}
use Rattle.domain_check.proofs.DomainClaims.{domain_has}
use Rattle.domain_check.proofs.Grown.{taken_all}
use Rattle.domain_check.proofs.Loops.{drop_next}

-- a fault is handed on where what must fit holds what had to
pub handed_on : (fits fits' : Type 0) (fault : BuildFault) → Says fits fault → (fits' → fits) → Says fits' fault
handed_on fits fits' Entry h part = λ all. h (part all)
handed_on fits fits' Memory h part = tt

pub map_after : {A B C : Type 0} (f : B → C) (g : A → B) (xs : List A) → map (λ x. f (g x)) xs ≡ map f (map g xs)
map_after f g [] = refl
map_after f g (x ∷ xs) = ap (λ ys. f (g x) ∷ ys) (map_after f g xs)

pub in_force_made : {A : Type 0} (scope : Scope) (own : A → Union) (items : List A) (i : ℕ) (done members : List Formula) (further : List Formula) → i ≡ length items
    → map claim done ≡ map (λ x. domain_claim (over scope.width (own x))) (take i items) → map own items ≡ scope.domains → members ≡ done ++ further
    → claim (form.All members) ≡ in_force scope (map claim further)
in_force_made scope own items i done members further end so_far lent joined =
    let F : Union → Claim = λ domain. domain_claim (over scope.width domain) in
    claim-All members
    ∙ ap (λ fs. all_of (claims (map claim fs))) joined
    ∙ ap (λ cs. all_of (claims cs)) (map-append claim done further)
    ∙ ap (λ cs. all_of (claims (cs ++ map claim further)))
    (so_far ∙ ap (λ xs. map (λ x. F (own x)) xs) (taken_all items i end) ∙ map_after F own items ∙ ap (λ ds. map F ds) lent)

abbrev own_domain : Branch → Union
own_domain branch = branch.domain

pub overlaps_next : (scope : Scope) (branches : List Branch) (n : ℕ) (branch : Branch) (before after : List Claim) (all : List Claim) → n < length branches → branch ≡ get_or branches n branch
    → before ++ overlaps scope (map own_domain (drop n branches)) ≡ all
    → after ≡ before ++ map (λ other. in_force scope (domain_claim branch.domain ∷ domain_claim other.domain ∷ [])) (take (length branches - (n + 1)) (drop (n + 1) branches))
    → after ++ overlaps scope (map own_domain (drop (n + 1) branches)) ≡ all
overlaps_next scope branches n branch before after all here is so_far found =
    let G : Union → Claim = λ other. in_force scope (domain_claim branch.domain ∷ domain_claim other ∷ []) in
    let rest = drop (n + 1) branches in
    let whole : take (length branches - (n + 1)) rest ≡ rest = take_all (length branches - (n + 1)) rest (omega (arith, length-drop (n + 1) branches)) in
    ap (λ cs. cs ++ overlaps scope (map own_domain rest))
    (found ∙ ap (λ bs. before ++ map (λ other. in_force scope (domain_claim branch.domain ∷ domain_claim other.domain ∷ [])) bs) whole ∙ ap (λ cs. before ++ cs) (map_after G own_domain rest))
    ∙ append_assoc before (map G (map own_domain rest)) (overlaps scope (map own_domain rest))
    ∙ ap (λ bs. before ++ overlaps scope (map own_domain bs)) (sym (drop_next branches n branch here is))
    ∙ so_far

pub gap_made : (scope : Scope) (branches : List Branch) (outsides : List Formula) (formula : Formula) → map claim outsides ≡ map (λ branch. outside_of branch.domain) branches
    → claim formula ≡ in_force scope (map claim outsides) → claim formula ≡ gap scope (map own_domain branches)
gap_made scope branches outsides formula is made = made ∙ ap (λ cs. in_force scope cs) (is ∙ map_after outside_of own_domain branches)

pub gap_fits : (branches : List Branch) → All IsInRange (map (λ branch. outside_of branch.domain) branches) ↔ All IsInRange (map outside_of (map own_domain branches))
gap_fits branches =
    let P : List Claim → Type 0 = λ cs. All IsInRange cs in
    let same = map_after outside_of own_domain branches in
    (λ h. subst P same h, λ h. subst P (sym same) h)

-- the map of an access
pub reading_rows : (params : ℕ) (f : AffineMap) → length (reading params f).rows ≡ params + length f.rows
reading_rows params f = length-append (unit_rows f.width 0 params) f.rows ∙ ap (λ n. n + length f.rows) (length-map-range_with_len (λ column. unit_row f.width column) 0 params)

pub entries_in_range : (domain : Union) → IsInRange (domain_claim domain) ↔ HasEntryDomain domain
entries_in_range domain = domain_has HasEntries domain

pub both_fit : (domain : Union) → HasEntryDomain domain → IsInRange (outside_of domain) → All IsInRange (domain_claim domain ∷ outside_of domain ∷ [])
both_fit domain first second =
    All-cons IsInRange (domain_claim domain) (outside_of domain ∷ []) ((entries_in_range domain).1 first) (All-cons IsInRange (outside_of domain) [] second (All-nil IsInRange))

pub first_fits : (domain : Union) → All IsInRange (domain_claim domain ∷ outside_of domain ∷ []) → HasEntryDomain domain
first_fits domain all = (entries_in_range domain).0 (All-head IsInRange (domain_claim domain) (outside_of domain ∷ []) all)

pub second_fits : (domain : Union) → All IsInRange (domain_claim domain ∷ outside_of domain ∷ []) → IsInRange (outside_of domain)
second_fits domain all = All-head IsInRange (outside_of domain) [] (All-tail IsInRange (domain_claim domain) (outside_of domain ∷ []) all)

-- a place of an access
some-of : {A : Type 0} (o : Option A) (P : A → Type 0) → MatchOption o ⊥ P → (x : A) × (o ≡ Some x) × P x
some-of None P h = absurd h
some-of (Some x) P h = (x, refl, h)

module _ (p : System) (scope : Scope) (part : Part) (x : ℕ) (f : AffineMap) (variable : Variable) (is : part ≡ access_to x f) (declared : variable ≡ get_or p.variables x variable) (ready : MatchOption (slice_get p.variables x) ⊥ (IsReadAt p scope f)) where
  there : (v : Variable) × (slice_get p.variables x ≡ Some v) × IsReadAt p scope f v
  there = some-of (slice_get p.variables x) (IsReadAt p scope f) ready

  same : there.0 ≡ variable
  same = sym (declared ∙ get_or_from_slice_get p.variables x there.0 variable there.1)

  found : slice_get p.variables x ≡ Some variable
  found = there.1 ∙ ap (λ v. Some v) same

  pub read_at : IsReadAt p scope f variable
  read_at = subst (IsReadAt p scope f) same there.2

  pub access_checks : checks_of p scope part ≡ record { kind = Outside; width = scope.width; claims = in_force scope (outside_of (reading_within p f variable) ∷ []) ∷ [] } ∷ []
  access_checks =
      ap (checks_of p scope) is
      ∙ ap (λ o. option_map_or (λ variable. record { kind = Outside; width = scope.width; claims = in_force scope (outside_of (reading_within p f variable) ∷ []) ∷ [] } ∷ []) o []) found

  pub access_made : made_of p part ≡ domain_claim (reading_within p f variable) ∷ outside_of (reading_within p f variable) ∷ []
  access_made =
      ap (made_of p) is
      ∙ ap (λ o. option_map_or (λ variable. domain_claim (reading_within p f variable) ∷ outside_of (reading_within p f variable) ∷ []) o []) found
