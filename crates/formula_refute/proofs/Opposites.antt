-- The opposites of the members of a formula, made one after another.
use Rattle.std.proofs.Common.{◌≡◌, ℕ, ◌+◌, ◌<◌, ◌∙◌, List, [], ◌∷◌, ◌++◌, Ok, Err, refl, sym, ap, subst, get_or, take, length}
use Rattle.std.proofs.Math.Seq.{take-length}
use Rattle.std.specs.Prelude.{map, All}
use Rattle.std.specs.List.{AllByRecursion}
use Rattle.std.proofs.lemmas.List.Elements.{All-from_recursion, recursion_from_All, All-more, All-get_or}
use Rattle.std.proofs.lemmas.List.{map-append}
use Rattle.az_lin.proofs.Mapped.{map-take-more}
use Rattle.az_lin.specs.Affine.{HasEntries}
use Rattle.formula_refute.specs.declared.formula.Formula.{Formula}
use Rattle.formula_refute.specs.Claims.{Claim, Claims, all_of, any_of, claims, claim, EachRowBelow, IsInRange}
use Rattle.formula_refute.specs.Opposite.{opposite, opposites}
use Rattle.formula_refute.specs.Answers.{Negates}
use Rattle.formula_refute.specs.declared.formula.Formula.TheVariants as form
use Rattle.formula_refute.specs.declared.fault.RefuteFault.{RefuteFault}
use Rattle.formula_refute.specs.declared.fault.RefuteFault.TheVariants.{Overflow, Entry, Limit, Memory}
use Rattle.formula_refute.proofs.FormulaData.{below, claim-All, claim-Any}

abbrev pub opposite_of : Formula → Claim
opposite_of f = opposite (claim f)

abbrev pub IsOppositeInRange : Formula → Type 0
IsOppositeInRange f = IsInRange (opposite_of f)

pub opposites_below : (members : List Formula) → opposites (below members) ≡ claims (map opposite_of members)
opposites_below [] = refl
opposites_below (f ∷ fs) = ap (Claims.more (opposite_of f)) (opposites_below fs)

-- what is done of all members is their opposite
pub opposites_done : (members done : List Formula) → map claim done ≡ map opposite_of members → below done ≡ opposites (below members)
opposites_done members done same = ap claims same ∙ sym (opposites_below members)

in_range_by_recursion : (members : List Formula) → AllByRecursion IsOppositeInRange members → EachRowBelow HasEntries (opposites (below members))
in_range_by_recursion [] h = tt
in_range_by_recursion (f ∷ fs) h = (h.0, in_range_by_recursion fs h.1)

in_range_each : (members : List Formula) → EachRowBelow HasEntries (opposites (below members)) → AllByRecursion IsOppositeInRange members
in_range_each [] h = tt
in_range_each (f ∷ fs) h = (h.0, in_range_each fs h.1)

pub in_range_below : (members : List Formula) → All IsOppositeInRange members → EachRowBelow HasEntries (opposites (below members))
in_range_below members h = in_range_by_recursion members (recursion_from_All IsOppositeInRange members h)

pub in_range_members : (members : List Formula) → EachRowBelow HasEntries (opposites (below members)) → All IsOppositeInRange members
in_range_members members h = All-from_recursion IsOppositeInRange members (in_range_each members h)

-- one more member is done
pub opposite_more : (items done next : List Formula) (i : ℕ) (m got : Formula) → i < length items → m ≡ get_or items i m → Negates (claim m) (Ok got) → next ≡ done ++ got ∷ []
    → (map claim done ≡ map opposite_of (take i items)) × All IsOppositeInRange (take i items)
    → (map claim next ≡ map opposite_of (take (i + 1) items)) × All IsOppositeInRange (take (i + 1) items)
opposite_more items done next i m got here is negated pushed so_far =
    let pushed_claims : map claim next ≡ map claim done ++ claim got ∷ [] = ap (map claim) pushed ∙ map-append claim done (got ∷ []) in
    let opposite_here : claim got ≡ opposite_of (get_or items i m) = negated.0 ∙ ap opposite_of is in (
      map-take-more opposite_of items i m (claim got) (map claim done) (map claim next) here so_far.0 opposite_here pushed_claims,
      All-more IsOppositeInRange items i m here so_far.1 (subst IsOppositeInRange is negated.1),
    )

module _ (f : Formula) (items done : List Formula) (i : ℕ) (end : i ≡ length items) (inv : (map claim done ≡ map opposite_of (take i items)) × All IsOppositeInRange (take i items)) where
  whole : take i items ≡ items
  whole = ap (λ n. take n items) end ∙ take-length items

  made : below done ≡ opposites (below items)
  made = opposites_done items done (inv.0 ∙ ap (map opposite_of) whole)

  ranged : EachRowBelow HasEntries (opposites (below items))
  ranged = in_range_below items (subst (All IsOppositeInRange) whole inv.1)

  pub opposite_all : claim f ≡ all_of (below items) → Negates (claim f) (Ok (form.Any done))
  opposite_all shape =
      let P : Claim → Type 0 = λ c. Negates c (Ok (form.Any done)) in
      subst P (sym shape) (claim-Any done ∙ ap any_of made, ranged)

  pub opposite_any : claim f ≡ any_of (below items) → Negates (claim f) (Ok (form.All done))
  opposite_any shape =
      let P : Claim → Type 0 = λ c. Negates c (Ok (form.All done)) in
      subst P (sym shape) (claim-All done ∙ ap all_of made, ranged)

-- a refusal of a member is one of the whole
handed_on : (fault : RefuteFault) (member all : Claim) → Negates member (Err fault) → (IsInRange (opposite all) → IsInRange (opposite member)) → Negates all (Err fault)
handed_on (Overflow number) member all refused part = refused
handed_on Entry member all refused part = λ fits. refused (part fits)
handed_on (Limit limit) member all refused part = refused
handed_on Memory member all refused part = tt

module _ (f m : Formula) (items : List Formula) (i : ℕ) (fault : RefuteFault) (here : i < length items) (is : m ≡ get_or items i m) (refused : Negates (claim m) (Err fault)) where
  in_range_here : EachRowBelow HasEntries (opposites (below items)) → IsInRange (opposite (claim m))
  in_range_here all = subst IsOppositeInRange (sym is) (All-get_or IsOppositeInRange items i m here (in_range_members items all))

  pub refused_all : claim f ≡ all_of (below items) → Negates (claim f) (Err fault)
  refused_all shape =
      let P : Claim → Type 0 = λ c. Negates c (Err fault) in
      subst P (sym shape) (handed_on fault (claim m) (all_of (below items)) refused in_range_here)

  pub refused_any : claim f ≡ any_of (below items) → Negates (claim f) (Err fault)
  refused_any shape =
      let P : Claim → Type 0 = λ c. Negates c (Err fault) in
      subst P (sym shape) (handed_on fault (claim m) (any_of (below items)) refused in_range_here)
