-- The branches of a case, one by one.
use Rattle.std.proofs.Common.{arith, ◌≡◌, ℕ, ◌+◌, ◌<◌, ◌≤◌, List, [], ◌∷◌, ◌++◌, length, take, get_or, All, Result, Ok, Err, refl, sym, ap, ap₂, subst, ◌∙◌}
use Rattle.std.proofs.lemmas.List.{take_more}
use Rattle.std.proofs.lemmas.List.Elements.{All-nil, All-cons, All-head, All-tail}
use Rattle.az_lin.specs.Affine.{AffineMap, Union, HasEntryDomain}
use Rattle.std.proofs.Math.Nat.{le-max_left, le-max_right}
use Rattle.az_ast.proofs.Terms.{term-Cases}
use Rattle.az_ast.proofs.Walks.{below}
use Rattle.az_ast.specs.Term.{Term, constant, index, access, negation, binary, cases, reduction, Choices, none, choice, term}
use Rattle.az_ast.specs.declared.expr.Branch.{Branch}
use Rattle.az_ast.specs.declared.expr.Expr.{Expr}
use Rattle.az_ast.specs.declared.expr.Expr.TheVariants.{Cases}
use Rattle.az_lin.specs.declared.fault.LinFault.{LinFault}
use Rattle.az_lin.specs.declared.fault.LinFault.TheVariants.{Entry, NoInverse, Overflow, Memory}
use Rattle.std.specs.Prelude.{IsErrAnd}
use Rattle.az_lin.specs.Answers.{IsExactly}
use Rattle.expr_maps.specs.Answers.{IsTerm, EachAccess, EachBelow}
use Rattle.expr_maps.specs.Columns.{CanPut, HasEntriesIn}
use Rattle.expr_maps.specs.Put.{put, put_below}
use Rattle.expr_maps.specs.Replaced.{replaced, replaced_below}
use Rattle.az_poly.specs.Operations.{domain_before}
use Rattle.az_ast.specs.Walks.{extra_under, extra_below}

-- the data of a case
pub term_of_cases : (e : Expr) (branches items : List Branch) → e ≡ Cases branches → items ≡ branches → term e ≡ cases (below items)
term_of_cases e branches items is equal = ap term is ∙ (term-Cases branches ∙ ap (λ b. cases (below b)) (sym equal))

-- what each access below has, the accesses of each body have
pub below-all : (P : ℕ → AffineMap → Type 0) (branches : List Branch) → EachBelow P (below branches) → All (λ branch. EachAccess P (term branch.body)) branches
below-all P [] each = All-nil (λ (branch : Branch). EachAccess P (term branch.body))
below-all P (branch ∷ branches) each = All-cons (λ (b : Branch). EachAccess P (term b.body)) branch branches each.0 (below-all P branches each.1)

pub all-below : (P : ℕ → AffineMap → Type 0) (branches : List Branch) → All (λ branch. EachAccess P (term branch.body)) branches → EachBelow P (below branches)
all-below P [] all = tt
all-below P (branch ∷ branches) all =
    (All-head (λ (b : Branch). EachAccess P (term b.body)) branch branches all, all-below P branches (All-tail (λ (b : Branch). EachAccess P (term b.body)) branch branches all))

-- one branch behind others
pub after : Choices → Union → Term → Choices
after none domain e = choice domain e none
after (choice first body rest) domain e = choice first body (after rest domain e)

below-push : (branches : List Branch) (branch : Branch) → below (branches ++ branch ∷ []) ≡ after (below branches) branch.domain (term branch.body)
unfolding after
below-push [] branch = refl
below-push (first ∷ branches) branch = ap (λ rest. choice first.domain (term first.body) rest) (below-push branches branch)

-- a change of each branch, made branch by branch
module _ (change : Choices → Choices) (of_domain : Union → Union) (of_body : Term → Term) (each : (branches : Choices) (domain : Union) (e : Term) → change (after branches domain e) ≡ after (change branches) (of_domain domain) (of_body e)) where
  pub changed-more : (branches items more : List Branch) (i : ℕ) (branch item : Branch) → i < length branches → branch ≡ get_or branches i branch
      → item.domain ≡ of_domain branch.domain → term item.body ≡ of_body (term branch.body) → more ≡ items ++ item ∷ [] → below items ≡ change (below (take i branches))
      → below more ≡ change (below (take (i + 1) branches))
  changed-more branches items more i branch item within here same_domain same_body pushed made =
      ap below pushed
      ∙ below-push items item
      ∙ ap (λ c. after c item.domain (term item.body)) made
      ∙ ap₂ (λ d t. after (change (below (take i branches))) d t) same_domain same_body
      ∙ sym (each (below (take i branches)) branch.domain (term branch.body))
      ∙ ap change (sym (below-push (take i branches) branch))
      ∙ ap (λ bs. change (below bs)) (sym (take_more branches i branch within ∙ ap (λ b. take i branches ++ b ∷ []) (sym here)))

pub replaced-after : (at : ℕ → AffineMap → Term) (branches : Choices) (domain : Union) (e : Term) → replaced_below at (after branches domain e) ≡ after (replaced_below at branches) domain (replaced at e)
unfolding after
replaced-after at none domain e = refl
replaced-after at (choice first body rest) domain e = ap (choice first (replaced at body)) (replaced-after at rest domain e)

pub put-after : (f : AffineMap) (branches : Choices) (domain : Union) (e : Term) → put_below f (after branches domain e) ≡ after (put_below f branches) (domain_before f domain) (put f e)
unfolding after
put-after f none domain e = refl
put-after f (choice first body rest) domain e = ap (choice (domain_before f first) (put f body)) (put-after f rest domain e)

-- what a branch needs where a map is put in, and what is made of it
pub record CanPutBranch (f : AffineMap) (branch : Branch) : Type 0 where
  pub rows : length f.rows ≡ branch.domain.width
  pub narrow : branch.domain.width ≤ 64
  pub body : CanPut f (term branch.body)

pub record BranchFits (f : AffineMap) (branch : Branch) : Type 0 where
  pub domain : HasEntryDomain (domain_before f branch.domain)
  pub body : HasEntriesIn (put f (term branch.body))

pub below-can : (f : AffineMap) (branches : List Branch) → CanPut f (cases (below branches)) → All (CanPutBranch f) branches
below-can f [] can = All-nil (CanPutBranch f)
below-can f (branch ∷ branches) can =
    let columns = can.columns in
    let rows = can.few_rows in
    let wide = can.few_columns in
    let own = extra_under (term branch.body) in
    let rest = extra_below (below branches) in
    All-cons (CanPutBranch f) branch branches
    (record { rows = sym columns.0; narrow = omega (arith, columns.0, rows); body = record { columns = columns.1; few_rows = omega (arith, rows, le-max_left own rest); few_columns = omega (arith, wide, le-max_left own rest) } })
    (below-can f branches (record { columns = columns.2; few_rows = omega (arith, rows, le-max_right own rest); few_columns = omega (arith, wide, le-max_right own rest) }))

pub below-fits : (f : AffineMap) (branches : List Branch) → HasEntriesIn (put f (cases (below branches))) → All (BranchFits f) branches
below-fits f [] fits = All-nil (BranchFits f)
below-fits f (branch ∷ branches) fits = All-cons (BranchFits f) branch branches (record { domain = fits.0; body = fits.1 }) (below-fits f branches fits.2)

pub fits-below : (f : AffineMap) (branches : List Branch) → All (BranchFits f) branches → HasEntriesIn (put f (cases (below branches)))
fits-below f [] all = tt
fits-below f (branch ∷ branches) all =
    let first = All-head (BranchFits f) branch branches all in
    (first.domain, first.body, fits-below f branches (All-tail (BranchFits f) branch branches all))

-- a fault of a part is one of the whole
pub fault-step : (t t' : Term) (fits fits' : Type 0) (fault : LinFault) (result : Result Expr LinFault) → (fits' → fits) → IsTerm t fits (Err fault) → IsErrAnd result (λ e. e ≡ fault) → IsTerm t' fits' result
fault-step t t' fits fits' fault (Ok e) part is same = absurd same
fault-step t t' fits fits' fault (Err e) part is same = subst (λ f. IsTerm t' fits' (Err f)) (sym same) (by fault is)
  where
    by : (f : LinFault) → IsTerm t fits (Err f) → IsTerm t' fits' (Err f)
    by Entry is = λ all. is (part all)
    by (NoInverse n) is = is
    by Overflow is = is
    by Memory is = tt

pub exact-fault-step : {A : Type 0} (fits : A → Type 0) (value : A) (t' : Term) (fits' : Type 0) (fault : LinFault) (result : Result Expr LinFault) → (fits' → fits value) → IsExactly fits value (Err fault) → IsErrAnd result (λ e. e ≡ fault) → IsTerm t' fits' result
exact-fault-step fits value t' fits' fault (Ok e) part is same = absurd same
exact-fault-step fits value t' fits' fault (Err e) part is same = subst (λ f. IsTerm t' fits' (Err f)) (sym same) (by fault is)
  where
    by : (f : LinFault) → IsExactly fits value (Err f) → IsTerm t' fits' (Err f)
    by Entry is = λ all. is (part all)
    by (NoInverse n) is = is
    by Overflow is = is
    by Memory is = tt

-- what holds of all accesses
mutual
  pub EachAccess-all : (P : ℕ → AffineMap → Type 0) → ((x : ℕ) (f : AffineMap) → P x f) → (e : Term) → EachAccess P e
  EachAccess-all P each (constant c) = tt
  EachAccess-all P each (index row) = tt
  EachAccess-all P each (access x f) = each x f
  EachAccess-all P each (negation e) = EachAccess-all P each e
  EachAccess-all P each (binary op a b) = (EachAccess-all P each a, EachAccess-all P each b)
  EachAccess-all P each (cases branches) = EachBelow-all P each branches
  EachAccess-all P each (reduction op extra domain e) = EachAccess-all P each e

  EachBelow-all : (P : ℕ → AffineMap → Type 0) → ((x : ℕ) (f : AffineMap) → P x f) → (branches : Choices) → EachBelow P branches
  EachBelow-all P each none = tt
  EachBelow-all P each (choice domain e rest) = (EachAccess-all P each e, EachBelow-all P each rest)
