-- What the rules on programs come to.
use Rattle.std.proofs.Common.{◌≡◌, ℕ, zero, suc, ◌+◌, ◌<◌, ◌≤◌, List, [], ◌∷◌, ◌++◌, length, Bool, true, false, not, cond, ◌||◌, ◌&&◌, Option, Some, None, refl, sym, ap, subst, ◌∙◌, arith, inl, inr}
use Rattle.std.specs.Prelude.{All, ◌==◌, ◌↔◌, IsTrue, nat_lt, option_map, slice_get, is_none}
use Rattle.std.specs.List.{list_any, AllByRecursion}
use Rattle.std.specs.Option.{option_or, option_map_or}
use Rattle.std.proofs.lemmas.Bool.{eqb-true, ltb-false, not-false, not-true, not_from_false}
use Rattle.std.proofs.lemmas.Option.{slice_get_cases}
use Rattle.std.proofs.lemmas.List.Elements.{recursion_from_All, All-from_recursion}
use Rattle.az_lin.specs.Affine.{Union}
use Rattle.az_ast.specs.declared.fault.ShapeFault.{ShapeFault}
use Rattle.az_ast.specs.declared.fault.ShapeFault.TheVariants.{Shape}
use Rattle.az_ast.specs.declared.fault.ShapeKind.{ShapeKind}
use Rattle.az_ast.specs.declared.fault.ShapeKind.TheVariants.{NoEquation}
use Rattle.az_ast.specs.declared.program.Equation.{Equation}
use Rattle.az_ast.specs.declared.program.Variable.{Variable}
use Rattle.az_ast.specs.Meaning.{equation_of}
use Rattle.az_ast.specs.Nodes.{nodes}
use Rattle.az_ast.specs.Placed.{IsConjunction}
use Rattle.az_ast.specs.Shapes.{first_kind, kinds_after, missing_kinds, declaration_kind, equation_kind, header_kind, shape_of, limit_of, lacks_equation, of_variable, indices, is_input, has_other_arity, reduces_by_sub, stands_under_many, all_domains, IsProgram, IsPlain}
use Rattle.az_ast.specs.System.{System}
use Rattle.az_ast.specs.Term.{term}
use Rattle.az_ast.specs.Walks.{parts, is_outside}
use Rattle.az_ast.proofs.ShapeParts.{shape_parts, none_holds, neither, limits, equation_tests}

-- a test that holds of nothing in a list
pub none_of : {A : Type 0} (test : A → Bool) (xs : List A) → list_any test xs ≡ false → AllByRecursion (λ x. test x ≡ false) xs
none_of test [] e = tt
none_of test (x ∷ xs) e = let n = neither (test x) (list_any test xs) e in (n.0, none_of test xs n.1)

pub of_none : {A : Type 0} (test : A → Bool) (xs : List A) → AllByRecursion (λ x. test x ≡ false) xs → list_any test xs ≡ false
of_none test [] h = refl
of_none test (x ∷ xs) h = ap (λ b. b || list_any test xs) h.0 ∙ of_none test xs h.1

both_none : {A : Type 0} (a b : Option A) → option_or a b ≡ None → (a ≡ None) × (b ≡ None)
both_none None b e = (refl, e)
both_none (Some x) b e = cc

pub mapped_none : {A B : Type 0} (f : A → B) (a : Option A) → option_map f a ≡ None → a ≡ None
mapped_none f None e = refl
mapped_none f (Some x) e = cc

pub all_none : (n : ℕ) (kinds : List (Option ShapeKind)) → first_kind n kinds ≡ None → AllByRecursion (λ k. k ≡ None) kinds
all_none n [] e = tt
all_none n (kind ∷ kinds) e =
    let b = both_none (option_map (λ k. Shape k n) kind) (first_kind (suc n) kinds) e in
    (mapped_none (λ k. Shape k n) kind b.0, all_none (suc n) kinds b.1)

-- what each item without a fault meets
pub each_item :
    {A : Type 0} (kind : List A → A → Option ShapeKind) (P : A → Type 0) → ((earlier : List A) (x : A) → kind earlier x ≡ None → P x) →
    (earlier xs : List A) → AllByRecursion (λ k. k ≡ None) (kinds_after kind earlier xs) → AllByRecursion P xs
each_item kind P h earlier [] n = tt
each_item kind P h earlier (x ∷ xs) n = (h earlier x n.0, each_item kind P h (earlier ++ x ∷ []) xs n.1)

none_missing :
    (equations : List Equation) (x : ℕ) (variables : List Variable) → AllByRecursion (λ k. k ≡ None) (missing_kinds equations x variables) →
    (i : ℕ) (v : Variable) → slice_get variables i ≡ Some v → lacks_equation equations (x + i) v ≡ false
none_missing equations x [] n i v e = cc
none_missing equations x (w ∷ variables) n zero v e =
    let here = (none_holds ((lacks_equation equations x w, NoEquation) ∷ []) n.0).0 in
    let same : w ≡ v = ap (λ o. option_map_or (λ y. y) o w) e in
    let at : x + 0 ≡ x = omega arith in
    subst (λ y. lacks_equation equations (x + 0) y ≡ false) same (subst (λ m. lacks_equation equations m w ≡ false) (sym at) here)
none_missing equations x (w ∷ variables) n (suc i) v e =
    let at : suc x + i ≡ x + suc i = omega arith in
    subst (λ m. lacks_equation equations m v ≡ false) at (none_missing equations (suc x) variables n.1 i v e)

-- a variable without an equation, and with one
found_none :
    (variables : List Variable) (equations : List Equation) (x : ℕ) →
    AllByRecursion (λ (e : Equation). of_variable variables (λ v. is_input v.role) e.variable ≡ false) equations →
    of_variable variables (λ v. is_input v.role) x ≡ true → equation_of equations x ≡ None
found_none variables [] x h i = refl
found_none variables (e ∷ equations) x h i = by (e.variable == x) refl (found_none variables equations x h.1 i)
  where
    by : (b : Bool) → (e.variable == x) ≡ b → equation_of equations x ≡ None → cond b (Some e) (equation_of equations x) ≡ None
    by true t rest =
        let here : of_variable variables (λ v. is_input v.role) x ≡ false
        = subst (λ y. of_variable variables (λ v. is_input v.role) y ≡ false) (eqb-true e.variable x t) h.0 in
        cc
    by false t rest = rest

found_some : (equations : List Equation) (x : ℕ) → list_any (λ (e : Equation). e.variable == x) equations ≡ true → is_none (equation_of equations x) ≡ false
found_some [] x e = cc
found_some (e ∷ equations) x h = by (e.variable == x) h (λ g. found_some equations x g)
  where
    by : (b : Bool) → (b || list_any (λ (q : Equation). q.variable == x) equations) ≡ true → (list_any (λ (q : Equation). q.variable == x) equations ≡ true → is_none (equation_of equations x) ≡ false) →
        is_none (cond b (Some e) (equation_of equations x)) ≡ false
    by true t rest = refl
    by false t rest = rest t

module _ (p : System) (program : IsProgram p) where
  abbrev header : Option ShapeFault
  header = option_map (λ k. Shape k 0) (header_kind p.params)

  abbrev declared : Option ShapeFault
  declared = first_kind 1 (kinds_after declaration_kind [] p.variables)

  abbrev defined : Option ShapeFault
  defined = first_kind (1 + length p.variables) (kinds_after (equation_kind (length p.params) p.variables) [] p.equations)

  abbrev missing : Option ShapeFault
  missing = first_kind 1 (missing_kinds p.equations 0 p.variables)

  pub no_faults : (limit_of p ≡ None) × (header ≡ None) × (declared ≡ None) × (defined ≡ None) × (missing ≡ None)
  no_faults =
      let both = both_none (limit_of p) (shape_of p) program.accepted in
      let first = both_none header (option_or declared (option_or defined missing)) (sym (shape_parts p) ∙ both.1) in
      let second = both_none declared (option_or defined missing) first.1 in
      let third = both_none defined missing second.1 in
      (both.0, first.0, second.0, third.0, third.1)

  each_equation : (P : Equation → Type 0) → ((earlier : List Equation) (e : Equation) → equation_kind (length p.params) p.variables earlier e ≡ None → P e) → AllByRecursion P p.equations
  each_equation P h = each_item (equation_kind (length p.params) p.variables) P h [] p.equations (all_none (1 + length p.variables) (kinds_after (equation_kind (length p.params) p.variables) [] p.equations) no_faults.3)

  of_no_input : AllByRecursion (λ (e : Equation). of_variable p.variables (λ v. is_input v.role) e.variable ≡ false) p.equations
  of_no_input =
      each_equation (λ (e : Equation). of_variable p.variables (λ v. is_input v.role) e.variable ≡ false)
      (λ earlier e h. (none_holds (equation_tests (length p.params) p.variables earlier e) h).1.0)

  -- an input has no equation, and an output or local has one
  pub equation_is : (x : ℕ) (v : Variable) → slice_get p.variables x ≡ Some v → is_none (equation_of p.equations x) ≡ is_input v.role
  equation_is x v e = by (is_input v.role) refl
    where
      by : (b : Bool) → is_input v.role ≡ b → is_none (equation_of p.equations x) ≡ b
      by true i = ap is_none (found_none p.variables p.equations x of_no_input (ap (λ o. option_map_or (λ (w : Variable). is_input w.role) o false) e ∙ i))
      by false i =
          let at : 0 + x ≡ x = omega arith in
          let lacks : lacks_equation p.equations x v ≡ false = subst (λ n. lacks_equation p.equations n v ≡ false) at (none_missing p.equations 0 p.variables (all_none 1 (missing_kinds p.equations 0 p.variables) no_faults.4) x v e) in
          found_some p.equations x (not-false (list_any (λ (q : Equation). q.variable == x) p.equations)
          (subst (λ b. (not b && not (list_any (λ (q : Equation). q.variable == x) p.equations)) ≡ false) i lacks))

  pub declared_equation_is : (x : ℕ) → x < length p.variables → is_none (equation_of p.equations x) ≡ of_variable p.variables (λ v. is_input v.role) x
  declared_equation_is x h = by (slice_get p.variables x) refl
    where
      by : (o : Option Variable) → slice_get p.variables x ≡ o → is_none (equation_of p.equations x) ≡ of_variable p.variables (λ v. is_input v.role) x
      by None e = absurd (elim (slice_get_cases p.variables x).1 [ inl a ↦ let f = a.2 in cc | inr b ↦ let g = b.0 in omega (arith, g, h) ])
      by (Some v) e = equation_is x v e ∙ sym (ap (λ o. option_map_or (λ (w : Variable). is_input w.role) o false) e)

-- a fact on each element, weakened
each : {A : Type 0} (P Q : A → Type 0) → ((x : A) → P x → Q x) → (xs : List A) → AllByRecursion P xs → AllByRecursion Q xs
each P Q f [] h = tt
each P Q f (x ∷ xs) h = (f x h.0, each P Q f xs h.1)

-- no element has more than so many
no_more : {A : Type 0} (most : ℕ) (size : A → ℕ) (xs : List A) → list_any (λ x. nat_lt most (size x)) xs ≡ false → All (λ x. size x ≤ most) xs
no_more most size xs e =
    All-from_recursion (λ x. size x ≤ most) xs
    (each (λ x. nat_lt most (size x) ≡ false) (λ x. size x ≤ most) (λ x h. ltb-false most (size x) h) xs (none_of (λ x. nat_lt most (size x)) xs e))

-- the limits
module _ (p : System) (program : IsProgram p) where
  within_limits : AllByRecursion (λ row. row.0 ≡ false) (limits p)
  within_limits = none_holds (limits p) (no_faults p program).0

  pub few_parts : (length p.variables ≤ 256) × (length p.params ≤ 8)
  few_parts =
      let n = neither (nat_lt 256 (length p.variables)) (nat_lt 8 (length p.params)) within_limits.0 in
      (ltb-false 256 (length p.variables) n.0, ltb-false 8 (length p.params) n.1)

  few_columns : (list_any (λ (v : Variable). nat_lt 8 (indices (length p.params) v)) p.variables ≡ false) × (list_any (stands_under_many (length p.params) p.variables) p.equations ≡ false)
  few_columns = neither (list_any (λ (v : Variable). nat_lt 8 (indices (length p.params) v)) p.variables) (list_any (stands_under_many (length p.params) p.variables) p.equations) within_limits.1.0

  pub few_indices : All (λ (v : Variable). indices (length p.params) v ≤ 8) p.variables
  few_indices = no_more 8 (indices (length p.params)) p.variables few_columns.0

  pub under_few : All (λ (e : Equation). stands_under_many (length p.params) p.variables e ≡ false) p.equations
  under_few =
      All-from_recursion (λ (e : Equation). stands_under_many (length p.params) p.variables e ≡ false) p.equations
      (none_of (stands_under_many (length p.params) p.variables) p.equations few_columns.1)

  pub few_nodes : All (λ (e : Equation). nodes (term e.body) ≤ 512) p.equations
  few_nodes = no_more 512 (λ (e : Equation). nodes (term e.body)) p.equations within_limits.1.1.0

  pub few_disjuncts : All (λ (d : Union). length d.disjuncts ≤ 8) (all_domains p)
  few_disjuncts = no_more 8 (λ (d : Union). length d.disjuncts) (all_domains p) within_limits.1.1.1.0

  -- each access has as many indices as its variable, and no reduction is by difference
  pub has_arities : All (λ (e : Equation). AllByRecursion (λ part. has_other_arity (length p.params) p.variables part ≡ false) (parts (term e.body))) p.equations
  has_arities =
      All-from_recursion (λ (e : Equation). AllByRecursion (λ part. has_other_arity (length p.params) p.variables part ≡ false) (parts (term e.body))) p.equations
      (each_equation p program (λ (e : Equation). AllByRecursion (λ part. has_other_arity (length p.params) p.variables part ≡ false) (parts (term e.body)))
      (λ earlier e h. none_of (has_other_arity (length p.params) p.variables) (parts (term e.body)) (none_holds (equation_tests (length p.params) p.variables earlier e) h).0))

  pub folds : All (λ (e : Equation). AllByRecursion (λ part. reduces_by_sub part ≡ false) (parts (term e.body))) p.equations
  folds =
      All-from_recursion (λ (e : Equation). AllByRecursion (λ part. reduces_by_sub part ≡ false) (parts (term e.body))) p.equations
      (each_equation p program (λ (e : Equation). AllByRecursion (λ part. reduces_by_sub part ≡ false) (parts (term e.body)))
      (λ earlier e h. none_of reduces_by_sub (parts (term e.body)) (none_holds (equation_tests (length p.params) p.variables earlier e) h).1.1.1.0))

-- a number of disjuncts from 1 to 1
one_disjunct : (n : ℕ) → (nat_lt n 1 || nat_lt 1 n) ≡ false → n ≡ 1
one_disjunct n e =
    let b = neither (nat_lt n 1) (nat_lt 1 n) e in
    let low = ltb-false n 1 b.0 in
    let high = ltb-false 1 n b.1 in
    omega (arith, low, high)

from_one : (n : ℕ) → n ≡ 1 → (nat_lt n 1 || nat_lt 1 n) ≡ false
from_one n e = subst (λ m. (nat_lt m 1 || nat_lt 1 m) ≡ false) (sym e) refl

pub plain_is : (p : System) → IsTrue (not (list_any (is_outside 1 1) (all_domains p))) ↔ IsPlain p
plain_is p =
    let ds = all_domains p in (
      λ h. All-from_recursion IsConjunction ds
          (each (λ d. is_outside 1 1 d ≡ false) IsConjunction (λ d e. one_disjunct (length d.disjuncts) e) ds (none_of (is_outside 1 1) ds (not-true (list_any (is_outside 1 1) ds) h))),
      λ h. not_from_false (list_any (is_outside 1 1) ds)
          (of_none (is_outside 1 1) ds (each IsConjunction (λ d. is_outside 1 1 d ≡ false) (λ d e. from_one (length d.disjuncts) e) ds (recursion_from_All IsConjunction ds h))),
    )
