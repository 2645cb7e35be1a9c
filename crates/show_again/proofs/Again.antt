-- What is shown of a program that can be written is a text of exactly that program.
use Rattle.std.proofs.Common.{◌≡◌, ℕ, ◌<◌, ◌≤◌, Bool, false, List, [], ◌∷◌, ◌++◌, length, Option, None, refl, sym, subst, ◌∙◌, arith, append_assoc}
use Rattle.std.specs.Prelude.{All, map, flat_map, bytes_eq, IsTrue}
use Rattle.std.specs.List.{list_any, AllByRecursion}
use Rattle.std.proofs.lemmas.Bool.{or_from}
use Rattle.std.proofs.lemmas.List.Elements.{recursion_from_All}
use Rattle.std.proofs.lemmas.List.Folds.{list_any-append}
use Rattle.az_lin.specs.Affine.{Union}
use Rattle.az_lin.proofs.AllLists.{all_first, all_last}
use Rattle.az_ast.specs.declared.fault.ShapeFault.TheVariants.{Shape}
use Rattle.az_ast.specs.declared.fault.ShapeKind.{ShapeKind}
use Rattle.az_ast.specs.declared.fault.ShapeKind.TheVariants.{Reserved, TwiceName}
use Rattle.az_ast.specs.declared.program.Equation.{Equation}
use Rattle.az_ast.specs.declared.program.Variable.{Variable}
use Rattle.az_ast.specs.Nodes.{nodes}
use Rattle.az_ast.specs.Placed.{IsEquationPlaced}
use Rattle.az_ast.specs.Rows.{HasDomainRows, HasBodyRows}
use Rattle.az_ast.specs.Shapes.{has_twice, is_index_name, has_other_arity, reduces_by_sub, stands_under_many, header_kind, declaration_kind, kinds_after, IsProgram}
use Rattle.az_ast.specs.Shapes as shapes
use Rattle.az_ast.specs.System.{System}
use Rattle.az_ast.specs.Term.{Term, term}
use Rattle.az_ast.specs.Walks.{parts, own_domains, domains}
use Rattle.az_ast.specs.Writable as ast
use Rattle.az_ast.specs.Writable.{IsWritable}
use Rattle.az_ast.proofs.ProgramLaws.{all_none, mapped_none, no_faults, few_indices, under_few, few_nodes, few_disjuncts, has_arities, folds}
use Rattle.az_ast.proofs.ShapeParts.{none_holds}
use Rattle.alphabets_show.specs.Expressions.{name_of}
use Rattle.program_grammar.specs.Written.{IsName}
use Rattle.program_names.proofs.Sums.{or-left, or-right}
use Rattle.show_grammar.specs.Showable.{IsShowableVariable, IsShowableEquation, IsShowableProgram}
use Rattle.show_grammar.specs.WrittenOf.{written_of}
use Rattle.show_grammar.proofs.Sentence.{shown_is_a_sentence}
use Rattle.show_again.specs.Again.{ShownIsTheProgram}
use Rattle.show_again.proofs.Accepted.{IsGoodVariable, IsGoodEquation, accepted}
use Rattle.show_again.proofs.Found.{name_at}
use Rattle.show_again.proofs.Parts.{each, all_both, all_of_flat, EachPart, each_part, IsFew, IsProper, name_is, some_at, spelled_domain, spelled_disjuncts, showable}
use Rattle.show_means.proofs.Scopes.{columns_once}
use Rattle.show_means.proofs.SystemBack.{all_at, variable_at, system_back}
use Rattle.show_means.specs.Kept.{IsKept, names_of}

-- no later variable has the name of an earlier one
abbrev IsNone : Option ShapeKind → Type 0
IsNone k = k ≡ None

earlier_tests : (earlier : List Variable) (v : Variable) → declaration_kind earlier v ≡ None → list_any (λ (other : Variable). bytes_eq other.name v.name) earlier ≡ false
earlier_tests earlier v h = (none_holds ((is_index_name v.name, Reserved) ∷ (list_any (λ (other : Variable). bytes_eq other.name v.name) earlier, TwiceName) ∷ []) h).1.0

not_later : (before after vs : List Variable) (y : Variable) → AllByRecursion IsNone (kinds_after declaration_kind (before ++ y ∷ after) vs) → list_any (bytes_eq y.name) (names_of vs) ≡ false
not_later before after [] y h = refl
not_later before after (w ∷ vs) y h =
    let test = λ (other : Variable). bytes_eq other.name w.name in
    let among = earlier_tests (before ++ y ∷ after) w h.0 in
    let second = or-right (list_any test before) (list_any test (y ∷ after)) (sym (list_any-append test before (y ∷ after)) ∙ among) in
    or_from (bytes_eq y.name w.name) (list_any (bytes_eq y.name) (names_of vs)) (or-left (bytes_eq y.name w.name) (list_any test after) second)
    (not_later before (after ++ w ∷ []) vs y (subst (λ (all : List Variable). AllByRecursion IsNone (kinds_after declaration_kind all vs)) (append_assoc before (y ∷ after) (w ∷ [])) h.1))

names_once : (earlier vs : List Variable) → AllByRecursion IsNone (kinds_after declaration_kind earlier vs) → has_twice (names_of vs) ≡ false
names_once earlier [] h = refl
names_once earlier (v ∷ vs) h =
    or_from (list_any (bytes_eq v.name) (names_of vs)) (has_twice (names_of vs)) (not_later earlier [] vs v h.1) (names_once (earlier ++ v ∷ []) vs h.1)

module _ (p : System) (is : IsProgram p) (writable : IsWritable p) where
  header_tests : AllByRecursion (λ (row : Bool × ShapeKind). row.0 ≡ false) ((list_any is_index_name p.params, Reserved) ∷ (has_twice p.params, TwiceName) ∷ [])
  header_tests = none_holds ((list_any is_index_name p.params, Reserved) ∷ (has_twice p.params, TwiceName) ∷ []) (mapped_none (λ k. Shape k 0) (header_kind p.params) (no_faults p is).1)

  kept : IsKept p
  kept = record {
    scopes = λ count few. columns_once p.params count header_tests.1.0 header_tests.0 (omega arith);
    names = names_once [] p.variables (all_none 1 (kinds_after declaration_kind [] p.variables) (no_faults p is).2);
    few = recursion_from_All (λ (v : Variable). shapes.indices (length p.params) v ≤ 8) p.variables (few_indices p is);
    under = recursion_from_All (λ (e : Equation). stands_under_many (length p.params) p.variables e ≡ false) p.equations (under_few p is);
  }

  -- domains of few disjuncts
  all_few : AllByRecursion IsFew (shapes.all_domains p)
  all_few = recursion_from_All IsFew (shapes.all_domains p) (few_disjuncts p is)

  abbrev domain_of : Variable → Union
  domain_of v = v.domain

  abbrev body_domains : Equation → List Union
  body_domains e = domains (term e.body)

  variables_few : (vs : List Variable) → AllByRecursion IsFew (map (λ (v : Variable). v.domain) vs) → AllByRecursion (λ (v : Variable). IsFew v.domain) vs
  variables_few [] h = tt
  variables_few (v ∷ vs) h = (h.0, variables_few vs h.1)

  declared_few : AllByRecursion (λ (v : Variable). IsFew v.domain) p.variables
  declared_few = variables_few p.variables (all_first IsFew (map (λ (v : Variable). v.domain) p.variables) (flat_map body_domains p.equations) all_few.1)

  bodies_few : AllByRecursion (λ (e : Equation). AllByRecursion IsFew (body_domains e)) p.equations
  bodies_few = all_of_flat IsFew body_domains p.equations (all_last IsFew (map (λ (v : Variable). v.domain) p.variables) (flat_map body_domains p.equations) all_few.1)

  -- the parts of each body
  abbrev Proper : Term → Type 0
  Proper = IsProper (length p.params) p.variables

  proper_parts : (ts : List Term) → AllByRecursion (λ part. has_other_arity (length p.params) p.variables part ≡ false) ts → AllByRecursion (λ part. reduces_by_sub part ≡ false) ts
      → AllByRecursion (λ part. IsTrue (ast.is_written part)) ts → AllByRecursion (λ part. AllByRecursion IsFew (own_domains part)) ts → AllByRecursion Proper ts
  proper_parts [] a f w d = tt
  proper_parts (t ∷ ts) a f w d = (record { arity = a.0; folds = f.0; written = w.0; few = d.0 }, proper_parts ts a.1 f.1 w.1 d.1)

  proper_bodies : (es : List Equation) → AllByRecursion (λ (e : Equation). AllByRecursion (λ part. has_other_arity (length p.params) p.variables part ≡ false) (parts (term e.body))) es
      → AllByRecursion (λ (e : Equation). AllByRecursion (λ part. reduces_by_sub part ≡ false) (parts (term e.body))) es
      → AllByRecursion (λ (e : Equation). All (λ part. IsTrue (ast.is_written part)) (parts (term e.body))) es → AllByRecursion (λ (e : Equation). AllByRecursion IsFew (body_domains e)) es
      → AllByRecursion (λ (e : Equation). EachPart Proper (term e.body)) es
  proper_bodies [] a f w d = tt
  proper_bodies (e ∷ es) a f w d = (
    each_part Proper (term e.body) (proper_parts (parts (term e.body)) a.0 f.0 (recursion_from_All (λ part. IsTrue (ast.is_written part)) (parts (term e.body)) w.0) (all_of_flat IsFew own_domains (parts (term e.body)) d.0)),
    proper_bodies es a.1 f.1 w.1 d.1,
  )

  proper : AllByRecursion (λ (e : Equation). EachPart Proper (term e.body)) p.equations
  proper =
      proper_bodies p.equations
      (recursion_from_All (λ (e : Equation). AllByRecursion (λ part. has_other_arity (length p.params) p.variables part ≡ false) (parts (term e.body))) p.equations (has_arities p is))
      (recursion_from_All (λ (e : Equation). AllByRecursion (λ part. reduces_by_sub part ≡ false) (parts (term e.body))) p.equations (folds p is))
      (recursion_from_All (λ (e : Equation). All (λ part. IsTrue (ast.is_written part)) (parts (term e.body))) p.equations writable.bodies) bodies_few

  -- each variable and equation
  good_variables : (vs : List Variable) → AllByRecursion HasDomainRows vs → AllByRecursion (λ (v : Variable). length p.params ≤ v.domain.width) vs → AllByRecursion (λ (v : Variable). shapes.indices (length p.params) v ≤ 8) vs
      → AllByRecursion (λ (v : Variable). IsFew v.domain) vs → AllByRecursion (IsGoodVariable p.params) vs
  good_variables [] r w i f = tt
  good_variables (v ∷ vs) r w i f = (record { rows = r.0; wide = w.0; indices = i.0; few = f.0 }, good_variables vs r.1 w.1 i.1 f.1)

  variables_good : AllByRecursion (IsGoodVariable p.params) p.variables
  variables_good =
      good_variables p.variables (recursion_from_All HasDomainRows p.variables is.rows.domains)
      (recursion_from_All (λ (v : Variable). length p.params ≤ v.domain.width) p.variables is.placed.domains) kept.few declared_few

  good_equations : (es : List Equation) → AllByRecursion (IsEquationPlaced p.variables) es → AllByRecursion (HasBodyRows p.variables) es
      → AllByRecursion (λ (e : Equation). stands_under_many (length p.params) p.variables e ≡ false) es → AllByRecursion (λ (e : Equation). EachPart Proper (term e.body)) es
      → AllByRecursion (λ (e : Equation). nodes (term e.body) ≤ 512) es → AllByRecursion (IsGoodEquation p) es
  good_equations [] a r u e n = tt
  good_equations (q ∷ es) a r u e n = (record { variable = variable_at p is kept q a.0 r.0 u.0; proper = e.0; small = n.0 }, good_equations es a.1 r.1 u.1 e.1 n.1)

  equations_good : AllByRecursion (IsGoodEquation p) p.equations
  equations_good =
      good_equations p.equations (recursion_from_All (IsEquationPlaced p.variables) p.equations is.placed.bodies) (recursion_from_All (HasBodyRows p.variables) p.equations is.rows.bodies) kept.under proper
      (recursion_from_All (λ (e : Equation). nodes (term e.body) ≤ 512) p.equations (few_nodes p is))

  -- what the grammar asks for
  named : AllByRecursion (λ (v : Variable). IsName v.name) p.variables
  named = each (λ (v : Variable). IsTrue (ast.is_name v.name)) (λ (v : Variable). IsName v.name) (λ v h. name_is v.name h) p.variables (recursion_from_All (λ (v : Variable). IsTrue (ast.is_name v.name)) p.variables writable.variables)

  name_there : (x : ℕ) → x < length p.variables → IsName (name_of p.variables x)
  name_there x within =
      let known = some_at p.variables x within in
      subst IsName (sym (name_at p.variables x known.0 known.1)) (all_at (λ (v : Variable). IsName v.name) p.variables x known.0 named known.1)

  showable_variable : (v : Variable) → IsGoodVariable p.params v → IsName v.name → IsShowableVariable v
  showable_variable v good is = (is, spelled_domain v.domain.width v.domain good.rows)

  showable_equation : (e : Equation) → IsGoodEquation p e → IsShowableEquation p.variables e
  showable_equation e good =
      let facts = good.variable.1 in (
        subst IsName (sym (name_at p.variables e.variable good.variable.0 facts.found)) (all_at (λ (v : Variable). IsName v.name) p.variables e.variable good.variable.0 named facts.found),
        good.small,
        showable (length p.params) p.variables name_there (term e.body) good.variable.0.domain.width facts.placed facts.rows good.proper,
      )

  showable_program : IsShowableProgram p
  showable_program = record {
    name = name_is p.name writable.program;
    params = each (λ name. IsTrue (ast.is_name name)) IsName name_is p.params (recursion_from_All (λ name. IsTrue (ast.is_name name)) p.params writable.parameters);
    domain = (is.placed.parameters_plain, spelled_disjuncts (length p.params) p.pdom.disjuncts is.rows.parameters.disjuncts);
    variables = all_both (IsGoodVariable p.params) (λ (v : Variable). IsName v.name) IsShowableVariable showable_variable p.variables variables_good named;
    equations = each (IsGoodEquation p) (IsShowableEquation p.variables) showable_equation p.equations equations_good;
  }

pub shown_is_the_program : ShownIsTheProgram
shown_is_the_program p is writable = record {
  written = written_of p;
  read = shown_is_a_sentence p (showable_program p is writable);
  means = record {
    accepted = accepted p is (kept p is writable) (header_tests p is writable).0 (variables_good p is writable) (equations_good p is writable);
    meant = sym (system_back p is (kept p is writable));
  };
}
