-- No equation of the program of a text without a refusal is refused.
use Rattle.std.proofs.Common.{true≢false, ◌≡◌, ℕ, zero, suc, List, [], ◌∷◌, ◌++◌, length, Bool, true, false, None, refl, sym, ap, subst, ◌∙◌}
use Rattle.std.specs.Prelude.{map, ◌==◌}
use Rattle.std.specs.List.{list_any, AllByRecursion}
use Rattle.std.specs.Option.{is_none}
use Rattle.std.specs.Str.{bytes_eq}
use Rattle.std.proofs.lemmas.Bool.{eqb-true, or_from}
use Rattle.std.proofs.lemmas.List.{append-nil}
use Rattle.az_ast.specs.declared.fault.ShapeKind.TheVariants.{Arity, InputEquation, TwoEquations, BadReduce}
use Rattle.az_ast.specs.declared.program.Equation as program
use Rattle.az_ast.specs.declared.program.Role.{Role}
use Rattle.az_ast.specs.declared.program.Role.TheVariants.{Input, Output, Local}
use Rattle.az_ast.specs.declared.program.Variable.{Variable}
use Rattle.az_ast.specs.Shapes as ast
use Rattle.az_ast.specs.Term.{term}
use Rattle.az_ast.specs.Walks.{parts}
use Rattle.program_grammar.specs.declared.tree.Declaration.{Declaration}
use Rattle.program_grammar.specs.declared.tree.Equation.{Equation}
use Rattle.program_grammar.specs.declared.tree.ProgramText.{ProgramText}
use Rattle.program_names.specs.Pieces.{Piece, place, names, pieces, equation_pieces}
use Rattle.program_names.specs.Refusals.{declaration_of, is_unknown, is_other_arity, is_bad_operator, written_kind, meant_kind, equation_kind, refusal_of}
use Rattle.program_names.specs.Resolved.{number_of, expression, declared_names, variable_of, variables_of, equation_of, system_of}
use Rattle.program_names.specs.Sides.{Scope}
use Rattle.program_names.proofs.Accepted.{kinds-kept, IsNone, equated}
use Rattle.program_names.proofs.ArityLaws.{arities-kept, operators-kept}
use Rattle.program_names.proofs.FirstRows.{no-hit}
use Rattle.program_names.proofs.ItemLaws.{both-none, written-none, meant-none, found-declared}
use Rattle.program_names.proofs.NameNumbers.{equal-bytes, same-number, number-behind}
use Rattle.program_names.proofs.Sums.{not-true, or-left, or-right}

-- no number names an input where there is none, nor where no input has the name
none-input : (variables : List Variable) → AllByRecursion (λ (v : Variable). ast.is_input v.role ≡ false) variables → (x : ℕ) → ast.of_variable variables (λ v. ast.is_input v.role) x ≡ false
none-input [] h x = refl
none-input (v ∷ variables) h zero = h.0
none-input (v ∷ variables) h (suc x) = none-input variables h.1 x

of-role : (params : Scope) (role : Role) (ds : List Declaration) (rest : List Variable) → ast.is_input role ≡ false → AllByRecursion (λ (v : Variable). ast.is_input v.role ≡ false) rest →
    AllByRecursion (λ (v : Variable). ast.is_input v.role ≡ false) (map (variable_of params role) ds ++ rest)
of-role params role [] rest other h = h
of-role params role (d ∷ ds) rest other h = (other, of-role params role ds rest other h)

behind-inputs : (params : Scope) (x : List ℕ) (inputs others : List Declaration) (rest : List Variable) → list_any (λ (input : Declaration). bytes_eq input.name x) inputs ≡ false →
    ((n : ℕ) → ast.of_variable rest (λ v. ast.is_input v.role) n ≡ false) →
    ast.of_variable (map (variable_of params Input) inputs ++ rest) (λ v. ast.is_input v.role) (number_of (map (λ (d : Declaration). d.name) (inputs ++ others)) x) ≡ false
behind-inputs params x [] others rest h free = free (number_of (map (λ (d : Declaration). d.name) others) x)
behind-inputs params x (d ∷ inputs) others rest h free =
    let later = list_any (λ (input : Declaration). bytes_eq input.name x) inputs in
    ap (ast.of_variable (map (variable_of params Input) (d ∷ inputs) ++ rest) (λ v. ast.is_input v.role))
    (number-behind d.name x (map (λ (d : Declaration). d.name) (inputs ++ others)) (or-left (bytes_eq d.name x) later h))
    ∙ behind-inputs params x inputs others rest (or-right (bytes_eq d.name x) later h) free

module _ (text : ProgramText) where
  abbrev resolved : Equation → program.Equation
  resolved = equation_of (declared_names text) text.params

  no-input : (x : List ℕ) → list_any (λ (input : Declaration). bytes_eq input.name x) text.inputs ≡ false →
      ast.of_variable (variables_of text) (λ v. ast.is_input v.role) (number_of (declared_names text) x) ≡ false
  no-input x h =
      let outputs = map (variable_of text.params Output) text.outputs in
      let locals = map (variable_of text.params Local) text.locals in
      let last = subst (AllByRecursion (λ (v : Variable). ast.is_input v.role ≡ false)) (append-nil locals) (of-role text.params Local text.locals [] refl tt) in
      behind-inputs text.params x text.inputs (text.outputs ++ text.locals) (outputs ++ locals) h (none-input (outputs ++ locals) (of-role text.params Output text.outputs locals refl last))

  -- equations of other names are of other numbers
  other-number : (x y : List ℕ) → list_any (bytes_eq x) (declared_names text) ≡ true → bytes_eq y x ≡ false → (number_of (declared_names text) y == number_of (declared_names text) x) ≡ false
  other-number x y declared h =
      let n = number_of (declared_names text) y in
      let m = number_of (declared_names text) x in
      not-true (n == m) (λ e. true≢false (sym (equal-bytes y x (same-number (declared_names text) x y declared (eqb-true n m e))) ∙ h))

  no-other : (x : List ℕ) → list_any (bytes_eq x) (declared_names text) ≡ true → (earlier : List Equation) → list_any (λ (other : Equation). bytes_eq other.variable x) earlier ≡ false →
      list_any (λ (other : program.Equation). other.variable == number_of (declared_names text) x) (map resolved earlier) ≡ false
  no-other x declared [] h = refl
  no-other x declared (e ∷ earlier) h =
      let later = list_any (λ (other : Equation). bytes_eq other.variable x) earlier in
      or_from (number_of (declared_names text) e.variable == number_of (declared_names text) x)
      (list_any (λ (other : program.Equation). other.variable == number_of (declared_names text) x) (map resolved earlier))
      (other-number x e.variable declared (or-left (bytes_eq e.variable x) later h)) (no-other x declared earlier (or-right (bytes_eq e.variable x) later h))

  -- the tests of the pieces of an equation's body
  in-body : (test : Piece → Bool) (e : Equation) → list_any test (equation_pieces text.params e) ≡ false → list_any test (pieces e.body (text.params ++ e.indices)) ≡ false
  in-body test e h =
      let scope = text.params ++ e.indices in
      or-right (test (names text.params e.indices)) (list_any test (pieces e.body scope))
      (or-right (test (place e.variable (length e.indices))) (list_any test (names text.params e.indices ∷ pieces e.body scope)) h)

  equation-kept : (earlier : List Equation) (e : Equation) → equation_kind text earlier e ≡ None → ast.equation_kind (length text.params) (variables_of text) (map resolved earlier) (resolved e) ≡ None
  equation-kept earlier e h =
      let scope = text.params ++ e.indices in
      let number = number_of (declared_names text) e.variable in
      let within = parts (term (expression (declared_names text) e.body scope)) in
      let both = both-none (written_kind text e) (meant_kind text earlier e) h in
      let unknown = (written-none text e both.0).1.0 in
      let meant = meant-none text earlier e both.1 in
      let declared = found-declared text e.variable (or-left (is_none (declaration_of text e.variable)) (list_any (is_unknown text) (names text.params e.indices ∷ pieces e.body scope)) unknown) in
      no-hit (list_any (ast.has_other_arity (length text.params) (variables_of text)) within) (ast.of_variable (variables_of text) (λ v. ast.is_input v.role) number)
      (list_any (λ (other : program.Equation). other.variable == number) (map resolved earlier)) (list_any ast.reduces_by_sub within) Arity InputEquation TwoEquations BadReduce
      (arities-kept text e.body scope (in-body (is_unknown text) e unknown) (in-body (is_other_arity text) e meant.0))
      (no-input e.variable meant.1.0) (no-other e.variable declared earlier meant.1.1.0) (operators-kept text e.body scope (in-body is_bad_operator e meant.1.1.1.0))

  pub equations_kept : refusal_of text ≡ None →
      AllByRecursion IsNone (ast.kinds_after (ast.equation_kind (length text.params) (variables_of text)) [] (system_of text).equations)
  equations_kept accepted =
      kinds-kept (equation_kind text) (ast.equation_kind (length text.params) (variables_of text)) resolved equation-kept [] text.equations (equated text accepted)
