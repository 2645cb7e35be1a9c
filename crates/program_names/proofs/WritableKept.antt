-- The program of a written text is writable: its names are kept, and no case loses its branches.
use Rattle.std.proofs.Common.{◌≡◌, ℕ, List, [], ◌∷◌, ◌++◌, length, Bool, true, false, not, ◌||◌, refl, sym, ap, subst, ◌∙◌}
use Rattle.std.specs.Prelude.{map, All, IsTrue, ◌==◌, bytes_eq}
use Rattle.std.specs.Char.{is_ascii_alphabetic, is_ascii_alphanumeric}
use Rattle.std.specs.List.{list_any, list_all, AllByRecursion}
use Rattle.std.proofs.lemmas.Bool.{false≢true, and_from, and_parts}
use Rattle.std.proofs.lemmas.Cmp.{nat_list_eq_equiv}
use Rattle.std.proofs.lemmas.List.Elements.{All-nil, All-cons, All-append, All-map, All-weaker}
use Rattle.az_text.specs.Tokens.{is_word_byte, AllAre}
use Rattle.az_ast.specs.declared.expr.Branch as program
use Rattle.az_ast.specs.declared.program.Equation as resolved
use Rattle.az_ast.specs.declared.program.Role.{Role}
use Rattle.az_ast.specs.declared.program.Role.TheVariants.{Input, Output, Local}
use Rattle.az_ast.specs.declared.program.Variable.{Variable}
use Rattle.az_ast.specs.Term.{Term, Choices, constant, index, access, negation, binary, cases, reduction, choices, term}
use Rattle.az_ast.specs.Walks.{parts, parts_below}
use Rattle.az_ast.specs.Writable as ast
use Rattle.az_ast.specs.Writable.{IsWritable}
use Rattle.az_ast.proofs.Terms.{term-Const, term-Index, term-Access, term-Neg, term-Bin, term-Cases, term-Reduce}
use Rattle.program_grammar.specs.declared.tree.Branch.{Branch}
use Rattle.program_grammar.specs.declared.tree.Declaration.{Declaration}
use Rattle.program_grammar.specs.declared.tree.Equation.{Equation}
use Rattle.program_grammar.specs.declared.tree.Expr as tree
use Rattle.program_grammar.specs.declared.tree.ProgramText.{ProgramText}
use Rattle.program_grammar.specs.Words.{reserved}
use Rattle.program_grammar.specs.Written.{IsName, AreNamed, is_written_case, is_written, IsWritten}
use Rattle.program_grammar.proofs.WrittenForms.{written-Negation, written-Binary, written-Cases, written-Reduction}
use Rattle.program_names.specs.Branches.{resolved_branch}
use Rattle.program_names.specs.Resolved.{op_of, number_of, expression, declared_names, variable_of, equation_of, system_of}
use Rattle.program_names.specs.Sides.{Scope, alone, signed, row_of, map_of, union_of}
use Rattle.program_names.proofs.ExpressionLemmas.{expression-Constant, expression-Index, expression-Access, expression-Negation, expression-Binary, expression-Cases, expression-Reduction}
use Rattle.program_names.proofs.RowLists.{any-same}
use Rattle.program_names.proofs.TreeInduction.{induct}

-- names
word-bytes : (bytes : List ℕ) → AllAre is_word_byte bytes → list_all (λ b. is_ascii_alphanumeric b || b == 95) bytes ≡ true
word-bytes [] all = refl
word-bytes (b ∷ bytes) all = and_from (is_word_byte b) (list_all (λ b. is_ascii_alphanumeric b || b == 95) bytes) all.0 (word-bytes bytes all.1)

unreserved : (name : List ℕ) → list_any (bytes_eq name) reserved ≡ false → not (list_any (λ reserved. bytes_eq reserved name) ast.reserved_words) ≡ true
unreserved name h = ap not (any-same (λ word. bytes_eq word name) (bytes_eq name) (λ word. nat_list_eq_equiv.symm word name) reserved ∙ h)

name-kept : (name : List ℕ) → IsName name → IsTrue (ast.is_name name)
name-kept [] h = absurd h.0
name-kept (b ∷ bytes) h =
    and_from (ast.is_word (b ∷ bytes)) (not (list_any (λ reserved. bytes_eq reserved (b ∷ bytes)) ast.reserved_words))
    (and_from (is_ascii_alphabetic b) (list_all (λ b. is_ascii_alphanumeric b || b == 95) bytes) h.0.0 (word-bytes bytes h.0.1))
    (unreserved (b ∷ bytes) h.1)

abbrev HasName : Variable → Type 0
HasName variable = IsTrue (ast.is_name variable.name)

declared-kept : (params : Scope) (role : Role) (ds : List Declaration) → AreNamed ds → All HasName (map (variable_of params role) ds)
declared-kept params role ds h = All-map HasName (variable_of params role) ds (All-weaker (λ (d : Declaration). IsName d.name) (λ d. IsTrue (ast.is_name d.name)) (λ d k. name-kept d.name k) ds h)

-- expressions
abbrev IsWrittenPart : Term → Type 0
IsWrittenPart part = IsTrue (ast.is_written part)

abbrev AreWritten : List Term → Type 0
AreWritten = All IsWrittenPart

-- a part and those behind it
and-behind : (part : Term) (rest : List Term) → IsWrittenPart part → AreWritten rest → AreWritten (part ∷ rest)
and-behind = All-cons IsWrittenPart

alone-written : (part : Term) → IsWrittenPart part → AreWritten (part ∷ [])
alone-written part h = and-behind part [] h (All-nil IsWrittenPart)

module _ (variables : List (List ℕ)) where
  abbrev KeepsBranches : tree.Expr → Type 0
  KeepsBranches e = is_written e ≡ true → (scope : Scope) → AreWritten (parts (term (expression variables e scope)))

  abbrev bodies_written : List Branch → List Bool
  bodies_written branches = map (λ (b : Branch). is_written b.body) branches

  abbrev resolved_choices : Scope → List Branch → Choices
  resolved_choices scope branches = choices (map (λ (b : program.Branch). (b.domain, term b.body)) (map (resolved_branch variables scope) branches))

  branches-kept : (scope : Scope) (branches : List Branch) → AllByRecursion (λ (b : Branch). KeepsBranches b.body) branches → list_all (λ is. is) (bodies_written branches) ≡ true →
      AreWritten (parts_below (resolved_choices scope branches))
  branches-kept scope [] h k = All-nil IsWrittenPart
  branches-kept scope (b ∷ branches) h k =
      let both = and_parts (is_written b.body) (list_all (λ is. is) (bodies_written branches)) k in
      All-append IsWrittenPart (parts (term (expression variables b.body scope))) (parts_below (resolved_choices scope branches)) (h.0 both.0 scope) (branches-kept scope branches h.1 both.1)

  case-kept : (scope : Scope) (branches : List Branch) → AllByRecursion (λ (b : Branch). KeepsBranches b.body) branches → is_written_case (bodies_written branches) ≡ true →
      AreWritten (parts (cases (resolved_choices scope branches)))
  case-kept scope [] h k = absurd (false≢true k)
  case-kept scope (b ∷ branches) h k = and-behind (cases (resolved_choices scope (b ∷ branches))) (parts_below (resolved_choices scope (b ∷ branches))) refl (branches-kept scope (b ∷ branches) h k)

  branches-all-kept : (e : tree.Expr) → KeepsBranches e
  branches-all-kept =
      induct KeepsBranches
      (λ negative n k scope. subst (λ t. AreWritten (parts t)) (sym (ap term (expression-Constant variables negative n scope) ∙ term-Const (signed negative n))) (alone-written (constant (signed negative n)) refl))
      (λ side k scope.
      subst (λ t. AreWritten (parts t)) (sym (ap term (expression-Index variables side scope) ∙ term-Index (row_of scope (alone side)))) (alone-written (index (row_of scope (alone side))) refl))
      (λ x sides k scope.
      subst (λ t. AreWritten (parts t)) (sym (ap term (expression-Access variables x sides scope) ∙ term-Access (number_of variables x) (map_of scope sides)))
      (alone-written (access (number_of variables x) (map_of scope sides)) refl))
      (λ e h k scope.
      subst (λ t. AreWritten (parts t)) (sym (ap term (expression-Negation variables e scope) ∙ term-Neg (expression variables e scope)))
      (and-behind (negation (term (expression variables e scope))) (parts (term (expression variables e scope))) refl (h (sym (written-Negation e) ∙ k) scope)))
      (λ op a b h g k scope.
      let left = term (expression variables a scope) in
      let right = term (expression variables b scope) in
      let both = and_parts (is_written a) (is_written b) (sym (written-Binary op a b) ∙ k) in
      subst (λ t. AreWritten (parts t)) (sym (ap term (expression-Binary variables op a b scope) ∙ term-Bin (op_of op) (expression variables a scope) (expression variables b scope)))
      (and-behind (binary (op_of op) left right) (parts left ++ parts right) refl (All-append IsWrittenPart (parts left) (parts right) (h both.0 scope) (g both.1 scope))))
      (λ branches h k scope.
      subst (λ t. AreWritten (parts t)) (sym (ap term (expression-Cases variables branches scope) ∙ term-Cases (map (resolved_branch variables scope) branches)))
      (case-kept scope branches h (sym (written-Cases branches) ∙ k)))
      (λ op extra chains e h k scope.
      let inner = scope ++ extra in
      subst (λ t. AreWritten (parts t)) (sym (ap term (expression-Reduction variables op extra chains e scope)
      ∙ term-Reduce (op_of op) (length extra) (union_of inner (chains ∷ [])) (expression variables e inner)))
      (and-behind (reduction (op_of op) (length extra) (union_of inner (chains ∷ [])) (term (expression variables e inner))) (parts (term (expression variables e inner))) refl
      (h (sym (written-Reduction op extra chains e) ∙ k) inner)))

-- the whole program
pub writable_kept : (text : ProgramText) → IsWritten text → IsWritable (system_of text)
writable_kept text written =
    let inputs = map (variable_of text.params Input) text.inputs in
    let outputs = map (variable_of text.params Output) text.outputs in
    let locals = map (variable_of text.params Local) text.locals in
    record {
      program = name-kept text.name written.name;
      parameters = All-weaker IsName (λ name. IsTrue (ast.is_name name)) name-kept text.params written.parameters;
      variables = All-append HasName inputs (outputs ++ locals) (declared-kept text.params Input text.inputs written.inputs)
          (All-append HasName outputs locals (declared-kept text.params Output text.outputs written.outputs) (declared-kept text.params Local text.locals written.locals));
      bodies = All-map (λ (e : resolved.Equation). AreWritten (parts (term e.body))) (equation_of (declared_names text) text.params) text.equations
          (All-weaker (λ (e : Equation). IsTrue (is_written e.body)) (λ (e : Equation). AreWritten (parts (term (expression (declared_names text) e.body (text.params ++ e.indices)))))
          (λ e k. branches-all-kept (declared_names text) e.body k (text.params ++ e.indices)) text.equations written.bodies);
    }
