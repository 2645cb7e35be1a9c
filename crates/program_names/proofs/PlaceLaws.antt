-- The variables of a text stand in their order, over the parameters and their own indices.
use Rattle.std.proofs.Common.{ℕ, ◌≤◌, List, [], ◌∷◌, ◌++◌, length, get_or, refl, subst, arith}
use Rattle.std.specs.Prelude.{map, All}
use Rattle.std.specs.List.{AllByRecursion}
use Rattle.std.proofs.lemmas.List.{append-nil, length-append}
use Rattle.std.proofs.lemmas.List.Elements.{All-map, All-append}
use Rattle.az_ast.specs.declared.program.Role.{Role}
use Rattle.az_ast.specs.declared.program.Role.TheVariants.{Input, Output, Local}
use Rattle.az_ast.specs.declared.program.Variable.{Variable}
use Rattle.az_ast.specs.Placed.{rank, AreInOrder, IsConjunction}
use Rattle.program_grammar.specs.declared.tree.Declaration.{Declaration}
use Rattle.program_grammar.specs.declared.tree.ProgramText.{ProgramText}
use Rattle.program_names.specs.Resolved.{variable_of, variables_of, system_of}
use Rattle.program_names.specs.Sides.{Scope}

module _ (params : Scope) where
  ranks : (r : ℕ) (role : Role) (ds : List Declaration) (rest : List Variable) → r ≤ rank role → AllByRecursion (λ (v : Variable). r ≤ rank v.role) rest →
      AllByRecursion (λ (v : Variable). r ≤ rank v.role) (map (variable_of params role) ds ++ rest)
  ranks r role [] rest le h = h
  ranks r role (d ∷ ds) rest le h = (le, ranks r role ds rest le h)

  ordered : (role : Role) (ds : List Declaration) (rest : List Variable) → AllByRecursion (λ (v : Variable). rank role ≤ rank v.role) rest → AreInOrder rest →
      AreInOrder (map (variable_of params role) ds ++ rest)
  ordered role [] rest h o = o
  ordered role (d ∷ ds) rest h o = (ranks (rank role) role ds rest (omega arith) h, ordered role ds rest h o)

  over : (role : Role) (ds : List Declaration) → All (λ (v : Variable). length params ≤ v.domain.width) (map (variable_of params role) ds)
  over role ds = All-map (λ (v : Variable). length params ≤ v.domain.width) (variable_of params role) ds (λ k d h. let a = length-append params (get_or ds k d).indices in omega (arith, a))

module _ (text : ProgramText) where
  pub in_order : AreInOrder (variables_of text)
  in_order =
      let outputs = map (variable_of text.params Output) text.outputs in
      let locals = map (variable_of text.params Local) text.locals in
      let of_locals : (r : ℕ) → r ≤ 2 → AllByRecursion (λ (v : Variable). r ≤ rank v.role) locals =
      λ r le. subst (AllByRecursion (λ (v : Variable). r ≤ rank v.role)) (append-nil locals) (ranks text.params r Local text.locals [] le tt) in
      let last : AreInOrder locals = subst AreInOrder (append-nil locals) (ordered text.params Local text.locals [] tt tt) in
      ordered text.params Input text.inputs (outputs ++ locals) (ranks text.params 0 Output text.outputs locals (omega arith) (of_locals 0 (omega arith)))
      (ordered text.params Output text.outputs locals (of_locals 1 (omega arith)) last)

  pub over_params : All (λ (v : Variable). length text.params ≤ v.domain.width) (variables_of text)
  over_params =
      let P = λ (v : Variable). length text.params ≤ v.domain.width in
      let inputs = map (variable_of text.params Input) text.inputs in
      let outputs = map (variable_of text.params Output) text.outputs in
      let locals = map (variable_of text.params Local) text.locals in
      All-append P inputs (outputs ++ locals) (over text.params Input text.inputs) (All-append P outputs locals (over text.params Output text.outputs) (over text.params Local text.locals))

  pub parameters_plain : IsConjunction (system_of text).pdom
  parameters_plain = refl
