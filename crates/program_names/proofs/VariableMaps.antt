-- What is told of the variables, told of the declarations.
use Rattle.std.proofs.Common.{◌≡◌, List, [], ◌∷◌, ◌++◌, Bool, ◌||◌, refl, sym, ap, ◌∙◌}
use Rattle.std.specs.Prelude.{map}
use Rattle.std.specs.List.{list_any}
use Rattle.std.proofs.lemmas.List.{map-append}
use Rattle.std.proofs.lemmas.List.Folds.{list_any-append}
use Rattle.az_ast.specs.declared.program.Role.{Role}
use Rattle.az_ast.specs.declared.program.Role.TheVariants.{Input, Output, Local}
use Rattle.az_ast.specs.declared.program.Variable.{Variable}
use Rattle.program_grammar.specs.declared.tree.Declaration.{Declaration}
use Rattle.program_grammar.specs.declared.tree.ProgramText.{ProgramText}
use Rattle.program_names.specs.Refusals.{any_declaration}
use Rattle.program_names.specs.Resolved.{declarations, variable_of, variables_of}
use Rattle.program_names.proofs.Sums.{list_any-map}

module _ (text : ProgramText) {X : Type 0} (f : Variable → X) (g : Declaration → X) (same : (role : Role) (d : Declaration) → f (variable_of text.params role d) ≡ g d) where
  of-role : (role : Role) (ds : List Declaration) → map f (map (variable_of text.params role) ds) ≡ map g ds
  of-role role [] = refl
  of-role role (d ∷ ds) = ap (λ x. x ∷ map f (map (variable_of text.params role) ds)) (same role d) ∙ ap (λ rest. g d ∷ rest) (of-role role ds)

  pub variables-map : map f (variables_of text) ≡ map g (declarations text)
  variables-map =
      let inputs = map (variable_of text.params Input) text.inputs in
      let outputs = map (variable_of text.params Output) text.outputs in
      let locals = map (variable_of text.params Local) text.locals in
      map-append f inputs (outputs ++ locals)
      ∙ (ap (λ r. map f inputs ++ r) (map-append f outputs locals)
      ∙ (ap (λ r. r ++ (map f outputs ++ map f locals)) (of-role Input text.inputs)
      ∙ (ap (λ r. map g text.inputs ++ (r ++ map f locals)) (of-role Output text.outputs)
      ∙ (ap (λ r. map g text.inputs ++ (map g text.outputs ++ r)) (of-role Local text.locals)
      ∙ (ap (λ r. map g text.inputs ++ r) (sym (map-append g text.outputs text.locals))
      ∙ sym (map-append g text.inputs (text.outputs ++ text.locals)))))))

-- a test of the variables
pub any-variable : (text : ProgramText) (test : Variable → Bool) (wanted : Declaration → Bool) →
    ((role : Role) (d : Declaration) → test (variable_of text.params role d) ≡ wanted d) → list_any test (variables_of text) ≡ any_declaration wanted text
any-variable text test wanted same =
    sym (list_any-map (λ (b : Bool). b) test (variables_of text))
    ∙ (ap (list_any (λ (b : Bool). b)) (variables-map text test wanted same)
    ∙ (list_any-map (λ (b : Bool). b) wanted (declarations text)
    ∙ (list_any-append wanted text.inputs (text.outputs ++ text.locals)
    ∙ ap (λ b. list_any wanted text.inputs || b) (list_any-append wanted text.outputs text.locals))))
