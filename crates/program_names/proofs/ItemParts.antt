-- The refusal of a text, part by part.
use Rattle.std.proofs.Common.{◌≡◌, ◌+◌, ◌≤◌, List, [], ◌∷◌, ◌++◌, length, Bool, Option, None, sym, ap, ◌∙◌, arith}
use Rattle.std.specs.Prelude.{map, option_map, nat_lt}
use Rattle.std.specs.Option.{option_or}
use Rattle.std.proofs.lemmas.Bool.{ltb-false}
use Rattle.std.proofs.lemmas.List.{append-nil, length-append, length-map, map-append}
use Rattle.az_lin.specs.declared.limit.Limit.TheVariants.{Names, Columns, Size, Disjuncts}
use Rattle.az_ast.specs.declared.fault.ShapeFault.{ShapeFault}
use Rattle.az_ast.specs.declared.fault.ShapeFault.TheVariants.{Shape, Limit}
use Rattle.az_ast.specs.declared.fault.ShapeKind.{ShapeKind}
use Rattle.az_ast.specs.Shapes.{first_kind, kinds_after}
use Rattle.az_ast.proofs.ShapeParts.{or_assoc, first_kind-append, length-kinds_after, none_holds, neither}
use Rattle.program_grammar.specs.declared.tree.Declaration.{Declaration}
use Rattle.program_grammar.specs.declared.tree.ProgramText.{ProgramText}
use Rattle.program_names.specs.Refusals.{header_kind, declaration_kind, equation_kind, missing_kind, missing_kinds, shape_of, limit_of, has_many_names, has_many_columns, has_many_nodes, has_many_disjuncts, some_declared, some_equated}
use Rattle.std.specs.Prelude.{◌||◌}
use Rattle.program_names.specs.Resolved.{declarations}
use Rattle.program_names.proofs.ItemLaws.{kinds_after-behind, kinds_after-append}

from-before : {A : Type 0} (kind : List A → A → Option ShapeKind) (before xs : List A) → kinds_after (λ (e : List A). kind (before ++ e)) [] xs ≡ kinds_after kind before xs
from-before kind before xs = kinds_after-behind kind before [] xs ∙ ap (λ e. kinds_after kind e xs) (append-nil before)

module _ (text : ProgramText) where
  pub count_parts : length (declarations text) ≡ length text.inputs + length text.outputs + length text.locals
  count_parts =
      let a = length-append text.inputs (text.outputs ++ text.locals) in
      let b = length-append text.outputs text.locals in
      omega (arith, a, b)

  -- the header, the declarations, the equations, and then the equations that are missing
  pub shape_parts :
      shape_of text
      ≡ option_or (option_map (λ k. Shape k 0) (header_kind text))
      (option_or (first_kind 1 (kinds_after (declaration_kind text) [] (declarations text)))
      (option_or (first_kind (1 + length (declarations text)) (kinds_after (equation_kind text) [] text.equations))
      (first_kind (1 + length text.inputs) (missing_kinds text))))
  shape_parts =
      let header = option_map (λ k. Shape k 0) (header_kind text) in
      let declared = kinds_after (declaration_kind text) [] (declarations text) in
      let defined = kinds_after (equation_kind text) [] text.equations in
      let missing = first_kind (1 + length text.inputs) (missing_kinds text) in
      ap (λ o. option_or (option_or header o) missing)
      (first_kind-append 1 declared defined ∙ ap (λ n. option_or (first_kind 1 declared) (first_kind (1 + n) defined)) (length-kinds_after (declaration_kind text) [] (declarations text)))
      ∙ (or_assoc header (option_or (first_kind 1 declared) (first_kind (1 + length (declarations text)) defined)) missing
      ∙ ap (option_or header) (or_assoc (first_kind 1 declared) (first_kind (1 + length (declarations text)) defined) missing))

  -- the inputs, the outputs, the locals
  pub declared_parts :
      first_kind 1 (kinds_after (declaration_kind text) [] (declarations text))
      ≡ option_or (first_kind 1 (kinds_after (λ (e : List Declaration). declaration_kind text (([] ++ []) ++ e)) [] text.inputs))
      (option_or (first_kind (1 + length text.inputs) (kinds_after (λ (e : List Declaration). declaration_kind text (([] ++ text.inputs) ++ e)) [] text.outputs))
      (first_kind (1 + length text.inputs + length text.outputs) (kinds_after (λ (e : List Declaration). declaration_kind text ((text.inputs ++ text.outputs) ++ e)) [] text.locals)))
  declared_parts =
      let dk = declaration_kind text in
      let a = kinds_after dk [] text.inputs in
      let b = kinds_after (λ (e : List Declaration). dk (text.inputs ++ e)) [] text.outputs in
      let c = kinds_after (λ (e : List Declaration). dk ((text.inputs ++ text.outputs) ++ e)) [] text.locals in
      let whole : kinds_after dk [] (declarations text) ≡ a ++ (b ++ c) =
      kinds_after-append dk [] text.inputs (text.outputs ++ text.locals)
      ∙ ap (λ r. a ++ r)
      (kinds_after-append dk text.inputs text.outputs text.locals
      ∙ (ap (λ r. r ++ kinds_after dk (text.inputs ++ text.outputs) text.locals) (sym (from-before dk text.inputs text.outputs))
      ∙ ap (λ r. b ++ r) (sym (from-before dk (text.inputs ++ text.outputs) text.locals)))) in
      ap (first_kind 1) whole
      ∙ (first_kind-append 1 a (b ++ c)
      ∙ ap (option_or (first_kind 1 a))
      (ap (λ n. first_kind (1 + n) (b ++ c)) (length-kinds_after dk [] text.inputs)
      ∙ (first_kind-append (1 + length text.inputs) b c
      ∙ ap (λ n. option_or (first_kind (1 + length text.inputs) b) (first_kind (1 + length text.inputs + n) c)) (length-kinds_after (λ (e : List Declaration). dk (text.inputs ++ e)) [] text.outputs))))

  -- where no input or output is at fault, the locals decide
  pub last_declared :
      first_kind 1 (kinds_after (λ (e : List Declaration). declaration_kind text (([] ++ []) ++ e)) [] text.inputs) ≡ None →
      first_kind (1 + length text.inputs) (kinds_after (λ (e : List Declaration). declaration_kind text (([] ++ text.inputs) ++ e)) [] text.outputs) ≡ None →
      first_kind (1 + length text.inputs + length text.outputs) (kinds_after (λ (e : List Declaration). declaration_kind text ((text.inputs ++ text.outputs) ++ e)) [] text.locals)
      ≡ first_kind 1 (kinds_after (declaration_kind text) [] (declarations text))
  last_declared a b =
      let outputs = first_kind (1 + length text.inputs) (kinds_after (λ (e : List Declaration). declaration_kind text (([] ++ text.inputs) ++ e)) [] text.outputs) in
      let locals = first_kind (1 + length text.inputs + length text.outputs) (kinds_after (λ (e : List Declaration). declaration_kind text ((text.inputs ++ text.outputs) ++ e)) [] text.locals) in
      sym (declared_parts ∙ (ap (λ o. option_or o (option_or outputs locals)) a ∙ ap (λ o. option_or o locals) b))

  -- the outputs, the locals
  pub missing_parts :
      first_kind (1 + length text.inputs) (missing_kinds text)
      ≡ option_or (first_kind (1 + length text.inputs) (map (missing_kind text.equations) text.outputs))
      (first_kind (1 + length text.inputs + length text.outputs) (map (missing_kind text.equations) text.locals))
  missing_parts =
      let m = missing_kind text.equations in
      let n = 1 + length text.inputs in
      ap (first_kind n) (map-append m text.outputs text.locals)
      ∙ (first_kind-append n (map m text.outputs) (map m text.locals)
      ∙ ap (λ k. option_or (first_kind n (map m text.outputs)) (first_kind (n + k) (map m text.locals))) (length-map text.outputs m))

  abbrev pub limits : List (Bool × ShapeFault)
  limits =
      (has_many_names text, Limit Names) ∷ (has_many_columns text, Limit Columns) ∷ (has_many_nodes text, Limit Size)
      ∷ (some_declared has_many_disjuncts text || some_equated has_many_disjuncts text, Limit Disjuncts) ∷ []

  pub few_declared : limit_of text ≡ None → length text.inputs + length text.outputs + length text.locals ≤ 256
  few_declared e =
      let names = none_holds limits e in
      ltb-false 256 (length text.inputs + length text.outputs + length text.locals)
      (neither (nat_lt 256 (length text.inputs + length text.outputs + length text.locals)) (nat_lt 8 (length text.params)) names.0).0
