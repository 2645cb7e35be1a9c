-- The program of a text without a refusal isn't refused.
use Rattle.std.proofs.Common.{◌≡◌, ℕ, suc, ◌+◌, List, [], ◌∷◌, length, Option, None, refl, ap, ◌∙◌}
use Rattle.std.specs.Prelude.{option_map}
use Rattle.std.specs.List.{AllByRecursion}
use Rattle.std.specs.Option.{option_or}
use Rattle.az_ast.specs.declared.fault.ShapeFault.TheVariants.{Shape}
use Rattle.az_ast.specs.declared.fault.ShapeKind.{ShapeKind}
use Rattle.az_ast.specs.Shapes as ast
use Rattle.az_ast.proofs.ShapeParts.{shape_parts}
use Rattle.program_grammar.specs.declared.tree.ProgramText.{ProgramText}
use Rattle.program_names.specs.Refusals.{refusal_of}
use Rattle.program_names.specs.Resolved.{variables_of, system_of}
use Rattle.program_names.proofs.Accepted.{IsNone}
use Rattle.program_names.proofs.EquationsKept.{equations_kept}
use Rattle.program_names.proofs.ItemsKept.{header_kept, declarations_kept}
use Rattle.program_names.proofs.LimitsKept.{limits_kept}
use Rattle.program_names.proofs.MissingKept.{missing_kept}

neither-answered : {A : Type 0} (a b : Option A) → a ≡ None → b ≡ None → option_or a b ≡ None
neither-answered a b first second = ap (λ o. option_or o b) first ∙ second

first-none : (n : ℕ) (kinds : List (Option ShapeKind)) → AllByRecursion IsNone kinds → ast.first_kind n kinds ≡ None
first-none n [] h = refl
first-none n (kind ∷ kinds) h = neither-answered (option_map (λ k. Shape k n) kind) (ast.first_kind (suc n) kinds) (ap (option_map (λ k. Shape k n)) h.0) (first-none (suc n) kinds h.1)

pub nothing_refused : (text : ProgramText) → refusal_of text ≡ None → ast.refusal_of (system_of text) ≡ None
nothing_refused text accepted =
    let p = system_of text in
    let header = option_map (λ k. Shape k 0) (ast.header_kind text.params) in
    let declarations = ast.kinds_after ast.declaration_kind [] (variables_of text) in
    let equations = ast.kinds_after (ast.equation_kind (length text.params) (variables_of text)) [] p.equations in
    let missing = ast.missing_kinds p.equations 0 (variables_of text) in
    let first = ast.first_kind 1 declarations in
    let second = ast.first_kind (1 + length (variables_of text)) equations in
    let third = ast.first_kind 1 missing in
    neither-answered (ast.limit_of p) (ast.shape_of p) (limits_kept text accepted)
    (shape_parts p
    ∙ neither-answered header (option_or first (option_or second third)) (ap (option_map (λ k. Shape k 0)) (header_kept text accepted))
    (neither-answered first (option_or second third) (first-none 1 declarations (declarations_kept text accepted))
    (neither-answered second third (first-none (1 + length (variables_of text)) equations (equations_kept text accepted)) (first-none 1 missing (missing_kept text accepted)))))
