-- Equations made one by one, and programs that are certified or not.
use Rattle.std.proofs.Common.{◌≡◌, ℕ, ◌+◌, ◌<◌, List, [], ◌∷◌, ◌++◌, length, take, map, get_or, Option, Some, None, Result, Ok, Err, refl, sym, ap, subst, ◌∙◌}
use Rattle.std.specs.Prelude.{option_map, filter_map}
use Rattle.std.specs.List.{cons_option}
use Rattle.std.specs.Option.{option_or}
use Rattle.std.proofs.lemmas.List.{map-append, take_more}
use Rattle.std.proofs.lemmas.List.Elements.{filter_map-append}
use Rattle.az_ast.specs.Shapes.{limit_of, shape_of, refusal_of}
use Rattle.az_ast.specs.System.{System}
use Rattle.az_ast.specs.declared.fault.ShapeFault.{ShapeFault}
use Rattle.az_ast.specs.declared.program.Equation.{Equation}
use Rattle.domain_check.specs.Promise.{Refuses}
use Rattle.domain_check.specs.declared.fault.CertifyFault.{CertifyFault}
use Rattle.domain_check.specs.declared.fault.CertifyFault.TheVariants as certify
use Rattle.rewriting.specs.Answers.{of_certification, Gives}
use Rattle.rewriting.specs.Definitions.{Definition, definition_of}
use Rattle.rewriting.specs.declared.fault.ChangeFault.{ChangeFault}

one : (made : Option Equation) → map definition_of (cons_option made []) ≡ cons_option (option_map definition_of made) []
one None = refl
one (Some equation) = refl

pub made-more : (gives : Definition → Option Definition) (equations items more : List Equation) (i : ℕ) (equation : Equation) (made : Option Equation)
    → i < length equations → equation ≡ get_or equations i equation → option_map definition_of made ≡ gives (definition_of equation) → more ≡ items ++ cons_option made []
    → map definition_of items ≡ filter_map gives (map definition_of (take i equations)) → map definition_of more ≡ filter_map gives (map definition_of (take (i + 1) equations))
made-more gives equations items more i equation made within here same pushed before =
    ap (map definition_of) pushed
    ∙ map-append definition_of items (cons_option made [])
    ∙ ap (λ ds. ds ++ map definition_of (cons_option made [])) before
    ∙ ap (λ ds. filter_map gives (map definition_of (take i equations)) ++ ds) (one made ∙ ap (λ o. cons_option o []) same)
    ∙ sym (filter_map-append gives (map definition_of (take i equations)) (definition_of equation ∷ []))
    ∙ ap (filter_map gives) (sym (map-append definition_of (take i equations) (equation ∷ [])))
    ∙ ap (λ es. filter_map gives (map definition_of es)) (sym (take_more equations i equation within ∙ ap (λ (e : Equation). take i equations ++ e ∷ []) (sym here)))

pub refused-certification : (q : System) (fault : CertifyFault) → limit_of q ≡ None → Refuses q fault → Gives q (Err (of_certification fault))
refused-certification q (certify.No found) few h = (few, h)
refused-certification q (certify.Overflow kind variable number) few h = (few, h)
refused-certification q certify.Entry few h = (few, h)
refused-certification q (certify.Limit limit) few h = (few, h)
refused-certification q certify.Memory few h = tt

pub within-limits : (p : System) → refusal_of p ≡ None → limit_of p ≡ None
within-limits p h = by (limit_of p) refl h
  where
    by : (o : Option ShapeFault) → limit_of p ≡ o → option_or o (shape_of p) ≡ None → o ≡ None
    by None is h = refl
    by (Some fault) is h = cc
