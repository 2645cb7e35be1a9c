use Rattle.std.proofs.Common.{◌∙◌, ℕ, List, All, ap, map, sym, subst, length}
use Rattle.std.specs.Prelude.{filter_map, IsTrue, ◌==◌}
use Rattle.az_ast.specs.System.{System}
use Rattle.az_ast.specs.Term.{term}
use Rattle.az_ast.specs.declared.program.Equation.{Equation}
use Rattle.expr_maps.specs.Answers.{EachAccess}
use Rattle.rewriting.proofs.Answered.{assembled, assembled-placed, assembled-shaped, given, of_given}
use Rattle.rewriting.specs.Definitions.{Definition, definition_of, definitions, with_equations}
use Rattle.rewriting.specs.Promise.{KeepsMeaning, stays}
use Rattle.inline_eqs.specs.Inlining.{CanPutIn, PutFits, InliningFits, body_with, body_at, inlined}
use Rattle.inline_eqs.proofs.InliningGiven.{one_of, can-put_in, given-definitions, given-fits, given-fine, given-keeps}
use Rattle.inline_eqs.proofs.inlining.inlined.Goals as goal

pub changed_equations-requires : goal.changed_equations-requires
changed_equations-requires c =
    let p = c.args.program.now in
    let source = c.in-Some.source.now in
    let P : List (List ℕ) → List Equation → Type 0
    = λ (names : List (List ℕ)) (es : List Equation). All (λ (q : Equation). IsTrue (q.variable == c.args.into) → EachAccess (CanPutIn (length names) c.args.target (term source.body)) (term q.body)) es in
    subst (λ (es : List Equation). P c.params.result.now es) (sym c.equations.ensures.value)
    (subst (λ (names : List (List ℕ)). P names p.equations) (sym c.params.ensures) (can-put_in p c.requires.program c.args.into c.args.target c.requires.free source (sym c.in-Some.ensures.value)))

pub changed_program-requires-clause-placed : goal.changed_program-requires-clause-placed
changed_program-requires-clause-placed c =
    let p = c.args.program.now in
    assembled-placed p c.requires.program c.in_ok-variables.variables p.variables c.in_ok-equations.equations (map (λ (d : Definition). (d.0, body_with (length p.params) c.args.into c.args.target (body_at p c.args.target) d.0 d.1)) (definitions p))
    (c.in_ok-variables.ensures.ok ∙ c.variables.ensures.value)
    (c.in_ok-equations.ensures.0
    ∙ ap (λ (es : List Equation). filter_map (one_of (length c.params.result.now) c.args.into c.args.target (term c.in-Some.source.now.body)) (map definition_of es)) c.equations.ensures.value
    ∙ ap (λ (names : List (List ℕ)). filter_map (one_of (length names) c.args.into c.args.target (term c.in-Some.source.now.body)) (definitions p)) c.params.ensures
    ∙ given-definitions p c.requires.program c.args.into c.args.target c.requires.free c.in-Some.source.now (sym c.in-Some.ensures.value))
    (given-fine p c.requires.program c.args.into c.args.target c.requires.free c.in-Some.source.now (sym c.in-Some.ensures.value))

pub changed_program-requires-clause-shaped : goal.changed_program-requires-clause-shaped
changed_program-requires-clause-shaped c =
    let p = c.args.program.now in
    assembled-shaped p c.requires.program c.in_ok-variables.variables p.variables c.in_ok-equations.equations (map (λ (d : Definition). (d.0, body_with (length p.params) c.args.into c.args.target (body_at p c.args.target) d.0 d.1)) (definitions p))
    (c.in_ok-variables.ensures.ok ∙ c.variables.ensures.value)
    (c.in_ok-equations.ensures.0
    ∙ ap (λ (es : List Equation). filter_map (one_of (length c.params.result.now) c.args.into c.args.target (term c.in-Some.source.now.body)) (map definition_of es)) c.equations.ensures.value
    ∙ ap (λ (names : List (List ℕ)). filter_map (one_of (length names) c.args.into c.args.target (term c.in-Some.source.now.body)) (definitions p)) c.params.ensures
    ∙ given-definitions p c.requires.program c.args.into c.args.target c.requires.free c.in-Some.source.now (sym c.in-Some.ensures.value))
    (given-fine p c.requires.program c.args.into c.args.target c.requires.free c.in-Some.source.now (sym c.in-Some.ensures.value))

pub returns-clause-answer : goal.returns-clause-answer
returns-clause-answer c =
    let p = c.args.program.now in
    given (InliningFits p c.args.into c.args.target) (inlined p c.args.into c.args.target) (with_equations p c.in_ok-variables.variables c.in_ok-equations.equations) c.changed_program.result
    (assembled p c.in_ok-variables.variables p.variables c.in_ok-equations.equations (map (λ (d : Definition). (d.0, body_with (length p.params) c.args.into c.args.target (body_at p c.args.target) d.0 d.1)) (definitions p)) (c.in_ok-variables.ensures.ok ∙ c.variables.ensures.value) (c.in_ok-equations.ensures.0
    ∙ ap (λ (es : List Equation). filter_map (one_of (length c.params.result.now) c.args.into c.args.target (term c.in-Some.source.now.body)) (map definition_of es)) c.equations.ensures.value
    ∙ ap (λ (names : List (List ℕ)). filter_map (one_of (length names) c.args.into c.args.target (term c.in-Some.source.now.body)) (definitions p)) c.params.ensures
    ∙ given-definitions p c.requires.program c.args.into c.args.target c.requires.free c.in-Some.source.now (sym c.in-Some.ensures.value)))
    (given-fits p c.requires.program c.args.into c.args.target c.requires.free c.in-Some.source.now (sym c.in-Some.ensures.value)
    (subst (λ (names : List (List ℕ)). All (λ (q : Equation). PutFits (length names) c.args.into c.args.target (term c.in-Some.source.now.body) (definition_of q)) p.equations) c.params.ensures
    (subst (λ (es : List Equation). All (λ (q : Equation). PutFits (length c.params.result.now) c.args.into c.args.target (term c.in-Some.source.now.body) (definition_of q)) es) c.equations.ensures.value c.in_ok-equations.ensures.1))) c.changed_program.ensures

pub returns-clause-meaning : goal.returns-clause-meaning
returns-clause-meaning c =
    let p = c.args.program.now in
    of_given (InliningFits p c.args.into c.args.target) (inlined p c.args.into c.args.target) (λ (q : System). KeepsMeaning p q stays) c.changed_program.result
    (given-keeps p c.requires.program c.args.into c.args.target c.requires.free c.in-Some.source.now (sym c.in-Some.ensures.value) c.requires.certified)
    (given (InliningFits p c.args.into c.args.target) (inlined p c.args.into c.args.target) (with_equations p c.in_ok-variables.variables c.in_ok-equations.equations) c.changed_program.result
    (assembled p c.in_ok-variables.variables p.variables c.in_ok-equations.equations (map (λ (d : Definition). (d.0, body_with (length p.params) c.args.into c.args.target (body_at p c.args.target) d.0 d.1)) (definitions p)) (c.in_ok-variables.ensures.ok ∙ c.variables.ensures.value) (c.in_ok-equations.ensures.0
    ∙ ap (λ (es : List Equation). filter_map (one_of (length c.params.result.now) c.args.into c.args.target (term c.in-Some.source.now.body)) (map definition_of es)) c.equations.ensures.value
    ∙ ap (λ (names : List (List ℕ)). filter_map (one_of (length names) c.args.into c.args.target (term c.in-Some.source.now.body)) (definitions p)) c.params.ensures
    ∙ given-definitions p c.requires.program c.args.into c.args.target c.requires.free c.in-Some.source.now (sym c.in-Some.ensures.value)))
    (given-fits p c.requires.program c.args.into c.args.target c.requires.free c.in-Some.source.now (sym c.in-Some.ensures.value)
    (subst (λ (names : List (List ℕ)). All (λ (q : Equation). PutFits (length names) c.args.into c.args.target (term c.in-Some.source.now.body) (definition_of q)) p.equations) c.params.ensures
    (subst (λ (es : List Equation). All (λ (q : Equation). PutFits (length c.params.result.now) c.args.into c.args.target (term c.in-Some.source.now.body) (definition_of q)) es) c.equations.ensures.value c.in_ok-equations.ensures.1))) c.changed_program.ensures)
