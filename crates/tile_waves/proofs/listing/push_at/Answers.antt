use Rattle.std.proofs.Common.{ap, ◌∙◌, get_or}
use Rattle.std.proofs.lemmas.Result.{on_ok_weaker}
use Rattle.az_ast.specs.System.{System}
use Rattle.az_ast.specs.declared.program.Variable.{Variable}
use Rattle.tile_waves.specs.Answers.{RefusesWaves}
use Rattle.tile_waves.specs.Inner.Listed.{RefusesVariable}
use Rattle.tile_waves.proofs.VariableLists.{more_after, refused_after, err_weaker}
use Rattle.tile_waves.proofs.listing.push_at.Goals as goal

pub returns-clause-ok : goal.returns-clause-ok
returns-clause-ok c =
    on_ok_weaker c.push_variable.result
    (λ h. more_after c.args.map.now.program c.args.map.now.mapping c.args.params.now c.mapping-mapping.ensures.certified.complete c.args.place c.args.items.now.items c.requires.listed c.requires.count
    c.mapping-mapping.result.now c.mapping-mapping.ensures.value c.in-Some.time.now c.in-Some.ensures c.variables-variables.result.now
    (c.variables-variables.ensures.value ∙ ap (λ (p : System). p.variables) (c.program.ensures.value ∙ c.checked.ensures.value)) (get_or c.variables-variables.result.now c.args.place c.index-variables-place.result) c.requires.declared
    (ap (λ (v : Variable). get_or c.variables-variables.result.now c.args.place v) c.index-variables-place.is)
    c.push_variable.new.items.items h)
    c.push_variable.ensures.ok

pub returns-clause-cause : goal.returns-clause-cause
returns-clause-cause c =
    err_weaker c.push_variable.result
    (RefusesVariable c.mapping-mapping.result.now c.args.params.now c.args.place (get_or c.variables-variables.result.now c.args.place c.index-variables-place.result).domain c.args.items.now.items)
    (RefusesWaves c.args.map.now.program c.args.map.now.mapping c.args.params.now)
    (λ fault h. refused_after c.args.map.now.program c.args.map.now.mapping c.args.params.now c.mapping-mapping.ensures.certified.complete c.args.place c.args.items.now.items c.requires.listed c.requires.count
    c.mapping-mapping.result.now c.mapping-mapping.ensures.value c.in-Some.time.now c.in-Some.ensures c.variables-variables.result.now
    (c.variables-variables.ensures.value ∙ ap (λ (p : System). p.variables) (c.program.ensures.value ∙ c.checked.ensures.value)) (get_or c.variables-variables.result.now c.args.place c.index-variables-place.result) c.requires.declared
    (ap (λ (v : Variable). get_or c.variables-variables.result.now c.args.place v) c.index-variables-place.is)
    fault h)
    c.push_variable.ensures.cause
