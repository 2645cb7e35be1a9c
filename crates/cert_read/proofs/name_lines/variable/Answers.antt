use Rattle.std.proofs.Common.{◌≡◌, ◌<◌, length, Some, None, List, sym, ap, subst, ◌∙◌}
use Rattle.std.specs.Prelude.{position}
use Rattle.std.specs.Str.{bytes_eq}
use Rattle.az_ast.specs.declared.program.Variable.{Variable}
use Rattle.cert_read.proofs.LineFields.{found_name, no_name}
use Rattle.cert_read.proofs.name_lines.variable.Goals as goal

pub returns-in-Some : goal.returns-in-Some
returns-in-Some c =
    let p = c.args.program.now in
    let name = c.args.name.now in
    let x = c.in-Some.place in
    let listed = c.variables.ensures.value in
    let found : Some x ≡ position (λ (v : Variable). bytes_eq v.name name) p.variables = c.in-Some.ensures.place ∙ ap (position (λ (v : Variable). bytes_eq v.name name)) listed in
    let within : x < length p.variables = subst (λ (vs : List Variable). x < length vs) listed c.in-Some.ensures.within in
    (within, found_name p name x within (sym found))

pub returns-in-None : goal.returns-in-None
returns-in-None c =
    let p = c.args.program.now in
    let name = c.args.name.now in
    let none : None ≡ position (λ (v : Variable). bytes_eq v.name name) p.variables = c.in-None.ensures.place ∙ ap (position (λ (v : Variable). bytes_eq v.name name)) c.variables.ensures.value in
    no_name p name (sym none)
