use Rattle.std.proofs.Common.{◌≡◌, ◌≤◌, All, subst, sym, length}
use Rattle.std.proofs.lemmas.List.Elements.{All-weaker}
use Rattle.az_ast.specs.declared.program.Variable.{Variable}
use Rattle.expr_places.proofs.Reached.{sound-from}
use Rattle.expr_places.proofs.laws.certified_is_sound_from.Goals as goal

pub returns : goal.returns
returns c = λ p program certified k d within.
    let first : p.pdom.width ≡ length p.params = program.placed.parameters in
    let wide : All (λ variable. p.pdom.width ≤ variable.domain.width) p.variables
    = All-weaker (λ (v : Variable). length p.params ≤ v.domain.width) (λ (v : Variable). p.pdom.width ≤ v.domain.width) (λ v h. subst (λ n. n ≤ v.domain.width) (sym first) h) p.variables program.placed.domains in
    sound-from p _ wide (program.placed.bodies k d within) (certified.sound k d within)
