use Rattle.std.proofs.Common.{◌≡◌, ◌∙◌, None, [], length, drop, arith, ap, sym}
use Rattle.std.proofs.Math.Seq.{drop-length}
use Rattle.target_map.specs.Refusals.{unmapped_from}
use Rattle.target_map.proofs.Unmapped.{complete_of}
use Rattle.target_map.proofs.mapping.Mapping.complete.Goals as goal

pub returns-clause-ok : goal.returns-clause-ok
returns-clause-ok c =
    let p = c.args.program.now in
    let m = c.args.self.now in
    let variables = c.variables-variables.result.now in
    let end : c.variables.place ≡ length variables = omega arith in
    let rest : drop c.variables.place variables ≡ [] = ap (λ n. drop n variables) end ∙ drop-length variables in
    let none : unmapped_from m 0 variables ≡ None = sym c.variables.invariant ∙ ap (λ vs. unmapped_from m c.variables.place vs) rest in
    complete_of p m (ap (λ vs. unmapped_from m 0 vs) (sym c.variables-variables.ensures.value) ∙ none) c.requires
