use Rattle.std.proofs.Common.{rules, ◌≡◌, ◌<◌, List, length, true, false, inr, refl, ap, subst, ◌∙◌, arith}
use Rattle.plan_cells.specs.Numbering.{opens, sides_of, volume}
use Rattle.plan_cells.specs.Inner.Passing.{capped, AreTaken}
use Rattle.plan_cells.specs.declared.numbers.Home.{Home}
use Rattle.plan_cells.specs.declared.side.Side.{Side}
use Rattle.plan_cells.proofs.Loops.{taken-opening, taken-other, too-many, homes-below, numbers-are, capped-below, capped-is}
use Rattle.plan_cells.proofs.numbering.cells.Goals as goal
use Rattle.plan_cells.proofs.numbering.cells.Goals.{then-opens+else-used-gt-MOST_CELLS, else-opens}

pub returns-then-used-gt-MOST_CELLS : goal.returns-then-used-gt-MOST_CELLS
returns-then-used-gt-MOST_CELLS c =
    let m = c.args.kept.now.mapping.now in
    let params = c.args.kept.now.params.now in
    let us = c.args.kept.now.instances.now in
    let x = c.variables.x in
    let held : opens m x ≡ true = search rules in
    let box : c.volume-used.result ≡ capped (volume (sides_of m params us x)) = c.volume-used.ensures ∙ ap (λ (s : List Side). capped (volume s)) (c.deref-then-opens.ensures.value ∙ c.in-Ok.ensures.ok) in
    let less = capped-below (volume (sides_of m params us x)) in
    let within : x < length c.args.kept.now.program.now.variables = omega (arith, c.variables-test.true, ap length c.variables-2.ensures.value) in
    inr (inr (refl, too-many m params us x (length c.args.kept.now.program.now.variables) c.variables.used c.variables.invariant.total held within (omega (arith, c.if-used-gt-MOST_CELLS.true, box, less))))

pub variables-preserved : goal.variables-preserved
variables-preserved c =
    let m = c.args.kept.now.mapping.now in
    let params = c.args.kept.now.params.now in
    let us = c.args.kept.now.instances.now in
    let x = c.variables.x in
    let home : Home = record { base = c.base_of-base.result; sides = c.from_vec-sides.result } in
    let sides : c.from_vec-sides.result ≡ sides_of m params us x = c.from_vec-sides.ensures ∙ c.in-Ok.ensures.ok in
    elim c.if-opens.branch [
      | then-opens+else-used-gt-MOST_CELLS w ↦
          let held : opens m x ≡ true = search rules in
          let box : w.volume-used.result ≡ capped (volume (sides_of m params us x)) = w.volume-used.ensures ∙ ap (λ (s : List Side). capped (volume s)) (w.deref-then-opens.ensures.value ∙ c.in-Ok.ensures.ok) in
          let exact = capped-is (volume (sides_of m params us x)) (omega (arith, box, w.if-used-gt-MOST_CELLS.false)) in
          taken-opening m params us x c.variables.homes.items c.push.new.self.items c.variables.used c.if-opens.used c.variables.invariant home c.base_of-base.ensures sides c.in_ok-push.ensures.items held
          (omega (arith, w.used-is, box, exact)) (omega (arith, w.used-is, w.if-used-gt-MOST_CELLS.false))
      | else-opens w ↦
          let out : opens m x ≡ false = search rules in
          taken-other m params us x c.variables.homes.items c.push.new.self.items c.variables.used c.if-opens.used c.variables.invariant home c.base_of-base.ensures sides c.in_ok-push.ensures.items out w.used-is
    ]

pub invariant_of-result : goal.invariant_of-result
invariant_of-result c =
    homes-below c.args.kept.now.mapping.now c.args.kept.now.params.now c.args.kept.now.instances.now c.keeps.ensures c.variables.x c.variables.used c.variables.homes.items c.variables.invariant

pub returns : goal.returns
returns c =
    let n : c.variables.x ≡ length c.args.kept.now.program.now.variables = omega (arith, c.variables-test.false, c.variables.auto.x-end, ap length c.variables-2.ensures.value) in
    numbers-are c.args.kept.now.mapping.now c.args.kept.now.params.now c.args.kept.now.instances.now c.args.kept.now.program.now c.variables.homes.items c.variables.used
    (subst (λ k. AreTaken c.args.kept.now.mapping.now c.args.kept.now.params.now c.args.kept.now.instances.now k c.variables.homes.items c.variables.used) n c.variables.invariant)
