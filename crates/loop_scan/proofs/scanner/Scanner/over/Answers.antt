use Rattle.std.proofs.Common.{◌∙◌, sym, subst, List, ℕ}
use Rattle.std.specs.Prelude.{Any}
use Rattle.az_lin.specs.Affine.{Polyhedron, Holds}
use Rattle.loop_scan.specs.Members.{IsPoint}
use Rattle.loop_scan.proofs.Parting.{given_point}
use Rattle.loop_scan.proofs.scanner.Scanner.over.Goals as goal

pub returns-clause-ok : goal.returns-clause-ok
returns-clause-ok c =
    let width = c.width-width.result in
    let walks = c.in_ok-walks.ensures.ok in
    let whole = c.in_ok-walks-2.ensures in
    record {
      indices = c.width-width.ensures;
      increasing = whole.increasing;
      members = λ y e.
          let p = walks.points y (e ∙ sym c.width-width.ensures) in
          let q = whole.points y in (
            λ g. subst (λ (ds : List Polyhedron). Any (λ conj. Holds conj y) ds) c.disjuncts-disjuncts.ensures.value (p.0 (q.0 g)),
            λ h. q.1 (p.1 (subst (λ (ds : List Polyhedron). Any (λ conj. Holds conj y) ds) (sym c.disjuncts-disjuncts.ensures.value) h)),
          );
      points = λ y g. subst (λ (n : ℕ). IsPoint n y) c.width-width.ensures (given_point width c.in_ok-walks.walks.items y walks.each ((whole.points y).0 g));
    }
