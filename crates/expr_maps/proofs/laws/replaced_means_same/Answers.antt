use Rattle.std.proofs.Common.{length}
use Rattle.az_ast.specs.Meaning.{ReadTo}
use Rattle.expr_maps.proofs.Replaced.{Becomes, ComesFrom, AtAccesses-map, replaced-to, replaced-from}
use Rattle.expr_maps.proofs.laws.replaced_means_same.Goals as goal

pub returns : goal.returns
returns c = λ p q tables others depth further at e z v each.
    let params = length p.params in
    let reads = ReadTo p tables depth in
    let others = ReadTo q others further in (
      replaced-to params reads others at e z v (AtAccesses-map _ (Becomes params reads others at) (λ x f y same w. (same w).0) e z each),
      replaced-from params reads others at e z v (AtAccesses-map _ (ComesFrom params reads others at) (λ x f y same w. (same w).1) e z each),
    )
