use Rattle.std.proofs.Common.{ℕ, List, Some, sym, ap, ◌∙◌}
use Rattle.std.specs.Prelude.{map, ℤ}
use Rattle.std.proofs.lemmas.List.{take_all}
use Rattle.std.proofs.lemmas.Simd.{map-map}
use Rattle.side_rows.specs.Sides.{entry_of}
use Rattle.side_rows.proofs.Sums.{fits-column}
use Rattle.side_rows.proofs.difference.Difference.coefs.Goals as goal

pub fitting-requires : goal.fitting-requires
fitting-requires c =
    fits-column (λ n. n.now) c.names-name-items.result.now c.args.scope.now c.names-name-items.ensures c.args.self.now c.columns.name-index c.name-item.result c.columns-test.true c.name-item.is c.requires

pub returns-clause-ok : goal.returns-clause-ok
returns-clause-ok c =
    let names = c.names-name-items.result.now in
    let entry : List ℕ → ℤ = λ name. entry_of c.args.self.now (Some name) in
    c.columns.invariant
    ∙ (ap (map (λ name. entry name.now)) (take_all c.columns.name-index names c.columns-test.false)
    ∙ (sym (map-map entry (λ n. n.now) names) ∙ ap (map entry) c.names-name-items.ensures))
