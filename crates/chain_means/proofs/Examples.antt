-- The interval from 0 to N.
use Rattle.std.proofs.Common.{◌≡◌, ◌↔◌, List, [], ◌∷◌, true≢false, sym, ap, arith}
use Rattle.std.specs.Prelude.{ℤ, pos, ◌≤ℤ◌, ◌<ℤ◌, bytes_eq, codes}
use Rattle.std.specs.List.{AllByRecursion}
use Rattle.std.proofs.lemmas.Int.{ints}
use Rattle.std.proofs.lemmas.List.Elements.{recursion_from_All, All-from_recursion}
use Rattle.chain_means.specs.Comparisons.{AreDifferent, ChainHolds}
use Rattle.chain_means.specs.Examples.{columns, interval, IntervalHolds}
use Rattle.chain_means.proofs.Chains.{chains_hold}

different : AreDifferent columns
different = ((λ same. true≢false (ap (λ name. bytes_eq name (codes "i")) same), tt), (tt, tt))

pub interval_holds : IntervalHolds
interval_holds n i =
    let z = n ∷ i ∷ [] in
    let law = chains_hold columns (interval ∷ []) z different in (
      λ holds.
          let links = (recursion_from_All (ChainHolds columns z) (interval ∷ []) (law.0 holds)).0 in
          let low = links.0 in
          let high = links.1.0 in
          (omega (arith, ints, low), omega (arith, ints, high)),
      λ within.
          let low = within.0 in
          let high = within.1 in
          law.1 (All-from_recursion (ChainHolds columns z) (interval ∷ []) ((omega (arith, ints, low), (omega (arith, ints, high), tt)), tt)),
    )
