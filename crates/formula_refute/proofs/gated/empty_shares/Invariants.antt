use Rattle.std.proofs.Common.{◌≡◌, length, All}
use Rattle.formula_refute.specs.Inner.Shares.{IsEmptyShare}
use Rattle.formula_refute.proofs.gated.empty_shares.Given as goal

abbrev pub invariant-loop : goal.invariant-loop
invariant-loop l = (length l.shares.items ≡ l.counter) × All IsEmptyShare l.shares.items
