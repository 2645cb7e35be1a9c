use Rattle.az_lin.proofs.AddedProducts.{SoFar}
use Rattle.az_lin.proofs.products.add_products.Given as goal

abbrev pub invariant-columns : goal.invariant-columns
invariant-columns l = SoFar l.fn.start l.coefs l.nums l.sum l.column
