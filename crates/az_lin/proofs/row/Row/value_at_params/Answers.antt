use Rattle.std.proofs.Common.{rules, ◌≡◌, ◌∙◌, ap, length, take, ℤ, ◌+ℤ◌, to_z, of_z}
use Rattle.std.specs.Int.{w128}
use Rattle.az_lin.specs.Affine.{dot}
use Rattle.az_lin.proofs.Columns.{dot_take_left}
use Rattle.az_lin.proofs.row.Row.value_at_params.Goals as goal

pub returns-clause-value : goal.returns-clause-value
returns-clause-value c =
    let product : c.scalar_product.result ≡ dot (take (length c.args.params.now) c.args.self.now.coefs) c.args.params.now = search rules in
    let same : c.scalar_product.result ≡ dot c.args.self.now.coefs c.args.params.now = product ∙ dot_take_left c.args.self.now.coefs c.args.params.now in
    let word : to_z w128 (of_z w128 (to_z w128 (of_z w128 c.scalar_product.result) +ℤ to_z w128 (of_z w128 c.self.inside.konst))) ≡ c.scalar_product.result +ℤ c.args.self.now.konst = search rules in
    word ∙ ap (λ (v : ℤ). v +ℤ c.args.self.now.konst) same
