use Rattle.std.proofs.Common.{◌≡◌, rules}
use Rattle.az_lin.specs.Affine.{HasEntries, value_at}
use Rattle.az_lin.specs.Answers.{IsExactly}
use Rattle.az_lin.specs.Substitution.{less, shifted}
use Rattle.az_lin.proofs.Exactly.{ok_from_exactly}
use Rattle.az_lin.proofs.Substitution.{value_at-shifted}
use Rattle.az_lin.proofs.row.Row.shift.Goals as goal

pub returns-clause-meaning : goal.returns-clause-meaning
returns-clause-meaning c =
    let exact : IsExactly HasEntries (shifted c.args.self.now c.args.v.now) c.new.result = search rules in
    λ z same. ok_from_exactly HasEntries (shifted c.args.self.now c.args.v.now) (λ row. value_at row z ≡ value_at c.args.self.now (less z c.args.v.now)) c.new.result
    exact (value_at-shifted c.args.self.now z c.args.v.now same)
