use Rattle.side_rows.proofs.Sums.{fits-constant}
use Rattle.side_rows.proofs.difference.Difference.row.Goals as goal

pub fitting-konst-requires : goal.fitting-konst-requires
fitting-konst-requires c = fits-constant c.args.scope.now c.args.self.now c.requires
