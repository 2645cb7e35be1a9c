use Rattle.std.proofs.Common.{IfOk, sym, subst}
use Rattle.life_sets.specs.Stored.{IsStored, FitsVisit, IsInstance}
use Rattle.life_sets.proofs.Instances.{stored_writer}
use Rattle.order_sets.specs.Made.{MadeIf}
use Rattle.order_sets.specs.declared.visit.Visit.{Visit}
use Rattle.life_sets.proofs.formulas.writer_behind.Goals as goal

pub new-requires : goal.new-requires
new-requires c =
    let m = c.args.target.now.mapping.now in
    subst (IsStored m) (sym c.in_ok-visit.ensures) (stored_writer c.args.target.now.program.now m c.requires.target.complete c.args.y c.args.width c.requires.writer)

pub returns : goal.returns
returns c =
    let m = c.args.target.now.mapping.now in
    let P : Visit → Type 0 = λ visit. IfOk c.new.result (MadeIf (FitsVisit m visit) (IsInstance m visit)) in
    subst P c.in_ok-visit.ensures c.new.ensures
