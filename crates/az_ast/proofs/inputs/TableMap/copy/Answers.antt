use Rattle.az_ast.proofs.MapLemmas.{insert-more}
use Rattle.az_ast.proofs.inputs.TableMap.copy.Goals as goal

pub tables-preserved-in_ok-insert : goal.tables-preserved-in_ok-insert
tables-preserved-in_ok-insert c =
    insert-more (λ e. (e.0.now, e.1.now)) c.tables.yielded (c.in-Some.variable, c.in-Some.table) c.tables.copies.entries c.insert.new.self.entries c.in_ok-copied.copied
    c.tables.invariant c.in_ok-copied.ensures.ok c.in_ok-insert.ensures.updates.0

pub tables-preserved : goal.tables-preserved
tables-preserved c =
    insert-more (λ e. (e.0.now, e.1.now)) c.tables.yielded (c.in-Some.variable, c.in-Some.table) c.tables.copies.entries c.insert.new.self.entries c.in_ok-copied.copied
    c.tables.invariant c.in_ok-copied.ensures.ok c.in_ok-insert.ensures.updates.0
