use Rattle.az_ast.proofs.MapLemmas.{insert-more}
use Rattle.target_map.proofs.by_variable.copied_storages.Goals as goal

pub settings-preserved-in_ok-insert : goal.settings-preserved-in_ok-insert
settings-preserved-in_ok-insert c =
    insert-more (λ e. (e.0.now, e.1.now)) c.settings.yielded (c.in-Some.variable, c.in-Some.value) c.settings.copies.entries c.insert.new.self.entries c.in_ok-copied.copied
    c.settings.invariant c.in_ok-copied.ensures.ok c.in_ok-insert.ensures.updates.0

pub settings-preserved : goal.settings-preserved
settings-preserved c =
    insert-more (λ e. (e.0.now, e.1.now)) c.settings.yielded (c.in-Some.variable, c.in-Some.value) c.settings.copies.entries c.insert.new.self.entries c.in_ok-copied.copied
    c.settings.invariant c.in_ok-copied.ensures.ok c.in_ok-insert.ensures.updates.0
