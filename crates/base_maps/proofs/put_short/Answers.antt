use Rattle.std.proofs.Common.{sym, ◌∙◌}
use Rattle.base_maps.proofs.Put.{put_here, put_there, none_there}
use Rattle.base_maps.proofs.put_short.Goals as goal

pub returns-then-not-contains_key-clause-ok : goal.returns-then-not-contains_key-clause-ok
returns-then-not-contains_key-clause-ok g c =
    put_there c.args.short.now.entries c.args.crowded.now c.insert.new.self c.args.number c.args.entry
    (none_there _ (sym c.contains_key.ensures ∙ c.if-not-contains_key.true)) c.in_ok-insert.ensures.updates

pub returns-then-is_none-clause-ok : goal.returns-then-is_none-clause-ok
returns-then-is_none-clause-ok g c =
    put_here c.args.short.now.entries c.insert-2.new.self.entries c.args.crowded.now.entries c.args.number c.args.entry c.in_ok-insert-2.ensures.updates.0

pub returns-else-is_none-clause-ok : goal.returns-else-is_none-clause-ok
returns-else-is_none-clause-ok g c =
    put_here c.args.short.now.entries c.insert-2.new.self.entries c.args.crowded.now.entries c.args.number c.args.entry c.in_ok-insert-2.ensures.updates.0
