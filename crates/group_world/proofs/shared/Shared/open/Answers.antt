use Rattle.std.proofs.Common.{◌∙◌, sym, ap₂, slice_set}
use Rattle.group_world.proofs.Views.{here}
use Rattle.group_world.proofs.shared.Shared.open.Goals as goal

pub returns-clause-memories : goal.returns-clause-memories
returns-clause-memories c = λ s there.
    ap₂ (slice_set c.args.self.now.memories.items) c.from.ensures (c.open_task.ensures s (sym (here _ _ _ _ c.from.ensures c.index_mut.ensures.value c.requires.there) ∙ there))
