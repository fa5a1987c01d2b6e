use Rattle.std.proofs.Common.{◌∙◌, sym, ap₂, slice_set}
use Rattle.group_world.proofs.Views.{here}
use Rattle.group_world.proofs.shared.Shared.set_variable.Goals as goal

pub set_memory-requires-clause-variables : goal.set_memory-requires-clause-variables
set_memory-requires-clause-variables c = λ s is. c.requires.fits.memories c.args.task s (here _ _ _ _ c.from.ensures c.index_mut.ensures.value c.requires.there ∙ is)

pub returns-clause-set : goal.returns-clause-set
returns-clause-set c = λ s there.
    let left = c.set_memory.ensures s (sym (here _ _ _ _ c.from.ensures c.index_mut.ensures.value c.requires.there) ∙ there) in
    (left.0, ap₂ (slice_set c.args.self.now.memories.items) c.from.ensures left.1, left.2, left.3, left.4)
