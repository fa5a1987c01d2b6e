use Rattle.std.proofs.Common.{◌∙◌, sym, ap₂, slice_set, subst}
use Rattle.scan_task.specs.Sharing.{FitsGlobals}
use Rattle.group_world.proofs.Views.{here, some_of}
use Rattle.group_world.proofs.Keeping.{rows_put}
use Rattle.group_world.proofs.shared.Shared.close.Goals as goal

pub close_task-requires-clause-variables : goal.close_task-requires-clause-variables
close_task-requires-clause-variables c = λ s is. (c.requires.fits.memories c.args.task s (here _ _ _ _ c.from.ensures c.index_mut.ensures.value c.requires.there ∙ is)).0

pub returns-clause-closed : goal.returns-clause-closed
returns-clause-closed c = λ s there.
    let left = c.close_task.ensures s (sym (here _ _ _ _ c.from.ensures c.index_mut.ensures.value c.requires.there) ∙ there) in
    (left.0, ap₂ (slice_set c.args.self.now.memories.items) c.from.ensures left.1, left.4)

pub returns-clause-fits : goal.returns-clause-fits
returns-clause-fits c =
    let memory = some_of _ c.requires.there in
    let left = c.close_task.ensures memory.0 (sym (here _ _ _ _ c.from.ensures c.index_mut.ensures.value c.requires.there) ∙ memory.1) in
    rows_put c.args.verified.now.config c.args.self.now _ c.args.task left.0 _ c.requires.fits (ap₂ (slice_set c.args.self.now.memories.items) c.from.ensures left.1) left.2 left.3 (subst (λ k. FitsGlobals k c.copy_globals.new.globals) c.requires.of.0 c.copy_globals.ensures.fits)
