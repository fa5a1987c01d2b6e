use Rattle.std.proofs.Common.{length, ◌∙◌, refl}
use Rattle.group_spec.specs.Snapshot.{assigned}
use Rattle.scan_task.specs.Sharing.{globals_in}
use Rattle.group_world.proofs.Views.{some_of}
use Rattle.group_world.proofs.Committing.{commit_group}
use Rattle.group_world.proofs.shared.Shared.leave_group.Goals as goal

pub returns : goal.returns
returns c = λ calls tickets tells.
    let config = c.args.verified.now.config in
    let before = c.args.self.now in
    let values = c.args.store.now.state.values in
    let memory = some_of _ c.requires.there in
    record {
      group = λ s there.
          let closed = c.close.ensures.closed s there in
          commit_group config before.image calls (globals_in config before.globals) before.memories.items s tickets values closed.0 before.calls (globals_in config c.close.new.self.globals) c.args.report.now.answers
          (assigned (length tickets) values) refl tells closed.2 c.close.ensures.globals
          ∙ rw (c.close.ensures.shared.0, c.close.ensures.shared.1, closed.1, c.clear.ensures, c.clear-2.ensures, c.take_outputs.ensures, c.close.ensures.shared.0) refl;
      closed = (let closed = c.close.ensures.closed memory.0 memory.1 in (closed.0, closed.1));
      fits = c.close.ensures.fits;
    }
