use Rattle.std.proofs.Common.{[], length, ◌∙◌, sym, ap, arith, refl}
use Rattle.std.specs.Prelude.{is_some}
use Rattle.group_spec.specs.Image.{sizes_of}
use Rattle.group_spec.specs.Snapshot.{assigned}
use Rattle.group_spec.specs.World.{tell_all}
use Rattle.group_world.proofs.Views.{here, within}
use Rattle.group_world.proofs.Committing.{commits_open, assigned_each}
use Rattle.scan_task.proofs.Sizes.{sizes_fit}
use Rattle.group_world.proofs.shared.Shared.commit_group.Goals as goal

pub index-requires : goal.index-requires
index-requires c =
    let below = within c.args.self.now.memories.items 0 c.requires.open.memory c.requires.open.there in
    omega (arith, below)

pub saw-tickets-requires : goal.saw-tickets-requires
saw-tickets-requires c =
    let open_so = c.requires.open in
    (open_so.memory, open_so.tickets, sym (here c.args.self.now.memories.items 0 0 c.index.result.now refl c.index.ensures (ap is_some open_so.there)) ∙ open_so.there, open_so.saw)

pub tell_all-requires-clause-few : goal.tell_all-requires-clause-few
tell_all-requires-clause-few c =
    let open_so = c.requires.open in
    let at = sym (here c.args.self.now.memories.items 0 0 c.index.result.now refl c.index.ensures (ap is_some open_so.there)) ∙ open_so.there in
    let saw = ap length (c.saw-tickets.ensures open_so.memory open_so.tickets at open_so.saw) in
    let each = open_so.each in
    let few = (sizes_fit c.args.verified.now.config c.config-config.ensures.runnable).2.1 in
    omega (arith, saw, each, few)

pub tell_all-requires-clause-each : goal.tell_all-requires-clause-each
tell_all-requires-clause-each c =
    let open_so = c.requires.open in
    let at = sym (here c.args.self.now.memories.items 0 0 c.index.result.now refl c.index.ensures (ap is_some open_so.there)) ∙ open_so.there in
    ap length (c.as_slice.ensures ∙ c.assigned-cars.ensures) ∙ assigned_each _ _ ∙ ap (λ k. (sizes_of k).slots) c.requires.of.0 ∙ sym (ap length (c.saw-tickets.ensures open_so.memory open_so.tickets at open_so.saw) ∙ open_so.each)

pub leave_group-requires-clause-there : goal.leave_group-requires-clause-there
leave_group-requires-clause-there c = ap is_some c.requires.open.there

pub leave_group-requires-clause-fits : goal.leave_group-requires-clause-fits
leave_group-requires-clause-fits c = record { memories = c.requires.fits.memories; globals = c.requires.fits.globals }

pub returns : goal.returns
returns c =
    let before = c.args.self.now in
    let open_so = c.requires.open in
    let values = c.args.store.now.state.values in
    let at = sym (here before.memories.items 0 0 c.index.result.now refl c.index.ensures (ap is_some open_so.there)) ∙ open_so.there in
    let saw = c.saw-tickets.ensures open_so.memory open_so.tickets at open_so.saw in
    let cars = c.as_slice.ensures ∙ c.assigned-cars.ensures ∙ ap (λ k. assigned (sizes_of k).slots values) c.requires.of.0 ∙ ap (λ n. assigned n values) (sym open_so.each) in
    commits_open c.args.verified.now.config 0 before _ _ _ open_so
    (c.leave_group.ensures before.calls open_so.tickets (ap (tell_all before.calls [] 1 open_so.tickets) (sym cars) ∙ ap (λ ts. tell_all before.calls [] 1 ts c.as_slice.result.now) (sym saw) ∙ c.tell_all.ensures))
