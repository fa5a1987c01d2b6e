use Rattle.std.proofs.Common.{◌≡◌, All, [], map, length, ◌∙◌, sym, ap, subst}
use Rattle.std.proofs.lemmas.List.{length-map}
use Rattle.group_spec.specs.Calls.{ticket_of}
use Rattle.group_spec.specs.Image.{sizes_of}
use Rattle.group_spec.specs.Snapshot.{assigned}
use Rattle.group_spec.specs.World.{tell_all}
use Rattle.group_world.proofs.Committing.{assigned_each}
use Rattle.group_world.proofs.Nobody.{nobody_told}
use Rattle.group_world.proofs.shared.tell_assigned.Goals as goal

pub returns-then-assigns_none : goal.returns-then-assigns_none
returns-then-assigns_none c =
    let calls = c.args.calls.now in
    let values = c.args.store.now.state.values in
    let tickets = map ticket_of calls.slots in
    let many = ap (λ k. (sizes_of k).slots) c.requires.of.0 ∙ sym (length-map calls.slots ticket_of ∙ c.requires.slots) in
    let none = subst (λ n. All (λ car. car ≡ 0) (assigned n values)) many (c.assigns_none.ensures c.if-assigns_none.true) in
    nobody_told calls [] 1 tickets (assigned (length tickets) values) none ∙ ap (λ answers. (calls, answers)) (sym c.clear.ensures)

pub tell_all_now-requires : goal.tell_all_now-requires
tell_all_now-requires c = ap length (c.as_slice.ensures ∙ c.assigned-cars.ensures) ∙ assigned_each _ _ ∙ ap (λ k. (sizes_of k).slots) c.requires.of.0 ∙ sym c.requires.slots

pub returns : goal.returns
returns c =
    let calls = c.args.calls.now in
    let values = c.args.store.now.state.values in
    let tickets = map ticket_of calls.slots in
    let many = length-map calls.slots ticket_of ∙ c.requires.slots in
    let cars = c.as_slice.ensures ∙ c.assigned-cars.ensures ∙ ap (λ k. assigned (sizes_of k).slots values) c.requires.of.0 ∙ ap (λ n. assigned n values) (sym many) in
    ap (tell_all calls [] 1 tickets) (sym cars) ∙ c.tell_all_now.ensures
