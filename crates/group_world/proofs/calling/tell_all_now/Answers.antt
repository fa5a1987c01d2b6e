use Rattle.std.proofs.Common.{◌∙◌, [], map, length, sym, ap, arith}
use Rattle.std.proofs.lemmas.List.{length-map}
use Rattle.group_spec.specs.Calls.{ticket_of}
use Rattle.group_spec.specs.World.{tell_all}
use Rattle.group_world.proofs.calling.tell_all_now.Goals as goal

pub saw-requires : goal.saw-requires
saw-requires c = (map ticket_of c.args.calls.now.slots, c.open.ensures)

pub tell_each-requires-clause-few : goal.tell_each-requires-clause-few
tell_each-requires-clause-few c =
    let slots = c.args.calls.now.slots in
    let saw = ap length (c.saw.ensures (map ticket_of slots) c.open.ensures) in
    omega (arith, saw, length-map slots ticket_of, c.count-slots.ensures.few)

pub tell_each-requires-clause-each : goal.tell_each-requires-clause-each
tell_each-requires-clause-each c =
    let slots = c.args.calls.now.slots in
    c.requires ∙ sym (length-map slots ticket_of) ∙ sym (ap length (c.saw.ensures (map ticket_of slots) c.open.ensures))

pub returns : goal.returns
returns c =
    let calls = c.args.calls.now in
    ap (λ tickets. tell_all calls [] 1 tickets c.args.cars.now) (sym (c.saw.ensures (map ticket_of calls.slots) c.open.ensures)) ∙ c.tell_each.ensures
