use Rattle.std.proofs.Common.{refl, ap, sym, ◌∙◌, subst, arith}
use Rattle.group_spec.specs.Calls.{SlotInRange, with_slot}
use Rattle.group_spec.specs.Image.{sizes_of}
use Rattle.group_world.specs.Groups.{GroupOf}
use Rattle.group_world.specs.Setting.{IsFreshAt, with_place}
use Rattle.group_world.proofs.Setting.{length_put, each_put, distinct_put, calls_hold, calls_group}
use Rattle.group_world.proofs.group.Core.set_slot.Goals as goal

pub put-requires : goal.put-requires
put-requires c =
    let same = ap (λ (k : GroupOf). (sizes_of k.config).slots) c.self.view_is in
    let long = c.self.invariant.ranges.slots in
    let most = c.requires.slot.1 in
    (c.requires.slot.0, omega (arith, same, long, most))

pub invariant_of-self : goal.invariant_of-self
invariant_of-self c =
    let config = c.self.inside.program.value.config in
    let calls = c.self.inside.shared.calls in
    let holds = c.self.invariant in
    let e = c.put.ensures in
    calls_hold config c.self.inside.shared _ holds refl (with_slot calls.slots c.args.slot c.args.place) calls.last_ticket e.slots e.ticket refl refl (length_put calls.slots c.args.slot c.args.place ∙ holds.ranges.slots)
    (each_put (sizes_of config) calls.last_ticket calls.slots c.args.slot c.args.place (subst (λ (k : GroupOf). SlotInRange (sizes_of k.config) k.group.calls.last_ticket c.args.place) (sym c.self.view_is) c.requires.place) holds.ranges.each_slot) holds.tickets.last
    (distinct_put calls.slots c.args.slot c.args.place c.requires.slot.0 holds.tickets.distinct (subst (λ (k : GroupOf). IsFreshAt k.group.calls.slots c.args.slot c.args.place) (sym c.self.view_is) c.requires.fresh))

pub returns-clause-group : goal.returns-clause-group
returns-clause-group c =
    let calls = c.self.inside.shared.calls in
    let e = c.put.ensures in
    calls_group c.self.inside.program.value.config c.self.inside.shared (record c.self.inside.shared { calls = c.put.new.self }) c.self.invariant refl (with_slot calls.slots c.args.slot c.args.place) calls.last_ticket e.slots e.ticket refl refl
    ∙ ap (λ (k : GroupOf). with_place k.group c.args.slot c.args.place) c.self.view_is
