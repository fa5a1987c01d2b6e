use Rattle.std.proofs.Common.{◌≤◌, refl, ap, sym, ◌∙◌, subst}
use Rattle.group_spec.specs.Image.{sizes_of}
use Rattle.group_world.specs.Groups.{GroupOf}
use Rattle.group_world.specs.Setting.{with_last}
use Rattle.group_world.proofs.Setting.{each_later, calls_hold, calls_group}
use Rattle.group_world.proofs.group.Core.set_last_ticket.Goals as goal

pub invariant_of-self : goal.invariant_of-self
invariant_of-self c =
    let config = c.self.inside.program.value.config in
    let calls = c.self.inside.shared.calls in
    let holds = c.self.invariant in
    let e = c.give.ensures in
    calls_hold config c.self.inside.shared _ holds refl calls.slots c.args.last e.slots e.ticket refl refl holds.ranges.slots
    (each_later (sizes_of config) calls.last_ticket c.args.last calls.slots (subst (λ (k : GroupOf). k.group.calls.last_ticket ≤ c.args.last) (sym c.self.view_is) c.requires.later) holds.ranges.each_slot) c.requires.greatest holds.tickets.distinct

pub returns-clause-group : goal.returns-clause-group
returns-clause-group c =
    let e = c.give.ensures in
    calls_group c.self.inside.program.value.config c.self.inside.shared (record c.self.inside.shared { calls = c.give.new.self }) c.self.invariant refl c.self.inside.shared.calls.slots c.args.last e.slots e.ticket refl refl ∙ ap (λ (k : GroupOf). with_last k.group c.args.last) c.self.view_is
