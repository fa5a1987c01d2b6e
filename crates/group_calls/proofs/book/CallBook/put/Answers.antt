use Rattle.std.proofs.Common.{◌<◌, ◌-◌, ◌∙◌, ap, length, arith}
use Rattle.group_spec.specs.Calls.{Calls, with_slot}
use Rattle.group_calls.proofs.Sets.{slots_long, written, slots_with, still_slots, placed}
use Rattle.group_calls.proofs.book.CallBook.put.Goals as goal

pub with_bit-self-inside-requires : goal.with_bit-self-inside-requires
with_bit-self-inside-requires c = omega (arith, c.requires, ap (λ (calls : Calls). length calls.slots) c.self.view_is, slots_long c.self.inside, c.self.invariant.few)

pub with_bit-self-inside-requires-2 : goal.with_bit-self-inside-requires-2
with_bit-self-inside-requires-2 c = omega (arith, c.requires, ap (λ (calls : Calls). length calls.slots) c.self.view_is, slots_long c.self.inside, c.self.invariant.few)

pub with_bit-self-inside-requires-3 : goal.with_bit-self-inside-requires-3
with_bit-self-inside-requires-3 c = omega (arith, c.requires, ap (λ (calls : Calls). length calls.slots) c.self.view_is, slots_long c.self.inside, c.self.invariant.few)

pub bounds-self-inside-index : goal.bounds-self-inside-index
bounds-self-inside-index c = omega (arith, c.from-index.ensures, c.requires, ap (λ (calls : Calls). length calls.slots) c.self.view_is, slots_long c.self.inside, c.self.invariant.few)

pub bounds-self-inside-index-2 : goal.bounds-self-inside-index-2
bounds-self-inside-index-2 c = omega (arith, c.from-index.ensures, c.requires, ap (λ (calls : Calls). length calls.slots) c.self.view_is, slots_long c.self.inside, c.self.invariant.few)

pub bounds-self-inside-index-3 : goal.bounds-self-inside-index-3
bounds-self-inside-index-3 c = omega (arith, c.from-index.ensures, c.requires, ap (λ (calls : Calls). length calls.slots) c.self.view_is, slots_long c.self.inside, c.self.invariant.few)

pub invariant_of-self : goal.invariant_of-self
invariant_of-self c =
    let within : c.args.slot - 1 < c.self.inside.count = omega (arith, c.requires, ap (λ (calls : Calls). length calls.slots) c.self.view_is, slots_long c.self.inside) in
    still_slots c.self.inside _ (c.args.slot - 1) c.args.place c.self.invariant
    (written c.self.inside c.args.slot c.from-index.result c.args.place c.with_bit-self-inside.result c.with_bit-self-inside-2.result c.with_bit-self-inside-3.result c.is_free.result c.is_waiting.result c.is_told.result c.kept_of-ticket.result c.set.new.self within c.from-index.ensures
    c.with_bit-self-inside.ensures c.is_free.ensures c.with_bit-self-inside-2.ensures c.is_waiting.ensures c.with_bit-self-inside-3.ensures c.is_told.ensures c.kept_of-ticket.ensures c.set.ensures)

pub returns-clause-slots : goal.returns-clause-slots
returns-clause-slots c =
    let within : c.args.slot - 1 < c.self.inside.count = omega (arith, c.requires, ap (λ (calls : Calls). length calls.slots) c.self.view_is, slots_long c.self.inside) in
    slots_with c.self.inside _ (c.args.slot - 1) c.args.place c.self.invariant
    (written c.self.inside c.args.slot c.from-index.result c.args.place c.with_bit-self-inside.result c.with_bit-self-inside-2.result c.with_bit-self-inside-3.result c.is_free.result c.is_waiting.result c.is_told.result c.kept_of-ticket.result c.set.new.self within c.from-index.ensures
    c.with_bit-self-inside.ensures c.is_free.ensures c.with_bit-self-inside-2.ensures c.is_waiting.ensures c.with_bit-self-inside-3.ensures c.is_told.ensures c.kept_of-ticket.ensures c.set.ensures)
    ∙ placed _ c.args.slot c.args.place c.requires.0 ∙ ap (λ (calls : Calls). with_slot calls.slots c.args.slot c.args.place) c.self.view_is
