use Rattle.std.proofs.Common.{◌≡◌, ◌≤◌, ◌<◌, ◌+◌, ◌∙◌, ◌++◌, ℕ, suc, List, length, take, drop, Some, None, sym, ap, arith, refl}
use Rattle.std.specs.Prelude.{slice_index_or}
use Rattle.group_spec.specs.declared.calls.Slot.{Slot}
use Rattle.group_spec.specs.declared.calls.Slot.TheVariants.{Free}
use Rattle.group_spec.specs.Calls.{with_slot}
use Rattle.group_spec.specs.Image.{sizes_of}
use Rattle.group_spec.specs.World.{Group}
use Rattle.group_laws.specs.Holding.{ticket_at}
use Rattle.group_world.specs.Setting.{with_place}
use Rattle.group_state.specs.Holding.{with_slots}
use Rattle.group_state.proofs.Placing.{placed, free_tickets, front_ticket, ticket_there, at_index, free_length}
use Rattle.group_state.proofs.setting.set_slots.Goals as goal

pub overflow_cast-index : goal.overflow_cast-index
overflow_cast-index c =
    let low : c.slots.index < length c.args.slots.now = c.slots-test.true in
    let few : (sizes_of c.args.core.now.config).slots ≤ 64 = c.requires.few in
    omega (arith, low, c.requires.holds.count, few)

pub overflow_add-index : goal.overflow_add-index
overflow_add-index c =
    let low : c.slots.index < length c.args.slots.now = c.slots-test.true in
    let few : (sizes_of c.args.core.now.config).slots ≤ 64 = c.requires.few in
    omega (arith, low, c.requires.holds.count, few)

pub set_slot-requires-clause-fresh : goal.set_slot-requires-clause-fresh
set_slot-requires-clause-fresh c = λ i n at is.
    let slots = c.args.slots.now in
    let old = c.args.core.now.group.calls.slots in
    let none : (j : ℕ) → ticket_at old j ≡ None = λ j. ap (λ (ys : List Slot). ticket_at ys j) c.requires.free ∙ free_tickets (sizes_of c.args.core.now.config).slots j in
    let mixed : ticket_at (take c.slots.index slots ++ drop c.slots.index old) i ≡ Some n = sym (ap (λ (g : Group). ticket_at g.calls.slots i) c.slots.invariant.group) ∙ at in
    let front = front_ticket slots old c.slots.index i n none mixed in
    let there = ticket_there slots c.slots.index n (slice_index_or slots c.slots.index Free) (at_index slots c.slots.index Free c.slots-test.true) is in
    let same : i ≡ c.slots.index = c.requires.holds.apart i c.slots.index n front there in
    omega (arith, same)

pub slots-preserved : goal.slots-preserved
slots-preserved c =
    let slots = c.args.slots.now in
    let old = c.args.core.now.group in
    let k = c.slots.index in
    let x = slice_index_or slots k Free in
    let low : k < length slots = c.slots-test.true in
    let count : length old.calls.slots ≡ (sizes_of c.args.core.now.config).slots = ap length c.requires.free ∙ free_length (sizes_of c.args.core.now.config).slots in
    let next : with_slot (take k slots ++ drop k old.calls.slots) (k + 1) x ≡ take (k + 1) slots ++ drop (k + 1) old.calls.slots =
    ap (λ n. with_slot (take k slots ++ drop k old.calls.slots) n x) (let e : k + 1 ≡ suc k = omega arith in e) ∙ placed slots old.calls.slots k (k + 1) x (at_index slots k Free low) (omega (arith, low, count, c.requires.holds.count)) refl in
    record {
      config = c.set_slot.ensures.config ∙ c.slots.invariant.config;
      group = c.set_slot.ensures.group ∙ (ap (λ (g : Group). with_place g (k + 1) x) c.slots.invariant.group ∙ ap (with_slots old) next);
    }
