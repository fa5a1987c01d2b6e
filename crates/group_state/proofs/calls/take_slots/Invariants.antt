use Rattle.std.proofs.Common.{◌≤◌, ◌-◌, [], length}
use Rattle.group_state.specs.Heads.{TakesSlots}
use Rattle.group_state.proofs.calls.take_slots.Given as goal

abbrev pub invariant-slots : goal.invariant-slots
invariant-slots l = record {
  taken : TakesSlots l.sizes l.last [] l.text l.slots l.rest;
  few : length l.slots ≤ l.sizes.slots;
}

abbrev pub decreases-slots : goal.decreases-slots
decreases-slots l = l.sizes.slots - length l.slots
