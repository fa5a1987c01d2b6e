use Rattle.std.proofs.Common.{◌≡◌, ◌++◌, take, drop}
use Rattle.group_state.specs.Holding.{with_slots}
use Rattle.group_state.proofs.setting.set_slots.Given as goal

-- the slots before the place are set
abbrev pub invariant-slots : goal.invariant-slots
invariant-slots l = record {
  config : l.core.config ≡ l.initial.core.config;
  group : l.core.group ≡ with_slots l.initial.core.group (take l.index l.slots ++ drop l.index l.initial.core.group.calls.slots);
}
