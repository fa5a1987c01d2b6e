use Rattle.std.proofs.Common.{◌≡◌, ◌≤◌, ◌+◌, [], drop, length}
use Rattle.group_spec.specs.World.{tell_all}
use Rattle.group_world.proofs.calling.tell_each.Given as goal

-- what is left completes what was told
abbrev pub invariant-loop-slot : goal.invariant-loop-slot
invariant-loop-slot l = record {
  room : length l.answers ≤ l.slot;
  rest : tell_all l.fn.calls [] 1 l.tickets l.cars ≡ tell_all l.calls l.answers (l.slot + 1) (drop l.slot l.tickets) (drop l.slot l.cars);
}
