use Rattle.std.proofs.Common.{◌≡◌, ◌+◌, ◌≤◌, [], length}
use Rattle.group_spec.specs.Calls.{enter_all}
use Rattle.group_world.specs.Running.{free_count}
use Rattle.group_world.proofs.calling.enter_all.Given as goal

abbrev pub invariant-calls : goal.invariant-calls
invariant-calls l = record {
  room : length l.done + free_count l.calls.slots ≤ 64;
  rest : enter_all l.fn.calls [] l.fn.hand ≡ enter_all l.calls l.done l.hand;
}

abbrev pub decreases-calls : goal.decreases-calls
decreases-calls l = length l.hand
