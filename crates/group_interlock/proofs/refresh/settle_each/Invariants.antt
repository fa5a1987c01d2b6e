use Rattle.std.proofs.Common.{◌≡◌, ◌≤◌, ◌+◌, ◌*◌, ◌++◌, length, take, drop}
use Rattle.group_spec.specs.Image.{running_cars}
use Rattle.group_spec.specs.Settle.{able_from, below, settled_from}
use Rattle.group_interlock.proofs.RunningOn.{RunsOn}
use Rattle.group_interlock.proofs.refresh.settle_each.Given as goal

abbrev pub invariant-loop-index : goal.invariant-loop-index
invariant-loop-index l = record {
  outputs : take l.index l.outputs ++ (settled_from l.fields (able_from l.fields.fire 1 l.cars l.initial.outputs) (l.index + 1) (drop l.index l.cars) (drop l.index l.initial.outputs)).outputs ≡ (settled_from l.fields (able_from l.fields.fire 1 l.cars l.initial.outputs) 1 l.cars l.initial.outputs).outputs;
  denials : l.denials ++ (settled_from l.fields (able_from l.fields.fire 1 l.cars l.initial.outputs) (l.index + 1) (drop l.index l.cars) (drop l.index l.initial.outputs)).denials ≡ (settled_from l.fields (able_from l.fields.fire 1 l.cars l.initial.outputs) 1 l.cars l.initial.outputs).denials;
  rest : drop l.index l.outputs ≡ drop l.index l.initial.outputs;
  long : length l.outputs ≡ length l.initial.outputs;
  ran : RunsOn l.fields.run_limit (length (below (l.index + 1) (able_from l.fields.fire 1 l.cars l.initial.outputs))) (length (running_cars (take l.index l.outputs)));
  count : l.running ≡ length (running_cars (take l.index l.outputs));
  room : length l.denials ≤ 2 * l.index;
}
