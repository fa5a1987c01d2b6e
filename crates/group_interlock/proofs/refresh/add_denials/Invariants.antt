use Rattle.std.proofs.Common.{◌≡◌, ◌+◌, ◌++◌, length, drop}
use Rattle.group_spec.specs.Settle.{denials_of}
use Rattle.group_interlock.proofs.refresh.add_denials.Given as goal

abbrev pub invariant-loop-rule : goal.invariant-loop-rule
invariant-loop-rule l = record {
  made : l.denials ++ denials_of l.car (drop l.rule-index l.rules) ≡ l.initial.denials ++ denials_of l.car l.rules;
  count : length l.denials ≡ length l.initial.denials + l.rule-index;
}
