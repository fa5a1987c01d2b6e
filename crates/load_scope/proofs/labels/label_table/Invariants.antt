use Rattle.std.proofs.Common.{◌-◌, length, drop, map}
use Rattle.load_scope.specs.LabelTables.{AreFrom}
use Rattle.load_scope.proofs.labels.label_table.Given as goal

abbrev pub invariant-loop-passed : goal.invariant-loop-passed
invariant-loop-passed l = AreFrom l.labels (length l.body.steps - l.passed) (drop (length l.body.steps - l.passed) l.body.steps) (map (λ n. n.name) l.body.last_labels)
