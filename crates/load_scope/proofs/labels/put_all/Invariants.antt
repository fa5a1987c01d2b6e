use Rattle.std.proofs.Common.{take}
use Rattle.load_scope.specs.LabelTables.{AreWith}
use Rattle.load_scope.proofs.labels.put_all.Given as goal

abbrev pub invariant-loop-named : goal.invariant-loop-named
invariant-loop-named l = AreWith l.fn.labels (take l.named-index l.names) l.at l.labels
