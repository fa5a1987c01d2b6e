use Rattle.std.proofs.Common.{◌≡◌, ◌++◌, flat_map, take, string_bytes}
use Rattle.reasons_faults.specs.declared.tasks.CarWord.{CarWord}
use Rattle.reasons_faults.specs.TaskReasons.{missing_car}
use Rattle.reasons_faults.proofs.tasks.put_missing_of.Given as goal

abbrev pub invariant-rows : goal.invariant-rows
invariant-rows l = string_bytes l.text ≡ string_bytes l.initial.text ++ flat_map (λ (w : CarWord). missing_car l.names w.text.now) (take l.row-index l.rows)
