use Rattle.std.proofs.Common.{◌≡◌, drop}
use Rattle.reasons_names.specs.NamesTasks.{store_line}
use Rattle.reasons_names.proofs.names_tasks.store_line.Given as goal

abbrev pub invariant-steps : goal.invariant-steps
invariant-steps l = store_line l.name (drop l.step-index l.steps) ≡ store_line l.name l.steps
